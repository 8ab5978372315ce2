pub mod SeenNodes
pub mod RowWalks
pub mod WrittenOrders
