pub mod NearLaws
pub mod FormProfiles
