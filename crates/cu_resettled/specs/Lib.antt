pub mod ResettlingAll
