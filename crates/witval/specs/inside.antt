pub mod Rests
pub mod AuthoringRests
pub mod Allowed
pub mod Reports
pub mod Keys
