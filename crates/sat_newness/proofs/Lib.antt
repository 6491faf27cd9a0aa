pub mod Lists
pub mod Others
pub mod Logs
pub mod Closed
pub mod Settled
pub mod Left
pub mod Longer
