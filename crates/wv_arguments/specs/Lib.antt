pub mod Arguments
pub mod Words
pub mod Requests
pub mod Examples
