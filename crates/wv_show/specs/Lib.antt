pub mod Show
pub mod Examples
