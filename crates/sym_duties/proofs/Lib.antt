mod Ends
pub mod Marked
