pub mod Bytes
pub mod Signs
pub mod Numbers
pub mod Characters
pub mod Pieces
pub mod Gaps
pub mod Scan
pub mod Reading
