pub mod Places
pub mod Kept
pub mod Running
pub mod Fresh
pub mod Table
pub mod Seen
pub mod Scans
pub mod Flags
pub mod Logged
pub mod Models
pub mod Learns
mod Deciding
pub mod Once
