pub mod Rooms
pub mod Calm
pub mod Sums
pub mod Paths
pub mod Roomy
