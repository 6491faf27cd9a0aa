pub mod Actions
pub mod Views
pub mod Rooms
pub mod Runs
pub mod Fronts
