pub mod Shapes
pub mod Rooms
pub mod Paces
