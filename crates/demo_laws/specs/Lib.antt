pub mod Bounds
pub mod Lines
pub mod Shapes
pub mod DemoLines
pub mod Source
