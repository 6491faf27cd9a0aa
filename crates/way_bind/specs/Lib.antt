pub mod Lacks
pub mod InOrder
pub mod Ways
pub mod Binding
pub mod Steps
pub mod Agreement
