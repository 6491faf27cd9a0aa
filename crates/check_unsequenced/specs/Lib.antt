pub mod Bodies
pub mod Unordered
pub mod PartEffects
pub mod Agreement
pub mod PartsFound
