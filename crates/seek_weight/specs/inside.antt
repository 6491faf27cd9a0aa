-- What the contracts of functions within the crate cite: no reader of the public calls needs them.
pub mod Weighing
