pub mod Numbers
pub mod Inputs
pub mod Sites
pub mod Wholes
pub mod Starts
