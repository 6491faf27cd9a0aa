pub mod Guarded
pub mod Costs
pub mod Typed
pub mod Forms
pub mod Choosing
pub mod Assigning
pub mod Calls
