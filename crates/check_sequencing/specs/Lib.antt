pub mod Effects
pub mod Deciding
pub mod Typed
pub mod Walking
pub mod Bodies
