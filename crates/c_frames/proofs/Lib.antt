pub mod CellLaws
pub mod Framing
pub mod Refitting
pub mod Bodies
pub mod Members
pub mod FramedTurns
pub mod Heads
pub mod Turns
