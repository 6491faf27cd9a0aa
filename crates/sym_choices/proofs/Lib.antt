pub mod ArmLaws
pub mod CaseLaws
pub mod Held
pub mod Labels
