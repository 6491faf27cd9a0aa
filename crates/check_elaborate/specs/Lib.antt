pub mod ArmLabels
pub mod Items
pub mod InArms
pub mod Walks
