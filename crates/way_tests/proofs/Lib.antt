pub mod TruthLaws
pub mod StepLaws
pub mod CodeLaws
