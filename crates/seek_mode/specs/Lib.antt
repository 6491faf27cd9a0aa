pub mod SeekingScale
pub mod SeekingMode
pub mod SoughtRuns
