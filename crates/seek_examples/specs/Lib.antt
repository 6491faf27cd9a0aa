pub mod SeekPrograms
pub mod ExampleSeeks
pub mod ExampleRunsWithBound
pub mod ExampleSeekWeights
pub mod ExampleJudgedRuns
