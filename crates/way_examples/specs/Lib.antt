pub mod ExampleVerdicts
pub mod ExampleGiven
pub mod ExamplePassing
