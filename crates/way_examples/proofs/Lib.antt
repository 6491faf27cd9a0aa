mod ExampleGiven
mod ExamplePassing
mod ExampleVerdicts
