mod ExampleHavocRuns
mod ExampleRuns
