pub mod ExampleRuns
pub mod ExampleHavocRuns
pub mod Loops
pub mod WorkedPlaces
pub mod JudgedPrograms
pub mod Switches
