pub mod Visible
pub mod Scopes
pub mod Keys
pub mod Versions
pub mod Named
pub mod AtPlaces
pub mod Walk
pub mod WorkedNames
