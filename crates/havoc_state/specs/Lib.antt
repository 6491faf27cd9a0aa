pub mod Havocking
