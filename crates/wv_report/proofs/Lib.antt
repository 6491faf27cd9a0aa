mod Floats
mod Objects
