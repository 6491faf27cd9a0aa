mod Steps
mod Bounds
mod Lengths
mod ValueLines
mod ConstantTexts
mod AuthoredRuns
mod Recorded
mod Written
