pub mod Places
mod Ending
mod Pieces
mod ResultTexts
mod RangeTexts
pub mod Suffixes
mod Straight
mod Ranges
mod Sets
mod Weights
mod Judged
mod Binding
