pub mod Stages
pub mod FaultyDemo
pub mod CorrectDemo
pub mod Within
