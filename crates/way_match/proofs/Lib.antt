pub mod Confirmed
pub mod Tested
mod Views
mod Ways
mod Found
mod Kept
mod Turn
mod Skips
mod Numbers
mod Passed
mod PassedBy
mod RestLaws
mod AvoidLaws
pub mod PlaceLaws
mod Begin
mod Done
pub mod GatherLaws
pub mod StoredLaws
pub mod ValueLaws
