mod Agreeing
mod Completed
mod Decided
mod Following
mod Paying
mod Short
