mod Told
mod Answered
mod Turns
