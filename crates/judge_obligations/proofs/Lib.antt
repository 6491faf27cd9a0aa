mod Chosen
mod Verdicted
mod Kept
mod Told
mod Asked
