mod Bits
mod Following
mod Segments
