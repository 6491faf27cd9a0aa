mod Unrolled
mod Searched
