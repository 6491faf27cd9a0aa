mod Thinned
mod Follows
mod Dropping
mod Numbered
mod Selected
mod Unions
