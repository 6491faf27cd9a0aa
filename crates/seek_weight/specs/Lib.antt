pub mod Tolls
pub mod SeekWeight
pub mod Laws
pub mod Weighed
pub mod inside
