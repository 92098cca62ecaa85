pub mod Words
pub mod Bits
pub mod Tags
pub mod Granules
