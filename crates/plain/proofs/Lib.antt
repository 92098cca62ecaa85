pub mod Leasts
mod Did
mod Tables
mod Facts
mod Events
mod Good
mod Slots
mod Granules
mod Turns
mod Allots
pub mod Safe
