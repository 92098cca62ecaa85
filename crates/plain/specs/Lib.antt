pub mod Least
pub mod Blocks
pub mod Memory
pub mod Step
pub mod Guarantee
