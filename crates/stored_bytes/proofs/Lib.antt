pub mod Weights
pub mod Made
pub mod Places
pub mod Renewed
pub mod Stored
