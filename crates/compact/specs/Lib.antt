pub mod Exponents
pub mod Compact
pub mod Units
pub mod Powers
pub mod Inverse
pub mod Laws
