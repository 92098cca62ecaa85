pub mod Rights
pub mod Refusals
pub mod Formats
pub mod Fields
