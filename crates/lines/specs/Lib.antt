pub mod Checks
pub mod Codes
pub mod Calls
pub mod Headings
