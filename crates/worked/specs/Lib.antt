pub mod Worked
pub mod Ends
