pub mod Splits
pub mod Numbers
pub mod Columns
