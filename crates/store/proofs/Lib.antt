pub mod Listed
pub mod Within
