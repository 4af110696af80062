pub mod Columns
pub mod Back
pub mod Digits
pub mod Example
