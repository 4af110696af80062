pub mod Record
pub mod Put
pub mod Zeros
pub mod Operations
pub mod Rows
pub mod Barriers
pub mod Ended
pub mod Finish
