pub mod Definitions
pub mod Records
pub mod Rows
pub mod Calls
pub mod Letters
pub mod Listing
