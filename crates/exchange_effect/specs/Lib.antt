pub mod Merging
pub mod Certified
pub mod Runs
pub mod Swaps
pub mod Pass
