pub mod Calls
pub mod Promises
pub mod ListingPromises
