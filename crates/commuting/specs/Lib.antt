pub mod Commuting
pub mod Blocking
