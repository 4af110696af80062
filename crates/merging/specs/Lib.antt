pub mod Reach
pub mod Steps
pub mod Taking
pub mod Sources
pub mod LookedUp
pub mod Carried
