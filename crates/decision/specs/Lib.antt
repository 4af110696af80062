pub mod Depth
pub mod Start
pub mod End
pub mod Decision
