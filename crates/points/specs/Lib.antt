pub mod Demands
pub mod Points
pub mod Counts
pub mod StreamPass
pub mod ExchangePass
pub mod LayeringPass
