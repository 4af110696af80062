pub mod Call
pub mod Nodes
pub mod Walk
pub mod Table
pub mod Outcomes
pub mod Refusals
