pub mod Kinds
pub mod Records
pub mod Numbers
pub mod Nodes
pub mod Operations
pub mod Given
