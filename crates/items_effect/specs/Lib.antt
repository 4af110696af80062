pub mod Ops
pub mod Rotations
pub mod AxisWords
pub mod Segments
