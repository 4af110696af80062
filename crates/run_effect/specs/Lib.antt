pub mod Same
pub mod StoredAxes
pub mod FrameRows
pub mod Points
pub mod RunEffect
pub mod Calls
