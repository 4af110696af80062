pub mod Angle
pub mod AngleLaws
