pub mod Worded
pub mod CutRun
pub mod Outcomes
