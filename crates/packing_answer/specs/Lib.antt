pub mod Answer
pub mod Run
