pub mod Mentions
pub mod Unmoved
pub mod KeptRows
