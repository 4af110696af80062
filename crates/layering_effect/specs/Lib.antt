pub mod Merging
pub mod Layers
pub mod Layering
