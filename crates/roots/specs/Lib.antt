pub mod Prepared
pub mod Links
pub mod LinkLaws
pub mod Linking
pub mod UseCounts
pub mod UseLaws
pub mod Preparing
