pub mod Marks
pub mod Mentioned
pub mod Nodes
pub mod Operations
pub mod Down
pub mod Relevant
pub mod Relevance
pub mod RelevanceLaws
