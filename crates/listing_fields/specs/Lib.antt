pub mod Views
pub mod Field
pub mod Fields
pub mod Record
