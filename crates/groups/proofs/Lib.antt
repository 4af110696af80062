pub mod Real
pub mod Rules
