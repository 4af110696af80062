pub mod Scratch
pub mod Letters
pub mod Fixed
pub mod Carrying
pub mod Carries
