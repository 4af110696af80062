pub mod Places
pub mod Inserting
