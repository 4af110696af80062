pub mod Values
pub mod Source
pub mod Signs
pub mod Roots
pub mod Packing
