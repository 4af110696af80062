pub mod Abelian
pub mod Normaliser
pub mod Combined
pub mod Root
pub mod Coeff
pub mod Eighth
pub mod Exchange
pub mod Real
