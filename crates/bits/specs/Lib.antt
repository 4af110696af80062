pub mod Remainder
pub mod Digit
pub mod Bit
pub mod Sum
pub mod Popcount
pub mod LowestBit
pub mod SetBits
