pub mod View
pub mod Pick
pub mod PickExamples
pub mod Chains
pub mod Beside
pub mod Held
pub mod OneProof
