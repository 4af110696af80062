pub mod Waiting
pub mod WaitingList
pub mod Items
pub mod Behind
pub mod Loop
