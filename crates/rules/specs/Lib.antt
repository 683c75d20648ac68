-- What a reader must believe, in the paper's order; then what a case is. The cases that hold it to the paper stand in proofs/.
pub mod Name
pub mod Record
pub mod Ring
pub mod Feeder
pub mod Moves
pub mod Calls
pub mod Machine
pub mod Watch
pub mod Promises
pub mod Cases
