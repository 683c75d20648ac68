pub mod Loop
pub mod Program
