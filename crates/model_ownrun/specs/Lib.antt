pub mod OwnRunning
pub mod OwnRuns
pub mod OwnStart
