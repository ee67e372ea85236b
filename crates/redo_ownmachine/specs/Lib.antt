pub mod OpenOwn
pub mod OwnCrew
pub mod OwnSeats
pub mod OwnStore
pub mod OwnTurns
pub mod Serving
