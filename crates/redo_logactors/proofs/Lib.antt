pub mod WordEnds
