pub mod Archiving
pub mod Ended
pub mod InThreads
pub mod Working
