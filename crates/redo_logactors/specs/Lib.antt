pub mod CloserView
pub mod FlusherView
pub mod WriterView
