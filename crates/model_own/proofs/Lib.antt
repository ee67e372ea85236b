pub mod SetsOut
