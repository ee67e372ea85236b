pub mod BatchPages
