mod Cuts
mod Parts
mod ReadBlock
mod SomeWrites
mod WriteTo
