mod Sectors
mod TableLemmas
