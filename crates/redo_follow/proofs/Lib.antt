mod Pieces
mod Tallies
mod WholeGroups
