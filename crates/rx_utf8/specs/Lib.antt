-- the words of public contracts
pub mod Automata
-- the words of the crate's own parts
pub mod Blocks
pub mod Subsets
