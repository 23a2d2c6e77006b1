-- the words of public contracts
pub mod Settings
pub mod Sets
pub mod Input
pub mod Trees
pub mod Subtrees
pub mod Weights
pub mod Escapes
pub mod Classes
pub mod Repetitions
pub mod Groups
pub mod Grammar
pub mod Postorder
pub mod Nodes
pub mod Refusals
pub mod Laws
pub mod Examples
-- the words of the parser's own parts
pub mod Readers
pub mod Heads
pub mod Atoms
pub mod Rows
pub mod Stacks
pub mod StaticGroups
pub mod Resuming
pub mod Places
