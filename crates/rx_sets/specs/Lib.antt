pub mod Sets
pub mod Items
pub mod Unions
pub mod Laws
