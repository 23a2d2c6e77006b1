pub mod Engines
pub mod Configs
pub mod Iterating
pub mod FindMatches
pub mod Searches
pub mod Owned
pub mod Lists
