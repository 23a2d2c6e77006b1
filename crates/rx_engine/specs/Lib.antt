pub mod Engines
