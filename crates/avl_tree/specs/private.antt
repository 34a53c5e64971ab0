-- what only private contracts use
pub mod Freeing
pub mod Pairs
pub mod Sides
