-- what only private contracts cite
pub mod Clients
pub mod Playing
pub mod Outcomes
pub mod Found
