-- what only private contracts cite
pub mod Rule
pub mod Inboxes
pub mod Desks
