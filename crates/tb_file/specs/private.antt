-- what only private contracts cite
pub mod Entering
pub mod Sending
pub mod Passing
pub mod Taking
pub mod Behind
pub mod Headed
pub mod Steps
