pub mod Changes
pub mod Map
pub mod Nodes
pub mod Search
pub mod Visits
pub mod private
