pub mod SentOrders
pub mod Steps
pub mod Flags
pub mod Turns
pub mod Serving
pub mod OwnPlaces
pub mod Owners
pub mod Told
