pub mod Repeats
pub mod AsBox
pub mod Filled
pub mod Following
pub mod Frames
pub mod Lengths
pub mod Values
pub mod Clients
