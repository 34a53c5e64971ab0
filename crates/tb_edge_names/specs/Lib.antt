pub mod Folder
pub mod Named
pub mod Opening
pub mod Parts
pub mod Saved
pub mod Served
