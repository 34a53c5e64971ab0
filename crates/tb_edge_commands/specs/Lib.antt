pub mod Forms
pub mod Streams
pub mod ExitStatuses
pub mod Hosts
