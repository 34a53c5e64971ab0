pub mod Numbers
pub mod Pairs
pub mod Taking
pub mod Serving
pub mod Items
pub mod Answering
