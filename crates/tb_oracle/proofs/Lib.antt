mod Fields
mod Streams
