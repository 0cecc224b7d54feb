pub mod CoreStreams
