-- Read Nodes, Paths, Growth, Calls, Trees. The laws of these definitions stand with those of the queue, in crates/queue_laws.
pub mod Nodes
pub mod Paths
pub mod Growth
pub mod Calls
pub mod Trees
