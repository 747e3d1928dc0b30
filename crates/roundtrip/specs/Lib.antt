-- What an accepted file promises of its flow, and where a flow has operation 6.
pub mod Sound
pub mod Larger
