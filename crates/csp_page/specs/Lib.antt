pub mod Files
pub mod Laws
pub mod Page
pub mod Sink
