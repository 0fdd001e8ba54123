pub mod Allowed
pub mod Logs
pub mod Needs
pub mod Policies
pub mod Printed
