pub mod PreparedClaim
pub mod Checked
pub mod Leaves
pub mod Walk
