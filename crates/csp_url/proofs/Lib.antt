mod Examples
pub mod PathText
pub mod ShownUrls
pub mod Valid
