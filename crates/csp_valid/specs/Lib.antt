pub mod ValidUrls
