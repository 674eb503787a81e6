pub mod Limits
pub mod Entries
pub mod Said
pub mod Anchors
pub mod Laws
