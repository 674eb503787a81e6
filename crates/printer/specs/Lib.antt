pub mod Playlists
pub mod Prints
pub mod Rows
