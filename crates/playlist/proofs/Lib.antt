pub mod Counting
pub mod Faulting
pub mod Judging
pub mod Laws
pub mod Parting
pub mod Rendering
pub mod Standings
