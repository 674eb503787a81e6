pub mod Laws
mod Spells
