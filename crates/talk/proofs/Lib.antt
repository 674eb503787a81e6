mod Acts
mod Freed
mod Granted
mod Happens
mod Linked
mod Values
