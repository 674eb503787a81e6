mod Conducting
mod Playing
mod Subscribers
