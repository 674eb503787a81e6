mod Appends
mod Walking
mod Playing
