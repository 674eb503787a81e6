mod Determined
mod Exact
mod Fresh
