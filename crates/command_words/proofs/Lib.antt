mod Orders
mod Refusals
