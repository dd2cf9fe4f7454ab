mod Appends
mod NameOrder
mod Sources
