mod BuiltIn
mod Quotient
mod Usable
