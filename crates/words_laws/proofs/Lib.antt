mod Names
mod Order
mod Cut
mod Meant
