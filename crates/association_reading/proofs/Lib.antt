mod First
mod Meant
mod Beginnings
mod Associating
