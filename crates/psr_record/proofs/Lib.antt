mod Endings
mod Accepted
