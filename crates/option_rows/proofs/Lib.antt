mod Digits
mod Allowed
mod Passing
