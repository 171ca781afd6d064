mod Worked
mod Lists
mod Kept
mod Rings
mod Laws
mod Only
mod First
