mod Wording
mod Staging
mod Lists
mod Recorded
mod Searched
mod Through
