mod Gathering
mod Lanes
