mod Results
mod Told
mod Opening
mod Wording
mod Through
mod Endings
