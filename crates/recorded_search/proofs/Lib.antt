mod ReadBack
mod ObservedAlike
mod FoundAlike
