mod Ready
mod Three
