mod Parts
mod Alike
mod Standing
mod Silence
mod Tiles
