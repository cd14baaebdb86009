mod Fronts
mod Untold
