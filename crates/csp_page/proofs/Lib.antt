mod Due
mod Held
