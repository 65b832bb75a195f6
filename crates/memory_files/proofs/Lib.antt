mod Finding
mod Solving
