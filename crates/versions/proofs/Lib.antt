mod Lists
mod Cells
mod StepLaws
mod Copies
mod Same
