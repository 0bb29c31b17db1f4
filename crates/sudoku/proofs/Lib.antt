mod Calls
mod FigureParts
mod Fitting
mod Numbers
mod StepNumbers
