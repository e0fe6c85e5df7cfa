mod Once
mod NewProject
mod Taken
mod MeasureConfig
