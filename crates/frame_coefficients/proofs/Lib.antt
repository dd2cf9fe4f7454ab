mod BandLaw
mod BandSteps
mod Rows
