-- What holds of a cluster as it is kept.
mod HavingFacts
mod Ends
mod SoundFacts
