mod KnownFacts
mod StoredFacts
