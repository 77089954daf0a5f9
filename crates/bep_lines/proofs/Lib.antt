mod Tokens
mod WordFacts
mod Legible
