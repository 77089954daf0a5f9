mod Alike
mod Verdicts
