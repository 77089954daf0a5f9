mod LineText
mod SettledLife
mod ReachedByThreads
