mod Words
mod Writes
