mod Asking
mod Writes
