pub mod ResultFrames
pub mod Begun
pub mod Firsts
pub mod NextFrames
