pub mod Replies
pub mod Replying
