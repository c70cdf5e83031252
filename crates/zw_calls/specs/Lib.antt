pub mod Arguments
pub mod Input
pub mod Numbers
pub mod Replies
pub mod Requests
pub mod Words
