pub mod Scopes
pub mod Firsts
pub mod Tables
pub mod Lists
pub mod Sites
pub mod Placing
