mod Plain
mod LineWords
mod Apart
