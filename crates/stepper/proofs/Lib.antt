-- That stepping through a text ends; and what a reader's text and place give to a step of the word reader.
pub mod Ending
mod Passed
