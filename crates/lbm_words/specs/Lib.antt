pub mod Ends
pub mod Numbers
pub mod Rate
pub mod Names
pub mod Commands
pub mod Request
pub mod Words
