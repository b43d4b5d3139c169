pub mod AccountRecords
pub mod Accounts
pub mod BookEntries
pub mod Books
pub mod Numbers
pub mod Finished
