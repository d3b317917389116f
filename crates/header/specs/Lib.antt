-- In the order of document 01, "Header", with what document 02 adds to it (Listing, Coverage); Seen is the code's own.
pub mod Numbers
pub mod Types
pub mod Walk
pub mod Lookup
pub mod Listing
pub mod Checks
pub mod Coverage
pub mod Items
pub mod Seen
