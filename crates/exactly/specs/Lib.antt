pub mod Listed
pub mod TextOf
