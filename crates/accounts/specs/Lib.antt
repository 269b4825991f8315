-- Section 6 as definitions, in its order, and demand 3's claim. docs/DEMAND3.md has the table from its phrases to these.
pub mod Ranges
pub mod WriterAccounts
pub mod InstanceAccounts
pub mod Accounts
pub mod Busy
pub mod FirstOwner
