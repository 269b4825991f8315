-- Laws that the proofs of call_codes cite.
pub mod Codes
pub mod SheetChain
