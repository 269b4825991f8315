-- The scope document as definitions, one file for each of its sections or a part of one. docs/MODEL.md has the table from
-- its sentences to these.
pub mod Layout
pub mod Guids
pub mod Handles
pub mod Times
pub mod Sets
pub mod Tables
pub mod Calls
pub mod InstanceRecord
pub mod WriterRecord
pub mod State
pub mod WellFormed
pub mod Sheets
pub mod Instances
pub mod Answers
pub mod InstanceCalls
pub mod Writers
pub mod Joined
pub mod Refusals
pub mod Call
pub mod Reads
pub mod Bench
