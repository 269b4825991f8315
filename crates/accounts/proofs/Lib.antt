-- The proof of demand 3.
pub mod Basics
pub mod TurnLaws
pub mod RangeLaws
pub mod WriterTurns
pub mod InstanceTurns
pub mod Steps
pub mod Sound
pub mod SheetLaws
pub mod EffectLaws
pub mod WriterSound
pub mod InstanceSound
pub mod InStep
pub mod Runs
pub mod Demand3
pub mod Refusals
pub mod Answered
pub mod FirstOwner
