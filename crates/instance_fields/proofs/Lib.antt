-- Laws of what the effects ask of an instance.
pub mod UsableLaws
