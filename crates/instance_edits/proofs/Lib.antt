-- Laws of instance_edits' definitions.
pub mod LossForms
pub mod FieldEdits
pub mod RecordEdits
pub mod RecordReads
