-- Laws that the proofs of instance_pass and of the crates above cite.
pub mod StepLaws
pub mod ListLaws
pub mod ActLaws
pub mod PassLaws
pub mod EditLaws
pub mod SpanLaws
pub mod LossLaws
pub mod OwnerLaws
pub mod PurgeLaws
pub mod CallLaws
