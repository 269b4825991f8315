-- The laws of a writer's loss.
pub mod StepLaws
