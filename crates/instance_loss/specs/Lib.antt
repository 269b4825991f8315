-- What the contracts of instance_loss cite beside the definitions below it.

pub mod Lost
