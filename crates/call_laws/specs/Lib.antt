-- What the contracts of the calls on head and buffers cite beside model's definitions.
pub mod Entered
pub mod Heads
