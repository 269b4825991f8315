-- Who stands for an instance, which lists a console makes, and what is claimed of them.
pub mod Standing
pub mod Console
pub mod Causes
pub mod Claims
pub mod Lists
