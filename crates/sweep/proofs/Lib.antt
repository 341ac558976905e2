-- The laws of the pass.
pub mod Events
pub mod Putting
pub mod Trees
pub mod Sweep
pub mod Stepping
pub mod Passing
pub mod Turns
pub mod Begin
