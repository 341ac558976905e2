-- The laws of sets of states.
pub mod Sets
pub mod Tables
pub mod Members
pub mod Bits
pub mod BitSet
pub mod Stores
pub mod Steps
pub mod Places
pub mod Scan
pub mod Rounds
pub mod Closing
