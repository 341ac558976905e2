-- One ascending pass over the ranges that leave a set of states. All of it is for inner contracts.
pub mod inner
