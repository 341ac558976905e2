-- What only inner contracts cite.
pub mod Acceptance
pub mod Epsilons
pub mod Gather
pub mod Input
