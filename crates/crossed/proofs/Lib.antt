-- Demand 3 whole.
pub mod Fronts
pub mod Sides
pub mod Products
pub mod Reports
pub mod Theorems
pub mod Contracts
