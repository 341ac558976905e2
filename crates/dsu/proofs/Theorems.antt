-- The theorems of the join sets, whose statements are in specs/Laws and specs/Refusals. Each has a function's contract as its first premise. Assumes nothing.
--   new_law          fresh sets are valid, and each element is alone
--   find_law         on valid sets `find` answers the element's class and changes no class
--   union_law        on valid sets `union` makes the classes of the two elements one and changes no other
--   classes_number   any sets have exactly one number of classes
--   new_refusals     `new` gives 23 just where n is over 512, and never 24
--   find_refusals    when `find` gives 23 and 24, on every value of the struct, and that it then leaves the value as it was
--   union_refusals   the same of `union`
--   find_compressed  where `find` answers, each element passed points at the representative, and nothing else changed, on every value
pub use Rattle.dsu.proofs.Laws.{new_law, find_law, union_law, classes_number}
pub use Rattle.dsu.proofs.Refusals.{new_refusals, find_refusals, union_refusals}
pub use Rattle.dsu.proofs.Compressing.{find_compressed}
