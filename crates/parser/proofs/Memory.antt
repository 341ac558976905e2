-- An array is lent blank.
use Prim.Native.Nat.{ℕ}
use lib.ListN.{replicate, length-replicate}
use Rattle.lists.proofs.Lists.{blank_at}
use Rattle.parser.specs.inner.Memory.{Zeros}

pub zeros : (n : ℕ) → Zeros n (replicate n 0)
zeros n = record { long = length-replicate {A = ℕ} n 0; zero = blank_at n }
