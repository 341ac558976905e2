-- What `join_in` returns, by what `union_in` does in the arrays of valid sets. Assumes nothing.
use Rattle.std.proofs.Common.{Bool, Result, Ok, Err, IsOk, ℕ, ◌<◌, ◌≡◌, true, false, List, sym, subst, refl}
use Rattle.refusal.specs.declared.StateRefusal.{StateRefusal}
use Rattle.dsu.specs.declared.DSU.{DSU}
use Rattle.dsu.specs.Sets.{After, union_in}
use Rattle.dsu.specs.inner.Lent.{sets_of, JoinLaw, old, new}
use Rattle.dsu.specs.Laws.{Valid}
use Rattle.dsu.proofs.Classes.{classes_fewer}
use Rattle.dsu.proofs.Laws.{Unites, UnitesIn, union_unites}

-- l and z are the arrays before, m and o those after
module _ (l z : List ℕ) (n x y : ℕ) (pre : Valid (sets_of l z n) × (x < n) × (y < n)) (u : Result Bool StateRefusal) (m o : List ℕ) (is-u : ◌≡◌ {A = After} (u, m, o) (union_in l z n x y)) where
  abbrev d : DSU
  d = sets_of l z n

  abbrev e : DSU
  e = sets_of m o n

  case : (v : Result Bool StateRefusal) → u ≡ v → Unites d x y v e
  case v q = subst (λ (t : Result Bool StateRefusal). Unites d x y t e) q (subst (UnitesIn d x y) (sym is-u) (union_unites d x y pre.0 pre.1 pre.2))

  pub join_done : (apart : Bool) → u ≡ Ok apart → JoinLaw d e x y apart
  join_done true q =
      let w = case (Ok true) q in
      let j = w.1 in
      new w.0 refl (record { x_in = pre.1; y_in = pre.2; joined = j.joined; kept = j.kept; only = j.only; fewer = λ k c. classes_fewer pre.1 pre.2 j c })
  join_done false q = let w = case (Ok false) q in old w.0 refl w.1 w.2

  pub in_valid : IsOk u
  in_valid = by_case u refl
    where
      by_case : (v : Result Bool StateRefusal) → u ≡ v → IsOk v
      by_case (Ok apart) q = refl
      by_case (Err r) q = absurd (case (Err r) q)
