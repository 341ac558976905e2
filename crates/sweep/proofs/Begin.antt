-- The pass over the events of a sheet, and how it begins.
use Prim.Native.Nat.{ℕ, zero, suc, ◌-◌}
use mathlib.Core.List.{List, []}
use mathlib.Core.Path.{◌≡◌, refl, sym, ◌∙◌, ap, subst}
use native.Mathlib.Omega.{arith}
use lib.ListN.{get_or, take, drop, replicate, length-replicate}
use Rattle.sets.specs.Sets.{Set}
use Rattle.sets.proofs.BitSet.{entry_at}
use Rattle.sheets.specs.inner.Accepted.{Accepted}
use Rattle.sheets.specs.Sheet.{state_count, read}
use Rattle.words.specs.inner.Gather.{Tables}
use Rattle.words.specs.Simulation.{closure, outgoing}
use Rattle.sweep.specs.inner.Events.{events_at, Timed, Lined}
use Rattle.sweep.specs.inner.Sweep.{Timeline}
use Rattle.sweep.specs.inner.Passing.{Closed, Passing}
use Rattle.sweep.proofs.Events.{timeline}
use Rattle.sweep.proofs.Sweep.{passes_begin}
use Rattle.sweep.proofs.Trees.{fresh_tree, fresh_leaf}

zeros : (n q : ℕ) → get_or (replicate {A = ℕ} n 0) q 0 ≡ 0
zeros zero q = refl
zeros (suc n) zero = refl
zeros (suc n) (suc q) = zeros n q

pub tables_closed : (s starts c : List ℕ) → Tables s starts c → Closed s c
unfolding closure
tables_closed s starts c t =
    record {
      accepted = t.accepted;
      long = t.long;
      rows = λ q l. sym (entry_at c (state_count s) q l) ∙ ap (λ R. get_or R q []) t.closed;
    }

pub timed_lined : (k : ℕ) (s ev : List ℕ) (end : ℕ) → Timed k s ev end → Lined k s (take (end - 0) (drop 0 ev))
timed_lined k s ev end t = let z : end - 0 ≡ end = omega arith in rw z t.lined

lined_line : (k : ℕ) (s ev : List ℕ) → Accepted s → Lined k s ev → (S : Set) → Timeline k (outgoing (read s) S) S (events_at k s ev)
lined_line k s ev a w S = subst (Timeline k (outgoing (read s) S) S) (sym w.ordered) (timeline k s a S)

pub passing_begin : (s c opens ends : List ℕ) → Closed s c → Lined 0 s opens → Lined 1 s ends → (S : Set) (a : ℕ)
    → Passing s c opens ends S 0 0 a (replicate 256 0) (replicate 2048 0)
passing_begin s c opens ends k o e S a =
    record {
      closed = k;
      opens_below = o.numbers;
      ends_below = e.numbers;
      in_opens = omega arith;
      in_ends = omega arith;
      long = length-replicate {A = ℕ} 256 0;
      tree = fresh_tree;
      passes = passes_begin (lined_line 0 s opens k.accepted o S) (lined_line 1 s ends k.accepted e S) a _ _ (zeros 256) fresh_leaf;
    }
