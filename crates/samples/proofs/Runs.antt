-- The samples of document 01 on acceptance, by runs: A accepts 9, not 10 and not the empty word; an automaton with an overlap and its complement both accept 5.
use Prim.Native.Nat.{ℕ}
use mathlib.Core.List.Memᴰ
use mathlib.Core.List.{[], ◌∷◌, flat_map, map, head-eq_of_cons-eq}
use mathlib.Core.Path.{◌≡◌, refl}
use native.Mathlib.Omega.{arith}
use lib.Dec.{lit≤}
use Rattle.lists.specs.Lists.{any, filter, tabulate}
use Rattle.automata.specs.Automaton.{stay, Accepts, holds, leaving, ranges_of, states, has_epsilon}
use Rattle.automata.specs.Automaton as runs
use Rattle.automata.specs.Ordered.{in_order, insert}
use Rattle.automata.specs.Records.{read_records}
use Rattle.automata.specs.WellFormed.{last_symbol}
use Rattle.nondeterminism.specs.Nondeterminism.{holes_of, is_nfa_at, is_nfa_in, is_nfa}
use Rattle.ranges.specs.Span.{overlaps_from, overlapping}
use Rattle.ranges.specs.Cuts.{nearer, next_cut, spans, cut_all}
use Rattle.ranges.specs.Missing.{covered, missing}
use Rattle.sheets.specs.Sheet.{read}
use Rattle.totality.specs.Totality.{filled, filled_in, totalized, flipped, complemented}
use Rattle.samples.specs.Samples.{range_transition, A, O}
use Rattle.samples.proofs.Single.{a_single}

pub accepts_9 : Accepts (read A) (9 ∷ [])
accepts_9 = (a_single (9 ∷ [])).1 (9, refl, lit≤ tt)

pub rejects_10 : Accepts (read A) (10 ∷ []) → ⊥
rejects_10 h = let (x, e, l) = (a_single (10 ∷ [])).0 h in let q : 10 ≡ x = head-eq_of_cons-eq e in omega arith

pub rejects_empty : Accepts (read A) [] → ⊥
rejects_empty h = let (x, e, l) = (a_single []).0 h in let z : ◌≡◌ {A = ℕ} 0 1 = cc in omega arith

-- 0 leads to 1, which accepts
pub overlap_accepts_5 : Accepts (read O) (5 ∷ [])
unfolding read_records
overlap_accepts_5 = (1, runs.read (range_transition 0 0 9 1) (Memᴰ.head refl) refl refl (lit≤ tt) (lit≤ tt) stay, lit≤ tt)

-- 0 leads to 2, which accepts in the complement
pub complement_accepts_5 : Accepts (complemented 0 last_symbol (read O)) (5 ∷ [])
unfolding any filter tabulate flat_map map holds leaving ranges_of in_order insert read_records nearer next_cut spans cut_all covered missing overlaps_from overlapping states holes_of has_epsilon is_nfa_at is_nfa_in is_nfa filled filled_in totalized flipped complemented
complement_accepts_5 = (2, runs.read (range_transition 0 0 9 2) (Memᴰ.tail (Memᴰ.head refl)) refl refl (lit≤ tt) (lit≤ tt) stay, lit≤ tt)
