-- Writing the sheet of an eliminated automaton: the laws by which the functions that write are proved.
use Prim.Native.Nat.{ℕ, ◌+◌, ◌*◌, ◌/◌, ◌≤◌, ◌<◌}
use mathlib.Core.List.{List, [], ◌∷◌, ◌++◌}
use mathlib.Core.Path.{◌≡◌, ◌∙◌, ap, ap₂, subst}
use native.Mathlib.Numerals.{add-one}
use native.Mathlib.Omega.{arith}
use borrow.Author.Rules.{rules}
use lib.ListN.{length, get_or}
use mir.Syntax.{w32}
use mir.Val.{Fits}
use Rattle.lists.specs.Lists.{tabulate}
use Rattle.stores.specs.Written.{Written}
use Rattle.lists.proofs.Lists.{tabulate_end, length_tabulate}
use Rattle.stores.proofs.Written.{written_none, written_append, written_length}
use Rattle.automata.specs.Automaton.{Transition}
use Rattle.automata.proofs.Records.{length_write}
use Rattle.output.proofs.Collecting.{collect_all}
use Rattle.sets.specs.inner.BitSet.{set_at}
use Rattle.sets.specs.inner.Words.{put_at}
use Rattle.sheets.specs.Sheet.{state_count, read, write}
use Rattle.words.specs.Simulation.{closure, kind_of}
use Rattle.epsilon.specs.Eliminate.{closure_kinds, eliminated}
use Rattle.epsilon.specs.inner.Tables.{ClosuresOf, TransitionsOf}
use Rattle.epsilon.proofs.Gathering.{row_inside, row_closure, row_canon}

pub ruleset gather_laws = (collect_all, rules)

-- the accept word of a closure
pub kind_row : (s c : List ℕ) (t : ClosuresOf s c) (p : ℕ) → p < state_count s → (old v : List ℕ) → v ≡ put_at old 0 c (4 * p) → 4 ≤ length old
    → (k : ℕ) → k ≡ kind_of (read s) (set_at v 0) → k ≡ kind_of (read s) (closure (read s) p)
kind_row s c t p l old v e o k h = h ∙ ap (kind_of (read s)) (row_closure s c t p l old v e o)

pub ruleset kind_laws = (row_inside, row_canon, kind_row, rules)

-- the accept words, of which p are written
length_kinds : (s : List ℕ) (p : ℕ) → length (closure_kinds (read s) p) ≡ p
unfolding closure_kinds
length_kinds s p = length_tabulate p _

pub kinds_none : (s c : List ℕ) → ClosuresOf s c → (l : List ℕ) (at : ℕ) → Written l at (closure_kinds (read s) 0) l at
unfolding closure_kinds tabulate
kinds_none s c t l at = written_none l at

module _ (s c : List ℕ) (t : ClosuresOf s c) (l m : List ℕ) (at p end : ℕ) (w : Written l at (closure_kinds (read s) p) m end) where
  pub kinds_room : p < state_count s → at + state_count s ≤ length l → end < length m
  kinds_room h r = omega (arith, length_kinds s p, w.behind, written_length l m _ at end w)

  pub kinds_next : (k : ℕ) → k ≡ kind_of (read s) (closure (read s) p) → (n : List ℕ) (r : ℕ) → Written m end (k ∷ []) n r → Written l at (closure_kinds (read s) (p + 1)) n r
  unfolding closure_kinds
  kinds_next k e n r v =
      rw (add-one, tabulate_end p (λ q. kind_of (read s) (closure (read s) q)), ← e) (written_append l m n (closure_kinds (read s) p) (k ∷ []) at end r w v)

pub ruleset accepts_laws = (kinds_none, kinds_room, kinds_next, written_length, rules)

-- the whole sheet: l is the memory before, m after its front, n after the accept words, o after the count of transitions
module _ (s c recs : List ℕ) (t : ClosuresOf s c) (u : TransitionsOf s recs) where
  length_recs : length recs ≡ 5 * length (eliminated (read s)).transitions
  length_recs = ap length u.whole ∙ length_write (eliminated (read s)).transitions

  pub sheet_count : Fits w32 (length recs / 5)
  sheet_count = record { fits = omega (arith, length_recs, u.few) }

  module _ (l m : List ℕ) (first : ℕ) (a : Written l 0 (1 ∷ get_or s 1 0 ∷ state_count s ∷ []) m first) (room : 10500 ≤ length l) where
    pub sheet_accepts : first + state_count s ≤ length m
    sheet_accepts = omega (arith, a.behind, written_length l m _ 0 first a, t.accepted.few_states)

    module _ (n : List ℕ) (count : ℕ) (b : Written m first (closure_kinds (read s) (state_count s)) n count) where
      pub sheet_counted : count < length n
      sheet_counted = omega (arith, a.behind, b.behind, length_kinds s (state_count s), written_length l m _ 0 first a, written_length m n _ first count b, t.accepted.few_states)

      module _ (o : List ℕ) (behind : ℕ) (d : Written n count (length recs / 5 ∷ []) o behind) where
        pub sheet_records : behind + length recs ≤ length o
        sheet_records =
            omega (arith, a.behind, b.behind, d.behind, length_kinds s (state_count s), length_recs, u.few, written_length l m _ 0 first a, written_length m n _ first count b, written_length n o _ count behind d, t.accepted.few_states)

        pub sheet_put : (v : List ℕ) (r : ℕ) → Written o behind recs v r → Written l 0 (write (eliminated (read s))) v r
        unfolding eliminated
        sheet_put v r e =
            let ts : List Transition = (eliminated (read s)).transitions in
            let x : length recs / 5 ≡ length ts = omega (arith, length_recs) in
            let y = written_append n o v (length recs / 5 ∷ []) recs count behind r d e in
            let z = written_append m n v (closure_kinds (read s) (state_count s)) (length recs / 5 ∷ recs) first count r b y in
            let w = written_append l m v (1 ∷ get_or s 1 0 ∷ state_count s ∷ []) (closure_kinds (read s) (state_count s) ++ (length recs / 5 ∷ recs)) 0 first r a z in
            subst (λ (q : List ℕ). Written l 0 (1 ∷ get_or s 1 0 ∷ state_count s ∷ (closure_kinds (read s) (state_count s) ++ q)) v r)
            (ap₂ ◌∷◌ x u.whole) w

pub ruleset sheet_laws = (sheet_count, sheet_accepts, sheet_counted, sheet_records, sheet_put, written_length, rules)
