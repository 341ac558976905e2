-- The laws by which the parts of the first pass are proved: a note, the place of a set in the table, and the next cut.
use Rattle.std.proofs.Common.{◌≡◌, ℕ, suc, ◌+◌, ◌-◌, ◌*◌, ◌/◌, ◌%◌, ◌<◌, ◌≤◌, Bool, true, false, cond, leb, List, [], ◌∷◌, ◌++◌, length, sym, refl, ap, ◌∙◌, arith, w32, Fits, rules, le-leb}
use borrow.Author.Tests.{lt-leb}
use lib.Seq.{sets, set_out}
use Rattle.stores.specs.Written.{Written}
use Rattle.stores.proofs.Written.{written_none}
use Rattle.automata.specs.Automaton.{Transition}
use Rattle.automata.specs.Records.{write_records}
use Rattle.automata.specs.WellFormed.{most_states}
use Rattle.lists.specs.Index.{index, same}
use Rattle.lists.proofs.Index.{index_le}
use Rattle.sets.specs.Sets.{Set, is_empty}
use Rattle.sets.specs.inner.BitSet.{set_at, entries}
use Rattle.sets.specs.inner.Words.{put_at}
use Rattle.sets.proofs.Sets.{empty_yes, empty_no}
use Rattle.sets.proofs.BitSet.{length_entries}
use Rattle.sets.proofs.Tables.{index_end}
use Rattle.sets.proofs.Stores.{entries_put}
use Rattle.ranges.specs.Cuts.{next_cut}
use Rattle.ranges.proofs.Cuts.{next_le, next_gt}
use Rattle.determinize.specs.inner.Notes.{set_number, sink_notes, SetPlaced, add_set}
use Rattle.determinize.proofs.Tables.{add_empty, add_known, add_new}

-- a note past the end of the memory is not stored
sets_past : (l : List ℕ) (i : ℕ) (vs : List ℕ) → length l ≤ i → sets l i vs ≡ l
sets_past l i [] h = refl
sets_past l i (v ∷ vs) h = ap (λ t. sets t (suc i) vs) (set_out l i v h) ∙ sets_past l (suc i) vs (omega arith)

pub note_past : (l : List ℕ) (k a b c d e : ℕ) → length l % 5 ≡ 0 → length l / 5 ≤ k → Written l (5 * k) (a ∷ b ∷ c ∷ d ∷ e ∷ []) l (5 * k + 5)
note_past l k a b c d e h g = record { stored = sym (sets_past l (5 * k) (a ∷ b ∷ c ∷ d ∷ e ∷ []) (omega arith)); behind = refl }

pub note_put : (l m : List ℕ) (k a b c d e r : ℕ) → Written l (5 * k) (a ∷ b ∷ c ∷ d ∷ e ∷ []) m r → Written l (5 * k) (a ∷ b ∷ c ∷ d ∷ e ∷ []) m (5 * k + 5)
note_put l m k a b c d e r w = record { stored = w.stored; behind = refl }

pub ruleset note_laws = (note_past, note_put, rules)

-- the sink's loop
pub sink_noted : (l m : List ℕ) (k lower upper j : ℕ) → lower ≤ upper → Written l (5 * k) (j ∷ 1 ∷ lower ∷ upper ∷ 256 ∷ []) m (5 * k + 5)
    → Written l (5 * k) (write_records (sink_notes lower upper j)) m (5 * (k + 1))
unfolding sink_notes write_records
sink_noted l m k lower upper j h w = rw (le-leb lower upper h) (record { stored = w.stored; behind = omega arith })

pub sink_none : (l : List ℕ) (k lower upper j : ℕ) → upper < lower → Written l (5 * k) (write_records (sink_notes lower upper j)) l (5 * k)
unfolding sink_notes write_records
sink_none l k lower upper j h = rw (lt-leb lower upper h) (written_none l (5 * k))

pub sink_count : (l m : List ℕ) (k lower upper j r : ℕ) → Written l (5 * k) (write_records (sink_notes lower upper j)) m (5 * r) → r ≤ k + 1
unfolding sink_notes write_records
sink_count l m k lower upper j r w = go (leb lower upper) w.behind
  where
    go : (b : Bool) → 5 * r ≡ 5 * k + length (write_records (cond b (record { from = j; kind = 1; first = lower; last = upper; to = most_states } ∷ []) [])) → r ≤ k + 1
    go true e = omega arith
    go false e = omega arith

pub ruleset sink_laws = (sink_noted, sink_none, rules)

-- the place of a set in the table
module _ (t set : List ℕ) (n : ℕ) (few : n < 256) where
  pub place_empty : (b : Bool) → b ≡ is_empty (set_at set 0) → b ≡ true → SetPlaced (set_at set 0) (entries t n) t n 256
  place_empty b e h =
      let z : set_at set 0 ≡ [] = empty_yes (set_at set 0) (sym e ∙ h) in
      record { added = sym (ap (λ R. add_set R (entries t n)) z ∙ add_empty (entries t n)); named = sym (ap (λ R. set_number R (entries t n)) z ∙ (unfold set_number in refl)); few = omega arith }

  number_some : (R : Set) (T : List Set) → (R ≡ [] → ⊥) → index same R T ≡ set_number R T
  unfolding set_number
  number_some [] T h = absurd (h refl)
  number_some (q ∷ R) T h = refl

  module _ (b : Bool) (e : b ≡ is_empty (set_at set 0)) (h : b ≡ false) (j : ℕ) (i : j ≡ index same (set_at set 0) (entries t n)) where
    some : set_at set 0 ≡ [] → ⊥
    some = empty_no (set_at set 0) (sym e ∙ h)

    -- a look-up that answers n has not found the set
    pub place_absent : n ≤ j → n ≡ index same (set_at set 0) (entries t n)
    place_absent l = omega (arith, i, length_entries t n, index_le same (set_at set 0) (entries t n))

    pub place_known : j < n → SetPlaced (set_at set 0) (entries t n) t n j
    place_known l =
        record {
          added = sym (add_known (set_at set 0) (entries t n) some (omega (arith, length_entries t n)));
          named = i ∙ number_some (set_at set 0) (entries t n) some;
          few = omega arith;
        }

    pub place_new : n ≤ j → length t ≡ 1024 → (u : List ℕ) → u ≡ put_at t (4 * n) set 0 → SetPlaced (set_at set 0) (entries t n) u (n + 1) n
    place_new l k u f =
        let R = set_at set 0 in
        let T = entries t n in
        let a : entries u (n + 1) ≡ T ++ R ∷ [] = ap (λ x. entries x (n + 1)) f ∙ entries_put t n set (omega arith) in
        let far : length T ≤ index same R T = omega (arith, length_entries t n) in
        record {
          added = a ∙ sym (add_new R T some far);
          named = sym (sym (number_some R (entries u (n + 1)) some) ∙ ap (index same R) a ∙ index_end R T far ∙ length_entries t n);
          few = omega arith;
        }

-- the bounds of the next cut
module _ (a top c : ℕ) (es : List Transition) (e : c ≡ next_cut a top es) where
  pub cut_some : a < top → 1 ≤ c
  cut_some h = omega (arith, next_gt a top es h)

  pub cut_less : a < top → top - c < top - a
  cut_less h = omega (arith, next_gt a top es h)

  pub cut_counts : (k lower count : ℕ) → a < top → k + lower ≤ count + a → k + 1 + lower ≤ count + c
  cut_counts k lower count h l = omega (arith, next_gt a top es h)

  pub cut_most : top ≤ 4294967296 → c ≤ 4294967296
  cut_most f = omega (arith, next_le a top es)

  pub cut_fits : top ≤ 4294967296 → Fits w32 (c - 1)
  cut_fits f = omega (arith, next_le a top es)
