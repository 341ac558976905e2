-- The different labels of a list are entered into a table of names, label by label.
use Prim.Native.Nat.{ℕ, suc, ◌+◌, ◌≤◌, ◌<◌}
use mathlib.Core.List.{List, [], ◌∷◌}
use mathlib.Core.Path.{◌≡◌, refl, sym, ◌∙◌, ap}
use native.Mathlib.Nat.{add-sub_cancel_left}
use native.Mathlib.Numerals.{add-one}
use native.Mathlib.Omega.{arith}
use borrow.Author.Rules.{rules}
use lib.ListN.{length, get_or, drop, drop_of_length-le}
use lib.Seq.{drop-cons}
use Rattle.std.proofs.Common.{Option, Some, None}
use Rattle.labels.specs.Labels.{labels_fault, read_labels, same_label}
use Rattle.labels.specs.inner.Places.{label_place}
use Rattle.labels.proofs.Reading.{seek_inside, seek_whole, label_is}
use Rattle.labels.proofs.Labels.{length_read}
use Rattle.labels.proofs.Places.{place_first, place_next}
use Rattle.lists.specs.Lists.{tabulate}
use Rattle.name_table.specs.inner.Names.{slice, names_in, Table, Addition}
use Rattle.name_table.proofs.Adding.{table_none, added_table, added_names, added_full}
use Rattle.name_table.proofs.Finding.{names_count}
use Rattle.search.specs.Search.{add, meet}
use Rattle.search.proofs.Tables.{add_length}
use Rattle.subautomaton.specs.inner.Tables.{distinct_labels, LabelTable}

-- the first i labels of b are entered, n of them different
pub record Entered (b t : List ℕ) (n i : ℕ) : Type 0 where
  pub table : Table b t n
  pub few : n ≤ i
  pub rest : meet same_label (drop i (read_labels b)) (names_in b t n) ≡ distinct_labels b

pub enter_begin : (b t : List ℕ) → length t ≡ 1024 → Entered b t 0 0
unfolding distinct_labels names_in tabulate
enter_begin b t h = record { table = table_none b t h; few = omega arith; rest = refl }

module _ (b t : List ℕ) (m n i at : ℕ) (ok : labels_fault m b ≡ 0) (p : at ≡ label_place b i) (k : Entered b t n i) where
  pub enter_ended : i ≤ m → m ≤ i → LabelTable b t n
  unfolding meet
  enter_ended g h =
      let z : drop i (read_labels b) ≡ [] = drop_of_length-le (read_labels b) {i = i} (omega (arith, length_read m b ok)) in
      record { table = k.table; names = ap (λ (ls : List (List ℕ)). meet same_label ls (names_in b t n)) (sym z) ∙ k.rest }

  module _ (h : i < m) (next : ℕ) (e : next ≡ at + 1 + get_or b at 0) where
    pub enter_straight : at + 1 ≤ next
    enter_straight = omega arith

    pub enter_inside : next ≤ length b
    enter_inside = omega (arith, seek_whole b m at i ok p h)

    pub enter_place : next ≡ label_place b (i + 1)
    enter_place = e ∙ rw p (sym (place_next b i))

    label : slice b (at + 1) next ≡ get_or (read_labels b) i []
    label = label_is b m at i ok p (slice b (at + 1) next) h (rw (e, add-sub_cancel_left))

    here : drop i (read_labels b) ≡ slice b (at + 1) next ∷ drop (i + 1) (read_labels b)
    here =
        drop-cons (read_labels b) i [] (omega (arith, length_read m b ok)) ∙ ap (λ (x : List ℕ). x ∷ drop (suc i) (read_labels b)) (sym label)
        ∙ ap (λ (j : ℕ). slice b (at + 1) next ∷ drop j (read_labels b)) (sym (add-one i))

    module _ (u : List ℕ) (r : Option ℕ) (a : Addition b (add same_label (slice b (at + 1) next) (names_in b t n)) u r) where
      short : length (add same_label (slice b (at + 1) next) (names_in b t n)) ≤ i + 1
      short = omega (arith, add_length same_label (slice b (at + 1) next) (names_in b t n), names_count b t n, k.few)

      pub enter_next : (v : ℕ) → r ≡ Some v → Entered b u v (i + 1)
      unfolding meet
      enter_next v q =
          let s = added_names b _ u r a v q in
          record {
            table = added_table b _ u r a v q;
            few = omega (arith, short, ap length s, names_count b u v);
            rest = ap (meet same_label (drop (i + 1) (read_labels b))) s ∙ sym (ap (λ (ls : List (List ℕ)). meet same_label ls (names_in b t n)) here) ∙ k.rest;
          }

      -- there is room for each
      pub enter_full : m ≤ 256 → r ≡ None → LabelTable b u n
      enter_full g q = absurd (omega (arith, added_full b _ u r a q, short))

pub entered_table : (b t : List ℕ) (n i : ℕ) → Entered b t n i → Table b t n
entered_table b t n i k = k.table

pub ruleset enter_laws = (place_first, enter_begin, enter_ended, enter_straight, enter_inside, enter_place, enter_next, enter_full, entered_table, seek_inside, rules)
