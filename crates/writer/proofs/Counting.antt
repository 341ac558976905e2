-- The lengths of the parts of the text.
use Prim.Native.Nat.{ℕ, ◌+◌, ◌*◌, ◌/◌, ◌^◌, ◌≤◌, ◌<◌}
use mathlib.Core.List.{List, [], ◌∷◌, ◌++◌, flat_map}
use mathlib.Core.Path.{◌≡◌, ap}
use native.Mathlib.Omega.{arith}
use mir.Syntax.{w64}
use mir.Val.{Fits}
use borrow.Author.Rules.{rules}
use Rattle.std.specs.Simd.{first_chunks}
use lib.ListN.{length, get_or, drop, length-append, drop_of_length-le}
use Rattle.lists.proofs.Parts.{drop_at}
use Rattle.automata.specs.Automaton.{Transition}
use Rattle.automata.specs.Records.{read_records}
use Rattle.automata.specs.inner.Records.{record_at}
use Rattle.automata.specs.inner.Chunks.{records_of}
use Rattle.automata.proofs.Chunks.{records_are, records_next, records_done}
use Rattle.decimal.specs.Decimal.{digits}
use Rattle.decimal.proofs.Decimal.{length_one, length_more, length_word}
use Rattle.labels.specs.Labels.{label_count, read_labels}
use Rattle.sheets.proofs.Named.{chunk_from, chunk_to}
use Rattle.writer.specs.Text.{more_names_text}
use Rattle.writer.specs.inner.Parts.{arrow_text, range_text, spaced_transition, spaced_transitions}
use Rattle.writer.specs.inner.Tables.{LabelPlaces, state_labels}
use Rattle.writer.proofs.Gathering.{state_below}
use Rattle.writer.proofs.Places.{label_short}

-- n digits are counted, and those of v are left but for one
module _ (x n v : ℕ) (e : n + length (digits v) ≡ 1 + length (digits x)) where
  pub count_next : 10 ≤ v → n + 1 + length (digits (v / 10)) ≡ 1 + length (digits x)
  count_next h = omega (arith, length_more v h)

  pub count_done : v < 10 → n ≡ length (digits x)
  count_done h = omega (arith, length_one v h)

  pub count_few : v < 10 → x < 2 ^ 32 → n ≤ 10
  count_few h g = omega (arith, length_one v h, length_word x g)

  pub count_fits : x < 2 ^ 32 → Fits w64 (n + 1)
  count_fits h = record { fits = omega (arith, length_word x h) }

pub ruleset digit_laws = (count_next, count_fits, count_few, count_done, rules)

-- a label
module _ (b p l : List ℕ) (q : ℕ) (i : LabelPlaces b p) (h : q < label_count b) (e : l ≡ get_or (read_labels b) q []) where
  pub label_length : length l ≡ length (get_or (read_labels b) q [])
  label_length = ap length e

  pub label_few : length l ≤ 64
  label_few = rw e (label_short b p q i h)

pub ruleset label_length_laws = (label_length, label_few, rules)

-- a transition
transition_length : (ls : List (List ℕ)) (e : Transition) → length (spaced_transition ls e)
    ≡ 11 + length (get_or ls e.from []) + length (get_or ls e.to []) + length (digits e.first) + length (digits e.last)
unfolding spaced_transition arrow_text range_text
transition_length ls e = simp length-append (omega arith)

pub transition_counted : (ls : List (List ℕ)) (r : List ℕ) (x y z w : ℕ) → x ≡ length (get_or ls (get_or r 0 0) []) → y ≡ length (get_or ls (get_or r 4 0) [])
    → z ≡ length (digits (get_or r 2 0)) → w ≡ length (digits (get_or r 3 0))
    → 11 + x + y + z + w ≡ length (spaced_transition ls (record_at r 0))
transition_counted ls r x y z w f g h k = omega (arith, transition_length ls (record_at r 0))

-- the transitions from the record i on are left
pub transitions_split : (ls : List (List ℕ)) (rs : List (List ℕ)) (i : ℕ) → i < length rs
    → spaced_transitions ls (records_of (drop i rs)) ≡ spaced_transition ls (record_at (get_or rs i []) 0) ++ spaced_transitions ls (records_of (drop (i + 1) rs))
unfolding spaced_transitions flat_map
transitions_split ls rs i h = ap (spaced_transitions ls) (records_next rs i h)

pub transitions_none : (ls : List (List ℕ)) (rs : List (List ℕ)) (i : ℕ) → length rs ≤ i → spaced_transitions ls (records_of (drop i rs)) ≡ []
unfolding spaced_transitions flat_map
transitions_none ls rs i h = ap (spaced_transitions ls) (records_done rs i h)

-- n bytes are counted
pub record TransitionsLeft (ls : List (List ℕ)) (t : List ℕ) (rs : List (List ℕ)) (n i : ℕ) : Type 0 where
  pub counted : n + length (spaced_transitions ls (records_of (drop i rs))) ≡ length (spaced_transitions ls (read_records t))
  pub few : n ≤ 160 * i

pub transitions_begin : (ls : List (List ℕ)) (t : List ℕ) (rs : List (List ℕ)) → rs ≡ first_chunks 5 (length t / 5) t → TransitionsLeft ls t rs 0 0
transitions_begin ls t rs e = record { counted = omega (arith, ap (λ (es : List Transition). length (spaced_transitions ls es)) (records_are t rs e)); few = omega arith }

module _ (ls : List (List ℕ)) (t : List ℕ) (rs : List (List ℕ)) (n i : ℕ) (g : TransitionsLeft ls t rs n i) where
  pub transitions_next : i < length rs → (r : ℕ) → r ≡ length (spaced_transition ls (record_at (get_or rs i []) 0)) → r ≤ 160 → TransitionsLeft ls t rs (n + r) (i + 1)
  transitions_next h r e k =
      record {
        counted = omega (
          arith,
          g.counted,
          ap length (transitions_split ls rs i h),
          length-append (spaced_transition ls (record_at (get_or rs i []) 0)) (spaced_transitions ls (records_of (drop (i + 1) rs))),
        );
        few = omega (arith, g.few);
      }

  pub transitions_counted : length rs ≤ i → n ≡ length (spaced_transitions ls (read_records t))
  transitions_counted h = omega (arith, g.counted, ap length (transitions_none ls rs i h))

  pub transitions_few : i ≤ length rs → length rs ≡ length t / 5 → length t ≤ 10240 → n ≤ 327680
  transitions_few h e k = omega (arith, g.few)

pub ruleset transitions_laws = (chunk_from, chunk_to, transitions_begin, transitions_next, transitions_counted, transitions_few, rules)

-- names, each behind a comma and a blank
pub names_split : (b qs : List ℕ) (i : ℕ) → i < length qs → more_names_text (state_labels b (drop i qs))
    ≡ 44 ∷ 32 ∷ get_or (read_labels b) (get_or qs i 0) [] ++ more_names_text (state_labels b (drop (i + 1) qs))
unfolding more_names_text state_labels flat_map
names_split b qs i h = ap (λ (x : List ℕ). more_names_text (state_labels b x)) (drop_at qs i h)

pub names_none : (b qs : List ℕ) (i : ℕ) → length qs ≤ i → more_names_text (state_labels b (drop i qs)) ≡ []
unfolding more_names_text state_labels flat_map
names_none b qs i h = ap (λ (x : List ℕ). more_names_text (state_labels b x)) (drop_of_length-le qs {i = i} h)

pub record NamesLeft (b qs : List ℕ) (n i : ℕ) : Type 0 where
  pub counted : n + length (more_names_text (state_labels b (drop i qs))) ≡ length (more_names_text (state_labels b qs))
  pub few : n ≤ 66 * i

module _ (b qs : List ℕ) (n i : ℕ) (g : NamesLeft b qs n i) where
  pub names_next : i < length qs → (r : ℕ) → r ≡ length (get_or (read_labels b) (get_or qs i 0) []) → r ≤ 64 → NamesLeft b qs (n + (2 + r)) (i + 1)
  names_next h r e k =
      record {
        counted = omega (arith, g.counted, ap length (names_split b qs i h), length-append (get_or (read_labels b) (get_or qs i 0) []) (more_names_text (state_labels b (drop (i + 1) qs))));
        few = omega (arith, g.few);
      }

  pub names_counted : length qs ≤ i → n ≡ length (more_names_text (state_labels b qs))
  names_counted h = omega (arith, g.counted, ap length (names_none b qs i h))

  pub names_few : i ≤ length qs → length qs ≤ 256 → n ≤ 16896
  names_few h k = omega (arith, g.few)

pub ruleset names_laws = (state_below, names_next, names_counted, names_few, rules)
