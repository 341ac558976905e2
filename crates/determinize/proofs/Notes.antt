-- Notes of transitions: span by span, state by state, while the table grows; and what they stand for once it is finished.
use Rattle.std.proofs.Common.{◌≡◌, ℕ, suc, ◌+◌, ◌-◌, ◌<◌, ◌≤◌, true, false, cond, eqb, leb, List, [], ◌∷◌, ◌++◌, map, length, get_or, drop, sym, refl, ap, ◌∙◌, ap₂, inl, inr, ⊎_elim, append_assoc, append-nil, add-one, arith, drop_of_length-le, drop-cons, ne_eqb, leb-false, leb-true}
use mathlib.Core.List.Memᴰ
use Rattle.lists.specs.Lists.{◌∈◌}
use Rattle.lists.proofs.Lists.{map_ext, map_append}
use Rattle.lists.proofs.Tests.{test}
use Rattle.automata.specs.Automaton.{Automaton, InBounds}
use Rattle.automata.specs.WellFormed.{most_states}
use Rattle.lists.specs.Index.{index, same}
use Rattle.lists.proofs.Index.{index_before, index_lt, same_decides}
use Rattle.sets.specs.Sets.{Set}
use Rattle.sets.proofs.Tables.{In, at_index}
use Rattle.words.specs.Simulation.{outgoing, step}
use Rattle.ranges.specs.Cuts.{next_cut, cut_all}
use Rattle.ranges.proofs.Cuts.{cut_step, cut_end}
use Rattle.search.specs.Search.{found}
use Rattle.ranges.proofs.Spans.{cut_stretch}
use Rattle.words.proofs.Outgoing.{outgoing_nil, step_nil}
use Rattle.determinize.specs.Determinize.{set_table, sets_and_sink, set_transition, set_transitions, set_transitions_from}
use Rattle.determinize.specs.inner.Notes.{set_number, note_of, notes_of, notes_from, sink_notes, noted_transition}
use Rattle.determinize.proofs.Finished.{table_few, table_closed}
use Rattle.determinize.proofs.Runs.{sink_index}
use Rattle.determinize.proofs.Sink.{cut_nothing}

-- a set that a table has keeps its number while the table grows
index_later : (R : Set) (T more : List Set) → R ∈ T → index same R (T ++ more) ≡ index same R T
index_later R T more m = index_before same R T more (index_lt same same_decides R m)

pub number_later : (R : Set) (T more : List Set) → In T R → set_number R (T ++ more) ≡ set_number R T
unfolding set_number
number_later [] T more m = refl
number_later (q ∷ R) T more (inl e) = let z : ◌≡◌ {A = ℕ} 0 1 = cc in absurd (omega arith)
number_later (q ∷ R) T more (inr m) = index_later (q ∷ R) T more m

module _ (upper : ℕ) (A : Automaton) (T : List Set) (j : ℕ) (S : Set) (a : ℕ) where
  pub notes_step : a < upper + 1
      → notes_of a upper A T j S
      ≡ record { from = j; kind = 1; first = a; last = next_cut a (upper + 1) (outgoing A S) - 1; to = set_number (step A S a) T }
      ∷ notes_of (next_cut a (upper + 1) (outgoing A S)) upper A T j S
  unfolding notes_of note_of
  notes_step h = rw (add-one upper) (ap (map (note_of A T j S)) (cut_step upper (outgoing A S) a (omega arith)))

  pub notes_end : upper + 1 ≤ a → notes_of a upper A T j S ≡ []
  unfolding notes_of
  notes_end h = ap (map (note_of A T j S)) (cut_end upper (outgoing A S) a (omega arith))

module _ (lower upper : ℕ) (A : Automaton) (T : List Set) where
  -- the sink's set is empty
  notes_sink : (j : ℕ) → notes_of lower upper A T j [] ≡ sink_notes lower upper j
  unfolding notes_of note_of sink_notes set_number
  notes_sink j =
      ap (λ es. map (note_of A T j []) (cut_all lower upper es)) (outgoing_nil A)
      ∙ ⊎_elim
      (λ (t : leb lower upper ≡ true).
      rw t
      (ap (map (note_of A T j [])) (cut_nothing lower upper (leb-true lower upper t))
      ∙ ap (λ R. record { from = j; kind = 1; first = lower; last = upper; to = set_number R T } ∷ []) (step_nil A lower)))
      (λ (t : leb lower upper ≡ false). rw t (ap (map (note_of A T j [])) (cut_end upper [] lower (leb-false lower upper t))))
      (test (leb lower upper))

  notes_append : (j : ℕ) (Ss Us : List Set) → notes_from lower upper A T j (Ss ++ Us) ≡ notes_from lower upper A T j Ss ++ notes_from lower upper A T (j + length Ss) Us
  unfolding notes_from
  notes_append j [] Us = ap (λ i. notes_from lower upper A T i Us) (omega arith)
  notes_append j (S ∷ Ss) Us =
      ap (λ l. notes_of lower upper A T j S ++ l) (notes_append (suc j) Ss Us ∙ ap (λ i. notes_from lower upper A T (suc j) Ss ++ notes_from lower upper A T i Us) (omega arith))
      ∙ sym (append_assoc (notes_of lower upper A T j S) _ _)

  pub notes_states : notes_from lower upper A T 0 (sets_and_sink T) ≡ notes_from lower upper A T 0 T ++ sink_notes lower upper (length T)
  unfolding sets_and_sink notes_from
  notes_states =
      notes_append 0 T ([] ∷ [])
      ∙ ap (λ l. notes_from lower upper A T 0 T ++ l) (append-nil _ ∙ ap (λ i. notes_of lower upper A T i []) (omega arith) ∙ notes_sink (length T))

  -- the sets of the table from i on
  pub notes_at : (i : ℕ) → i < length T → notes_from lower upper A T i (drop i T) ≡ notes_of lower upper A T i (get_or T i []) ++ notes_from lower upper A T (i + 1) (drop (i + 1) T)
  unfolding notes_from
  notes_at i h = rw (add-one i) (ap (notes_from lower upper A T i) (drop-cons T i [] h))

  pub notes_past : (i : ℕ) → length T ≤ i → notes_from lower upper A T i (drop i T) ≡ []
  unfolding notes_from
  notes_past i h = ap (notes_from lower upper A T i) (drop_of_length-le T h)

-- in a finished table the notes stand for the transitions
module _ (lower upper : ℕ) (A : Automaton) (ok : InBounds A) (T : List Set) (e : set_table lower upper A ≡ found T) where
  noted_number : (R : Set) → In T R → cond (eqb (set_number R T) most_states) (length T) (set_number R T) ≡ index same R T
  unfolding set_number
  noted_number [] m = sym (sink_index lower upper A ok T e)
  noted_number (q ∷ R) (inl z) = let y : ◌≡◌ {A = ℕ} 0 1 = cc in absurd (omega arith)
  noted_number (q ∷ R) (inr m) =
      let l = index_lt same same_decides (q ∷ R) m in
      let k = table_few lower upper A ok T e in
      rw (ne_eqb (index same (q ∷ R) T) most_states (λ z. omega arith))

  noted_of : (j : ℕ) (S : Set) → ((a : ℕ) → lower ≤ a → a ≤ upper → In T (step A S a)) → map (noted_transition (length T)) (notes_of lower upper A T j S) ≡ set_transitions lower upper A T j S
  unfolding notes_of note_of set_transitions set_transition noted_transition
  noted_of j S c =
      map_ext (noted_transition (length T)) (note_of A T j S) (set_transition A T j S) (cut_all lower upper (outgoing A S))
      (λ s m.
      let v = cut_stretch lower upper (outgoing A S) s m in
      ap (λ t. record { from = j; kind = 1; first = s.first; last = s.last; to = t })
      (noted_number (step A S s.first) (c s.first v.above (omega (arith, v.full, v.below)))))

  noted_from : (j : ℕ) (Ss : List Set) → ((S : Set) → S ∈ Ss → (a : ℕ) → lower ≤ a → a ≤ upper → In T (step A S a))
      → map (noted_transition (length T)) (notes_from lower upper A T j Ss) ≡ set_transitions_from lower upper A T j Ss
  unfolding notes_from set_transitions_from
  noted_from j [] c = refl
  noted_from j (S ∷ Ss) c =
      map_append (noted_transition (length T)) (notes_of lower upper A T j S) (notes_from lower upper A T (suc j) Ss)
      ∙ ap₂ ◌++◌ (noted_of j S (c S (Memᴰ.head refl))) (noted_from (suc j) Ss (λ R m. c R (Memᴰ.tail m)))

  pub noted_states : map (noted_transition (length T)) (notes_from lower upper A T 0 (sets_and_sink T)) ≡ set_transitions_from lower upper A T 0 (sets_and_sink T)
  unfolding sets_and_sink
  noted_states =
      noted_from 0 (T ++ [] ∷ [])
      (λ S m a l u.
      let i : In T S = ⊎_elim (λ k. inr k) (λ k. inl (Memᴰ.eq_of_singleton k)) (Memᴰ.append_cases T m) in
      rw (at_index T S i) at (table_closed lower upper A ok T e (index same S T) a l u))
