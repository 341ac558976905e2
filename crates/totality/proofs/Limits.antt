-- Exactly where an answer of totalizing or of the complement is each refusal, and that a result can be written.
use Rattle.std.proofs.Common.{Result, Ok}
use Prim.Native.Nat.{ℕ, ◌+◌, ◌≤◌, ◌<◌}
use mathlib.Core.Bool.{Bool, true, false, cond}
use mathlib.Core.List.{List, [], ◌∷◌, ◌++◌}
use mathlib.Core.Logic.{⊎_elim, ◌↔◌}
use mathlib.Core.Path.{◌≡◌, refl, sym, ◌∙◌, ap}
use native.Mathlib.Omega.{arith}
use lib.ListN.{length, length-append}
use Rattle.lists.proofs.Tests.{test}
use Rattle.automata.specs.WellFormed.{Fits, most_states, most_transitions}
use Rattle.labels.specs.Forms.{sink_label}
use Rattle.labels.specs.Labels.{AllLabels, none, more, labels_fault, read_labels}
use Rattle.labels.proofs.Labels.{labels_read, length_read}
use Rattle.labels.proofs.Listing.{labels_append}
use Rattle.nondeterminism.specs.Nondeterminism.{is_nfa}
use Rattle.output.specs.Left.{made_number, Room, Leaves}
use Rattle.output.specs.Made.{output_of}
use Rattle.output.specs.Output.{Pattern, outputs, room_first, labels_first, transitions_first}
use Rattle.output.specs.declared.Made.{Made}
use Rattle.refusal.specs.declared.Refusal.{Refusal}
use Rattle.output.proofs.Exact.{states_given, states_number, states_21, transitions_given, transitions_number, transitions_22}
use Rattle.output.proofs.Exact.{inputs_given, checked_given, checked_20, checked_fault, checked_10, checked_number_lem}
use Rattle.output.proofs.Left.{Writable, call_leaves}
use Rattle.refusal.specs.Answer.{refused, given}
use Rattle.sheets.specs.Checked.{sheet_first}
use Rattle.sheets.specs.Fault.{fault}
use Rattle.sheets.specs.Sheet.{state_count, read}
use Rattle.sheets.proofs.Decisions.{given_not}
use Rattle.sheets.proofs.Accepted.{accepted}
use Rattle.sheets.proofs.Meaning.{read_well, read_fits}
use Rattle.totality.specs.Answers.{limited, total_pattern, complement_pattern}
use Rattle.totality.specs.Totality.{totalized, transition_count, flipped, complemented}
use Rattle.totality.proofs.Answers.{limited_given}
use Rattle.totality.proofs.Rows.{length_totalized}
use Rattle.totality.proofs.Totalized.{totalized_well, complemented_well}

-- the pattern P within the limits, or 21 or 22
module _ (P : Pattern) where
  limited_fits : (Q : Pattern) → limited P ≡ given Q → Fits P.automaton
  unfolding limited
  limited_fits Q e =
      let (h, t) = (states_given P.automaton (transitions_first P.automaton (given P)) Q).0 e in
      record { few_states = h; few_transitions_lem = ((transitions_given P.automaton (given P) Q).0 t).0 }

  only_22 : (m : ℕ) → (m ≡ 22 → ⊥) → transitions_first P.automaton (given P) ≡ refused m → ⊥
  only_22 m other e = given_not _ _ ((transitions_number P.automaton (given P) m other).0 e).1

  limited_21 : (limited P ≡ refused 21) ↔ (most_states < P.automaton.size)
  unfolding limited
  limited_21 = states_21 P.automaton (transitions_first P.automaton (given P)) (only_22 21 (λ z. omega arith))

  limited_22 : (limited P ≡ refused 22) ↔ ((P.automaton.size ≤ most_states) × (most_transitions < length P.automaton.transitions))
  unfolding limited
  limited_22 =
      let p = states_number P.automaton (transitions_first P.automaton (given P)) 22 (λ z. omega arith) in
      let q = transitions_22 P.automaton (given P) (given_not _ _) in
      (λ e. let (h, t) = p.0 e in (h, q.0 t), λ (h, l). p.1 (h, q.1 l))

  limited_other : (m : ℕ) → (m ≡ 21 → ⊥) → (m ≡ 22 → ⊥) → limited P ≡ refused m → ⊥
  unfolding limited
  limited_other m s t e = only_22 m t ((states_number P.automaton (transitions_first P.automaton (given P)) m s).0 e).1

-- the contract of a call on the sheet s with the labels b, where the result is P
module _ (s b : List ℕ) (P : Pattern) (o l o' l' : List ℕ) (r : Result Made Refusal) (call : output_of r o' l' ≡ outputs o l (room_first o l (sheet_first s (labels_first (state_count s) b (limited P))))) where
  pub made_lengths : (made_number r ≡ 0) ↔ (Room o l × (fault s ≡ 0) × (labels_fault (state_count s) b ≡ 0) × Fits P.automaton)
  made_lengths =
      let c = checked_given s b (limited P) o l o' l' r call in (
        λ h. let (k, f, g, x) = c.0 h in (k, f, g, limited_fits P x.0 x.1),
        λ (k, f, g, i). c.1 (k, f, g, (P, limited_given P i.few_states i.few_transitions_lem)),
      )

  pub made_20 : (made_number r ≡ 20) ↔ (Room o l → ⊥)
  made_20 = checked_20 s b (limited P) o l o' l' r call (limited_other P 20 (λ z. omega arith) (λ z. omega arith))

  pub made_fault : (m : ℕ) → 1 ≤ m → m ≤ 6 → (made_number r ≡ m) ↔ (Room o l × (fault s ≡ m))
  made_fault m i j = checked_fault s b (limited P) o l o' l' r call m i j (limited_other P m (λ z. omega arith) (λ z. omega arith))

  pub made_10 : (made_number r ≡ 10) ↔ (Room o l × (fault s ≡ 0) × (labels_fault (state_count s) b ≡ 10))
  made_10 = checked_10 s b (limited P) o l o' l' r call (limited_other P 10 (λ z. omega arith) (λ z. omega arith))

  -- 21 and 22, by a condition for them that holds of an accepted sheet
  pub made_limit : (m : ℕ) → 20 < m → (X : Type 0) → (fault s ≡ 0 → (limited P ≡ refused m) ↔ X) → (made_number r ≡ m) ↔ (Room o l × (fault s ≡ 0) × (labels_fault (state_count s) b ≡ 0) × X)
  made_limit m over X exact =
      let c = checked_number_lem s b (limited P) o l o' l' r call m (omega arith) (λ z. omega arith) (λ z. omega arith) in
      (λ h. let (k, f, g, e) = c.0 h in (k, f, g, (exact f).0 e), λ (k, f, g, x). c.1 (k, f, g, (exact f).1 x))

  -- where lengths are answered, P stands in the outputs, if it can be written
  module _ (w n : ℕ) (lengths : r ≡ Ok (record { words = w; bytes = n })) where
    pub made_accepted : fault s ≡ 0
    made_accepted = (made_lengths.0 (ap made_number lengths)).1

    pub made_leaves : (fault s ≡ 0 → labels_fault (state_count s) b ≡ 0 → Fits P.automaton → Writable P) → Leaves o l o' l' w n P.automaton P.labels
    made_leaves writable =
        let (k, f, g, i) = made_lengths.0 (ap made_number lengths) in
        let e = (inputs_given s b (limited P) P).1 (f, g, limited_given P i.few_states i.few_transitions_lem) in
        call_leaves o l o' l' r (sheet_first s (labels_first (state_count s) b (limited P))) call w n lengths P e (writable f g i)

-- `sink` behind labels is a label more
with_sink : {ls : List (List ℕ)} → AllLabels ls → AllLabels (ls ++ sink_label ∷ [])
with_sink a = labels_append a (more {l = sink_label} (record { some = omega arith; short = omega arith }) none)

-- an accepted sheet s, and its labels b
module _ (lower upper : ℕ) (s b : List ℕ) (f : fault s ≡ 0) where
  total_size : (total_pattern lower upper (read s) (read_labels b)).automaton.size ≡ state_count s + 1
  unfolding total_pattern totalized
  total_size = refl

  total_count : length (total_pattern lower upper (read s) (read_labels b)).automaton.transitions ≡ transition_count lower upper (read s)
  unfolding total_pattern transition_count
  total_count = length_totalized lower upper (read s) (read_well s (accepted s f))

  -- totalizing has 21 exactly where there are 256 states, and 22 exactly where there are fewer and over 2,048 transitions
  pub total_21 : (limited (total_pattern lower upper (read s) (read_labels b)) ≡ refused 21) ↔ (state_count s ≡ 256)
  total_21 =
      let p = limited_21 (total_pattern lower upper (read s) (read_labels b)) in
      (λ e. omega (arith, (accepted s f).few_states, total_size, p.0 e), λ c. p.1 (rw total_size (omega arith)))

  pub total_22 : (limited (total_pattern lower upper (read s) (read_labels b)) ≡ refused 22) ↔ ((state_count s < 256) × (2048 < transition_count lower upper (read s)))
  total_22 =
      let p = limited_22 (total_pattern lower upper (read s) (read_labels b)) in (
        λ e. let (h, l) = p.0 e in (omega (arith, total_size, h), omega (arith, total_count, l)),
        λ (h, l). p.1 (rw total_size (omega arith), rw total_count l),
      )

  module _ (t : Bool) (e : is_nfa lower upper (read s) ≡ t) where
    complement_size : (complement_pattern lower upper (read s) (read_labels b)).automaton.size ≡ cond t (state_count s + 1) (state_count s)
    unfolding complement_pattern complemented flipped
    complement_size = rw e (go t)
      where
        go : (t : Bool) → (cond t (totalized lower upper (read s)) (read s)).size ≡ cond t (state_count s + 1) (state_count s)
        go true = unfold totalized in refl
        go false = refl

    complement_count : length (complement_pattern lower upper (read s) (read_labels b)).automaton.transitions ≡ cond t (transition_count lower upper (read s)) (length (read s).transitions)
    unfolding complement_pattern complemented flipped
    complement_count = rw e (go t)
      where
        go : (t : Bool) → length (cond t (totalized lower upper (read s)) (read s)).transitions ≡ cond t (transition_count lower upper (read s)) (length (read s).transitions)
        go true = unfold transition_count in length_totalized lower upper (read s) (read_well s (accepted s f))
        go false = refl

  -- the complement has 21 and 22 only where it totalizes
  pub complemented_21 : (limited (complement_pattern lower upper (read s) (read_labels b)) ≡ refused 21) ↔ ((is_nfa lower upper (read s) ≡ true) × (state_count s ≡ 256))
  complemented_21 =
      let P = complement_pattern lower upper (read s) (read_labels b) in
      let few = (accepted s f).few_states in (
        λ e.
            let p = (limited_21 P).0 e in
            ⊎_elim (λ t. (t, omega (arith, few, p, complement_size true t))) (λ t. absurd (omega (arith, few, p, complement_size false t))) (test (is_nfa lower upper (read s))),
        λ (t, c). (limited_21 P).1 (rw (complement_size true t) (omega arith)),
      )

  pub complemented_22 : (limited (complement_pattern lower upper (read s) (read_labels b)) ≡ refused 22) ↔ ((is_nfa lower upper (read s) ≡ true) × (state_count s < 256) × (2048 < transition_count lower upper (read s)))
  complemented_22 =
      let P = complement_pattern lower upper (read s) (read_labels b) in
      let few = (read_fits s (accepted s f)).few_transitions_lem in (
        λ e.
            let p = (limited_22 P).0 e in
            ⊎_elim (λ t. (t, omega (arith, p.0, complement_size true t), omega (arith, p.1, complement_count true t))) (λ t. absurd (omega (arith, few, p.1, complement_count false t))) (test (is_nfa lower upper (read s))),
        λ (t, h, l). (limited_22 P).1 (rw (complement_size true t) (omega arith), rw (complement_count true t) l),
      )

  -- both can be written
  module _ (c : lower ≤ upper) (g : labels_fault (state_count s) b ≡ 0) where
    sink_each : length (read_labels b ++ sink_label ∷ []) ≡ state_count s + 1
    sink_each = length-append (read_labels b) (sink_label ∷ []) ∙ ap (λ n. n + 1) (length_read (state_count s) b g)

    pub total_writable : Fits (total_pattern lower upper (read s) (read_labels b)).automaton → Writable (total_pattern lower upper (read s) (read_labels b))
    unfolding total_pattern
    total_writable h =
        record {
          well = totalized_well lower upper (read s) (read_well s (accepted s f)) c;
          fits = h;
          labels = with_sink (labels_read (state_count s) b g);
          each = unfold totalized in sink_each;
        }

    pub complement_writable : Fits (complement_pattern lower upper (read s) (read_labels b)).automaton → Writable (complement_pattern lower upper (read s) (read_labels b))
    unfolding complement_pattern
    complement_writable h =
        record {
          well = complemented_well lower upper (read s) c (read_well s (accepted s f));
          fits = h;
          labels = all (is_nfa lower upper (read s));
          each = each (is_nfa lower upper (read s)) refl;
        }
      where
        all : (t : Bool) → AllLabels (cond t (read_labels b ++ sink_label ∷ []) (read_labels b))
        all true = with_sink (labels_read (state_count s) b g)
        all false = labels_read (state_count s) b g

        each : (t : Bool) → is_nfa lower upper (read s) ≡ t → length (cond t (read_labels b ++ sink_label ∷ []) (read_labels b)) ≡ (complemented lower upper (read s)).size
        each true e = sink_each ∙ sym (complement_size true e)
        each false e = length_read (state_count s) b g ∙ sym (complement_size false e)
