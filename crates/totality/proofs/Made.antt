-- The results that the code makes: too large ones, the totalized sheet, the flipped one, and the complement.
use Rattle.std.proofs.Common.{Result, Ok, Err}
use Prim.Native.Nat.{ℕ, suc, ◌+◌, ◌-◌, ◌≤◌, ◌<◌}
use mathlib.Core.Bool.{Bool, true, false}
use mathlib.Core.List.{List, [], ◌∷◌, ◌++◌}
use mathlib.Core.Path.{◌≡◌, refl, sym, ◌∙◌, ap}
use native.Mathlib.Omega.{arith}
use mir.Syntax.{w64}
use mir.Val.{Fits}
use borrow.Author.Rules.{rules}
use lib.ListN.{length, take, drop, length-drop}
use lib.Seq.{drop_at}
use Rattle.stores.specs.Written.{Written}
use Rattle.lists.proofs.Parts.{part_all}
use Rattle.stores.proofs.Written.{written_append, written_length}
use Rattle.automata.specs.Automaton.{Automaton, states}
use Rattle.automata.specs.Records.{write_records}
use Rattle.automata.proofs.Records.{length_read}
use Rattle.labels.specs.Labels.{labels_fault, label_count, write_labels}
use Rattle.labels.specs.Forms.{sink_label}
use Rattle.labels.proofs.Labels.{label_list}
use Rattle.labels.proofs.Places.{few_count}
use Rattle.nondeterminism.specs.Nondeterminism.{is_nfa, holes_in}
use Rattle.nondeterminism.specs.inner.Holes.{HolesInputs}
use Rattle.nondeterminism.proofs.States.{holes_bound, inputs_after}
use Rattle.output.specs.declared.Made.{Made}
use Rattle.refusal.specs.declared.Refusal.{Refusal}
use Rattle.output.specs.Made.{output_of}
use Rattle.output.specs.Output.{outputs}
use Rattle.output.proofs.Answers.{made_given}
use Rattle.refusal.specs.declared.Refusal.TheVariants.{State}
use Rattle.refusal.specs.declared.StateRefusal.TheVariants.{States, Transitions}
use Rattle.refusal.specs.Answer.{given}
use Rattle.sheets.specs.inner.Accepted.{Accepted, record_count}
use Rattle.sheets.specs.Sheet.{state_count, records_at, read, write}
use Rattle.sheets.proofs.Meaning.{read_well, read_fits, write_read_sheet}
use Rattle.totality.specs.Answers.{limited, complement_pattern}
use Rattle.totality.specs.inner.Answers.{total_pattern_flipped_if, flipped_pattern}
use Rattle.totality.specs.inner.Merging.{flipped_if, head_words, TotalizedRoom}
use Rattle.totality.specs.Totality.{flipped, totalized, complemented, transition_count}
use Rattle.totality.proofs.Rows.{length_totalized}
use Rattle.totality.proofs.Writing.{head_length}
use Rattle.totality.proofs.Answers.{limited_states, limited_transitions, limited_given}

-- flipping keeps states and transitions
flipped_if_size : (b : Bool) (A : Automaton) → (flipped_if b A).size ≡ A.size
unfolding flipped
flipped_if_size true A = refl
flipped_if_size false A = refl

flipped_if_transitions : (b : Bool) (A : Automaton) → (flipped_if b A).transitions ≡ A.transitions
unfolding flipped
flipped_if_transitions true A = refl
flipped_if_transitions false A = refl

-- the count of the totalized sheet's transitions
module _ (lower upper : ℕ) (s starts holes : List ℕ) (r : HolesInputs s starts holes) (k : ℕ) (e : k ≡ length (holes_in lower upper (read s) (states (state_count s)))) where
  count_is : record_count s + k + 1 ≡ transition_count lower upper (read s)
  unfolding transition_count
  count_is = omega (arith, e, length_read (record_count s) (drop (records_at s) s) (simp length-drop (omega (arith, r.accepted.whole))))

  pub count_fits : Fits w64 (record_count s + k)
  count_fits = record { fits = omega (arith, e, holes_bound lower upper s starts holes r, r.accepted.few_records) }

  pub total_fits : Fits w64 (record_count s + k + 1)
  total_fits = record { fits = omega (arith, e, holes_bound lower upper s starts holes r, r.accepted.few_records) }

  pub totalized_room : (o : List ℕ) → state_count s ≤ 255 → record_count s + k + 1 ≤ 2048 → 10500 ≤ length o → TotalizedRoom lower upper s o (record_count s + k + 1)
  totalized_room o h m g = record { few_states = omega arith; few_transitions_lem = m; counted = count_is; room = g }

-- the totalized sheet
module _ (b : Bool) (lower upper : ℕ) (s : List ℕ) (ls : List (List ℕ)) (o l : List ℕ) where
  size_is : (total_pattern_flipped_if b lower upper (read s) ls).automaton.size ≡ state_count s + 1
  unfolding total_pattern_flipped_if totalized
  size_is = flipped_if_size b (totalized lower upper (read s))

  pub total_states : 255 < state_count s → output_of (Err (State States)) o l ≡ outputs o l (limited (total_pattern_flipped_if b lower upper (read s) ls))
  unfolding outputs
  total_states h = ap (outputs o l) (sym (limited_states (total_pattern_flipped_if b lower upper (read s) ls) (rw size_is (omega arith))))

  module _ (starts holes : List ℕ) (r : HolesInputs s starts holes) (k : ℕ) (e : k ≡ length (holes_in lower upper (read s) (states (state_count s)))) (h : state_count s ≤ 255) where
    transitions_are : length (total_pattern_flipped_if b lower upper (read s) ls).automaton.transitions ≡ record_count s + k + 1
    unfolding total_pattern_flipped_if transition_count
    transitions_are =
        ap length (flipped_if_transitions b (totalized lower upper (read s))) ∙ length_totalized lower upper (read s) (read_well s r.accepted) ∙ sym (count_is lower upper s starts holes r k e)

    pub total_transitions : 2048 < record_count s + k + 1 → output_of (Err (State Transitions)) o l ≡ outputs o l (limited (total_pattern_flipped_if b lower upper (read s) ls))
    unfolding outputs
    total_transitions g = ap (outputs o l) (sym (limited_transitions (total_pattern_flipped_if b lower upper (read s) ls) (rw size_is (omega arith)) (rw transitions_are g)))

    pub total_given : record_count s + k + 1 ≤ 2048 → (o' l' : List ℕ) (w y : ℕ)
        → Written o 0 (write (flipped_if b (totalized lower upper (read s)))) o' w → Written l 0 (write_labels (ls ++ sink_label ∷ [])) l' y
        → output_of (Ok (record { words = w; bytes = y })) o' l' ≡ outputs o l (limited (total_pattern_flipped_if b lower upper (read s) ls))
    unfolding total_pattern_flipped_if
    total_given g o' l' w y p q =
        made_given o l o' l' w y (total_pattern_flipped_if b lower upper (read s) ls) p q
        ∙ ap (outputs o l) (sym (limited_given (total_pattern_flipped_if b lower upper (read s) ls) (rw size_is (omega arith)) (rw transitions_are g)))

pub ruleset total_made_laws = (total_states, count_fits, total_fits, totalized_room, total_transitions, total_given, inputs_after, rules)

-- what stands behind the accept words of a sheet
behind_accepts : (s : List ℕ) → Accepted s → drop (state_count s + 3) s ≡ length (read s).transitions ∷ write_records (read s).transitions
behind_accepts s a =
    let three : state_count s + 3 ≡ suc (suc (suc (state_count s))) = omega arith in
    ap (drop (state_count s + 3)) (sym (write_read_sheet s a)) ∙ ap (λ k. drop k (write (read s))) three ∙ drop_at (read s).accept _ (state_count s) (read_well s a).accepts

-- the sheet with its acceptance flipped
module _ (s : List ℕ) (a : Accepted s) (o o₁ : List ℕ) (e₁ : ℕ) (head : Written o 0 (head_words true s (state_count s)) o₁ e₁) where
  pub rest_room : 10500 ≤ length o → e₁ + length (take (length s - (state_count s + 3)) (drop (state_count s + 3) s)) ≤ length o₁
  rest_room r =
      rw (part_all (state_count s + 3) s)
      (omega (arith, head.behind, head_length s a true (state_count s), written_length o o₁ _ 0 e₁ head, length-drop (state_count s + 3) s, a.whole, a.few_states, a.few_records))

  module _ (o₂ : List ℕ) (w : ℕ) (rest : Written o₁ e₁ (take (length s - (state_count s + 3)) (drop (state_count s + 3) s)) o₂ w) where
    flipped_written : Written o 0 (write (flipped (read s))) o₂ w
    unfolding flipped head_words
    flipped_written = written_append o o₁ o₂ (head_words true s (state_count s)) _ 0 e₁ w head (rw (part_all (state_count s + 3) s, behind_accepts s a) at rest)

    pub flipped_given : (l l' : List ℕ) (ls : List (List ℕ)) (y : ℕ) → Written l 0 (write_labels ls) l' y → output_of (Ok (record { words = w; bytes = y })) o₂ l' ≡ outputs o l (given (flipped_pattern (read s) ls))
    unfolding flipped_pattern
    flipped_given l l' ls y q = made_given o l o₂ l' w y (flipped_pattern (read s) ls) flipped_written q

-- what `copy_all` requires
pub labels_few : (s b : List ℕ) → Accepted s → labels_fault (state_count s) b ≡ 0 → label_count b ≤ 256
labels_few s b a h = few_count (state_count s) b h a.few_states

pub ruleset flipped_laws = (rest_room, flipped_given, labels_few, label_list, rules)

-- the results in the terms of the operations
module _ (m : Result Made Refusal) (o l o' l' : List ℕ) (lower upper : ℕ) (s : List ℕ) (ls : List (List ℕ)) where
  module _ (b : Bool) (f : b ≡ is_nfa lower upper (read s)) where
    pub complement_totalized : b ≡ true → output_of m o' l' ≡ outputs o l (limited (total_pattern_flipped_if true lower upper (read s) ls))
        → output_of m o' l' ≡ outputs o l (limited (complement_pattern lower upper (read s) ls))
    unfolding total_pattern_flipped_if complement_pattern complemented
    complement_totalized h e = rw (← f, h) e

    pub complement_flipped : b ≡ false → Accepted s → output_of m o' l' ≡ outputs o l (given (flipped_pattern (read s) ls))
        → output_of m o' l' ≡ outputs o l (limited (complement_pattern lower upper (read s) ls))
    unfolding flipped_pattern complement_pattern complemented flipped
    complement_flipped h a e =
        let r = read_fits s a in
        rw (← f, h) (e ∙ ap (outputs o l) (sym (limited_given (flipped_pattern (read s) ls) r.few_states r.few_transitions_lem)))

pub ruleset complement_laws = (complement_totalized, complement_flipped, rules)
