-- The laws of writing whole sheets: accept words, the front of a sheet, the totalized sheet and the flipped copy.
use Prim.Native.Nat.{ℕ, ◌+◌, ◌-◌, ◌*◌, ◌≤◌, ◌<◌}
use mathlib.Core.Bool.{Bool, true, false}
use mathlib.Core.List.{List, [], ◌∷◌, ◌++◌, map, map-append, map-id, append_assoc}
use mathlib.Core.Path.{◌≡◌, refl, sym, ◌∙◌}
use native.Mathlib.Omega.{arith}
use borrow.Author.Rules.{rules}
use borrow.Author.Tests.{eq-eqb, ne_eqb}
use lib.ListN.{length, get_or, take, drop, set, length-append, length-map}
use Rattle.stores.specs.Written.{Written}
use Rattle.lists.proofs.Parts.{take_more}
use Rattle.stores.proofs.Written.{written_append, written_cons, written_more, written_length}
use Rattle.automata.specs.Automaton.{Automaton, states}
use Rattle.automata.specs.Records.{write_records}
use Rattle.automata.proofs.Records.{length_write, write_append}
use Rattle.nondeterminism.specs.inner.Holes.{HolesInputs}
use Rattle.sheets.specs.inner.Accepted.{Accepted}
use Rattle.sheets.specs.Sheet.{state_count, read, write}
use Rattle.sheets.proofs.Meaning.{read_well}
use Rattle.totality.specs.inner.Merging.{flipped_word_if, flipped_if, head_words, front_words, TotalizedRoom}
use Rattle.totality.proofs.Rows.{length_all, length_totalized}
use Rattle.totality.specs.Totality.{filled_in, loop_on, flipped, totalized, transition_count}

-- the accept word that is written
module _ (b : Bool) (x : ℕ) where
  pub word_accepts : b ≡ true → x ≡ 0 → 1 ≡ flipped_word_if b x
  word_accepts p q = rw (p, eq-eqb x 0 q)

  pub word_rejects : b ≡ true → (x ≡ 0 → ⊥) → 0 ≡ flipped_word_if b x
  word_rejects p q = rw (p, ne_eqb x 0 q)

  pub word_same : b ≡ false → x ≡ flipped_word_if b x
  word_same p = rw p

pub ruleset word_laws = (word_accepts, word_rejects, word_same, rules)

-- i accept words are written
module _ (o₀ o words : List ℕ) (at end i : ℕ) (b : Bool) (w : Written o₀ at (map (flipped_word_if b) (take i words)) o end) where
  pub accepts_next : i < length words → (x : ℕ) → x ≡ flipped_word_if b (get_or words i 0) → Written o₀ at (map (flipped_word_if b) (take (i + 1) words)) (set o end x) (end + 1)
  accepts_next h x e = rw (take_more words i h, e, map-append (flipped_word_if b) (take i words)) (written_more o₀ o _ at end (flipped_word_if b (get_or words i 0)) w)

pub ruleset accepts_laws = (accepts_next, rules)

-- the front of a sheet
pub head_written : (o m o' s : List ℕ) (at n r : ℕ) (b : Bool) → Written o 0 (1 ∷ get_or s 1 0 ∷ n ∷ []) m at → Written m at (map (flipped_word_if b) (take (state_count s + 3 - 3) (drop 3 s))) o' r
    → Written o 0 (head_words b s n) o' r
unfolding head_words
head_written o m o' s at n r b v w =
    let e : state_count s + 3 - 3 ≡ state_count s = omega arith in
    written_append o m o' (1 ∷ get_or s 1 0 ∷ n ∷ []) _ 0 at r v (rw e at w)

pub ruleset head_laws = (head_written, rules)

module _ (s : List ℕ) (a : Accepted s) (b : Bool) where
  pub head_length : (n : ℕ) → length (head_words b s n) ≡ state_count s + 3
  unfolding head_words
  head_length n = omega (arith, length-map (read s).accept (flipped_word_if b), (read_well s a).accepts)

  front_length : (count : ℕ) → length (front_words b s count) ≡ state_count s + 5
  unfolding front_words
  front_length count = omega (arith, head_length (state_count s + 1), length-append (head_words b s (state_count s + 1)) (flipped_word_if b 0 ∷ count ∷ []))

  -- the front of the totalized sheet, piece by piece
  module _ (o o₁ : List ℕ) (e₁ : ℕ) (head : Written o 0 (head_words b s (state_count s + 1)) o₁ e₁) where
    pub sink_room : state_count s < 256 → 10500 ≤ length o → e₁ < length o₁
    sink_room l r = omega (arith, head.behind, head_length (state_count s + 1), written_length o o₁ _ 0 e₁ head)

    module _ (x : ℕ) (o₂ : List ℕ) (e₂ : ℕ) (word : Written o₁ e₁ (x ∷ []) o₂ e₂) where
      pub count_room : state_count s < 256 → 10500 ≤ length o → e₂ < length o₂
      count_room l r = omega (arith, head.behind, word.behind, head_length (state_count s + 1), written_length o o₁ _ 0 e₁ head, written_length o₁ o₂ _ e₁ e₂ word)

      pub front_written : x ≡ flipped_word_if b 0 → (count : ℕ) (o₃ : List ℕ) (e₃ : ℕ) → Written o₂ e₂ (count ∷ []) o₃ e₃ → Written o 0 (front_words b s count) o₃ e₃
      unfolding front_words
      front_written q count o₃ e₃ w = written_append o o₁ o₃ _ (flipped_word_if b 0 ∷ count ∷ []) 0 e₁ e₃ head (written_cons o₁ o₂ o₃ (count ∷ []) e₁ e₂ e₃ (flipped_word_if b 0) (rw q at word) w)

pub ruleset front_laws = (sink_room, count_room, front_written, rules)

-- the sheet of an automaton whose acceptance is flipped or not
write_flipped_if : (b : Bool) (A : Automaton) → write (flipped_if b A) ≡ 1 ∷ A.start ∷ A.size ∷ (map (flipped_word_if b) A.accept ++ (length A.transitions ∷ write_records A.transitions))
unfolding flipped
write_flipped_if true A = refl
write_flipped_if false A = rw (map-id A.accept)

-- the totalized sheet, piece by piece
module _ (s starts holes : List ℕ) (inputs : HolesInputs s starts holes) (lower upper : ℕ) (o : List ℕ) (count : ℕ) (small : TotalizedRoom lower upper s o count) where
  pub total_few : (state_count s < 256) × (10500 ≤ length o)
  total_few = (small.few_states, small.room)

  rows_length : length (write_records (filled_in lower upper (read s) (states (state_count s)))) + 5 ≡ 5 * count
  unfolding transition_count
  rows_length = omega (arith, small.counted, length_write (filled_in lower upper (read s) (states (state_count s))), length_all lower upper (read s) (read_well s inputs.accepted))

  module _ (b : Bool) (o₁ : List ℕ) (e₁ : ℕ) (front : Written o 0 (front_words b s count) o₁ e₁) where
    pub rows_room : e₁ + length (write_records (filled_in lower upper (read s) (states (state_count s)))) ≤ length o₁
    rows_room = omega (arith, front.behind, front_length s inputs.accepted b count, written_length o o₁ _ 0 e₁ front, rows_length, small.few_states, small.few_transitions_lem, small.room)

    module _ (o₂ : List ℕ) (e₂ : ℕ) (filled : Written o₁ e₁ (write_records (filled_in lower upper (read s) (states (state_count s)))) o₂ e₂) where
      pub loop_room : e₂ + 5 ≤ length o₂
      loop_room =
          omega (
            arith,
            front.behind,
            filled.behind,
            front_length s inputs.accepted b count,
            written_length o o₁ _ 0 e₁ front,
            written_length o₁ o₂ _ e₁ e₂ filled,
            rows_length,
            small.few_states,
            small.few_transitions_lem,
            small.room,
          )

      pub total_written : (o₃ : List ℕ) (e₃ : ℕ) → Written o₂ e₂ (state_count s ∷ 1 ∷ lower ∷ upper ∷ state_count s ∷ []) o₃ e₃ → Written o 0 (write (flipped_if b (totalized lower upper (read s)))) o₃ e₃
      unfolding totalized front_words head_words transition_count write_records
      total_written o₃ e₃ last =
          let F = filled_in lower upper (read s) (states (state_count s)) in
          let l = loop_on lower upper (state_count s) in
          let m : length (F ++ l ∷ []) ≡ count = length_totalized lower upper (read s) (read_well s inputs.accepted) ∙ sym small.counted in
          let all = written_append o o₂ o₃ _ _ 0 e₂ e₃ (written_append o o₁ o₂ _ _ 0 e₁ e₂ front filled) last in
          let e : write (flipped_if b (totalized lower upper (read s))) ≡ (front_words b s count ++ write_records F) ++ write_records (l ∷ []) =
          write_flipped_if b (totalized lower upper (read s)) ∙ rw (map-append (flipped_word_if b) (read s).accept (0 ∷ []), m, write_append F (l ∷ [])) (simp append_assoc refl) in
          rw e all

pub ruleset total_laws = (total_few, rows_room, loop_room, total_written, rules)
