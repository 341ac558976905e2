-- What is proved of `totalize` and `complement` (document 01, "Product, totality, complement, emptiness").
--
-- Of a well-formed automaton, as an accepted sheet reads; `lower` and `upper` are the least and the greatest symbol:
--   totalize_words         totalizing keeps the words
--   totalize_total         and then every symbol has a transition in every state
--   complement_words       where no epsilon and no overlap stood, the complement accepts the other words
-- Of the call of `totalize` on the sheet s with the labels b, from its contract:
--   totalize_left          where lengths are answered, the totalized automaton and its labels stand in the outputs
--   totalize_left_words    the sheet left accepts the words that s accepts
--   totalize_left_total    in it every symbol has a transition in every state
--   totalize_lengths       where lengths are answered, exactly
--   totalize_20, totalize_fault, totalize_10, totalize_21, totalize_22
--                          where each number is answered, exactly
--   totalize_unchanged     a refusal leaves both outputs as they were
-- Of the call of `complement` likewise:
--   complement_left        where lengths are answered, the complement and its labels stand in the outputs
--   complement_left_words  where s has no epsilon and no overlap, the sheet left accepts the other words
--   complement_lengths     where lengths are answered, exactly
--   complement_20, complement_fault, complement_10, complement_21, complement_22
--                          where each number is answered, exactly
--   complement_unchanged   a refusal leaves both outputs as they were
use Rattle.std.proofs.Common.{Result, Ok}
use Prim.Native.Nat.{ℕ, ◌≤◌, ◌<◌}
use mathlib.Core.Bool.{true, cond}
use mathlib.Core.List.{List, [], ◌∷◌, ◌++◌}
use mathlib.Core.Logic.{◌↔◌}
use mathlib.Core.Path.{◌≡◌, sym, subst}
use native.Mathlib.Omega.{arith}
use lib.ListN.{take}
use Rattle.automata.specs.Automaton.{Automaton, Accepts, Word, EpsilonFree}
use Rattle.automata.specs.WellFormed.{WellFormed, Fits, last_symbol}
use Rattle.labels.specs.Forms.{sink_label}
use Rattle.labels.specs.Labels.{labels_fault, read_labels}
use Rattle.nondeterminism.specs.Nondeterminism.{is_nfa, CompleteAutomaton}
use Rattle.output.specs.declared.Made.{Made}
use Rattle.refusal.specs.declared.Refusal.{Refusal}
use Rattle.output.specs.Left.{made_number, Room, Leaves, Unchanged}
use Rattle.output.specs.Made.{output_of}
use Rattle.output.specs.Output.{Pattern, outputs}
use Rattle.output.proofs.Left.{call_refused}
use Rattle.ranges.specs.Span.{OverlapFree}
use Rattle.sheets.specs.Fault.{fault}
use Rattle.sheets.specs.Sheet.{state_count, read}
use Rattle.sheets.proofs.Accepted.{accepted}
use Rattle.sheets.proofs.Meaning.{read_well}
use Rattle.totality.specs.Answers.{total_pattern, complement_pattern, totalize_answer, complement_answer}
use Rattle.totality.specs.Totality.{totalized, transition_count, complemented}
use Rattle.totality.proofs.Limits.{made_lengths, made_20, made_fault, made_10, made_limit, made_accepted}
use Rattle.totality.proofs.Limits.{made_leaves, total_21, total_22, complemented_21, complemented_22, total_writable, complement_writable}
use Rattle.totality.proofs.Words.{words_kept, total_complete, other_words}

module _ (lower upper : ℕ) (A : Automaton) (v : WellFormed A) where
  -- totalizing keeps the words
  pub totalize_words : (w : List ℕ) → Accepts (totalized lower upper A) w ↔ Accepts A w
  totalize_words = words_kept lower upper A v

  -- and then every symbol has a transition in every state
  pub totalize_total : CompleteAutomaton lower upper (totalized lower upper A)
  totalize_total = total_complete lower upper A v

  -- where no epsilon and no overlap stood, the complement accepts the other words
  pub complement_words : lower ≤ upper → EpsilonFree A → OverlapFree A → (w : List ℕ) → Word lower upper w → Accepts (complemented lower upper A) w ↔ (Accepts A w → ⊥)
  complement_words = other_words lower upper A v

-- the call of `totalize` on the sheet s with the labels b: r is its answer, o and l are the outputs before it, o' and l' after it
module _ (s b o l o' l' : List ℕ) (r : Result Made Refusal) (call : output_of r o' l' ≡ outputs o l (totalize_answer 0 last_symbol s b o l)) where
  abbrev total : Pattern
  total = total_pattern 0 last_symbol (read s) (read_labels b)

  module _ (w n : ℕ) (lengths : r ≡ Ok (record { words = w; bytes = n })) where
    well_read : WellFormed (read s)
    unfolding totalize_answer
    well_read = read_well s (accepted s (made_accepted s b total o l o' l' r call w n lengths))

    -- the totalized automaton stands in the one output, and the labels of the input and `sink` in the other
    pub totalize_left : Leaves o l o' l' w n (totalized 0 last_symbol (read s)) (read_labels b ++ sink_label ∷ [])
    unfolding totalize_answer total_pattern
    totalize_left = made_leaves s b total o l o' l' r call w n lengths (λ f. total_writable 0 last_symbol s b f (omega arith))

    -- the sheet left accepts the words that the input accepts
    pub totalize_left_words : (v : List ℕ) → Accepts (read (take w o')) v ↔ Accepts (read s) v
    totalize_left_words v = subst (λ (A : Automaton). Accepts A v ↔ Accepts (read s) v) (sym totalize_left.reads) (totalize_words 0 last_symbol (read s) well_read v)

    -- in it every symbol has a transition in every state
    pub totalize_left_total : CompleteAutomaton 0 last_symbol (read (take w o'))
    totalize_left_total = subst (CompleteAutomaton 0 last_symbol) (sym totalize_left.reads) (totalize_total 0 last_symbol (read s) well_read)

  -- nothing is refused exactly where there is room, nothing has a fault and the result is within the limits
  pub totalize_lengths : (made_number r ≡ 0) ↔ (Room o l × (fault s ≡ 0) × (labels_fault (state_count s) b ≡ 0) × Fits (totalized 0 last_symbol (read s)))
  unfolding totalize_answer total_pattern
  totalize_lengths = made_lengths s b total o l o' l' r call

  -- 20 exactly where an output is too short
  pub totalize_20 : (made_number r ≡ 20) ↔ (Room o l → ⊥)
  unfolding totalize_answer
  totalize_20 = made_20 s b total o l o' l' r call

  -- 1 to 6 exactly where there is room and the sheet has that fault
  pub totalize_fault : (m : ℕ) → 1 ≤ m → m ≤ 6 → (made_number r ≡ m) ↔ (Room o l × (fault s ≡ m))
  unfolding totalize_answer
  totalize_fault = made_fault s b total o l o' l' r call

  -- 10 exactly where there is room, the sheet has no fault and the labels have one
  pub totalize_10 : (made_number r ≡ 10) ↔ (Room o l × (fault s ≡ 0) × (labels_fault (state_count s) b ≡ 10))
  unfolding totalize_answer
  totalize_10 = made_10 s b total o l o' l' r call

  -- 21 exactly where there is room, nothing has a fault and there are 256 states
  pub totalize_21 : (made_number r ≡ 21) ↔ (Room o l × (fault s ≡ 0) × (labels_fault (state_count s) b ≡ 0) × (state_count s ≡ 256))
  unfolding totalize_answer
  totalize_21 = made_limit s b total o l o' l' r call 21 (omega arith) (state_count s ≡ 256) (total_21 0 last_symbol s b)

  -- 22 exactly where there is room, nothing has a fault, and there are fewer than 256 states and over 2,048 transitions
  pub totalize_22 : (made_number r ≡ 22) ↔ (Room o l × (fault s ≡ 0) × (labels_fault (state_count s) b ≡ 0) × (state_count s < 256) × (2048 < transition_count 0 last_symbol (read s)))
  unfolding totalize_answer
  totalize_22 =
      let c = made_limit s b total o l o' l' r call 22 (omega arith) ((state_count s < 256) × (2048 < transition_count 0 last_symbol (read s))) (total_22 0 last_symbol s b) in
      (λ h. let (k, f, g, x) = c.0 h in (k, f, g, x.0, x.1), λ (k, f, g, i, j). c.1 (k, f, g, (i, j)))

  -- a refusal leaves both outputs as they were
  pub totalize_unchanged : (made_number r ≡ 0 → ⊥) → Unchanged o l o' l'
  unfolding totalize_answer
  totalize_unchanged = call_refused o l o' l' r _ call

-- the call of `complement` likewise
module _ (s b o l o' l' : List ℕ) (r : Result Made Refusal) (call : output_of r o' l' ≡ outputs o l (complement_answer 0 last_symbol s b o l)) where
  abbrev complement_pattern_lem : Pattern
  complement_pattern_lem = complement_pattern 0 last_symbol (read s) (read_labels b)

  module _ (w n : ℕ) (lengths : r ≡ Ok (record { words = w; bytes = n })) where
    -- the complement stands in the one output, and the labels of the input in the other, with `sink` where it totalizes
    pub complement_left : Leaves o l o' l' w n (complemented 0 last_symbol (read s)) (cond (is_nfa 0 last_symbol (read s)) (read_labels b ++ sink_label ∷ []) (read_labels b))
    unfolding complement_answer complement_pattern
    complement_left = made_leaves s b complement_pattern_lem o l o' l' r call w n lengths (λ f. complement_writable 0 last_symbol s b f (omega arith))

    -- where the input has no epsilon and no overlap, the sheet left accepts the other words
    pub complement_left_words : EpsilonFree (read s) → OverlapFree (read s) → (v : List ℕ) → Word 0 last_symbol v → Accepts (read (take w o')) v ↔ (Accepts (read s) v → ⊥)
    unfolding complement_answer
    complement_left_words ranges apart v i =
        let well = read_well s (accepted s (made_accepted s b complement_pattern_lem o l o' l' r call w n lengths)) in
        subst (λ (A : Automaton). Accepts A v ↔ (Accepts (read s) v → ⊥)) (sym complement_left.reads) (complement_words 0 last_symbol (read s) well (omega arith) ranges apart v i)

  -- nothing is refused exactly where there is room, nothing has a fault and the result is within the limits
  pub complement_lengths : (made_number r ≡ 0) ↔ (Room o l × (fault s ≡ 0) × (labels_fault (state_count s) b ≡ 0) × Fits (complemented 0 last_symbol (read s)))
  unfolding complement_answer complement_pattern
  complement_lengths = made_lengths s b complement_pattern_lem o l o' l' r call

  -- 20 exactly where an output is too short
  pub complement_20 : (made_number r ≡ 20) ↔ (Room o l → ⊥)
  unfolding complement_answer
  complement_20 = made_20 s b complement_pattern_lem o l o' l' r call

  -- 1 to 6 exactly where there is room and the sheet has that fault
  pub complement_fault : (m : ℕ) → 1 ≤ m → m ≤ 6 → (made_number r ≡ m) ↔ (Room o l × (fault s ≡ m))
  unfolding complement_answer
  complement_fault = made_fault s b complement_pattern_lem o l o' l' r call

  -- 10 exactly where there is room, the sheet has no fault and the labels have one
  pub complement_10 : (made_number r ≡ 10) ↔ (Room o l × (fault s ≡ 0) × (labels_fault (state_count s) b ≡ 10))
  unfolding complement_answer
  complement_10 = made_10 s b complement_pattern_lem o l o' l' r call

  -- 21 exactly where there is room, nothing has a fault, `is_nfa` is true and there are 256 states
  pub complement_21 : (made_number r ≡ 21) ↔ (Room o l × (fault s ≡ 0) × (labels_fault (state_count s) b ≡ 0) × (is_nfa 0 last_symbol (read s) ≡ true) × (state_count s ≡ 256))
  unfolding complement_answer
  complement_21 =
      let c = made_limit s b complement_pattern_lem o l o' l' r call 21 (omega arith) ((is_nfa 0 last_symbol (read s) ≡ true) × (state_count s ≡ 256)) (complemented_21 0 last_symbol s b) in
      (λ h. let (k, f, g, x) = c.0 h in (k, f, g, x.0, x.1), λ (k, f, g, i, j). c.1 (k, f, g, (i, j)))

  -- 22 exactly where there is room, nothing has a fault, `is_nfa` is true, and there are fewer than 256 states and over 2,048 transitions
  pub complement_22 : (made_number r ≡ 22)
      ↔ (Room o l × (fault s ≡ 0) × (labels_fault (state_count s) b ≡ 0) × (is_nfa 0 last_symbol (read s) ≡ true) × (state_count s < 256) × (2048 < transition_count 0 last_symbol (read s)))
  unfolding complement_answer
  complement_22 =
      let c = made_limit s b complement_pattern_lem o l o' l' r call 22 (omega arith) ((is_nfa 0 last_symbol (read s) ≡ true) × (state_count s < 256) × (2048 < transition_count 0 last_symbol (read s))) (complemented_22 0 last_symbol s b) in
      (λ h. let (k, f, g, x) = c.0 h in (k, f, g, x.0, x.1, x.2), λ (k, f, g, i, j, m). c.1 (k, f, g, (i, j, m)))

  -- a refusal leaves both outputs as they were
  pub complement_unchanged : (made_number r ≡ 0 → ⊥) → Unchanged o l o' l'
  unfolding complement_answer
  complement_unchanged = call_refused o l o' l' r _ call
