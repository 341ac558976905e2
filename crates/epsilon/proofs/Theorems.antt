-- What is proved of epsilon elimination (document 01, "Beside the equality").
--
-- Of an automaton whose states are in bounds, as an accepted sheet reads:
--   eliminate_words        the words are kept
--   eliminate_kinds        and so are the accept words that they get
--   eliminate_ranges       no transition is an epsilon
--   eliminate_transitions  each state has the ranges of its closure
--   eliminate_accept       and its acceptance
-- Of the call on the sheet s with the labels b, from its contract:
--   eliminate_left         where lengths are answered, the eliminated automaton and the labels of the input stand in the outputs
--   eliminate_left_words   the sheet left accepts the words that s accepts
--   eliminate_left_ranges  it has no epsilon
--   eliminate_left_states  it has the states and the start of s
--   eliminate_lengths      where lengths are answered, exactly
--   eliminate_20, eliminate_fault, eliminate_10, eliminate_22, eliminate_never_21
--                          where each number is answered, exactly
--   eliminate_unchanged    a refusal leaves both outputs as they were
use Rattle.std.proofs.Common.{Result, Ok}
use Prim.Native.Nat.{ℕ, ◌≤◌, ◌<◌}
use mathlib.Core.List.{List, []}
use mathlib.Core.Logic.{◌↔◌}
use mathlib.Core.Path.{◌≡◌, sym, ◌∙◌, ap, subst}
use native.Mathlib.Omega.{arith}
use lib.ListN.{length, get_or, take}
use Rattle.lists.specs.Lists.{◌∈◌}
use Rattle.automata.specs.Automaton.{Transition, Automaton, Run, Accepts, InBounds, EpsilonFree}
use Rattle.automata.specs.WellFormed.{most_transitions}
use Rattle.labels.specs.Labels.{labels_fault, read_labels}
use Rattle.output.specs.declared.Made.{Made}
use Rattle.refusal.specs.declared.Refusal.{Refusal}
use Rattle.output.specs.Left.{made_number, Room, Leaves, Unchanged}
use Rattle.output.specs.Made.{output_of}
use Rattle.output.specs.Output.{outputs}
use Rattle.output.proofs.Exact.{inputs_given, checked_given, checked_20, checked_fault, checked_10, checked_number_lem}
use Rattle.output.proofs.Left.{call_refused, call_leaves}
use Rattle.sheets.specs.Fault.{fault}
use Rattle.sheets.specs.Sheet.{state_count, read}
use Rattle.sheets.proofs.Accepted.{accepted}
use Rattle.sheets.proofs.Meaning.{read_well}
use Rattle.words.specs.Simulation.{closure, kind}
use Rattle.words.proofs.Closures.{closure_sound, closure_complete}
use Rattle.words.proofs.Kind.{kind_of_least, kind_of_some}
use Rattle.epsilon.specs.Eliminate.{eliminated, eliminated_with, eliminate_answer}
use Rattle.epsilon.specs.Meaning.{ClosureRange}
use Rattle.epsilon.proofs.Members.{eliminated_out, eliminated_in}
use Rattle.epsilon.proofs.Result.{result, behind_given, given_behind, behind_22, behind_other, result_writable}
use Rattle.epsilon.proofs.Runs.{only_ranges, accept_at, words_kept, kinds_kept}

module _ (A : Automaton) (ok : InBounds A) where
  -- the words are kept, and the accept words that they get
  pub eliminate_words : (w : List ℕ) → Accepts (eliminated A) w ↔ Accepts A w
  eliminate_words = words_kept A ok

  pub eliminate_kinds : (w : List ℕ) → kind (eliminated A) w ≡ kind A w
  eliminate_kinds = kinds_kept A ok

  -- there are no epsilons
  pub eliminate_ranges : EpsilonFree (eliminated A)
  eliminate_ranges = only_ranges A ok

  -- each state has the ranges of its closure
  pub eliminate_transitions : (e : Transition) → (e ∈ (eliminated A).transitions) ↔ ((e.from < A.size) × ClosureRange A e)
  eliminate_transitions e = (
    λ m.
        let r = eliminated_out A e m in
        let c = r.1 in
        (r.0, record { source = c.source; «in» = c.in; is_range = c.is_range; reached = closure_sound A ok e.from c.source.from r.0 c.closed; is = c.is }),
    λ r.
        let c = r.1 in
        subst (λ (d : Transition). d ∈ (eliminated A).transitions) (sym c.is) (eliminated_in A e.from c.source r.0 c.in c.is_range (closure_complete A ok r.0 c.reached)),
  )

  -- and its acceptance
  pub eliminate_accept : (p : ℕ) → p < A.size → (0 < get_or (eliminated A).accept p 0) ↔ ((q : ℕ) × Run A p [] q × (0 < get_or A.accept q 0))
  eliminate_accept p l = (
    λ h. let k = kind_of_some A (closure A p) (rw (accept_at A ok p l) at h) in (k.0, closure_sound A ok p k.0 l k.1, rw (k.2 ∙ sym (accept_at A ok p l)) h),
    λ r. rw (accept_at A ok p l) (kind_of_least A (closure A p) r.0 (closure_complete A ok l r.1) r.2).0,
  )

-- the call on the sheet s with the labels b: r is its answer, o and l are the outputs before it, o' and l' after it
module _ (s b o l o' l' : List ℕ) (r : Result Made Refusal) (call : output_of r o' l' ≡ outputs o l (eliminate_answer s b o l)) where
  -- nothing is refused exactly where there is room, nothing has a fault and the transitions are few enough
  pub eliminate_lengths : (made_number r ≡ 0) ↔ (Room o l × (fault s ≡ 0) × (labels_fault (state_count s) b ≡ 0) × (length (eliminated (read s)).transitions ≤ most_transitions))
  unfolding eliminate_answer
  eliminate_lengths =
      let c = checked_given s b (eliminated_with (read s) (read_labels b)) o l o' l' r call in
      (λ h. let (k, f, g, x) = c.0 h in (k, f, g, behind_given s b x.0 x.1), λ (k, f, g, few). c.1 (k, f, g, (result s b, given_behind s b few)))

  module _ (w n : ℕ) (lengths : r ≡ Ok (record { words = w; bytes = n })) where
    answered : (fault s ≡ 0) × (labels_fault (state_count s) b ≡ 0) × (length (eliminated (read s)).transitions ≤ most_transitions)
    answered = let (k, f, g, few) = eliminate_lengths.0 (ap made_number lengths) in (f, g, few)

    states : InBounds (read s)
    states = (read_well s (accepted s answered.0)).states

    -- the eliminated automaton stands in the one output, and the labels of the input in the other
    pub eliminate_left : Leaves o l o' l' w n (eliminated (read s)) (read_labels b)
    unfolding eliminate_answer
    eliminate_left =
        let (f, g, few) = answered in
        let e = (inputs_given s b (eliminated_with (read s) (read_labels b)) (result s b)).1 (f, g, given_behind s b few) in
        call_leaves o l o' l' r _ call w n lengths (result s b) e (result_writable s b f g few)

    -- the sheet left accepts the words that the input accepts
    pub eliminate_left_words : (v : List ℕ) → Accepts (read (take w o')) v ↔ Accepts (read s) v
    eliminate_left_words v = subst (λ (A : Automaton). Accepts A v ↔ Accepts (read s) v) (sym eliminate_left.reads) (eliminate_words (read s) states v)

    -- it has no epsilon
    pub eliminate_left_ranges : EpsilonFree (read (take w o'))
    eliminate_left_ranges = subst EpsilonFree (sym eliminate_left.reads) (eliminate_ranges (read s) states)

    -- and the states and the start of the input
    pub eliminate_left_states : ((read (take w o')).size ≡ state_count s) × ((read (take w o')).start ≡ (read s).start)
    unfolding eliminated
    eliminate_left_states = (ap (λ (A : Automaton). A.size) eliminate_left.reads, ap (λ (A : Automaton). A.start) eliminate_left.reads)

  -- 20 exactly where an output is too short
  pub eliminate_20 : (made_number r ≡ 20) ↔ (Room o l → ⊥)
  unfolding eliminate_answer
  eliminate_20 = checked_20 s b (eliminated_with (read s) (read_labels b)) o l o' l' r call (behind_other s b 20 (λ z. omega arith))

  -- 1 to 6 exactly where there is room and the sheet has that fault
  pub eliminate_fault : (m : ℕ) → 1 ≤ m → m ≤ 6 → (made_number r ≡ m) ↔ (Room o l × (fault s ≡ m))
  unfolding eliminate_answer
  eliminate_fault m i j = checked_fault s b (eliminated_with (read s) (read_labels b)) o l o' l' r call m i j (behind_other s b m (λ z. omega arith))

  -- 10 exactly where there is room, the sheet has no fault and the labels have one
  pub eliminate_10 : (made_number r ≡ 10) ↔ (Room o l × (fault s ≡ 0) × (labels_fault (state_count s) b ≡ 10))
  unfolding eliminate_answer
  eliminate_10 = checked_10 s b (eliminated_with (read s) (read_labels b)) o l o' l' r call (behind_other s b 10 (λ z. omega arith))

  -- 22 exactly where there is room, nothing has a fault and the transitions are over 2,048
  pub eliminate_22 : (made_number r ≡ 22) ↔ (Room o l × (fault s ≡ 0) × (labels_fault (state_count s) b ≡ 0) × (most_transitions < length (eliminated (read s)).transitions))
  unfolding eliminate_answer
  eliminate_22 =
      let c = checked_number_lem s b (eliminated_with (read s) (read_labels b)) o l o' l' r call 22 (omega arith) (λ z. omega arith) (λ z. omega arith) in
      (λ h. let (k, f, g, e) = c.0 h in (k, f, g, (behind_22 s b).0 e), λ (k, f, g, many). c.1 (k, f, g, (behind_22 s b).1 many))

  -- never 21: the states are those of the input
  pub eliminate_never_21 : made_number r ≡ 21 → ⊥
  unfolding eliminate_answer
  eliminate_never_21 h =
      let (k, f, g, e) = (checked_number_lem s b (eliminated_with (read s) (read_labels b)) o l o' l' r call 21 (omega arith) (λ z. omega arith) (λ z. omega arith)).0 h in
      behind_other s b 21 (λ z. omega arith) e

  -- a refusal leaves both outputs as they were
  pub eliminate_unchanged : (made_number r ≡ 0 → ⊥) → Unchanged o l o' l'
  unfolding eliminate_answer
  eliminate_unchanged = call_refused o l o' l' r _ call
