-- What is proved of determinizing, for every automaton whose states are in bounds. An accepted sheet reads as such an automaton, and as a
-- well-formed one. `lower` and `upper` are the least and the greatest symbol.
-- determinize_parts, determinize_holes, determinize_targets: the parts, the holes and the targets of a set are those of document 01.
-- determinize_words, determinize_kinds: the words are kept.
-- determinize_one, determinize_deterministic, determinize_between: every symbol has exactly one transition in every state.
-- determinize_reached, determinize_sink: words lead to all states but the last, which is the sink.
-- determinize_state: states are sets; determinize_part, determinize_hole, determinize_only: each part and each hole has its transition, and there are
-- no others.
-- reached_listed, determinize_states, determinize_transitions: how many states and transitions there are, counted in a list of the sets.
-- determinize_wellformed, determinize_fits, determinize_written, determinize_read, determinize_room: the result can be written as a sheet.
-- refused_21, refused_22, determinize_given: the exact conditions of the answers.
-- Of the call `determinize::determinize`, from its contract:
-- determinize_left, determinize_left_words, determinize_left_one: the result that it leaves in the outputs.
-- determinize_20, determinize_fault, determinize_21, determinize_22, determinize_0: the exact conditions of its refusals, and of none.
-- determinize_unchanged: a refusal leaves the outputs as they were.
use Rattle.std.proofs.Common.{◌≡◌, ℕ, suc, ◌+◌, ◌<◌, ◌≤◌, ◌⊎◌, ◌↔◌, List, [], ◌∷◌, length, take, sym, refl, ap, ◌∙◌, subst, arith, Result, Ok}
use Rattle.lists.specs.Lists.{◌∈◌, any, filter}
use Rattle.lists.proofs.Lists.{filter_out, length_tabulate}
use Rattle.automata.specs.Automaton.{Transition, Automaton, Run, Accepts, Word, InBounds, carries}
use Rattle.automata.specs.WellFormed.{last_symbol, WellFormed, Fits}
use Rattle.labels.specs.Forms.{numbered_label, numbered_labels}
use Rattle.labels.proofs.Listing.{labels_tabulate, label_numbered}
use Rattle.output.specs.declared.Made.{Made}
use Rattle.refusal.specs.declared.Refusal.{Refusal}
use Rattle.output.specs.Left.{made_number, Room, Leaves, Unchanged}
use Rattle.output.specs.Made.{output_of}
use Rattle.output.specs.Output.{Pattern, outputs, room_first}
use Rattle.output.proofs.Left.{Writable, call_refused, sheet_call_20, sheet_call_fault, sheet_call_number, sheet_call_given, sheet_call_leaves}
use Rattle.sets.specs.Sets.{Set, has, pick}
use Rattle.sheets.specs.Checked.{sheet_first}
use Rattle.sheets.specs.Fault.{fault}
use Rattle.sheets.specs.Sheet.{read, write}
use Rattle.sheets.proofs.Decisions.{given_not}
use Rattle.sheets.proofs.Accepted.{accepted}
use Rattle.sheets.proofs.Meaning.{read_well, read_write_sheet, write_accepted, write_room}
use Rattle.words.specs.Simulation.{closure, outgoing, step, simulate, start_set, kind}
use Rattle.ranges.specs.Span.{Span}
use Rattle.ranges.specs.Missing.{missing, Holes}
use Rattle.ranges.proofs.Missing.{missing_holes}
use Rattle.refusal.specs.Answer.{Answer, refused, given}
use Rattle.search.specs.Search.{found, over}
use Rattle.determinize.specs.Partition.{Part, part_of, partition, Parts}
use Rattle.determinize.specs.Determinize.{set_table, subset_automaton, determinize}
use Rattle.automata.specs.Deterministic.{Deterministic, Between}
use Rattle.determinize.specs.Sink.{Sink}
use Rattle.determinize.specs.Reached.{MoreThan, AllReached, degrees, MoreTransitions}
use Rattle.determinize.specs.Sheets.{subset_pattern, determinize_answer}
use Rattle.determinize.proofs.Parts.{parts_exact}
use Rattle.determinize.proofs.Steps.{part_step}
use Rattle.determinize.proofs.Finished.{table_few, table_all, over_exact}
use Rattle.determinize.proofs.Result.{one_built}
use Rattle.determinize.proofs.Runs.{transition_facts, words_kept, kind_kept, state_reached, run_exact}
use Rattle.determinize.proofs.Written.{built_well_formed}
use Rattle.determinize.proofs.Sink.{state_same, part_transition, hole_transition, only_transition, sink_loop, sink_rejects}
use Rattle.determinize.proofs.Degrees.{listed_states, listed_transitions, many_exact}
use Rattle.determinize.proofs.Answers.{Outcome, too_many_sets, too_many_transitions, fits, outcome, Built, made_built, refused_above, refused_over, refused_many, answer_over}

module _ (lower upper : ℕ) (A : Automaton) (ok : InBounds A) where
  -- the parts of a set are those of document 01
  pub determinize_parts : (S : Set) → Parts lower upper (outgoing A S) (partition A.size lower upper (outgoing A S))
  determinize_parts S =
      parts_exact A.size lower upper (outgoing A S) (unfold outgoing in λ e m. ok.tos e (filter_out _ e A.transitions m).0)

  -- its holes are the maximal runs of symbols that no range holds
  pub determinize_holes : WellFormed A → (S : Set) → Holes lower upper (outgoing A S) (missing lower upper (outgoing A S))
  determinize_holes w S = missing_holes lower upper (outgoing A S) (unfold outgoing in λ e m. (w.sound e (filter_out _ e A.transitions m).0).full)

  -- a part leads to the union of the closures of its targets
  pub determinize_targets : (S : Set) (s : Span)
      → step A S s.first ≡ pick A.size (λ q. any (λ t. has q (closure A t)) (part_of A.size (outgoing A S) s).targets)
  determinize_targets = part_step A ok

  module _ (D : Automaton) (e : determinize lower upper A ≡ given D) where
    by : Built lower upper A D
    by = made_built lower upper A D e

    -- the words are kept
    pub determinize_words : (w : List ℕ) → Word lower upper w → Accepts D w ↔ Accepts A w
    determinize_words w v = rw by.is (words_kept lower upper A ok by.sets by.whole w v)

    -- and the accept word that each word is given
    pub determinize_kinds : (w : List ℕ) → Word lower upper w → kind D w ≡ kind A w
    determinize_kinds w v = rw by.is (kind_kept lower upper A ok by.sets by.whole w v)

    -- every symbol between the ends has exactly one transition in every state
    pub determinize_one : (j x : ℕ) → j < D.size → lower ≤ x → x ≤ upper → (d : Transition) × (filter (carries j x) D.transitions ≡ d ∷ [])
    determinize_one = rw by.is (one_built lower upper A by.sets)

    -- and there are no epsilons
    pub determinize_deterministic : Deterministic lower upper D
    determinize_deterministic =
        let l = transition_facts lower upper A ok by.sets by.whole in
        rw by.is (record { ranges = λ d m. (l d m).is_range; one = one_built lower upper A by.sets })

    -- no transition holds a symbol outside the ends
    pub determinize_between : Between lower upper D
    determinize_between =
        let l = transition_facts lower upper A ok by.sets by.whole in
        rw by.is (record { above = λ d m. (l d m).above; below = λ d m. (l d m).below })

    -- a word leads to every state but the last
    pub determinize_reached : (j : ℕ) → suc j < D.size → (w : List ℕ) × Word lower upper w × Run D D.start w j
    unfolding subset_automaton
    determinize_reached j h = rw by.is (state_reached lower upper A ok by.sets by.whole j (let k = rw by.is at h in omega (arith, k)))

    -- the last state is the sink: it loops on all symbols and rejects
    pub determinize_sink : lower ≤ upper → Sink lower upper D
    determinize_sink h =
        rw by.is
        (record {
          state = length by.sets;
          last = unfold subset_automaton in refl;
          loops = sink_loop lower upper A ok by.sets by.whole h;
          rejects = sink_rejects lower upper A ok by.sets by.whole;
        })

    -- of a state to which a word w leads
    module _ (w : List ℕ) (j : ℕ) (r : Run D D.start w j) where
      run : Run (subset_automaton lower upper A by.sets) (subset_automaton lower upper A by.sets).start w j
      run = subst (λ (E : Automaton). Run E E.start w j) by.is r

      -- states are sets: another word leads to it exactly where it leads to the same set
      pub determinize_state : (v : List ℕ) → Word lower upper v → Run D D.start v j ↔ (simulate A (start_set A) v ≡ simulate A (start_set A) w)
      determinize_state v x = rw by.is (state_same lower upper A ok by.sets by.whole w j run v x)

      -- each part of its set has a transition, to the state of exactly the set to which the part leads; that is not the sink
      pub determinize_part : (p : Part) → p ∈ partition A.size lower upper (outgoing A (simulate A (start_set A) w))
          → (k : ℕ) × (suc k < D.size) × ((record { from = j; kind = 1; first = p.first; last = p.last; to = k }) ∈ D.transitions)
          × ((v : List ℕ) → Word lower upper v → Run D D.start v k ↔ (simulate A (start_set A) v ≡ step A (simulate A (start_set A) w) p.first))
      unfolding subset_automaton
      determinize_part p m =
          let (k, l, t, q) = part_transition lower upper A ok by.sets by.whole w j run p m in
          rw by.is (k, omega arith, t, λ v x. let c = run_exact lower upper A ok by.sets by.whole k (omega arith) v x in (λ y. c.0 y ∙ q, λ y. c.1 (y ∙ sym q)))

      -- each hole of its set has a transition, to the sink
      pub determinize_hole : (s : Span) → s ∈ missing lower upper (outgoing A (simulate A (start_set A) w)) → (k : ℕ) → D.size ≡ suc k
          → (record { from = j; kind = 1; first = s.first; last = s.last; to = k }) ∈ D.transitions
      unfolding subset_automaton
      determinize_hole s m k n =
          let z : length by.sets ≡ k = let y = rw by.is at n in omega (arith, y) in
          rw (by.is, ← z) (hole_transition lower upper A ok by.sets by.whole w j run s m)

      -- it has no other transitions
      pub determinize_only : (d : Transition) → d ∈ D.transitions → d.from ≡ j
          → ((p : Part) × p ∈ partition A.size lower upper (outgoing A (simulate A (start_set A) w)) × (d.first ≡ p.first) × (d.last ≡ p.last))
          ⊎ ((h : Span) × h ∈ missing lower upper (outgoing A (simulate A (start_set A) w)) × (d.first ≡ h.first) × (d.last ≡ h.last))
      determinize_only d m f =
          only_transition lower upper A ok by.sets by.whole w j run d (subst (λ (E : Automaton). d ∈ E.transitions) by.is m) f

    -- the states are the nonempty sets that words reach, in whatever order they are listed, and the sink
    pub determinize_states : (U : List Set) → AllReached lower upper A U → D.size ≡ length U + 1
    determinize_states U u = rw by.is (listed_states lower upper A ok by.sets by.whole U u)

    -- the transitions are the parts and the holes of these sets, and the sink's loop
    pub determinize_transitions : lower ≤ upper → (U : List Set) → AllReached lower upper A U → length D.transitions ≡ degrees lower upper A U + 1
    determinize_transitions h U u = rw by.is (listed_transitions lower upper A ok by.sets by.whole h U u)

    -- the result of a well-formed automaton is well-formed
    pub determinize_wellformed : WellFormed A → WellFormed D
    determinize_wellformed w = rw by.is (built_well_formed lower upper A w by.sets by.whole)

    -- it has at most 256 states and 2,048 transitions
    pub determinize_fits : Fits D
    unfolding subset_automaton
    determinize_fits = record { few_states = rw by.is (omega (arith, table_few lower upper A ok by.sets by.whole)); few_transitions_lem = by.few }

    -- it is written as an accepted sheet
    pub determinize_written : WellFormed A → fault (write D) ≡ 0
    determinize_written w = write_accepted D (determinize_wellformed w) determinize_fits

    -- from which it is read again
    pub determinize_read : WellFormed A → read (write D) ≡ D
    determinize_read w = read_write_sheet D (determinize_wellformed w).accepts

    -- and which an output of the fixed size has room for
    pub determinize_room : WellFormed A → length (write D) ≤ 10500
    determinize_room w = write_room D (determinize_wellformed w).accepts determinize_fits

  -- where 21 is not given there is a list of the sets that words reach
  pub reached_listed : (MoreThan 255 lower upper A → ⊥) → (T : List Set) × AllReached lower upper A T
  reached_listed n = go (outcome lower upper A)
    where
      go : Outcome lower upper A → (T : List Set) × AllReached lower upper A T
      go (too_many_sets e q) = absurd (n ((over_exact lower upper A ok).0 e))
      go (too_many_transitions T e h q) = (T, table_all lower upper A ok T e)
      go (fits T e h q) = (T, table_all lower upper A ok T e)

  -- 21 is given exactly where words reach more than 255 nonempty sets
  pub refused_21 : (determinize lower upper A ≡ refused 21) ↔ MoreThan 255 lower upper A
  refused_21 = (λ e. (over_exact lower upper A ok).0 (refused_over lower upper A e), λ m. answer_over lower upper A ((over_exact lower upper A ok).1 m))

  found_few : {T : List Set} → set_table lower upper A ≡ found T → MoreThan 255 lower upper A → ⊥
  found_few {T} e m = let c : found T ≡ over = sym e ∙ (over_exact lower upper A ok).1 m in let z : ◌≡◌ {A = ℕ} 0 1 = cc in absurd (omega arith)

  -- 22 is given exactly where they don't, and the parts and the holes of the sets with the sink's loop are more than 2,048
  pub refused_22 : (determinize lower upper A ≡ refused 22) ↔ ((MoreThan 255 lower upper A → ⊥) × MoreTransitions 2048 lower upper A)
  refused_22 = (
    λ e. let r = refused_many lower upper A e in (found_few r.whole, (many_exact lower upper A ok r.sets r.whole).0 r.many),
    λ m. go m.0 m.1 (outcome lower upper A),
  )
    where
      go : (MoreThan 255 lower upper A → ⊥) → MoreTransitions 2048 lower upper A → Outcome lower upper A → determinize lower upper A ≡ refused 22
      go n m (too_many_sets e q) = absurd (n ((over_exact lower upper A ok).0 e))
      go n m (too_many_transitions T e h q) = q
      go n m (fits T e h q) = let k = (many_exact lower upper A ok T e).1 m in absurd (omega arith)

  -- an automaton is given where neither holds
  pub determinize_given : (MoreThan 255 lower upper A → ⊥) → (MoreTransitions 2048 lower upper A → ⊥) → (D : Automaton) × (determinize lower upper A ≡ given D)
  determinize_given n k = go (outcome lower upper A)
    where
      go : Outcome lower upper A → (D : Automaton) × (determinize lower upper A ≡ given D)
      go (too_many_sets e q) = absurd (n ((over_exact lower upper A ok).0 e))
      go (too_many_transitions T e h q) = absurd (k ((many_exact lower upper A ok T e).0 h))
      go (fits T e h q) = (subset_automaton lower upper A T, q)

-- the answer with labels is refused and given where the answer is
pattern_refused : (a : Answer Automaton) (n : ℕ) → (subset_pattern a ≡ refused n) ↔ (a ≡ refused n)
unfolding subset_pattern
pattern_refused (refused m) n = (λ e. let z : m ≡ n = cc in ap refused z, λ e. let z : m ≡ n = cc in ap refused z)
pattern_refused (given D) n = (λ e. let z : ◌≡◌ {A = ℕ} 0 1 = cc in absurd (omega arith), λ e. let z : ◌≡◌ {A = ℕ} 0 1 = cc in absurd (omega arith))

-- the result with its labels
abbrev pattern : Automaton → Pattern
pattern D = record { automaton = D; labels = numbered_labels D.size }

pattern_given : (a : Answer Automaton) (P : Pattern) → subset_pattern a ≡ given P → (D : Automaton) × (a ≡ given D)
unfolding subset_pattern
pattern_given (refused m) P e = let z : ◌≡◌ {A = ℕ} 0 1 = cc in absurd (omega arith)
pattern_given (given D) P e = (D, refl)

given_pattern : (a : Answer Automaton) (D : Automaton) → a ≡ given D → subset_pattern a ≡ given (pattern D)
unfolding subset_pattern
given_pattern a D e = ap subset_pattern e

-- what the call leaves: r is its answer, o and l are the outputs before it, o' and l' after it
module _ (s o l o' l' : List ℕ) (r : Result Made Refusal) (call : output_of r o' l' ≡ outputs o l (determinize_answer s o l)) where
  -- the answer behind 20 and the sheet's faults
  abbrev answer : Answer Pattern
  answer = subset_pattern (determinize 0 last_symbol (read s))

  contract : output_of r o' l' ≡ outputs o l (room_first o l (sheet_first s answer))
  unfolding determinize_answer
  contract = call

  well : fault s ≡ 0 → WellFormed (read s)
  well f = read_well s (accepted s f)

  over_20 : (n : ℕ) → answer ≡ refused n → 20 < n
  over_20 n e = refused_above 0 last_symbol (read s) n ((pattern_refused (determinize 0 last_symbol (read s)) n).0 e)

  module _ (w b : ℕ) (lengths : r ≡ Ok (record { words = w; bytes = b })) where
    made : (fault s ≡ 0) × ((D : Automaton) × (determinize 0 last_symbol (read s) ≡ given D))
    made =
        let (room, f, (P, e)) = (sheet_call_given s o l o' l' r answer contract).0 (ap made_number lengths) in
        (f, pattern_given (determinize 0 last_symbol (read s)) P e)

    writable : (D : Automaton) → determinize 0 last_symbol (read s) ≡ given D → Writable (pattern D)
    unfolding numbered_labels
    writable D e =
        let ok = well made.0 in
        let fits = determinize_fits 0 last_symbol (read s) ok.states D e in
        record {
          well = determinize_wellformed 0 last_symbol (read s) ok.states D e ok;
          fits = fits;
          labels = labels_tabulate D.size numbered_label (λ k h. label_numbered k (omega (arith, fits.few_states)));
          each = length_tabulate D.size numbered_label;
        }

    -- the determinization stands in the outputs as an accepted sheet with the labels D0, D1 and so on; nothing behind it is changed
    pub determinize_left : (D : Automaton) × (determinize 0 last_symbol (read s) ≡ given D) × Leaves o l o' l' w b D (numbered_labels D.size)
    determinize_left =
        let (D, e) = made.1 in
        (D, e, sheet_call_leaves s o l o' l' r answer contract w b lengths (pattern D) (given_pattern (determinize 0 last_symbol (read s)) D e) (writable D e))

    -- what is read from the output accepts the words of the input
    pub determinize_left_words : (v : List ℕ) → Word 0 last_symbol v → Accepts (read (take w o')) v ↔ Accepts (read s) v
    determinize_left_words v x =
        let (D, e, left) = determinize_left in
        subst (λ (E : Automaton). Accepts E v ↔ Accepts (read s) v) (sym left.reads) (determinize_words 0 last_symbol (read s) (well made.0).states D e v x)

    -- and has exactly one transition for every symbol in every state
    pub determinize_left_one : Deterministic 0 last_symbol (read (take w o'))
    determinize_left_one =
        let (D, e, left) = determinize_left in
        subst (Deterministic 0 last_symbol) (sym left.reads) (determinize_deterministic 0 last_symbol (read s) (well made.0).states D e)

  -- 20 is answered exactly where an output is too short
  pub determinize_20 : (made_number r ≡ 20) ↔ (Room o l → ⊥)
  determinize_20 = sheet_call_20 s o l o' l' r answer contract (λ e. let k = over_20 20 e in omega arith)

  -- 1 to 6 are answered exactly where there is room and the sheet has that fault
  pub determinize_fault : (n : ℕ) → 0 < n → n ≤ 6 → (made_number r ≡ n) ↔ (Room o l × (fault s ≡ n))
  determinize_fault n some few = sheet_call_fault s o l o' l' r answer contract n some few (λ e. let k = over_20 n e in omega arith)

  limit : (n : ℕ) → 20 < n → (made_number r ≡ n) ↔ (Room o l × (fault s ≡ 0) × (determinize 0 last_symbol (read s) ≡ refused n))
  limit n k =
      let c = sheet_call_number s o l o' l' r answer contract n (omega arith) (λ z. omega arith) in
      let q = pattern_refused (determinize 0 last_symbol (read s)) n in
      (λ e. let (m, f, h) = c.0 e in (m, f, q.0 h), λ (m, f, h). c.1 (m, f, q.1 h))

  -- 21 is answered exactly where there is room, the sheet has no fault, and words reach more than 255 nonempty sets
  pub determinize_21 : (made_number r ≡ 21) ↔ (Room o l × (fault s ≡ 0) × MoreThan 255 0 last_symbol (read s))
  determinize_21 =
      let c = limit 21 (omega arith) in (
        λ e. let (m, f, h) = c.0 e in (m, f, (refused_21 0 last_symbol (read s) (well f).states).0 h),
        λ (m, f, h). c.1 (m, f, (refused_21 0 last_symbol (read s) (well f).states).1 h),
      )

  -- 22 is answered exactly where they don't, and the parts and the holes of the sets with the sink's loop are more than 2,048
  pub determinize_22 : (made_number r ≡ 22)
      ↔ (Room o l × (fault s ≡ 0) × (MoreThan 255 0 last_symbol (read s) → ⊥) × MoreTransitions 2048 0 last_symbol (read s))
  determinize_22 =
      let c = limit 22 (omega arith) in (
        λ e. let (m, f, h) = c.0 e in let (n, k) = (refused_22 0 last_symbol (read s) (well f).states).0 h in (m, f, n, k),
        λ (m, f, n, k). c.1 (m, f, (refused_22 0 last_symbol (read s) (well f).states).1 (n, k)),
      )

  -- nothing is refused exactly where none of them holds
  pub determinize_0 : (made_number r ≡ 0)
      ↔ (Room o l × (fault s ≡ 0) × (MoreThan 255 0 last_symbol (read s) → ⊥) × (MoreTransitions 2048 0 last_symbol (read s) → ⊥))
  determinize_0 =
      let c = sheet_call_given s o l o' l' r answer contract in (
        λ e.
            let (m, f, (P, h)) = c.0 e in
            let (D, q) = pattern_given (determinize 0 last_symbol (read s)) P h in
            let few : MoreThan 255 0 last_symbol (read s) → ⊥ = λ n. given_not _ _ (sym q ∙ (refused_21 0 last_symbol (read s) (well f).states).1 n) in
            (m, f, few, λ k. given_not _ _ (sym q ∙ (refused_22 0 last_symbol (read s) (well f).states).1 (few, k))),
        λ (m, f, n, k).
            let (D, q) = determinize_given 0 last_symbol (read s) (well f).states n k in
            c.1 (m, f, (pattern D, given_pattern (determinize 0 last_symbol (read s)) D q)),
      )

  -- a refusal leaves the outputs as they were
  pub determinize_unchanged : (made_number r ≡ 0 → ⊥) → Unchanged o l o' l'
  determinize_unchanged = call_refused o l o' l' r (sheet_first s answer) contract
