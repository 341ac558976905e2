-- The loops over the states of a sheet: what a state's run has, laws of `is_nfa_sheet` and `count_holes`, and the tables that both are given.
use Prim.Native.Nat.{ℕ, suc, ◌+◌, ◌*◌, ◌≤◌, ◌<◌}
use mathlib.Core.Bool.{Bool, true, false, ◌||◌}
use mathlib.Core.List.{List, [], ◌∷◌, flat_map}
use mathlib.Core.Path.{◌≡◌, refl, sym, ◌∙◌, ap}
use native.Mathlib.Nat.{suc-mul, mul-le-mul, suc-le-suc_iff}
use native.Mathlib.Omega.{arith}
use mir.Syntax.{w64}
use mir.Val.{Fits}
use borrow.Author.Rules.{rules}
use lib.Dec.{eqb}
use lib.ListN.{length, drop, replicate, length-append, length-replicate}
use lib.Seq.{sets}
use Rattle.lists.specs.Lists.{any}
use Rattle.lists.proofs.Lists.{length_filter}
use Rattle.automata.specs.Automaton.{Automaton, leaving, ranges_of, states}
use Rattle.automata.specs.Records.{read_records, write_records}
use Rattle.automata.proofs.States.{length_states, states_at, states_end}
use Rattle.automata.proofs.Records.{read_write, length_write}
use Rattle.automata.specs.WellFormed.{WellFormed}
use Rattle.ranges.specs.Missing.{SortedRanges, missing}
use Rattle.ranges.proofs.Missing.{missing_scan}
use Rattle.ranges.proofs.Writing.{scan_short}
use Rattle.ranges.proofs.Sorting.{leaving_sorted}
use Rattle.sheets.specs.inner.Accepted.{Accepted}
use Rattle.sheets.specs.inner.Runs.{starts_of, RunAt}
use Rattle.sheets.specs.Sheet.{state_count, read}
use Rattle.sheets.proofs.Meaning.{read_well, read_fits}
use Rattle.sheets.proofs.Runs.{run_at, starts_indexed}
use Rattle.nondeterminism.specs.Nondeterminism.{holes_of, is_nfa_at, is_nfa_in, is_nfa, holes_in}
use Rattle.nondeterminism.specs.inner.Holes.{HolesInputs}

-- the run of a state of a sheet
module _ (s starts holes : List ℕ) (r : HolesInputs s starts holes) where
  pub state_run : (q : ℕ) → q < state_count s → RunAt s starts q
  state_run q h = run_at s r.accepted starts q r.indexed h

  module _ (q : ℕ) (run : List ℕ) (e : run ≡ write_records (leaving (read s) q)) where
    pub run_records : read_records run ≡ leaving (read s) q
    run_records = ap read_records e ∙ read_write (leaving (read s) q)

    pub run_sorted : SortedRanges (ranges_of (read_records run))
    run_sorted = rw run_records (leaving_sorted (read s) q (read_well s r.accepted))

    run_few : length (read_records run) ≤ 2048
    unfolding leaving
    run_few = omega (arith, ap length run_records, length_filter (λ e. eqb e.from q) (read s).transitions, (read_fits s r.accepted).few_transitions_lem)

    run_short : length run ≤ 10240
    run_short = omega (arith, ap length e, length_write (leaving (read s) q), ap length run_records, run_few)

    pub run_room : (h : List ℕ) → length h ≡ length holes → 2 * length run + 10 ≤ 5 * length h
    run_room h l = omega (arith, run_short, r.long)

-- the states from q on decide
pub nfa_start : (lower upper : ℕ) (A : Automaton) → is_nfa lower upper A ≡ is_nfa_in lower upper A (drop 0 (states A.size))
unfolding is_nfa
nfa_start lower upper A = refl

module _ (lower upper : ℕ) (s : List ℕ) (q : ℕ) (e : is_nfa lower upper (read s) ≡ is_nfa_in lower upper (read s) (drop q (states (state_count s)))) where
  pub nfa_ended : state_count s ≤ q → false ≡ is_nfa lower upper (read s)
  unfolding is_nfa_in any
  nfa_ended h = sym (e ∙ rw (states_end (state_count s) q h))

  module _ (h : q < state_count s) (run : List ℕ) (w : run ≡ write_records (leaving (read s) q)) (b : Bool) (f : b ≡ is_nfa_at lower upper (read_records run)) where
    nfa_at : is_nfa lower upper (read s) ≡ (b || is_nfa_in lower upper (read s) (drop (q + 1) (states (state_count s))))
    unfolding is_nfa_in any
    nfa_at =
        let g : b ≡ is_nfa_at lower upper (leaving (read s) q) = f ∙ ap (λ l. is_nfa_at lower upper (read_records l)) w ∙ ap (is_nfa_at lower upper) (read_write (leaving (read s) q)) in
        e ∙ rw (states_at (state_count s) q h, ← g)

    pub nfa_found : b ≡ true → true ≡ is_nfa lower upper (read s)
    nfa_found p = sym (nfa_at ∙ rw p)

    pub nfa_next : b ≡ false → is_nfa lower upper (read s) ≡ is_nfa_in lower upper (read s) (drop (q + 1) (states (state_count s)))
    nfa_next p = nfa_at ∙ rw p

pub ruleset sheet_laws = (nfa_start, nfa_ended, nfa_found, nfa_next, state_run, run_sorted, run_room, rules)

-- a state has at most one hole more than its automaton has transitions
holes_few : (lower upper : ℕ) (A : Automaton) → WellFormed A → (qs : List ℕ) → length (holes_in lower upper A qs) ≤ length qs * suc (length A.transitions)
unfolding holes_in flat_map holes_of
holes_few lower upper A w [] = omega arith
holes_few lower upper A w (q ∷ qs) =
    let es = ranges_of (leaving A q) in
    omega (
      arith,
      length-append (missing lower upper es) (holes_in lower upper A qs),
      holes_few lower upper A w qs,
      ap length (missing_scan lower upper es (leaving_sorted A q w)),
      scan_short lower upper es,
      ranges_few,
      suc-mul (length qs) (suc (length A.transitions)),
    )
  where
    ranges_few : length (ranges_of (leaving A q)) ≤ length A.transitions
    ranges_few = unfold ranges_of leaving in omega (arith, length_filter (λ e. eqb e.kind 1) (leaving A q), length_filter (λ e. eqb e.from q) A.transitions)

-- the holes of a sheet
pub holes_bound : (lower upper : ℕ) (s starts holes : List ℕ) → HolesInputs s starts holes → length (holes_in lower upper (read s) (states (state_count s))) ≤ 256 * 2049
holes_bound lower upper s starts holes r =
    let n : length (states (state_count s)) ≤ 256 = rw (length_states (state_count s)) r.accepted.few_states in
    let few = mul-le-mul {n₁ = length (states (state_count s))} {m₁ = suc (length (read s).transitions)} {n₂ = 256} {m₂ = 2049} n (suc-le-suc_iff.1 (read_fits s r.accepted).few_transitions_lem) in
    omega (arith, few, holes_few lower upper (read s) (read_well s r.accepted) (states (state_count s)))

-- the holes of the states below q are counted
module _ (lower upper : ℕ) (s : List ℕ) (count q : ℕ)
    (e : count + length (holes_in lower upper (read s) (drop q (states (state_count s)))) ≡ length (holes_in lower upper (read s) (states (state_count s)))) where
  pub count_ended : state_count s ≤ q → count ≡ length (holes_in lower upper (read s) (states (state_count s)))
  unfolding holes_in flat_map
  count_ended h = let z : length (holes_in lower upper (read s) (drop q (states (state_count s)))) ≡ 0 = rw (states_end (state_count s) q h) in omega arith

  module _ (h : q < state_count s) (run : List ℕ) (w : run ≡ write_records (leaving (read s) q)) (k : ℕ) (f : k ≡ length (missing lower upper (ranges_of (read_records run)))) where
    pub count_next : count + k + length (holes_in lower upper (read s) (drop (q + 1) (states (state_count s)))) ≡ length (holes_in lower upper (read s) (states (state_count s)))
    unfolding holes_in flat_map holes_of
    count_next =
        let g : k ≡ length (missing lower upper (ranges_of (leaving (read s) q))) = f ∙ ap (λ l. length (missing lower upper (ranges_of (read_records l)))) w ∙ ap (λ l. length (missing lower upper (ranges_of l))) (read_write (leaving (read s) q)) in
        let m = ap (λ l. length (holes_in lower upper (read s) l)) (states_at (state_count s) q h) in
        omega (arith, m, length-append (missing lower upper (ranges_of (leaving (read s) q))) (holes_in lower upper (read s) (drop (q + 1) (states (state_count s)))))

    pub count_fits : (starts holes : List ℕ) → HolesInputs s starts holes → Fits w64 (count + k)
    count_fits starts holes r = record { fits = omega (arith, count_next, holes_bound lower upper s starts holes r) }

pub ruleset count_laws = (count_ended, count_next, count_fits, state_run, run_sorted, run_room, rules)

-- an accepted sheet, where its runs begin, and room for holes
pub holes_inputs : (s old starts holes : List ℕ) → Accepted s → starts ≡ sets old 0 (starts_of s) → length old ≡ 257 → length holes ≡ 4098 → HolesInputs s starts holes
holes_inputs s old starts holes a e l m = record { accepted = a; indexed = starts_indexed s old starts e (omega (arith, a.few_states)); long = m }

-- the same in new arrays
pub fresh_inputs : (s starts : List ℕ) → Accepted s → starts ≡ sets (replicate 257 0) 0 (starts_of s) → HolesInputs s starts (replicate 4098 0)
fresh_inputs s starts a e = holes_inputs s (replicate 257 0) starts (replicate 4098 0) a e (length-replicate {A = ℕ} 257 0) (length-replicate {A = ℕ} 4098 0)

-- the same where holes were written
pub inputs_after : (s starts h h' : List ℕ) → HolesInputs s starts h → length h' ≡ length h → HolesInputs s starts h'
inputs_after s starts h h' r e = record { accepted = r.accepted; indexed = r.indexed; long = e ∙ r.long }

pub ruleset inputs_laws = (fresh_inputs, rules)
