-- What the program knows of a sheet that was checked: the records of state 0 are a run, and its ranges are sorted.
use Prim.Native.Nat.{ℕ, ◌≤◌}
use mathlib.Core.List.{List}
use mathlib.Core.Path.{◌≡◌, sym, ◌∙◌, ap, subst}
use native.Mathlib.Omega.{arith}
use borrow.Author.Rules.{rules}
use lib.Dec.{eqb}
use lib.ListN.{length}
use lib.Seq.{sets}
use Rattle.automata.specs.Automaton.{Transition, leaving, ranges_of}
use Rattle.automata.specs.Records.{read_records, write_records}
use Rattle.automata.proofs.Records.{read_write, length_write}
use Rattle.lists.proofs.Lists.{length_filter}
use Rattle.ranges.specs.Missing.{SortedRanges}
use Rattle.ranges.proofs.Sorting.{leaving_sorted}
use Rattle.sheets.specs.inner.Accepted.{Accepted}
use Rattle.sheets.specs.inner.Runs.{starts_of, RunAt}
use Rattle.sheets.specs.Sheet.{read}
use Rattle.sheets.proofs.Accepted.{check_accepted}
use Rattle.sheets.proofs.Meaning.{read_well, read_fits}
use Rattle.sheets.proofs.Runs.{starts_indexed, run_at}
use Rattle.words.proofs.Epsilons.{fresh_large}

module _ (s : List ℕ) (a : Accepted s) where
  pub first_run : (old starts : List ℕ) → starts ≡ sets old 0 (starts_of s) → length old ≡ 257 → RunAt s starts 0
  first_run old starts e l = run_at s a starts 0 (starts_indexed s old starts e (omega (arith, a.few_states))) a.some_state

  pub run_sorted : (run : List ℕ) → run ≡ write_records (leaving (read s) 0) → SortedRanges (ranges_of (read_records run))
  run_sorted run e =
      subst (λ (es : List Transition). SortedRanges (ranges_of es)) (sym (ap read_records e ∙ read_write (leaving (read s) 0))) (leaving_sorted (read s) 0 (read_well s a))

  pub run_short : (run : List ℕ) → run ≡ write_records (leaving (read s) 0) → length run ≤ 10240
  unfolding leaving
  run_short run e =
      omega (
        arith,
        ap length e,
        length_write (leaving (read s) 0),
        length_filter (λ (t : Transition). eqb t.from 0) (read s).transitions,
        (read_fits s a).few_transitions_lem,
      )

pub ruleset accepted_laws = (check_accepted, rules)

pub ruleset fresh_laws = (fresh_large, rules)
