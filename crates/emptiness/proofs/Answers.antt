-- The answer of emptiness: the laws by which it is proved.
use Prim.Native.Nat.{ℕ}
use mathlib.Core.Bool.{Bool}
use mathlib.Core.List.{List}
use mathlib.Core.Path.{◌≡◌, sym, ◌∙◌, ap}
use native.Mathlib.Omega.{arith}
use borrow.Author.Rules.{rules}
use lib.ListN.{length, replicate, length-replicate}
use lib.Seq.{sets}
use Rattle.std.specs.Prelude.{Result, Ok, Err}
use Rattle.lists.proofs.Lists.{blank_at}
use Rattle.refusal.specs.Answer.{given, refused}
use Rattle.refusal.specs.Number.{input_number}
use Rattle.refusal.specs.declared.InputRefusal.{InputRefusal}
use Rattle.sheets.specs.inner.Accepted
use Rattle.sheets.specs.Checked.{checked_number}
use Rattle.sheets.specs.Fault.{fault}
use Rattle.sheets.specs.inner.Runs.{starts_of, Indexed}
use Rattle.sheets.specs.Sheet.{state_count, read}
use Rattle.sheets.proofs.Checking.{sheet_passed, sheet_refused}
use Rattle.sheets.proofs.Runs.{starts_indexed}
use Rattle.emptiness.specs.inner.Marks.{Unmarked, targets_below, UnmarkedSearch}
use Rattle.emptiness.specs.Reachable.{has_reachable_accepting, reachable_answer}
use Rattle.emptiness.proofs.Targets.{targets_all}

pub no_marks : Unmarked (replicate 256 0)
no_marks = record { wide = length-replicate {A = ℕ} 256 0; nothing = blank_at 256 }

pub all_indexed : (s old starts : List ℕ) → Accepted.Accepted s → starts ≡ sets old 0 (starts_of s) → length old ≡ 257 → Indexed s starts
all_indexed s old starts a e l = starts_indexed s old starts e (omega (arith, a.few_states))

pub all_ready : (s old starts targets : List ℕ) → Accepted.Accepted s → starts ≡ sets old 0 (starts_of s) → length old ≡ 257
    → targets ≡ targets_below (read s) (replicate 256 0) (state_count s) → UnmarkedSearch s starts targets (replicate 256 0) (replicate 256 0)
all_ready s old starts targets a e l f =
    record {
      accepted = a;
      indexed = all_indexed s old starts a e l;
      first = targets_all (read s) (replicate 256 0) targets f (length-replicate {A = ℕ} 256 0) a.few_states;
      unmarked = no_marks;
      long = length-replicate {A = ℕ} 256 0;
    }

pub ruleset reached_laws = (all_indexed, all_ready, length-replicate, rules)

module _ (s : List ℕ) (r : Result (Unit {0}) InputRefusal) (e : checked_number r ≡ fault s) where
  pub answer_given : r ≡ Ok tt → (b : Bool) → b ≡ has_reachable_accepting (read s) → given b ≡ reachable_answer s
  unfolding reachable_answer
  answer_given h b q = ap given q ∙ sym (sheet_passed s _ r e h)

  pub answer_refused : (i : InputRefusal) → r ≡ Err i → refused (input_number i) ≡ reachable_answer s
  unfolding reachable_answer
  answer_refused i h = sym (sheet_refused s _ r e i h)

pub ruleset answer_laws = (answer_given, answer_refused, rules)
