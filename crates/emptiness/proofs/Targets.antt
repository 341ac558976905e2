-- The table of first targets: the laws by which it is proved.
use Prim.Native.Nat.{ℕ, ◌+◌, ◌-◌, ◌≤◌, ◌<◌}
use mathlib.Core.List.{List}
use mathlib.Core.Path.{◌≡◌, refl, sym, ◌∙◌, ap, ap₂}
use native.Mathlib.Omega.{arith}
use borrow.Author.Rules.{rules}
use lib.ListN.{length, get_or, take, drop, set, length-take, length-drop}
use lib.Seq.{get_or-drop, get_or-take, length-sets}
use Rattle.lists.specs.Lists.{tabulate}
use Rattle.lists.proofs.Parts.{table_next, table_at}
use Rattle.automata.specs.Automaton.{Automaton, leaving}
use Rattle.automata.specs.Records.{read_records}
use Rattle.automata.proofs.Records.{read_write, records_at_lem, records_end}
use Rattle.sheets.specs.inner.Runs.{RunAt}
use Rattle.sheets.specs.Sheet.{read}
use Rattle.sheets.proofs.Runs.{run_at}
use Rattle.emptiness.specs.inner.Marks.{first_target, targets_below, FirstTargets}

-- of one state, by its run
module _ (s starts : List ℕ) (q : ℕ) (r : RunAt s starts q) where
  abbrev run : List ℕ
  run = take (get_or starts (q + 1) 0 - get_or starts q 0) (drop (get_or starts q 0) s)

  long : length run ≡ get_or starts (q + 1) 0 - get_or starts q 0
  long = simp (length-take, length-drop) (omega (arith, r.ordered, r.within))

  records : leaving (read s) q ≡ read_records (drop 0 run)
  records = sym (ap read_records r.words ∙ read_write (leaving (read s) q))

  pub target_is : 5 ≤ get_or starts (q + 1) 0 - get_or starts q 0 → get_or s (get_or starts q 0 + 4) 0 ≡ first_target (read s) q
  unfolding first_target
  target_is h =
      rw (records ∙ records_at_lem run 0 (omega (arith, long)))
      (sym (get_or-take (get_or starts (q + 1) 0 - get_or starts q 0) (drop (get_or starts q 0) s) 4 0 (omega arith) ∙ get_or-drop (get_or starts q 0) s 4 0))

  pub target_none : get_or starts (q + 1) 0 - get_or starts q 0 < 5 → q ≡ first_target (read s) q
  unfolding first_target
  target_none h = rw (records ∙ records_end run 0 (omega (arith, long)))

-- of the states below n
pub targets_none : (A : Automaton) (old : List ℕ) → old ≡ targets_below A old 0
unfolding tabulate targets_below
targets_none A old = refl

pub targets_next : (A : Automaton) (old now : List ℕ) (n t : ℕ) → now ≡ targets_below A old n → t ≡ first_target A n → set now n t ≡ targets_below A old (n + 1)
unfolding targets_below
targets_next A old now n t e h = ap₂ (λ l x. set l n x) e h ∙ table_next old (first_target A) n

pub targets_long : (A : Automaton) (old now : List ℕ) (n : ℕ) → now ≡ targets_below A old n → length now ≡ length old
unfolding targets_below
targets_long A old now n e = ap length e ∙ length-sets old 0 (tabulate n (first_target A))

-- of all
pub targets_all : (A : Automaton) (old targets : List ℕ) → targets ≡ targets_below A old A.size → length old ≡ 256 → A.size ≤ 256 → FirstTargets A targets
targets_all A old targets e l h =
    record { long = targets_long A old targets A.size e ∙ l; at = λ q k. unfold targets_below in (ap (λ x. get_or x q 0) e ∙ table_at old (first_target A) A.size q (omega (arith, l)) k) }

pub ruleset target_laws = (target_is, target_none, targets_none, targets_long, run_at, rules)
