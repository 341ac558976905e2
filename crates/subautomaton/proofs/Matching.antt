-- The tests of one state and of one record, and the records of a run.
use Prim.Native.Nat.{ℕ, ◌<◌}
use mathlib.Core.Bool.{Bool, true, false}
use mathlib.Core.List.{List}
use mathlib.Core.Path.{◌≡◌, sym, ◌∙◌, ap}
use native.Mathlib.Omega.{arith}
use borrow.Author.Rules.{rules}
use borrow.Author.Tests.{eq-eqb, ne_eqb}
use lib.Dec.{ltb}
use lib.ListN.{get_or}
use Rattle.lists.specs.Lists.{any}
use Rattle.automata.specs.Automaton.{Transition, leaving, states}
use Rattle.automata.specs.Records.{read_records, write_records}
use Rattle.automata.specs.inner.Records.{record_at}
use Rattle.automata.proofs.Records.{read_write}
use Rattle.sheets.specs.inner.Accepted.{Accepted}
use Rattle.sheets.specs.Sheet.{state_count, read}
use Rattle.sheets.proofs.Named.{chunk_from, chunk_to, ready_run}
use Rattle.subautomaton.specs.inner.Tables.{is_held, is_held_in, fits, fits_from, fits_in}
use Rattle.subautomaton.proofs.Reaching.{ordered_next, ordered_to, covers_ended, covers_found, covers_next, covers_short, covers_late, ready_ordered}
use Rattle.subautomaton.proofs.Loops.{records_ended, records_failed, records_left}

-- the state q of the sheet b
module _ (b cb : List ℕ) (k a q : ℕ) where
  pub held_other : (get_or cb q 0 ≡ k → ⊥) → false ≡ is_held (read b) cb k a q
  unfolding is_held
  held_other h = sym (rw (ne_eqb _ _ h))

  pub held_any : get_or cb q 0 ≡ k → a ≡ 0 → true ≡ is_held (read b) cb k a q
  unfolding is_held
  held_any h g = sym (rw (eq-eqb _ _ h, eq-eqb _ _ g))

  pub held_accepting : get_or cb q 0 ≡ k → (a ≡ 0 → ⊥) → (x : ℕ) → x ≡ get_or (read b).accept q 0 → ltb 0 x ≡ is_held (read b) cb k a q
  unfolding is_held
  held_accepting h g x e = sym (rw (eq-eqb _ _ h, ne_eqb _ _ g) (ap (ltb 0) (sym e)))

-- a state is within the table
pub state_small : (b : List ℕ) (q : ℕ) → Accepted b → q < state_count b → q < 256
state_small b q a h = omega (arith, a.few_states)

pub ruleset held_laws = (held_other, held_any, held_accepting, state_small, rules)

-- each state of the first sheet
pub held_in : (a b ca cb : List ℕ) (p x : ℕ) (r : Bool) → x ≡ get_or (read a).accept p 0 → r ≡ any (is_held (read b) cb (get_or ca p 0) x) (states (state_count b)) → r ≡ is_held_in (read a) (read b) ca cb p
unfolding is_held_in
held_in a b ca cb p x r d e = e ∙ ap (λ (y : ℕ). any (is_held (read b) cb (get_or ca p 0) y) (states (state_count b))) d

pub ruleset states_laws = (held_in, rules)

pub ruleset run_laws = (ordered_next, ordered_to, covers_ended, covers_found, covers_next, covers_short, covers_late, rules)

pub ruleset records_laws = (records_ended, records_failed, records_left, chunk_from, chunk_to, rules)

module _ (b cb : List ℕ) (from to : ℕ) (d : Transition) (q : ℕ) where
  pub from_other : (get_or cb q 0 ≡ from → ⊥) → false ≡ fits_from (read b) cb from to d q
  unfolding fits_from
  from_other h = sym (rw (ne_eqb _ _ h))

  pub from_run : get_or cb q 0 ≡ from → (t : List ℕ) (r : Bool) → t ≡ write_records (leaving (read b) q) → r ≡ any (fits cb to d) (read_records t) → r ≡ fits_from (read b) cb from to d q
  unfolding fits_from
  from_run h t r e g =
      let z : read_records t ≡ leaving (read b) q = ap read_records e ∙ read_write _ in
      g ∙ ap (any (fits cb to d)) z ∙ sym (rw (eq-eqb _ _ h))

-- some state
pub fits_in_lem : (b ca cb d : List ℕ) (x : Bool)
    → x ≡ any (fits_from (read b) cb (get_or ca (get_or d 0 0) 0) (get_or ca (get_or d 4 0) 0) (record_at d 0)) (states (state_count b))
    → x ≡ fits_in (read b) ca cb (record_at d 0)
unfolding fits_in
fits_in_lem b ca cb d x e = e

pub ruleset from_laws = (ready_run, ready_ordered, from_other, from_run, rules)
