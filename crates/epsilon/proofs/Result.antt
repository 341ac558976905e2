-- The eliminated automaton: it is well-formed and can be written as a sheet, and exactly where it is given.
use Prim.Native.Nat.{ℕ, zero, suc, ◌≤◌, ◌<◌}
use mathlib.Core.List.{List}
use mathlib.Core.Logic.{◌↔◌, ⊎_elim}
use mathlib.Core.Path.{◌≡◌, refl, sym, subst}
use native.Mathlib.Omega.{arith}
use borrow.Author.Tests.{ltb-true, ltb-false}
use lib.Dec.{ltb}
use lib.ListN.{length, get_or, get_or-eq_default}
use Rattle.lists.proofs.Lists.{length_tabulate}
use Rattle.lists.proofs.Tests.{test}
use Rattle.automata.specs.Automaton.{Automaton}
use Rattle.automata.specs.WellFormed.{Sound, WellFormed, most_transitions}
use Rattle.automata.proofs.Ordered.{in_order_ascending}
use Rattle.labels.specs.Labels.{labels_fault, read_labels}
use Rattle.labels.proofs.Labels.{labels_read, length_read}
use Rattle.output.specs.Output.{Pattern}
use Rattle.output.proofs.Exact.{transitions_given, transitions_number, transitions_22}
use Rattle.output.proofs.Left.{Writable}
use Rattle.refusal.specs.Answer.{refused, given}
use Rattle.sets.specs.Sets.{Set}
use Rattle.sheets.specs.Fault.{fault}
use Rattle.sheets.specs.Sheet.{state_count, read}
use Rattle.sheets.proofs.Decisions.{given_not}
use Rattle.sheets.proofs.Accepted.{accepted}
use Rattle.sheets.proofs.Meaning.{read_well}
use Rattle.words.specs.Simulation.{closure, kind_of}
use Rattle.words.proofs.Kind.{kind_of_some}
use Rattle.epsilon.specs.Eliminate.{closure_kinds, eliminated, eliminated_with}
use Rattle.epsilon.proofs.Members.{eliminated_out}
use Rattle.epsilon.proofs.Runs.{states_kept, accept_at}

kind_most : (A : Automaton) → WellFormed A → (S : Set) → kind_of A S ≤ 1
kind_most A w S = go (kind_of A S) refl
  where
    go : (k : ℕ) → kind_of A S ≡ k → k ≤ 1
    go zero e = omega arith
    go (suc k) e = let r = kind_of_some A S (rw e (omega arith)) in omega (arith, r.2, w.accept_words_lem r.0, e)

-- a well-formed automaton stays one
module _ (A : Automaton) (w : WellFormed A) where
  accept_word_lem : (q : ℕ) → get_or (eliminated A).accept q 0 ≤ 1
  unfolding eliminated closure_kinds
  accept_word_lem q =
      ⊎_elim (λ t. rw (accept_at A w.states q (ltb-true q A.size t)) (kind_most A w (closure A q)))
      (λ t. rw (get_or-eq_default (closure_kinds A A.size) 0 {n = q} (rw (length_tabulate A.size (λ p. kind_of A (closure A p))) (ltb-false q A.size t))) (omega arith))
      (test (ltb q A.size))

  pub eliminated_well : WellFormed (eliminated A)
  unfolding eliminated closure_kinds
  eliminated_well =
      record {
        states = states_kept A w.states;
        accepts = length_tabulate A.size _;
        accept_words_lem = accept_word_lem;
        sound = λ e m. let c = (eliminated_out A e m).1 in let s = w.sound c.source c.in in subst Sound (sym c.is) (record { known = s.known; full = s.full; blank = s.blank });
        ascends = in_order_ascending _;
      }

-- the answer for the sheet s and its labels b behind their faults
module _ (s b : List ℕ) where
  abbrev pub result : Pattern
  result = record { automaton = eliminated (read s); labels = read_labels b }

  -- behind the faults it is given exactly where the transitions are few enough, 22 is refused where they are not, and no other number is
  pub behind_given : (P : Pattern) → eliminated_with (read s) (read_labels b) ≡ given P → length (eliminated (read s)).transitions ≤ most_transitions
  unfolding eliminated_with
  behind_given P e = ((transitions_given (eliminated (read s)) (given result) P).0 e).0

  pub given_behind : length (eliminated (read s)).transitions ≤ most_transitions → eliminated_with (read s) (read_labels b) ≡ given result
  unfolding eliminated_with
  given_behind few = (transitions_given (eliminated (read s)) (given result) result).1 (few, refl)

  pub behind_22 : (eliminated_with (read s) (read_labels b) ≡ refused 22) ↔ (most_transitions < length (eliminated (read s)).transitions)
  unfolding eliminated_with
  behind_22 = transitions_22 (eliminated (read s)) (given result) (given_not _ _)

  pub behind_other : (m : ℕ) → (m ≡ 22 → ⊥) → eliminated_with (read s) (read_labels b) ≡ refused m → ⊥
  unfolding eliminated_with
  behind_other m other e = given_not _ _ ((transitions_number (eliminated (read s)) (given result) m other).0 e).1

  -- the result of an accepted sheet with accepted labels can be written
  pub result_writable : fault s ≡ 0 → labels_fault (state_count s) b ≡ 0 → length (eliminated (read s)).transitions ≤ most_transitions → Writable result
  unfolding eliminated
  result_writable f g few =
      let a = accepted s f in
      record {
        well = eliminated_well (read s) (read_well s a);
        fits = record { few_states = a.few_states; few_transitions_lem = few };
        labels = labels_read (state_count s) b g;
        each = length_read (state_count s) b g;
      }
