-- Demand 3 whole.
--   demand_3     what `ringmatch_equality` answers, and that the products of each determinization with the other's complement, made by
--                `ringmatch_determinize`, `ringmatch_complement` and `ringmatch_intersection`, are empty by `ringmatch_has_reachable_accepting_state`
--                exactly in the equal case
-- Assumes nothing.
use Prim.Native.Nat.{ℕ}
use mathlib.Core.List.{List}
use mathlib.Core.Logic.{◌↔◌}
use mathlib.Core.Path.{◌≡◌}
use Rattle.automata.specs.Automaton.{Automaton, Accepts, Word}
use Rattle.automata.specs.WellFormed.{last_symbol}
use Rattle.determinize.specs.Determinize.{determinize}
use Rattle.determinize.proofs.Theorems.{determinize_words, determinize_given}
use Rattle.determinizations.specs.Determinizations.{determinized}
use Rattle.determinizations.proofs.Theorems.{determinized_both, total_few}
use Rattle.equality.proofs.Theorems.{equality_exact, forced_smallest}
use Rattle.refusal.specs.Answer.{given}
use Rattle.sheets.specs.Fault.{fault}
use Rattle.sheets.specs.Sheet.{read}
use Rattle.sheets.proofs.Accepted.{accepted}
use Rattle.sheets.proofs.Meaning.{read_well}
use Rattle.crossed.specs.Demand.{ComparedSheets, Crossing, Empty, beside, EqualWords, Crossed, Report, Demanded}
use Rattle.crossed.proofs.Products.{product_answers, empty_within}
use Rattle.crossed.proofs.Reports.{reported}
use Rattle.crossed.proofs.Sides.{determinization_left, complement_left, side_answers}

-- accepted sheets a and b whose determinizations are D and E
module _ (a b : List ℕ) (f : fault a ≡ 0) (g : fault b ≡ 0) (D E : Automaton) (d : determinize 0 last_symbol (read a) ≡ given D) (e : determinize 0 last_symbol (read b) ≡ given E) where
  by_a : (w : List ℕ) → Word 0 last_symbol w → Accepts D w ↔ Accepts (read a) w
  by_a = determinize_words 0 last_symbol (read a) (read_well a (accepted a f)).states D d

  by_b : (w : List ℕ) → Word 0 last_symbol w → Accepts E w ↔ Accepts (read b) w
  by_b = determinize_words 0 last_symbol (read b) (read_well b (accepted b g)).states E e

  -- both products are empty exactly where the sheets accept the same words
  both_empty : (x : Crossing a b) → (Empty x.first × Empty x.second) ↔ EqualWords a b
  both_empty x =
      let k = empty_within a f D d b g E e _ _ (determinization_left a f D d x.one) (complement_left b g E e x.two) x.first in
      let m = empty_within b g E e a f D d _ _ (determinization_left b g E e x.two) (complement_left a f D d x.one) x.second in (
        λ z w v. (λ h. (by_b w v).0 (k.0 z.0 w v ((by_a w v).1 h)), λ h. (by_a w v).0 (m.0 z.1 w v ((by_b w v).1 h))),
        λ s. (k.1 (λ w v h. (by_b w v).1 ((s w v).0 ((by_a w v).0 h))), m.1 (λ w v h. (by_a w v).1 ((s w v).1 ((by_b w v).0 h)))),
      )

  crossed : (c : ComparedSheets a b) → (c.memory.after.cells.same ≡ 1) ↔ EqualWords a b → (x : Crossing a b) → Crossed c x
  crossed c equal x =
      let k = both_empty x in
      record {
        first = product_answers a f D d b g E e _ _ (determinization_left a f D d x.one) (complement_left b g E e x.two) x.first;
        second = product_answers b g E e a f D d _ _ (determinization_left b g E e x.two) (complement_left a f D d x.one) x.second;
        words = k;
        reported = (λ z. equal.1 (k.0 z), λ z. k.1 (equal.0 z));
      }

  both : determinized 0 last_symbol (read a) (read b) ≡ given (beside D E)
  both = determinized_both 0 last_symbol (read a) (read b) D E d e

  report : (c : ComparedSheets a b) → Report a b (beside D E) c.memory
  report c =
      let m = c.memory in
      let few = total_few 0 last_symbol (read a) (read b) (read_well a (accepted a f)).states (read_well b (accepted b g)).states (beside D E) both in
      reported a b (beside D E) few m.word m.after.memory m.same m.number m.room m.after c.call.verdict c.call.is
      (equality_exact 0 last_symbol a b f g m.word m.after.memory c.call.verdict m.room c.call.judged D E d e)

  demanded : (c : ComparedSheets a b) → Demanded c
  demanded c =
      record {
        one = D;
        two = E;
        first = d;
        second = e;
        report = report c;
        smallest = forced_smallest 0 last_symbol a b f g (beside D E) both;
        side_a = side_answers a f D d;
        side_b = side_answers b g E e;
        crossed = crossed c (report c).equal;
      }

-- demand 3: of any two sheets, and of whatever the lent memory held
pub demand_3 : (a b : List ℕ) (c : ComparedSheets a b) → Demanded c
demand_3 a b c =
    let d = determinize_given 0 last_symbol (read a) (read_well a (accepted a c.accepted_a)).states c.limits_a.0 c.limits_a.1 in
    let e = determinize_given 0 last_symbol (read b) (read_well b (accepted b c.accepted_b)).states c.limits_b.0 c.limits_b.1 in
    demanded a b c.accepted_a c.accepted_b d.0 e.0 d.1 e.1 c
