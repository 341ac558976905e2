-- What `determinize_accepted` and `determinize_both` leave at the fronts of their outputs. Assumes nothing.
use Rattle.std.proofs.Common.{Result, Ok, Err}
use Prim.Native.Nat.{ℕ, ◌+◌, ◌≤◌}
use mathlib.Core.List.{List, ◌++◌}
use mathlib.Core.Path.{◌≡◌, refl, sym, ap, subst, ◌∙◌}
use native.Mathlib.Omega.{arith}
use lib.ListN.{length, take, drop}
use lib.Seq.{sets, sets-eq, length-sets, take-append_seam}
use Rattle.automata.specs.Automaton.{Automaton}
use Rattle.automata.specs.Deterministic.{Deterministic}
use Rattle.refusal.specs.declared.StateRefusal.{StateRefusal}
use Rattle.refusal.specs.Answer.{Answer, refused, given}
use Rattle.refusal.specs.Number.{state_number}
use Rattle.sheets.specs.inner.Accepted.{Accepted}
use Rattle.sheets.specs.Sheet.{read, write}
use Rattle.sheets.proofs.Accepted.{accepted}
use Rattle.sheets.proofs.Meaning.{read_well}
use Rattle.determinize.specs.declared.Determinized.{Determinized}
use Rattle.determinize.specs.Determinize.{determinize}
use Rattle.determinize.specs.inner.Sheets.{SheetSize, SheetOutput, sheet_output, determinized_of}
use Rattle.determinize.proofs.Theorems.{determinize_deterministic, determinize_written, determinize_read, determinize_room}
use Rattle.determinizations.specs.inner.Sheets.{BothDeterminized}
use Rattle.determinizations.proofs.Theorems.{determinized_both, determinized_first, determinized_second}

-- the sheet of n words at the front of o is the determinization of the sheet s
record Front (lower upper : ℕ) (s o : List ℕ) (n : ℕ) : Type 0 where
  inside : n ≤ length o
  is : determinize lower upper (read s) ≡ given (read (take n o))
  good : Accepted (take n o)
  one : Deterministic lower upper (read (take n o))

-- the answer of `determinize_accepted`, with the output before and after
module _ (lower upper : ℕ) (s old new : List ℕ) (r : Result Determinized StateRefusal) (e : determinized_of r new ≡ sheet_output old (determinize lower upper (read s))) where
  front_refused : (k : StateRefusal) → r ≡ Err k → determinize lower upper (read s) ≡ refused (state_number k)
  unfolding sheet_output
  front_refused k q = by_answer (determinize lower upper (read s)) refl
    where
      by_answer : (x : Answer Automaton) → determinize lower upper (read s) ≡ x → x ≡ refused (state_number k)
      by_answer (refused n) h =
          let z : determinized_of (Err k) new ≡ sheet_output old (refused n) = ap (λ (r : Result Determinized StateRefusal). determinized_of r new) (sym q) ∙ e ∙ ap (sheet_output old) h in
          let y = ap (λ (o : SheetOutput). o.answer) z in
          let n-is : state_number k ≡ n = cc in
          ap refused (sym n-is)
      by_answer (given D) h =
          let z : determinized_of (Err k) new ≡ sheet_output old (given D) = ap (λ (r : Result Determinized StateRefusal). determinized_of r new) (sym q) ∙ e ∙ ap (sheet_output old) h in
          let y = ap (λ (o : SheetOutput). o.answer) z in
          cc

  module _ (d : Determinized) (q : r ≡ Ok d) where
    record Stored (D : Automaton) : Type 0 where
      is_n : d.words ≡ length (write D)
      is_new : new ≡ sets old 0 (write D)

    stored : (D : Automaton) → determinize lower upper (read s) ≡ given D → Stored D
    unfolding sheet_output
    stored D h =
        let z : determinized_of (Ok d) new ≡ sheet_output old (given D) = ap (λ (r : Result Determinized StateRefusal). determinized_of r new) (sym q) ∙ e ∙ ap (sheet_output old) h in
        let y = ap (λ (o : SheetOutput). o.answer) z in
        let v : ◌≡◌ {A = SheetSize} (record { words = d.words; states = d.states }) (record { words = length (write D); states = D.size }) = cc in
        record { is_n = ap (λ (x : SheetSize). x.words) v; is_new = ap (λ (o : SheetOutput). o.memory) z }

    some : (D : Automaton) × (determinize lower upper (read s) ≡ given D)
    unfolding sheet_output
    some = by_answer (determinize lower upper (read s)) refl
      where
        by_answer : (x : Answer Automaton) → determinize lower upper (read s) ≡ x → (D : Automaton) × (determinize lower upper (read s) ≡ given D)
        by_answer (given D) h = (D, h)
        by_answer (refused k) h =
            let z : determinized_of (Ok d) new ≡ sheet_output old (refused k) = ap (λ (r : Result Determinized StateRefusal). determinized_of r new) (sym q) ∙ e ∙ ap (sheet_output old) h in
            let y = ap (λ (o : SheetOutput). o.answer) z in
            cc

    front_given : Accepted s → 10500 ≤ length old → Front lower upper s new d.words
    front_given good long =
        let w = read_well s good in
        let D = some.0 in
        let is-d = some.1 in
        let t = stored D is-d in
        let room = determinize_room lower upper (read s) w.states D is-d w in
        let k = determinize_read lower upper (read s) w.states D is-d w in
        let all = ap length t.is_new ∙ length-sets old 0 (write D) in
        let front : take d.words new ≡ write D = ap (take d.words) (t.is_new ∙ sets-eq (write D) old 0 (omega arith)) ∙ ap (λ (k : ℕ). take k (write D ++ drop (0 + length (write D)) old)) t.is_n ∙ take-append_seam (write D) _ in
        let reads : read (take d.words new) ≡ D = ap read front ∙ k in
        record {
          inside = omega (arith, t.is_n, all);
          is = is-d ∙ ap given (sym reads);
          good = subst Accepted (sym front) (accepted (write D) (determinize_written lower upper (read s) w.states D is-d w));
          one = subst (Deterministic lower upper) (sym reads) (determinize_deterministic lower upper (read s) w.states D is-d);
        }

-- the answers on both sheets
module _ (lower upper : ℕ) (a b o o' p : List ℕ) (r : Result Determinized StateRefusal) (is-r : determinized_of r o' ≡ sheet_output o (determinize lower upper (read a))) where
  pub first_refused : (k : StateRefusal) → r ≡ Err k → BothDeterminized lower upper (read a) (read b) o' p (Err k)
  first_refused k e = determinized_first lower upper (read a) (read b) (state_number k) (front_refused lower upper a o o' r is-r k e)

  module _ (d : Determinized) (e : r ≡ Ok d) (good-a : Accepted a) (long-o : 10500 ≤ length o) (p' : List ℕ) (q : Result Determinized StateRefusal)
      (is-q : determinized_of q p' ≡ sheet_output p (determinize lower upper (read b))) where
    first : Front lower upper a o' d.words
    first = front_given lower upper a o o' r is-r d e good-a long-o

    pub second_refused : (k : StateRefusal) → q ≡ Err k → BothDeterminized lower upper (read a) (read b) o' p' (Err k)
    second_refused k f = determinized_second lower upper (read a) (read b) _ first.is (state_number k) (front_refused lower upper b p p' q is-q k f)

    pub both_given : (x : Determinized) → q ≡ Ok x → Accepted b → 10500 ≤ length p → BothDeterminized lower upper (read a) (read b) o' p' (Ok (d.words, x.words))
    both_given x f good-b long-p =
        let second = front_given lower upper b p p' q is-q x f good-b long-p in
        record {
          first_in = first.inside;
          second_in = second.inside;
          sheets = record { first = first.good; second = second.good; one = first.one; two = second.one };
          are = determinized_both lower upper (read a) (read b) _ _ first.is second.is;
        }
