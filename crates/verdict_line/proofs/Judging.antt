-- Laws of the verdict on two texts: the refusals in their order, and the line.
use Prim.Native.Nat.{ℕ, ◌-◌, ◌≤◌, ◌<◌}
use mathlib.Core.Bool.{Bool, true, false, cond}
use mathlib.Core.List.{List}
use mathlib.Core.Path.{◌≡◌, refl, sym, ◌∙◌, ap, subst}
use native.Mathlib.Omega.{arith}
use borrow.Author.Rules.{rules}
use borrow.Author.Tests.{lt-ltb, le-ltb}
use lib.Dec.{ltb}
use Rattle.std.proofs.Common.{Option, Some, None, Result, Ok}
use lib.ListN.{length, take, drop}
use lib.Seq.{length-take-le}
use Rattle.automata.specs.Automaton.{Automaton}
use Rattle.grammar.specs.Grammar.{ReadResult, nothing, found, Mark}
use Rattle.stores.specs.Written.{Written}
use Rattle.lists.proofs.Parts.{part_all}
use Rattle.stores.proofs.Written.{written_length}
use Rattle.refusal.specs.Answer.{Answer, refused, given}
use Rattle.refusal.specs.Number.{number_of}
use Rattle.refusal.specs.declared.InputRefusal.TheVariants.{Grammar}
use Rattle.refusal.specs.declared.Refusal.{Refusal}
use Rattle.refusal.specs.declared.Refusal.TheVariants.{Input}
use Rattle.sheets.specs.Checked.{sheet_first}
use Rattle.sheets.specs.Fault.{fault}
use Rattle.sheets.specs.Sheet.{read}
use Rattle.parser.specs.Pattern.{Reading, reading_answer}
use Rattle.parser.specs.declared.Parsed.{Parsed}
use Rattle.parser.proofs.Outcomes.{answers_given}
use Rattle.determinizations.specs.Two.{Two, total_size}
use Rattle.determinizations.specs.Determinizations.{determinized}
use Rattle.determinizations.proofs.Theorems.{total_few}
use Rattle.equality.specs.Verdict.{Decided}
use Rattle.equality.specs.Equality.{equality_answer, Judged}
use Rattle.equality.specs.declared.Verdict.{Verdict}
use Rattle.equality.specs.declared.Verdict.TheVariants.{Same, Different, Refused}
use Rattle.verdict_line.specs.Texts.{two_texts, with_second_text, with_first_text, on_texts, verdict_answer}
use Rattle.verdict_line.specs.Line.{VerdictLine, refuses, same, differs, Printed, short, printed}
use Rattle.verdict_line.specs.inner.Code.{second_of, SheetRead, verdict_line, Short}
use Rattle.verdict_line.proofs.Reading.{IsSheet, two_inside, sheet_refused, sheet_inside, sheet_is}

-- a refusal with its number
judged_refused : (a : Answer Two) (o : List ℕ) (r : Refusal) → a ≡ refused (number_of r) → Judged a o o (Refused r)
unfolding Judged
judged_refused a o r e = subst (λ (x : Answer Two). Judged x o o (Refused r)) (sym e) (refl, refl)

module _ (lower upper : ℕ) (o : List ℕ) where
  -- the second text
  module _ (a t : List ℕ) where
    pub second_refuses : (r : Refusal) → reading_answer t ≡ refused (number_of r) → Judged (with_second_text lower upper (read a) (reading_answer t)) o o (Refused r)
    unfolding with_second_text
    second_refuses r e = judged_refused _ o r (ap (with_second_text lower upper (read a)) e)

    pub second_judged : (b : List ℕ) → fault a ≡ 0 → IsSheet t b → 510 ≤ length o → (o' : List ℕ) (v : Verdict)
        → Judged (equality_answer lower upper a b o) o o' v → Judged (with_second_text lower upper (read a) (reading_answer t)) o o' v
    unfolding with_second_text equality_answer sheet_first
    second_judged b f s room o' v j =
        let z : equality_answer lower upper a b o ≡ determinized lower upper (read a) (read b) = rw (le-ltb (length o) 510 room, f, s.accepted) refl in
        let y : with_second_text lower upper (read a) (reading_answer t) ≡ determinized lower upper (read a) (read b) = ap (with_second_text lower upper (read a)) s.is_reading_lem ∙ ap (determinized lower upper (read a)) (sym s.is) in
        subst (λ (x : Answer Two). Judged x o o' v) (z ∙ sym y) j

  -- the first text
  module _ (t : List ℕ) (b : Answer Reading) where
    pub first_refuses : (r : Refusal) → reading_answer t ≡ refused (number_of r) → Judged (with_first_text lower upper (reading_answer t) b) o o (Refused r)
    unfolding with_first_text
    first_refuses r e = judged_refused _ o r (ap (λ (x : Answer Reading). with_first_text lower upper x b) e)

    pub first_judged : (a : List ℕ) → IsSheet t a → (o' : List ℕ) (v : Verdict) → Judged (with_second_text lower upper (read a) b) o o' v → Judged (with_first_text lower upper (reading_answer t) b) o o' v
    unfolding with_first_text
    first_judged a s o' v j =
        let y : with_first_text lower upper (reading_answer t) b ≡ with_second_text lower upper (read a) b = ap (λ (x : Answer Reading). with_first_text lower upper x b) s.is_reading_lem ∙ ap (λ (A : Automaton). with_second_text lower upper A b) (sym s.is) in
        subst (λ (x : Answer Two). Judged x o o' v) (sym y) j

  -- the input
  module _ (t : List ℕ) where
    pub input_long : 65536 < length t → Judged (verdict_answer lower upper t) o o (Refused (Input Grammar))
    unfolding verdict_answer
    input_long h = judged_refused _ o (Input Grammar) (rw (lt-ltb 65536 (length t) h) refl)

    module _ (s : Option ℕ) (e : second_of s ≡ two_texts t) (h : length t ≤ 65536) where
      is_compared : verdict_answer lower upper t ≡ on_texts lower upper t (second_of s)
      unfolding verdict_answer
      is_compared = rw (le-ltb 65536 (length t) h) (ap (on_texts lower upper t) (sym e))

      pub input_outside : s ≡ None → Judged (verdict_answer lower upper t) o o (Refused (Input Grammar))
      input_outside f = judged_refused _ o (Input Grammar) (is_compared ∙ ap (λ (x : Option ℕ). on_texts lower upper t (second_of x)) f)

      pub input_judged : (at : ℕ) → s ≡ Some at → (o' : List ℕ) (v : Verdict)
          → Judged (with_first_text lower upper (reading_answer t) (reading_answer (take (length t - at) (drop at t)))) o o' v
          → Judged (verdict_answer lower upper t) o o' v
      input_judged at f o' v j =
          let z : verdict_answer lower upper t ≡ with_first_text lower upper (reading_answer t) (reading_answer (take (length t - at) (drop at t))) = is_compared ∙ ap (λ (x : Option ℕ). on_texts lower upper t (second_of x)) f ∙ ap (λ (x : List ℕ). with_first_text lower upper (reading_answer t) (reading_answer x)) (sym (part_all at t)) in
          subst (λ (x : Answer Two). Judged x o o' v) (sym z) j

-- the sheet of a text has no fault
pub sheet_accepted : (t o : List ℕ) (p : Result Parsed Refusal) (m : Parsed) → SheetRead (reading_answer t) o p → p ≡ Ok m → fault (take (m.words - 0) o) ≡ 0
sheet_accepted t o p m s e = (sheet_is t o p m s e).accepted

pub at_inside : (t : List ℕ) (s : Option ℕ) (at : ℕ) → second_of s ≡ two_texts t → s ≡ Some at → at ≤ length t
at_inside t s at e f = two_inside t at (sym e ∙ ap second_of f)

pub ruleset text_laws = (second_refuses, second_judged, first_refuses, first_judged, sheet_refused, sheet_inside, sheet_is, sheet_accepted, rules)

pub ruleset input_laws = (input_long, input_outside, input_judged, at_inside, rules)

-- both determinizations have at most 256 states
module _ (lower upper : ℕ) where
  texts_few : (t s : List ℕ) (w : Two) → with_first_text lower upper (reading_answer t) (reading_answer s) ≡ given w → total_size w ≤ 512
  unfolding with_first_text with_second_text
  texts_few t s w e = by_answers (reading_answer t) (reading_answer s) refl refl e
    where
      by_answers : (x y : Answer Reading) → reading_answer t ≡ x → reading_answer s ≡ y → with_first_text lower upper x y ≡ given w → total_size w ≤ 512
      by_answers (refused n) y p q h = absurd (let z : ◌≡◌ {A = ℕ} 0 1 = cc in omega arith)
      by_answers (given R) (refused n) p q h = absurd (let z : ◌≡◌ {A = ℕ} 0 1 = cc in omega arith)
      by_answers (given R) (given S) p q h =
          total_few lower upper R.pattern.automaton S.pattern.automaton (answers_given t R p).writable.well.states (answers_given s S q).writable.well.states w h

  compared_few : (t : List ℕ) (w : Two) → verdict_answer lower upper t ≡ given w → total_size w ≤ 512
  unfolding verdict_answer
  compared_few t w e = by_size (ltb 65536 (length t)) (two_texts t) e
    where
      by_size : (b : Bool) (f : ReadResult Mark) → cond b (refused 8) (on_texts lower upper t f) ≡ given w → total_size w ≤ 512
      by_size true f h = absurd (let z : ◌≡◌ {A = ℕ} 0 1 = cc in omega arith)
      by_size false nothing h = absurd (let z : ◌≡◌ {A = ℕ} 0 1 = cc in omega arith)
      by_size false (found _ at) h = texts_few t (drop at t) w h

-- the line of a verdict is short, and a line of the answer
line_short : (a : Answer Two) (o o' : List ℕ) (v : Verdict) → ((w : Two) → a ≡ given w → total_size w ≤ 512) → Judged a o o' v → Short v o'
unfolding Judged Decided Short
line_short (refused n) o o' (Same j) few h = absurd h
line_short (refused n) o o' (Different m) few h = absurd h
line_short (refused n) o o' (Refused r) few h = omega arith
line_short (given w) o o' (Same j) few h = omega (arith, few w refl, h.0.joined)
line_short (given w) o o' (Different m) few h = (omega (arith, few w refl, h.0.short, length-take-le m o' h.1), h.1)
line_short (given w) o o' (Refused r) few h = absurd h

line_given : (a : Answer Two) (o o' : List ℕ) (v : Verdict) → Judged a o o' v → VerdictLine a (verdict_line v o')
unfolding Judged Decided verdict_line
line_given (refused n) o o' (Same j) h = absurd h
line_given (refused n) o o' (Different m) h = absurd h
line_given (refused n) o o' (Refused r) h = subst (λ (k : ℕ). VerdictLine (refused k) (verdict_line (Refused r) o')) h.0 (refuses (number_of r))
line_given (given w) o o' (Same j) h = same w j h.0
line_given (given w) o o' (Different m) h = differs w (take m o') h.0
line_given (given w) o o' (Refused r) h = absurd h

-- o is the lent buffer, w the local one for the word
pub printed_nothing : (a : Answer Two) (o : List ℕ) → length o < 5617 → Printed a o o 0
printed_nothing a o h = short h refl refl

module _ (lower upper : ℕ) (t w w' : List ℕ) (v : Verdict) (j : Judged (verdict_answer lower upper t) w w' v) where
  pub printed_short : Short v w'
  printed_short = line_short _ w w' v (compared_few lower upper t) j

  pub printed_line : (o o' : List ℕ) (n : ℕ) → 5617 ≤ length o → Written o 0 (verdict_line v w') o' n → n ≤ 5617 → Printed (verdict_answer lower upper t) o o' n
  printed_line o o' n h p k = printed h (verdict_line v w') (line_given _ w w' v j) p k

-- the line ends within the buffer
pub printed_inside : (a : Answer Two) (o o' : List ℕ) (n : ℕ) → Printed a o o' n → n ≤ length o'
printed_inside a o o' n (short h e z) = omega arith
printed_inside a o o' n (printed h bytes l w k) = omega (arith, written_length o o' bytes 0 n w)

pub ruleset printed_laws = (printed_nothing, printed_short, printed_line, rules)
