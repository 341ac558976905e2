-- Laws of the two texts: where the second begins, and the sheet of each.
use Prim.Native.Nat.{ℕ, ◌+◌, ◌-◌, ◌^◌, ◌≤◌, ◌<◌}
use mathlib.Core.Bool.{Bool, true, false, cond}
use mathlib.Core.List.{List, ◌++◌}
use mathlib.Core.Path.{◌≡◌, refl, sym, ◌∙◌, ap, subst}
use native.Mathlib.Omega.{arith}
use mir.Syntax.{w64}
use mir.Val.{Fits}
use borrow.Author.Rules.{rules}
use borrow.Author.Tests.{le-ltb}
use lib.Dec.{ltb}
use Rattle.std.proofs.Common.{Option, Some, None, Result, Ok, Err}
use lib.ListN.{length, take, drop, length-drop}
use lib.Seq.{sets, sets-eq, length-sets, take-append_seam}
use Rattle.grammar.specs.Grammar.{nothing, found, Mark, mark, TextParts, space, whole_text}
use Rattle.grammar.specs.Pieces.{text_of}
use Rattle.grammar.specs.declared.tokens.Cursor.{Cursor}
use Rattle.grammar.specs.declared.text.Layout.{Layout}
use Rattle.grammar.proofs.Progress.{Holds, holds_found, holds_follow, text_inside}
use Rattle.grammar.proofs.Runs.{space_inside}
use Rattle.lists.proofs.Parts.{part_all}
use Rattle.refusal.specs.Answer.{Answer, refused, given}
use Rattle.refusal.specs.Number.{number_of}
use Rattle.refusal.specs.declared.Refusal.{Refusal}
use Rattle.output.specs.Output.{room_first}
use Rattle.sheets.specs.Fault.{fault}
use Rattle.sheets.specs.Sheet.{read, write}
use Rattle.sheets.proofs.Meaning.{read_write_sheet, write_accepted, write_room}
use Rattle.parser.specs.Parsed.{ReadLengths, read_lengths_of, parsed, parsed_of}
use Rattle.parser.specs.Pattern.{Reading, reading_answer, parse_answer}
use Rattle.parser.specs.declared.Parsed.{Parsed}
use Rattle.parser.proofs.Outcomes.{answers_given}
use Rattle.verdict_line.specs.Texts.{two_texts}
use Rattle.verdict_line.specs.inner.Code.{SheetRead, refuses, reads}

-- the first text: p is the answer of `whole_text`, and at the place behind it and behind optional space
module _ (t : List ℕ) (p : Option (Layout × Cursor)) (told : text_of t p ≡ whole_text t) (l : Layout) (c : Cursor) (e : p ≡ Some (l, c)) (at : ℕ) (is_at : at ≡ space t c.at) where
  pub second_inside : at ≤ length t
  second_inside = let h = space_inside t c.at (holds_found _ (text_inside t) (sym told ∙ ap (text_of t) e)) in omega arith

  -- the second text: q is the answer of `whole_text`
  module _ (q : Option (Layout × Cursor)) (told2 : text_of (take (length t - at) (drop at t)) q ≡ whole_text (take (length t - at) (drop at t)))
      (k : Layout) (d : Cursor) (f : q ≡ Some (k, d)) where
    pub both_inside : at + d.at ≤ length t
    both_inside =
        let h = holds_found _ (text_inside _) (sym told2 ∙ ap (text_of _) f) in
        omega (arith, ap length (part_all at t), length-drop at t, second_inside)

    pub both_fits : length t < 2 ^ 64 → Fits w64 (at + d.at)
    both_fits h = let i = both_inside in record { fits = omega arith }

-- the second text begins within the input
pub two_inside : (t : List ℕ) (at : ℕ) → two_texts t ≡ found mark at → at ≤ length t
unfolding two_texts
two_inside t at e = holds_found (λ (_ : Mark) (b : ℕ). b ≤ length t) holds e
  where
    last : (b : Bool) (k : ℕ) → k ≤ length t → Holds (λ (_ : Mark) (b : ℕ). b ≤ length t) (cond b nothing (found mark k))
    last true k h = Holds.none
    last false k h = Holds.some h

    holds : Holds (λ (_ : Mark) (b : ℕ). b ≤ length t) (two_texts t)
    holds =
        holds_follow (λ (_ : TextParts) (b : ℕ). b ≤ length t) (text_inside t) λ _ a h.
        holds_follow (λ (_ : TextParts) (b : ℕ). b ≤ length (drop (space t a) t)) (text_inside (drop (space t a) t)) λ _ b g.
        last (ltb (space t (space t a + b)) (length t)) (space t a) (space_inside t a h)

-- s is the sheet of the automaton of the text t
pub record IsSheet (t s : List ℕ) : Type 0 where
  pub reading : Reading
  pub is_reading_lem : reading_answer t ≡ given reading
  pub accepted : fault s ≡ 0
  pub is : read s ≡ reading.pattern.automaton

-- the answer p of `parse_automaton` on buffers that have room
module _ (t o n o' n' : List ℕ) (p : Result Parsed Refusal) (e : parsed_of p o' n' ≡ parsed o n (parse_answer t o n)) (long : length o ≡ 10500) (longer : length n ≡ 16642) where
  is_parsed : parsed_of p o' n' ≡ parsed o n (reading_answer t)
  unfolding parse_answer room_first
  is_parsed = e ∙ ap (parsed o n) (rw (le-ltb (length o) 10500 (omega arith), le-ltb (length n) 16642 (omega arith)) refl)

  pub sheet_read : SheetRead (reading_answer t) o' p
  unfolding parsed
  sheet_read = by_answer (reading_answer t) p refl refl
    where
      by_answer : (a : Answer Reading) (q : Result Parsed Refusal) → reading_answer t ≡ a → p ≡ q → SheetRead a o' q
      by_answer (refused k) (Err r) h g =
          let z : parsed_of (Err r) o' n' ≡ parsed o n (refused k) = ap (λ (x : Result Parsed Refusal). parsed_of x o' n') (sym g) ∙ is_parsed ∙ ap (parsed o n) h in
          let y = ap (λ x. x.answer) z in
          let w : number_of r ≡ k = cc in
          subst (λ (x : ℕ). SheetRead (refused x) o' (Err r)) w (refuses {o = o'} r)
      by_answer (refused k) (Ok m) h g =
          let z : parsed_of (Ok m) o' n' ≡ parsed o n (refused k) = ap (λ (x : Result Parsed Refusal). parsed_of x o' n') (sym g) ∙ is_parsed ∙ ap (parsed o n) h in
          let y = ap (λ x. x.answer) z in
          absurd (let w : ◌≡◌ {A = ℕ} 0 1 = cc in omega arith)
      by_answer (given R) (Err r) h g =
          let z : parsed_of (Err r) o' n' ≡ parsed o n (given R) = ap (λ (x : Result Parsed Refusal). parsed_of x o' n') (sym g) ∙ is_parsed ∙ ap (parsed o n) h in
          let y = ap (λ x. x.answer) z in
          absurd (let w : ◌≡◌ {A = ℕ} 0 1 = cc in omega arith)
      by_answer (given R) (Ok m) h g =
          let A = R.pattern.automaton in
          let z : parsed_of (Ok m) o' n' ≡ parsed o n (given R) = ap (λ (x : Result Parsed Refusal). parsed_of x o' n') (sym g) ∙ is_parsed ∙ ap (parsed o n) h in
          let y = ap (λ x. x.answer) z in
          let v : ◌≡◌ {A = ReadLengths} (record { read = m.read; outputs = record { words = m.words; bytes = m.bytes } }) (read_lengths_of R) = cc in
          let is-w : m.words ≡ length (write A) = ap (λ (x : ReadLengths). x.outputs.words) v in
          let is-o : o' ≡ sets o 0 (write A) = ap (λ x. x.memory.sheet) z in
          let right = (answers_given t R h).writable in
          let l = write_room A right.well.accepts right.fits in
          reads {o = o'} R m (omega (arith, ap length is-o, length-sets o 0 (write A)))
          (ap (take m.words) (is-o ∙ sets-eq (write A) o 0 (omega arith)) ∙ ap (λ (k : ℕ). take k (write A ++ drop (0 + length (write A)) o)) is-w ∙ take-append_seam (write A) _)

pub ruleset read_laws = (sheet_read, rules)

-- what the answer of `read_sheet` says
module _ (t o : List ℕ) (p : Result Parsed Refusal) where
  pub sheet_refused : (r : Refusal) → SheetRead (reading_answer t) o p → p ≡ Err r → reading_answer t ≡ refused (number_of r)
  sheet_refused r s e = by_case (reading_answer t) p s e
    where
      by_case : (a : Answer Reading) (q : Result Parsed Refusal) → SheetRead a o q → q ≡ Err r → a ≡ refused (number_of r)
      by_case a q (refuses x) h = let z : x ≡ r = cc in ap (λ (y : Refusal). refused (number_of y)) z
      by_case a q (reads R k i g) h = absurd (let z : ◌≡◌ {A = ℕ} 0 1 = cc in omega arith)

  module _ (m : Parsed) (s : SheetRead (reading_answer t) o p) (e : p ≡ Ok m) where
    pub sheet_inside : m.words ≤ length o
    sheet_inside = by_case (reading_answer t) p s e
      where
        by_case : (a : Answer Reading) (q : Result Parsed Refusal) → SheetRead a o q → q ≡ Ok m → m.words ≤ length o
        by_case a q (refuses x) h = absurd (let z : ◌≡◌ {A = ℕ} 0 1 = cc in omega arith)
        by_case a q (reads R k i g) h = let z : k ≡ m = cc in omega (arith, ap (λ (x : Parsed). x.words) z)

    pub sheet_is : IsSheet t (take (m.words - 0) o)
    sheet_is = by_case (reading_answer t) p refl s e
      where
        by_case : (a : Answer Reading) (q : Result Parsed Refusal) → reading_answer t ≡ a → SheetRead a o q → q ≡ Ok m → IsSheet t (take (m.words - 0) o)
        by_case a q f (refuses x) h = absurd (let z : ◌≡◌ {A = ℕ} 0 1 = cc in omega arith)
        by_case a q f (reads R k i g) h =
            let y : k ≡ m = cc in
            let z : k.words ≡ m.words - 0 = omega (arith, ap (λ (x : Parsed). x.words) y) in
            let right = (answers_given t R f).writable in
            let d : take (m.words - 0) o ≡ write R.pattern.automaton = ap (λ (k : ℕ). take k o) (sym z) ∙ g in
            record {
              reading = R;
              is_reading_lem = f;
              accepted = ap fault d ∙ write_accepted R.pattern.automaton right.well right.fits;
              is = ap read d ∙ read_write_sheet R.pattern.automaton right.well.accepts;
            }
