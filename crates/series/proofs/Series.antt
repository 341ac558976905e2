-- Laws of the test of a series, as its functions ask them: what the answer for a line says of the result.
use Rattle.std.proofs.Common.{Result, Ok, Err, Option, Some, None, ℕ, ◌-◌, ◌≤◌, ◌<◌, List, ◌≡◌, sym, ◌∙◌, ap, arith, rules, le-leb, lt-ltb, le-ltb, eq-eqb, ne_eqb, length, take}
use borrow.Author.Tests.{lt-leb}
use lib.Seq.{sets}
use Rattle.replay.specs.Lines.{NumberLine, answer, line_at}
use Rattle.replay.specs.declared.Numbers.{Numbers}
use Rattle.replay.specs.declared.LineFault.{LineFault}
use Rattle.replay.proofs.Lines.{LineStored, line_told, line_part}
use Rattle.refusal.specs.Answer.{Answer}
use Rattle.words.specs.Acceptance.{accepts_words_answer}
use Rattle.series.specs.declared.tested.TestFault.{TestFault}
use Rattle.series.specs.Series.{tested_of, on_series, with_series, on_sheet, series_of}

-- the numbers of a line that was stored, in the terms that code has
part_numbers : (old m : List ℕ) (room at n to : ℕ) (l : NumberLine) → LineStored room at l n to → length old ≡ room → m ≡ sets old 0 l.numbers → take (n - 0) m ≡ l.numbers
part_numbers old m room at n to l t k g =
    let z : n - 0 ≡ n = omega arith in
    ap (λ (k : ℕ). take k m) z ∙ ap (take n) g ∙ line_part room at n to old l t k

-- the second line
module _ (s sheet : List ℕ) (at : ℕ) where
  on_series_lem : (t : Result Numbers LineFault) → t ≡ answer 32768 at (line_at s at) → on_series s sheet (line_at s at).numbers t ≡ with_series s at sheet
  unfolding with_series
  on_series_lem t e = ap (on_series s sheet (line_at s at).numbers) e

  pub series_fault : (f : LineFault) → Err f ≡ answer 32768 at (line_at s at) → None ≡ with_series s at sheet
  series_fault f e = on_series_lem (Err f) e

  module _ (n : Numbers) (e : Ok n ≡ answer 32768 at (line_at s at)) where
    pub series_within : n.count ≤ 32768
    series_within = (line_told 32768 at n.count n.to (line_at s at) e).fits

    pub series_behind : (n.to ≡ length s → ⊥) → None ≡ with_series s at sheet
    series_behind h = rw (ne_eqb n.to (length s) h) at (on_series_lem (Ok n) e)

    pub series_tested : (old m : List ℕ) (a : Answer ℕ) → n.to ≡ length s → m ≡ sets old 0 (line_at s at).numbers → length old ≡ 32768
        → a ≡ accepts_words_answer sheet (take (n.count - 0) m) → Some a ≡ with_series s at sheet
    series_tested old m a h g k x =
        ap Some (x ∙ ap (accepts_words_answer sheet) (part_numbers old m 32768 at n.count n.to (line_at s at) (line_told 32768 at n.count n.to (line_at s at) e) k g))
        ∙ rw (eq-eqb n.to (length s) h) at (on_series_lem (Ok n) e)

pub ruleset series_laws = (series_fault, series_behind, series_within, series_tested, rules)

-- the first line
pub text_long : (s : List ℕ) → 65536 < length s → None ≡ series_of s
unfolding series_of
text_long s h = sym (rw (lt-ltb 65536 (length s) h))

module _ (s : List ℕ) (p : length s ≤ 65536) where
  on_sheet_lem : (t : Result Numbers LineFault) → t ≡ answer 10500 0 (line_at s 0) → on_sheet s (line_at s 0).numbers t ≡ series_of s
  unfolding series_of
  on_sheet_lem t e = ap (on_sheet s (line_at s 0).numbers) e ∙ sym (rw (le-ltb 65536 (length s) p))

  pub sheet_fault : (f : LineFault) → Err f ≡ answer 10500 0 (line_at s 0) → None ≡ series_of s
  sheet_fault f e = on_sheet_lem (Err f) e

  module _ (n : Numbers) (e : Ok n ≡ answer 10500 0 (line_at s 0)) where
    pub sheet_within : n.count ≤ 10500
    sheet_within = (line_told 10500 0 n.count n.to (line_at s 0) e).fits

    pub sheet_alone : length s ≤ n.to → None ≡ series_of s
    sheet_alone h = rw (le-leb (length s) n.to h) at (on_sheet_lem (Ok n) e)

    pub sheet_tested : (old m : List ℕ) (t : Result ℕ TestFault) → n.to < length s → m ≡ sets old 0 (line_at s 0).numbers → length old ≡ 10500
        → tested_of t ≡ with_series s n.to (take (n.count - 0) m) → tested_of t ≡ series_of s
    sheet_tested old m t h g k x =
        x ∙ ap (with_series s n.to) (part_numbers old m 10500 0 n.count n.to (line_at s 0) (line_told 10500 0 n.count n.to (line_at s 0) e) k g)
        ∙ rw (lt-leb (length s) n.to h) at (on_sheet_lem (Ok n) e)

pub ruleset sheet_laws = (text_long, sheet_fault, sheet_alone, sheet_within, sheet_tested, rules)
