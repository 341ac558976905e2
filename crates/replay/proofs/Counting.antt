-- Laws of the cases of a list and of their counts, as the functions that read and count them ask them.
use Rattle.std.proofs.Common.{Option, Some, None, Result, ℕ, suc, ◌+◌, ◌-◌, Bool, true, false, List, [], ◌∷◌, ◌≡◌, refl, sym, ◌∙◌, ap, ap₂, rules, get_or}
use Rattle.std.specs.Result.{result_ok}
use lib.Seq.{sets}
use Rattle.replay.specs.declared.Numbers.{Numbers}
use Rattle.replay.specs.declared.LineFault.{LineFault}
use Rattle.replay.specs.declared.Tally.{Tally}
use Rattle.replay.specs.Lines.{answer, line_at}
use Rattle.replay.specs.Counting.{case_at, behind_case, fresh_tally, begun, tallied}

-- a line by the answer of the reader
pub case_read : (at room : ℕ) (s : List ℕ) (r : Result Numbers LineFault) (v : Option Numbers) → r ≡ answer room at (line_at s at) → v ≡ result_ok r → v ≡ case_at room s at
unfolding case_at
case_read at room s r v e f = f ∙ ap result_ok e

-- memory for one number has the first number of the line
kept : (ns : List ℕ) (x k : ℕ) → get_or (sets (x ∷ []) (suc k) ns) 0 0 ≡ x
kept [] x k = refl
kept (n ∷ ns) x k = kept ns x (suc k)

first_of : (ns : List ℕ) → get_or (sets (0 ∷ []) 0 ns) 0 0 ≡ get_or ns 0 0
first_of [] = refl
first_of (x ∷ ns) = kept ns x 0

module _ (s m : List ℕ) (r : Tally) (e : m ≡ sets (0 ∷ []) 0 (line_at s 0).numbers) (to : ℕ) (g : r ≡ fresh_tally (get_or m 0 0) to) where
  tally_from : to ≡ behind_case 0 (case_at 1 s 0) → r ≡ begun s
  unfolding begun
  tally_from f =
      let z : get_or m 0 0 ≡ get_or (line_at s 0).numbers 0 0 = ap (λ (l : List ℕ). get_or l 0 0) e ∙ first_of (line_at s 0).numbers in
      g ∙ ap₂ fresh_tally z f

  pub tally_begun : (l : Numbers) → Some l ≡ case_at 1 s 0 → to ≡ l.to → r ≡ begun s
  tally_begun l f k = tally_from (k ∙ ap (behind_case 0) f)

  pub tally_none : None ≡ case_at 1 s 0 → to ≡ 0 → r ≡ begun s
  tally_none f k = tally_from (k ∙ ap (behind_case 0) f)

pub tally_agreed : (t : Tally) (to : ℕ) (b : Bool) → b ≡ true → ◌≡◌ {A = Tally} (record { left = t.left - 1; at = to; agreed = t.agreed + 1; differed = t.differed }) (tallied t to b)
unfolding tallied
tally_agreed t to b e = rw e

pub tally_differed : (t : Tally) (to : ℕ) (b : Bool) → b ≡ false → ◌≡◌ {A = Tally} (record { left = t.left - 1; at = to; agreed = t.agreed; differed = t.differed + 1 }) (tallied t to b)
unfolding tallied
tally_differed t to b e = rw e

pub ruleset tally_laws = (tally_agreed, tally_differed, tally_begun, tally_none, rules)
