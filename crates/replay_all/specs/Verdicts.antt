-- Cases of exact equality: two sheets, then the refusal's number, or 0 and: 1 and the joins, or 0 and the most symbols that a difference word
-- may have.
use Rattle.std.specs.Prelude.{ℕ, ◌+◌, ◌-◌, Bool, false, cond, not, List, ◌≡◌, eqb, ltb, length, get_or, take, replicate}
use Rattle.automata.specs.WellFormed.{last_symbol}
use Rattle.equality.specs.declared.Verdict.{Verdict}
use Rattle.equality.specs.declared.Verdict.TheVariants.{Same, Different, Refused}
use Rattle.equality.specs.Equality.{equality_answer, Judged}
use Rattle.refusal.specs.Answer.{Answer, refused, given}
use Rattle.refusal.specs.Number.{number_of}
use Rattle.replay.specs.Cases.{list_at, is_last}
use Rattle.words.specs.Acceptance.{accepts_words_answer}
use Rattle.replay_all.specs.Parts.{behind_list}

-- the answer says that the word is accepted
abbrev pub is_one : Answer ℕ → Bool
is_one (given k) = eqb k 1
is_one (refused n) = false

-- one of the sheets accepts the word, and the other does not
unfoldable pub tells_apart : List ℕ → List ℕ → List ℕ → Bool
tells_apart a b w = cond (is_one (accepts_words_answer a w)) (not (is_one (accepts_words_answer b w))) (is_one (accepts_words_answer b w))

-- the case ends from the place on with 0, then x and a number
unfoldable pub is_told : List ℕ → ℕ → ℕ → Bool
is_told s at x =
    cond (ltb (length s) 3) false
    (cond (eqb (length s - 3) at) (cond (eqb (get_or s at 0) 0) (eqb (get_or s (at + 1) 0) x) false) false)

-- the last number of a case
unfoldable pub last_of : List ℕ → ℕ
last_of s = cond (eqb (length s) 0) 0 (get_or s (length s - 1) 0)

-- the verdict on the sheets a and b, with the word at the front of o, stands in the case from the place on
unfoldable pub is_verdict : List ℕ → ℕ → List ℕ → List ℕ → List ℕ → Verdict → Bool
is_verdict s at a b o (Same joins) = cond (eqb (last_of s) joins) (is_told s at 1) false
is_verdict s at a b o (Different n) =
    cond (ltb (length o) n) false
    (cond (ltb (last_of s) n) false (cond (tells_apart a b (take n o)) (is_told s at 0) false))
is_verdict s at a b o (Refused r) = is_last s at (number_of r)

-- r says whether a verdict of which all holds that exact equality promises stands in the case
pub record EqualityCase (s : List ℕ) (r : Bool) : Type 0 where
  pub verdict : Verdict
  pub word : List ℕ
  pub judged : Judged (equality_answer 0 last_symbol (list_at s 0) (list_at s (behind_list s 0)) (replicate 510 0)) (replicate 510 0) word verdict
  pub is : r ≡ is_verdict s (behind_list s (behind_list s 0)) (list_at s 0) (list_at s (behind_list s 0)) word verdict
