-- Laws of cases of exact equality: the verdict is compared with the end of the case, and its word is read by both sheets.
use Prim.Native.Nat.{ℕ, ◌+◌, ◌-◌, ◌≤◌, ◌<◌}
use mathlib.Core.Bool.{Bool, true, false, cond, not}
use mathlib.Core.List.{List}
use mathlib.Core.Path.{◌≡◌, sym, ◌∙◌, ap}
use native.Mathlib.Omega.{arith}
use borrow.Author.Rules.{rules}
use borrow.Author.Tests.{eq-eqb, ne_eqb, lt-ltb, le-ltb}
use lib.Dec.{eqb}
use lib.ListN.{length, take, replicate}
use Rattle.std.specs.Prelude.{Result, Ok, Err}
use Rattle.automata.specs.WellFormed.{last_symbol}
use Rattle.equality.specs.declared.Verdict.{Verdict}
use Rattle.equality.specs.declared.Verdict.TheVariants as verdict
use Rattle.equality.specs.Equality.{equality_answer, Judged}
use Rattle.refusal.specs.declared.InputRefusal.{InputRefusal}
use Rattle.refusal.specs.declared.Refusal.{Refusal}
use Rattle.refusal.specs.Number.{number_of}
use Rattle.replay.specs.Cases.{list_at, is_last}
use Rattle.words.specs.Acceptance.{accepts_words_answer, acceptance_of}
use Rattle.replay_all.specs.Verdicts.{is_one, tells_apart, is_told, last_of, is_verdict, EqualityCase}

-- whether a sheet accepts a word
module _ (a w : List ℕ) (r : Result ℕ InputRefusal) (h : acceptance_of r ≡ accepts_words_answer a w) where
  pub accepts_kind : (k : ℕ) → r ≡ Ok k → eqb k 1 ≡ is_one (accepts_words_answer a w)
  accepts_kind k e = ap is_one (sym (ap acceptance_of e) ∙ h)

  pub accepts_refused : (i : InputRefusal) → r ≡ Err i → false ≡ is_one (accepts_words_answer a w)
  accepts_refused i e = ap is_one (sym (ap acceptance_of e) ∙ h)

module _ (a b w : List ℕ) (x : Bool) (e : x ≡ is_one (accepts_words_answer a w)) (y : Bool) (f : y ≡ is_one (accepts_words_answer b w)) where
  pub apart_first : x ≡ true → not y ≡ tells_apart a b w
  unfolding tells_apart
  apart_first t = rw (← e, ← f, t)

  pub apart_second : x ≡ false → y ≡ tells_apart a b w
  unfolding tells_apart
  apart_second t = rw (← e, ← f, t)

pub ruleset apart_laws = (accepts_kind, accepts_refused, apart_first, apart_second, rules)

-- a verdict
module _ (s : List ℕ) (at : ℕ) (a b o : List ℕ) (v : Verdict) where
  module _ (k : ℕ) (l : k ≡ last_of s) where
    pub same_other : (j : ℕ) → v ≡ verdict.Same j → (k ≡ j → ⊥) → false ≡ is_verdict s at a b o v
    unfolding is_verdict
    same_other j e h = sym (ap (is_verdict s at a b o) e ∙ rw (← l, ne_eqb k j h))

    pub same_told : (j : ℕ) (r : Bool) → v ≡ verdict.Same j → k ≡ j → r ≡ is_told s at 1 → r ≡ is_verdict s at a b o v
    unfolding is_verdict
    same_told j r e h p = p ∙ sym (ap (is_verdict s at a b o) e ∙ rw (← l, eq-eqb k j h))

  module _ (n : ℕ) (e : v ≡ verdict.Different n) where
    pub word_long : length o < n → false ≡ is_verdict s at a b o v
    unfolding is_verdict
    word_long h = sym (ap (is_verdict s at a b o) e ∙ rw (lt-ltb (length o) n h))

    module _ (h : n ≤ length o) (k : ℕ) (l : k ≡ last_of s) where
      pub word_over : k < n → false ≡ is_verdict s at a b o v
      unfolding is_verdict
      word_over g = sym (ap (is_verdict s at a b o) e ∙ rw (le-ltb (length o) n h, ← l, lt-ltb k n g))

      module _ (g : n ≤ k) (x : Bool) (f : x ≡ tells_apart a b (take (n - 0) o)) where
        word_by : is_verdict s at a b o v ≡ cond x (is_told s at 0) false
        unfolding is_verdict
        word_by =
            let z : n - 0 ≡ n = omega arith in
            let y : x ≡ tells_apart a b (take n o) = f ∙ ap (λ (i : ℕ). tells_apart a b (take i o)) z in
            ap (is_verdict s at a b o) e ∙ rw (le-ltb (length o) n h, ← l, le-ltb k n g, ← y)

        pub word_apart : x ≡ true → (r : Bool) → r ≡ is_told s at 0 → r ≡ is_verdict s at a b o v
        word_apart t r p = p ∙ sym (word_by ∙ rw t)

        pub word_alike : x ≡ false → false ≡ is_verdict s at a b o v
        word_alike t = sym (word_by ∙ rw t)

  pub verdict_refused : (i : Refusal) (k : ℕ) (r : Bool) → v ≡ verdict.Refused i → k ≡ number_of i → r ≡ is_last s at k → r ≡ is_verdict s at a b o v
  unfolding is_verdict
  verdict_refused i k r e q p = p ∙ ap (is_last s at) q ∙ sym (ap (is_verdict s at a b o) e)

pub ruleset verdict_laws = (same_other, same_told, word_long, word_over, word_apart, word_alike, verdict_refused, rules)

-- two sheets
pub equality_told : (s x y o : List ℕ) (v : Verdict) (r : Bool) → x ≡ list_at s 0 → y ≡ list_at s (1 + length x) → Judged (equality_answer 0 last_symbol x y (replicate 510 0)) (replicate 510 0) o v
    → r ≡ is_verdict s (1 + length x + 1 + length y) x y o v → EqualityCase s r
equality_told s x y o v r lx ly j p = record { verdict = v; word = o; judged = rw (ly, lx) at j; is = p ∙ rw (ly, lx) }

pub ruleset equality_laws = (equality_told, rules)
