-- Laws of numbers in a text: how the loop over the digits goes on and ends.
use Prim.Native.Nat.{ℕ, suc, ◌+◌, ◌^◌, ◌≤◌, ◌<◌}
use mathlib.Core.Bool.{Bool, true, false, not, cond, ◌&&◌}
use mathlib.Core.List.{List, [], ◌∷◌}
use mathlib.Core.Logic.{⊎_elim}
use mathlib.Core.Path.{◌≡◌, refl, sym, ◌∙◌, ap}
use native.Mathlib.Omega.{arith}
use borrow.Author.Rules.{rules}
use borrow.Author.Tests.{not-true, not-false, eqb-true, eqb-false, le-ltb, lt-ltb, lt-leb, le-leb}
use lib.Dec.{ltb, eqb}
use lib.ListN.{length, get_or, take, drop}
use Rattle.decimal.specs.Decimal.{is_digit, with_digit, value_after, value}
use Rattle.lists.proofs.Parts.{drop_at}
use Rattle.lists.proofs.Tests.{test}
use Rattle.grammar.specs.Grammar.{ReadResult, nothing, found, run, number}
use Rattle.grammar.proofs.Runs.{run_end, run_more, run_stop}

-- the number that the digits from at on write behind those of v
unfoldable pub written : List ℕ → ℕ → ℕ → ℕ
written t at v = value_after v (take (run is_digit (drop at t)) (drop at t))

value_grows : (v : ℕ) (l : List ℕ) → v ≤ value_after v l
unfolding value_after
value_grows v [] = omega arith
value_grows v (b ∷ l) = let h = value_grows (with_digit v b) l in omega arith

module _ (t : List ℕ) (at v : ℕ) where
  written_stop : run is_digit (drop at t) ≡ 0 → written t at v ≡ v
  unfolding written value_after
  written_stop h = rw h

  written_more : at < length t → is_digit (get_or t at 0) ≡ true → written t at v ≡ written t (at + 1) (with_digit v (get_or t at 0))
  unfolding written value_after
  written_more h e = rw (run_more is_digit t at h e) (ap (λ (l : List ℕ). value_after v (take (suc (run is_digit (drop (at + 1) t))) l)) (drop_at t at h))

-- the digits from start to at write v, and n is the place behind the last digit
module _ (t : List ℕ) (start at v : ℕ) (g : start ≤ at) (m : v < 2 ^ 32) (n : start + run is_digit (drop start t) ≡ at + run is_digit (drop at t))
    (e : written t start 0 ≡ written t at v) where
  -- no digit is left
  done : run is_digit (drop at t) ≡ 0 → (x : ReadResult ℕ) → x ≡ cond (eqb at start) nothing (found v at) → x ≡ number t start
  unfolding number written
  done z x q =
      let w : value (take (run is_digit (drop start t)) (drop start t)) ≡ v = e ∙ written_stop t at v z in
      let b : start + run is_digit (drop start t) ≡ at = omega arith in
      q
      ∙ sym (rw (w, b, le-leb v 4294967295 (omega arith))
      (⊎_elim
      (λ (h : eqb at start ≡ true). let y : at ≡ start = eqb-true at start h in rw (h, le-ltb 0 (run is_digit (drop start t)) (omega arith)))
      (λ (h : eqb at start ≡ false). let y : at ≡ start → ⊥ = eqb-false at start h in rw (h, lt-ltb 0 (run is_digit (drop start t)) (some y)))
      (test (eqb at start))))
    where
      some : (at ≡ start → ⊥) → 0 < run is_digit (drop start t)
      some y = omega arith

  pub number_ended : length t ≤ at → (m : ℕ) → m ≡ at → (x : ReadResult ℕ) → x ≡ cond (eqb m start) nothing (found v m) → x ≡ number t start
  number_ended h m q x r = done (run_end is_digit t at h) x (rw q at r)

  pub number_stopped : at < length t → (r : Bool) → r ≡ is_digit (get_or t at 0) → not r ≡ true → (x : ReadResult ℕ) → x ≡ cond (eqb at start) nothing (found v at) → x ≡ number t start
  number_stopped h r f k = done (run_stop is_digit t at h (sym f ∙ not-true r k))

  module _ (h : at < length t) (r : Bool) (f : r ≡ is_digit (get_or t at 0)) (k : not r ≡ false) where
    pub number_digit : is_digit (get_or t at 0) ≡ true
    number_digit = sym f ∙ not-false r k

    module _ (w : ℕ) (q : w ≡ with_digit v (get_or t at 0)) where
      pub number_next : written t start 0 ≡ written t (at + 1) w
      number_next = e ∙ written_more t at v h number_digit ∙ ap (written t (at + 1)) (sym q)

      pub number_run : start + run is_digit (drop start t) ≡ at + 1 + run is_digit (drop (at + 1) t)
      number_run = omega (arith, n, run_more is_digit t at h number_digit)

      pub number_over : 4294967295 < w → nothing ≡ number t start
      unfolding number
      number_over o =
          let l = run is_digit (drop start t) in
          let x : 4294967295 < value (take l (drop start t)) = unfold written in omega (arith, number_next, value_grows w (take (run is_digit (drop (at + 1) t)) (drop (at + 1) t))) in
          sym (rw (lt-leb _ _ x) (none _ (ltb 0 l)))
        where
          none : (y : ReadResult ℕ) (b : Bool) → cond (b && false) y nothing ≡ nothing
          none y true = refl
          none y false = refl

pub ruleset number_laws = (number_ended, number_stopped, number_digit, number_next, number_run, number_over, rules)
