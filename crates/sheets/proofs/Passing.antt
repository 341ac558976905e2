-- The records that pass, one behind the other: the laws by which it is proved that a key decides the order of most of them.
use Prim.Native.Nat.{ℕ, ◌+◌, ◌*◌, ◌≤◌, ◌<◌}
use mathlib.Core.Bool.{Bool, true, false, cond, ◌&&◌, or-true}
use mathlib.Core.List.{List, [], ◌∷◌}
use mathlib.Core.Logic.{⊎_elim}
use mathlib.Core.Path.{◌≡◌, refl, sym, ap, ap₂, ◌∙◌}
use native.Mathlib.Nat.{eq-or-lt_of_le}
use native.Mathlib.Omega.{arith}
use borrow.Author.Rules.{rules}
use borrow.Author.Tests.{lt-ltb, ltb-false, leb-false, eq-eqb, eqb-true, eqb-false}
use mir.Syntax.{w32}
use mir.Val.{Fits}
use lib.Dec.{ltb, leb, eqb}
use lib.ListN.{length, get_or, drop}
use Rattle.lists.proofs.Tests.{test, and_both, or_left, or_right, cond_no}
use Rattle.automata.specs.Automaton.{Transition}
use Rattle.automata.specs.Ordered.{less}
use Rattle.automata.specs.Records.{words_of}
use Rattle.automata.specs.inner.Chunks.{records_of}
use Rattle.automata.specs.inner.Records.{record_at}
use Rattle.automata.proofs.Ordered.{less_slices}
use Rattle.automata.proofs.Chunks.{records_next}
use Rattle.sheets.specs.Fault.{is_bad, record_fault, records_fault, or_else}
use Rattle.sheets.specs.inner.Passed.{Keyed, fault_behind, Passed, PassedBelow, range_key}
use Rattle.sheets.proofs.Checking.{five_words, in_order}
use Rattle.sheets.proofs.Meaning.{bad_not, good_not}

-- of two records that break no rule the one of the lesser key comes first
module _ (n : ℕ) (p a : Transition) (good : is_bad n p ≡ false) (fine : is_bad n a ≡ false) (u : a.first < 4294967296) where
  key_less : p.from * 4294967296 + p.first < a.from * 4294967296 + a.first → less (words_of p) (words_of a) ≡ true
  key_less h =
      ⊎_elim
      (λ e. or_right (ltb p.from a.from) (eqb p.from a.from && rest) (and_both (eqb p.from a.from) rest (eq-eqb p.from a.from e) (behind (omega arith))))
      (λ (l : p.from < a.from). or_left (ltb p.from a.from) (eqb p.from a.from && rest) (lt-ltb p.from a.from l)) (eq-or-lt_of_le below)
    where
      below : p.from ≤ a.from
      below = omega arith

      rest : Bool
      rest = less (p.kind ∷ p.first ∷ p.last ∷ p.to ∷ []) (a.kind ∷ a.first ∷ a.last ∷ a.to ∷ [])

      kinds : p.first < a.first → p.kind ≤ a.kind
      kinds l =
          ⊎_elim (λ c. let z = (bad_not n a fine).sound.blank (eqb-true a.kind 0 c) in absurd (omega (arith, z.0)))
          (λ c. omega (arith, eqb-false a.kind 0 c, (bad_not n p good).sound.known)) (test (eqb a.kind 0))

      behind : p.first < a.first → rest ≡ true
      behind l =
          ⊎_elim (λ (e : p.kind ≡ a.kind). rw (eq-eqb p.kind a.kind e, lt-ltb p.first a.first l) (or-true (ltb p.kind a.kind)))
          (λ (e : p.kind < a.kind). rw (lt-ltb p.kind a.kind e)) (eq-or-lt_of_le (kinds l))

-- a record behind one whose key is known
module _ (n before : ℕ) (a r : List ℕ) (k : Keyed n before a) (long : length r ≡ 5) (b : Bool) (e : b ≡ is_bad n (record_at r 0)) where
  pub passes_bad : b ≡ true → false ≡ eqb (record_fault n a (record_at r 0)) 0
  unfolding record_fault
  passes_bad z = rw (← e, z)

  ordered : b ≡ false → less a r ≡ eqb (record_fault n a (record_at r 0)) 0
  ordered z = go (less a r) ∙ ap (λ x. eqb x 0) (sym (in_order n a r b e (less a r) long z refl))
    where
      go : (x : Bool) → x ≡ eqb (cond x 0 6) 0
      go true = refl
      go false = refl

  pub passes_key : b ≡ false → ((i : ℕ) → Fits w32 (get_or r i 0)) → (key : ℕ) → key ≡ get_or r 0 0 * 4294967296 + get_or r 2 0 → before < key → true ≡ eqb (record_fault n a (record_at r 0)) 0
  passes_key z u key i l =
      sym (ap₂ less (sym (five_words a k.long)) (sym (five_words r long)) ∙ key_less n (record_at a 0) (record_at r 0) k.good (sym e ∙ z) (omega (arith, u 2)) (omega (arith, k.is))) ∙ ordered z

  pub passes_order : b ≡ false → (x : Bool) → x ≡ less a r → x ≡ eqb (record_fault n a (record_at r 0)) 0
  passes_order z x i = i ∙ ordered z

pub ruleset passes_laws = (less_slices, passes_bad, passes_key, passes_order, rules)

-- one record more
behind_next : (n : ℕ) (rs : List (List ℕ)) (at : ℕ) → at + 1 < length rs → record_fault n (words_of (record_at (get_or rs at []) 0)) (record_at (get_or rs (at + 1) []) 0) ≡ 0
    → fault_behind n rs at ≡ fault_behind n rs (at + 1)
unfolding fault_behind records_fault
behind_next n rs at h none =
    ap (records_fault n (words_of (record_at (get_or rs at []) 0))) (records_next rs (at + 1) h)
    ∙ ap (λ (x : ℕ). or_else x (records_fault n (words_of (record_at (get_or rs (at + 1) []) 0)) (records_of (drop (at + 1 + 1) rs)))) none

module _ (n : ℕ) (rs : List (List ℕ)) (from at : ℕ) (p : Passed n rs from at) where
  module _ (h : at + 1 < length rs) (long : length (get_or rs at []) ≡ 5)
      (b : Bool) (e : b ≡ eqb (record_fault n (get_or rs at []) (record_at (get_or rs (at + 1) []) 0)) 0) (c : b ≡ true) where
    none : record_fault n (words_of (record_at (get_or rs at []) 0)) (record_at (get_or rs (at + 1) []) 0) ≡ 0
    none = ap (λ r. record_fault n r (record_at (get_or rs (at + 1) []) 0)) (five_words (get_or rs at []) long) ∙ eqb-true _ _ (sym e ∙ c)

    pub pass_good : is_bad n (record_at (get_or rs (at + 1) []) 0) ≡ false
    unfolding record_fault
    pass_good = (cond_no (is_bad n (record_at (get_or rs (at + 1) []) 0)) 4 _ none).0

    pub pass_next : Passed n rs from (at + 1)
    pass_next = record { further = omega (arith, p.further); within = h; same = p.same ∙ behind_next n rs at h none }

    pub pass_below : PassedBelow n rs from (at + 1)
    pass_below = record { further = pass_next.further; within = pass_next.within; good = λ l. pass_good; same = λ l. pass_next.same }

-- what the key of a range tells, where it is not 0
some_yes : (b : Bool) (x key : ℕ) → key ≡ cond b x 0 → (key ≡ 0 → ⊥) → (b ≡ true) × (key ≡ x)
some_yes true x key e z = (refl, e)
some_yes false x key e z = absurd (z e)

some_no : (b : Bool) (x key : ℕ) → key ≡ cond b 0 x → (key ≡ 0 → ⊥) → (b ≡ false) × (key ≡ x)
some_no true x key e z = absurd (z e)
some_no false x key e z = (refl, e)

module _ (n before : ℕ) (a : Transition) (key : ℕ) (e : key ≡ range_key n before a) (z : key ≡ 0 → ⊥) where
  range : (a.kind ≡ 1) × (a.first ≤ a.last) × (a.to < n) × (before < key) × (key ≡ a.from * 4294967296 + a.first)
  unfolding range_key
  range =
      let k = some_yes (eqb a.kind 1) _ key e z in
      let f = some_no (ltb a.last a.first) _ key k.1 z in
      let o = some_no (leb n a.to) _ key f.1 z in
      let l = some_no (leb (a.from * 4294967296 + a.first) before) _ key o.1 z in
      let b = leb-false (a.from * 4294967296 + a.first) before l.0 in
      (eqb-true a.kind 1 k.0, ltb-false a.last a.first f.0, leb-false n a.to o.0, omega (arith, l.1), l.1)

  range_good : a.from < n → is_bad n a ≡ false
  range_good l =
      good_not n a
      record {
        from_in = l;
        to_in = range.2;
        sound = record { known = omega (arith, range.0); full = range.1; blank = λ c. absurd (omega (arith, range.0)) };
      }

-- records that pass if the last of them leaves a state below n
module _ (n : ℕ) (rs : List (List ℕ)) (from at : ℕ) (p : PassedBelow n rs from at) where
  pub below_passed : get_or (get_or rs at []) 0 0 < n → Passed n rs from at
  below_passed l = record { further = p.further; within = p.within; same = p.same l }

  module _ (h : at + 1 < length rs) (u : get_or (get_or rs (at + 1) []) 2 0 < 4294967296) (before : ℕ) (i : before ≡ get_or (get_or rs at []) 0 0 * 4294967296 + get_or (get_or rs at []) 2 0)
      (key : ℕ) (e : key ≡ range_key n before (record_at (get_or rs (at + 1) []) 0)) (z : key ≡ 0 → ⊥) where
    pub is_key : key ≡ get_or (get_or rs (at + 1) []) 0 0 * 4294967296 + get_or (get_or rs (at + 1) []) 2 0
    is_key = (range n before (record_at (get_or rs (at + 1) []) 0) key e z).4

    -- the state that the record before leaves is not above
    lower : get_or (get_or rs (at + 1) []) 0 0 < n → get_or (get_or rs at []) 0 0 < n
    lower l = omega (arith, i, is_key, (range n before (record_at (get_or rs (at + 1) []) 0) key e z).3, u)

    good : get_or (get_or rs (at + 1) []) 0 0 < n → is_bad n (record_at (get_or rs (at + 1) []) 0) ≡ false
    good = range_good n before (record_at (get_or rs (at + 1) []) 0) key e z

    nothing : get_or (get_or rs (at + 1) []) 0 0 < n → record_fault n (words_of (record_at (get_or rs at []) 0)) (record_at (get_or rs (at + 1) []) 0) ≡ 0
    unfolding record_fault
    nothing l =
        rw (good l, key_less n (record_at (get_or rs at []) 0) (record_at (get_or rs (at + 1) []) 0) (p.good (lower l)) (good l) u (omega (arith, i, is_key, (range n before (record_at (get_or rs (at + 1) []) 0) key e z).3)))

    pub below_range : PassedBelow n rs from (at + 1)
    below_range =
        record {
          further = omega (arith, p.further);
          within = h;
          good = good;
          same = λ l. p.same (lower l) ∙ behind_next n rs at h (nothing l);
        }

-- what passes behind records that pass
pub pass_further : (n : ℕ) (rs : List (List ℕ)) (from far to : ℕ) → PassedBelow n rs from far → get_or (get_or rs far []) 0 0 < n → Passed n rs far to → Passed n rs from to
pass_further n rs from far to p l q = record { further = omega (arith, p.further, q.further); within = q.within; same = p.same l ∙ q.same }
