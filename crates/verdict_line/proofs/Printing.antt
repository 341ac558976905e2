-- Laws of the lines, in the shape of what the functions that write them ask: l is the memory before.
use Prim.Native.Nat.{ℕ, ◌+◌, ◌-◌, ◌*◌, ◌^◌, ◌≤◌, ◌<◌}
use mathlib.Core.List.{List, [], ◌∷◌, ◌++◌, append-nil, append_assoc}
use mathlib.Core.Path.{◌≡◌, refl, sym, ◌∙◌, ap, subst}
use native.Mathlib.Omega.{arith}
use mir.Syntax.{w32}
use mir.Val.{Fits}
use borrow.Author.Rules.{rules}
use lib.ListN.{length, get_or, take}
use lib.Seq.{take_all, length-take-le}
use Rattle.decimal.specs.Decimal.{digits}
use Rattle.decimal.proofs.Decimal.{length_word}
use Rattle.stores.specs.Written.{Written}
use Rattle.lists.proofs.Parts.{take_more}
use Rattle.stores.proofs.Written.{written_none, written_append, written_cons, written_length}
use Rattle.refusal.specs.Number.{number_of}
use Rattle.refusal.specs.declared.Refusal.{Refusal}
use Rattle.equality.specs.declared.Verdict.{Verdict}
use Rattle.equality.specs.declared.Verdict.TheVariants.{Same, Different, Refused}
use Rattle.verdict_line.specs.Line.{same_line, symbols, differ_line, refused_line}
use Rattle.verdict_line.specs.inner.Code.{verdict_line, Short}

-- the parts of a line, one behind the other, and room for the line feed
module _ (l m n v : List ℕ) (x i j : ℕ) (a : Written l 0 v m i) (b : Written m i (digits x) n j) where
  pub line_room : 5617 ≤ length l → length v ≤ 8 → x < 2 ^ 32 → j < length n
  line_room r k h = omega (arith, a.behind, b.behind, length_word x h, written_length l m v 0 i a, written_length m n (digits x) i j b)

  module _ (o : List ℕ) (k : ℕ) (c : Written n j (10 ∷ []) o k) where
    pub line_put : Written l 0 (v ++ (digits x ++ 10 ∷ [])) o k
    line_put = written_append l m o v (digits x ++ 10 ∷ []) 0 i k a (written_append m n o (digits x) (10 ∷ []) i j k b c)

    pub line_end : length v ≤ 8 → x < 2 ^ 32 → k ≤ 5617
    line_end e h = omega (arith, a.behind, b.behind, c.behind, length_word x h)

pub ruleset numbered_laws = (line_put, line_room, line_end, written_length, rules)

-- a blank and the digits of a word
module _ (l m n : List ℕ) (at x i j : ℕ) (v : Written l at (32 ∷ []) m i) (w : Written m i (digits x) n j) where
  pub symbol_put : Written l at (32 ∷ digits x) n j
  symbol_put = written_cons l m n (digits x) at i j 32 v w

  pub symbol_end : x < 2 ^ 32 → j ≤ at + 11
  symbol_end h = omega (arith, v.behind, w.behind, length_word x h)

pub ruleset symbol_laws = (symbol_put, symbol_end, written_length, rules)

symbols_append : (v w : List ℕ) → symbols (v ++ w) ≡ symbols v ++ symbols w
unfolding symbols
symbols_append [] w = refl
symbols_append (x ∷ v) w = ap (λ (s : List ℕ). (32 ∷ digits x) ++ s) (symbols_append v w) ∙ sym (append_assoc (32 ∷ digits x) (symbols v) (symbols w))

symbols_one : (x : ℕ) → symbols (x ∷ []) ≡ 32 ∷ digits x
unfolding symbols
symbols_one x = ap (λ (s : List ℕ). 32 ∷ s) (append-nil (digits x))

-- the loop over the symbols of the word w, of which i are written
pub symbols_none : (l w : List ℕ) (at : ℕ) → Written l at (symbols (take 0 w)) l at
unfolding symbols
symbols_none l w at = written_none l at

module _ (l m w : List ℕ) (at i e : ℕ) (p : Written l at (symbols (take i w)) m e) where
  pub symbols_next : (n : List ℕ) (r : ℕ) → i < length w → Written m e (32 ∷ digits (get_or w i 0)) n r → Written l at (symbols (take (i + 1) w)) n r
  symbols_next n r h q =
      let z : symbols (take (i + 1) w) ≡ symbols (take i w) ++ (32 ∷ digits (get_or w i 0)) = ap symbols (take_more w i h) ∙ symbols_append (take i w) (get_or w i 0 ∷ []) ∙ ap (λ (s : List ℕ). symbols (take i w) ++ s) (symbols_one (get_or w i 0)) in
      subst (λ (s : List ℕ). Written l at s n r) (sym z) (written_append l m n (symbols (take i w)) _ at e r p q)

-- the parts of `differ`, one behind the other
pub differ_put : (l m n o w : List ℕ) (at i e r : ℕ) → Written l 0 (100 ∷ 105 ∷ 102 ∷ 102 ∷ 101 ∷ 114 ∷ []) m at
    → Written m at (symbols (take i w)) n e → length w ≤ i → Written n e (10 ∷ []) o r → Written l 0 (differ_line w) o r
differ_put l m n o w at i e r a b h c =
    written_append l m o _ (symbols w ++ 10 ∷ []) 0 at r a (written_append m n o (symbols w) (10 ∷ []) at e r (rw (take_all i w h) at b) c)

pub differ_end : (l m n o w : List ℕ) (at i e r : ℕ) → Written l 0 (100 ∷ 105 ∷ 102 ∷ 102 ∷ 101 ∷ 114 ∷ []) m at → e ≤ at + 11 * i → i ≤ length w
    → length w ≤ 510 → Written n e (10 ∷ []) o r → r ≤ 5617
differ_end l m n o w at i e r a b g h c = omega (arith, a.behind, c.behind)

pub ruleset differ_laws = (symbols_none, symbols_next, differ_put, differ_end, written_length, rules)

-- the line of a verdict
module _ (v : Verdict) (w : List ℕ) where
  module _ (l m : List ℕ) (r : ℕ) where
    pub verdict_same : (j : ℕ) → v ≡ Same j → Written l 0 (same_line j) m r → Written l 0 (verdict_line v w) m r
    unfolding verdict_line
    verdict_same j e p = subst (λ (x : Verdict). Written l 0 (verdict_line x w) m r) (sym e) p

    pub verdict_different : (n : ℕ) → v ≡ Different n → Written l 0 (differ_line (take (n - 0) w)) m r → Written l 0 (verdict_line v w) m r
    unfolding verdict_line
    verdict_different n e p =
        let z : n - 0 ≡ n = omega arith in
        subst (λ (x : Verdict). Written l 0 (verdict_line x w) m r) (sym e) (subst (λ (k : ℕ). Written l 0 (differ_line (take k w)) m r) z p)

    pub verdict_refused : (x : Refusal) (k : ℕ) → v ≡ Refused x → k ≡ number_of x → Written l 0 (refused_line k) m r → Written l 0 (verdict_line v w) m r
    unfolding verdict_line
    verdict_refused x k e h p = subst (λ (y : Verdict). Written l 0 (verdict_line y w) m r) (sym e) (subst (λ (z : ℕ). Written l 0 (refused_line z) m r) h p)

  module _ (s : Short v w) where
    pub short_joins : (j : ℕ) → v ≡ Same j → Fits w32 j
    unfolding Short
    short_joins j e = let h : j ≤ 512 = subst (λ (x : Verdict). Short x w) e s in record { fits = omega arith }

    parts : (n : ℕ) → v ≡ Different n → (n ≤ 510) × (n ≤ length w)
    unfolding Short
    parts n e = subst (λ (x : Verdict). Short x w) e s

    pub short_inside : (n : ℕ) → v ≡ Different n → n ≤ length w
    short_inside n e = (parts n e).1

    pub short_word : (n : ℕ) → v ≡ Different n → length (take (n - 0) w) ≤ 510
    short_word n e = let h = parts n e in omega (arith, length-take-le (n - 0) w (omega arith))

pub ruleset verdict_laws = (verdict_same, verdict_different, verdict_refused, short_joins, short_inside, short_word, rules)
