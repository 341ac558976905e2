-- The word to a difference, written from its end. Assumes nothing.
use Rattle.std.proofs.Common.{ℕ, suc, ◌+◌, ◌-◌, ◌≤◌, ◌<◌, ◌≡◌, refl, sym, ap, subst, ◌∙◌, List, ◌∷◌, arith, length, get_or, set, take, drop, length-set, drop-cons, get_or-set_same, drop-set-lt, length-take-le}
use native.Mathlib.Decide.{ℕ_discrete}
use Rattle.automata.specs.Automaton.{Word, none, more, accept_of}
use Rattle.automata.specs.Successors.{successor, state_after}
use Rattle.determinizations.specs.Two.{Two, Symbol}
use Rattle.pairs.specs.inner.Pairs.{Pairs, one_at, two_at}
use Rattle.equality.specs.inner.Walking.{Trail, trail_of, WalkedPairs, Chained, Leads, here, back, Spelled}
use Rattle.equality.specs.Verdict.{Apart}
use Rattle.equality.proofs.Forced.{Total}
use Rattle.equality.proofs.WalkedPairs.{short}

-- while it is written: the word from pair c on stands from at to n
pub record Spelling (r : Trail) (i x n : ℕ) (o₀ o : List ℕ) (at c : ℕ) : Type 0 where
  pub c_in : c ≤ i
  pub is_at : at ≡ r.depth c
  pub below : at < n
  pub within : n ≤ length o
  pub is_n : n ≡ r.depth i + 1
  pub leads : Leads r i x c (take (n - at) (drop at o))
  pub behind : drop n o ≡ drop n o₀
  pub long : length o ≡ length o₀

-- the words from m on, at least one
piece : (o : List ℕ) (m k k' : ℕ) → m < length o → k' ≡ suc k → take k' (drop m o) ≡ get_or o m 0 ∷ take k (drop (suc m) o)
piece o m k k' h e = rw (e, drop-cons o m 0 h) refl

module _ (r : Trail) (i x : ℕ) where
  pub spell_start : (o : List ℕ) (at n : ℕ) → at ≡ r.depth i → at < length o → n ≡ at + 1 → Spelling r i x n (set o at x) (set o at x) at i
  spell_start o at n e h d = record {
    c_in = omega arith;
    is_at = e;
    below = omega arith;
    within = omega (arith, length-set o at x);
    is_n = omega arith;
    leads = rw (piece (set o at x) at 0 (n - at) (omega (arith, length-set o at x)) (omega arith), get_or-set_same o at x 0 h) here;
    behind = refl;
    long = refl;
  }

  module _ (ch : Chained r i) (n : ℕ) (o₀ o : List ℕ) (at c : ℕ) (s : Spelling r i x n o₀ o at c) where
    pub spell_inside : 0 < at → 0 < c
    spell_inside h = by_place (ℕ_discrete c 0)
      where
        by_place : Dec (c ≡ 0) → 0 < c
        by_place (yes e) = absurd (omega (arith, s.is_at, ap (λ (k : ℕ). r.depth k) e, ch.at_top))
        by_place (no e) = omega arith

    pub spell_next : 0 < at → (by from : ℕ) → by ≡ r.by c → from ≡ r.from c → Spelling r i x n o₀ (set o (at - 1) by) (at - 1) from
    spell_next h by from e-by e-from =
        let c-some = spell_inside h in
        let is_at = s.is_at in
        let below = s.below in
        let within = s.within in
        let c_in = s.c_in in
        record {
          c_in = omega (arith, ch.earlier c c_in c-some);
          is_at = rw e-from (omega (arith, ch.deeper c c_in c-some));
          below = omega arith;
          within = omega (arith, length-set o (at - 1) by);
          is_n = s.is_n;
          leads = rw (piece (set o (at - 1) by) (at - 1) (n - at) (n - (at - 1)) (omega (arith, length-set o (at - 1) by)) (omega arith), get_or-set_same o (at - 1) by 0 (omega arith), drop-set-lt (suc (at - 1)) o (at - 1) by (omega arith), e-by, e-from, up) (back c-some c_in s.leads);
          behind = drop-set-lt n o (at - 1) by (omega arith) ∙ s.behind;
          long = length-set o (at - 1) by ∙ s.long;
        }
      where
        up : suc (at - 1) ≡ at
        up = omega arith

    pub spell_done : at ≤ 0 → (o₁ : List ℕ) → drop n o₀ ≡ drop n o₁ → Spelled r i x n o₁ o
    spell_done h o₁ e = record {
      is_n = s.is_n;
      within = s.within;
      leads = subst (λ (k : ℕ). Leads r i x k (take n o)) c_none (rw (at_none, minus) at s.leads);
      behind = s.behind ∙ e;
    }
      where
        at_none : ◌≡◌ {A = ℕ} at 0
        at_none = omega arith

        minus : n - 0 ≡ n
        minus = omega arith

        by_place : Dec (c ≡ 0) → ◌≡◌ {A = ℕ} c 0
        by_place (yes e) = e
        by_place (no e) = absurd (omega (arith, s.is_at, ch.deeper c s.c_in (omega arith)))

        c_none : ◌≡◌ {A = ℕ} c 0
        c_none = by_place (ℕ_discrete c 0)

-- the walk's trail is one
pub chained : {t : Two} {w : Pairs} {l : List ℕ} {i : ℕ} → WalkedPairs t w l → i < w.made → Chained (trail_of l) i
chained v i_in = record {
  at_top = v.at_top;
  earlier = λ c h z. (v.met c (omega arith) z).earlier;
  deeper = λ c h z. (v.met c (omega arith) z).deeper;
  shallow = λ c h. v.shallow c (omega arith);
}

-- the word leads both automata to the successors
led : {t : Two} {w : Pairs} {l : List ℕ} {i x : ℕ} → WalkedPairs t w l → i < w.made → Symbol t x → {c : ℕ} {v : List ℕ} → Leads (trail_of l) i x c v
    → Word t.lower t.upper v × (state_after t.one (one_at w c) v ≡ successor t.one (one_at w i) x) × (state_after t.two (two_at w c) v ≡ successor t.two (two_at w i) x)
unfolding state_after
led p i_in s here = (more s.0 s.1 none, refl, refl)
led {t} p i_in s (back {c = c} {v = v} z h l) =
    let m = p.met c (omega arith) z in
    let ih = led p i_in s l in
    (more m.symbol.0 m.symbol.1 ih.0, ap (λ (p : ℕ). state_after t.one p v) (sym m.next_one) ∙ ih.1, ap (λ (p : ℕ). state_after t.two p v) (sym m.next_two) ∙ ih.2)

-- a difference: the word written is accepted by exactly one, and short
module _ (t : Two) (total : Total t) (w : Pairs) (l : List ℕ) (p : WalkedPairs t w l) (i x : ℕ) (i_in : i < w.made) (x_in : Symbol t x)
    (differ : accept_of t.one (successor t.one (one_at w i) x) ≡ accept_of t.two (successor t.two (two_at w i) x) → ⊥) where
  pub differs : (n : ℕ) (o o' : List ℕ) → Spelled (trail_of l) i x n o o' → Apart t (take n o')
  differs n o o' s =
      let d = led p i_in x_in s.leads in
      record {
        word = d.0;
        short = omega (arith, length-take-le n o' s.within, s.is_n, short t total w l p i x i_in x_in differ);
        differ = λ e. differ (ap (accept_of t.one) (sym d.1 ∙ ap (λ (p : ℕ). state_after t.one p (take n o')) p.at_one) ∙ e ∙ ap (accept_of t.two) (ap (λ (p : ℕ). state_after t.two p (take n o')) (sym p.at_two) ∙ d.2));
      }
