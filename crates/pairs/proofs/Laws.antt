-- Pairs of states through the laws of join sets: no pairs, the room for one, and two states joined. Assumes nothing.
use Prim.Native.Nat.{ℕ, ◌+◌, ◌*◌, ◌≤◌, ◌<◌}
use mathlib.Core.Bool.{Bool, true, false}
use mathlib.Core.List.{List}
use mathlib.Core.Path.{◌≡◌, refl, sym, ap, subst, ◌∙◌}
use native.Mathlib.Decide.{ℕ_discrete}
use native.Mathlib.Omega.{arith}
use lib.ListN.{length, get_or, set, length-set}
use lib.Seq.{get_or-set_same, get_or-set_other}
use Rattle.dsu.specs.declared.DSU.{DSU}
use Rattle.dsu.specs.declared.SetsAnswer.{SetsAnswer}
use Rattle.dsu.specs.inner.Generated.{Spanned}
use Rattle.dsu.specs.Sets.{new_of}
use Rattle.dsu.specs.Laws.{class_of}
use Rattle.dsu.specs.inner.Lent.{JoinLaw, old, new}
use Rattle.dsu.proofs.Generated.{generated_into, spanned_alone, spanned_more, spanned_renamed, spanned_room}
use Rattle.dsu.proofs.Laws.{new_law}
use Rattle.pairs.specs.inner.Pairs.{Pairs, classes, one_at, two_at, ValidPairs, NoPairs, PairsKept, PairFits, PairJoined}

pub no_pairs : (n : ℕ) → n ≤ 512 → (f : SetsAnswer) → f ≡ new_of n → (queue : List ℕ) → length queue ≡ 1024 → NoPairs n (record { sets = f.sets; queue = queue; made = 0 })
no_pairs n few f e queue long =
    let l = new_law n f e few in
    let w : Pairs = record { sets = f.sets; queue = queue; made = 0 } in
    record {
      valid = λ n1. record {
        valid = l.valid;
        few = omega (arith, l.is_n);
        long = long;
        spanned = subst (λ (m : ℕ). Spanned m (class_of f.sets) (one_at w) (λ i. n1 + two_at w i) 0) (sym l.is_n) (spanned_alone (one_at w) (λ i. n1 + two_at w i) l.alone l.classes);
      };
      is_n = l.is_n;
      made = refl;
    }

-- fewer pairs than states
pub pairs_fewer : (n1 : ℕ) (w : Pairs) → ValidPairs n1 w → 0 < w.sets.n → w.made < w.sets.n
pairs_fewer n1 w v h = spanned_room v.spanned h

-- where a state of the first automaton and one of the second are joined, there is a pair
pub pairs_some : (n1 p q : ℕ) (w : Pairs) → ValidPairs n1 w → p < n1 → p < w.sets.n → n1 + q < w.sets.n → classes w p ≡ classes w (n1 + q) → 0 < w.made
pairs_some n1 p q w v h p_in q_in e = by_number (ℕ_discrete w.made 0)
  where
    by_number : Dec (w.made ≡ 0) → 0 < w.made
    by_number (yes z) =
        let same : p ≡ n1 + q = generated_into (λ (x y : ℕ). x ≡ y) (λ x b. refl) (λ x y l. sym l) (λ x y s l m. l ∙ m) (λ i l. absurd (omega (arith, z))) (v.spanned.only p (n1 + q) p_in q_in e) in
        absurd (omega arith)
    by_number (no z) = omega arith

pub pairs_few : (n1 : ℕ) (w : Pairs) → ValidPairs n1 w → w.made ≤ 512
pairs_few n1 w v = omega (arith, v.spanned.counted, v.few)

pub pair_fits : (n1 p q : ℕ) (w : Pairs) → ValidPairs n1 w → p < w.sets.n → n1 + q < w.sets.n → PairFits n1 p q w
pair_fits n1 p q w v h k = record { valid = v; room = omega (arith, v.few, pairs_fewer n1 w v (omega arith)); p_in = h; q_in = k }

pub kept_self : (w : Pairs) → PairsKept w w
kept_self w = record { same_n = refl; more = omega arith; one = λ i h. refl; two = λ i h. refl; joins = λ x y h k e. e }

pub kept_chain : {v w r : Pairs} → PairsKept v w → PairsKept w r → PairsKept v r
kept_chain {v} {w} {r} a b = record {
  same_n = b.same_n ∙ a.same_n;
  more = omega (arith, a.more, b.more);
  one = λ i h. b.one i (omega (arith, a.more)) ∙ a.one i h;
  two = λ i h. b.two i (omega (arith, a.more)) ∙ a.two i h;
  joins = λ x y h k e. b.joins x y (omega (arith, a.same_n)) (omega (arith, a.same_n)) (a.joins x y h k e);
}

-- d has the sets after the join
module _ (n1 p q : ℕ) (w : Pairs) (pre : PairFits n1 p q w) (d : DSU) where
  -- the two were joined before
  had : JoinLaw w.sets d p (n1 + q) false → PairJoined n1 p q w (record { sets = d; queue = w.queue; made = w.made })
  had (old valid is_n together same) = record {
    valid = record {
      valid = valid;
      few = omega (arith, is_n, pre.valid.few);
      long = pre.valid.long;
      spanned = subst (λ (m : ℕ). Spanned m (class_of d) (one_at w) (λ i. n1 + two_at w i) w.made) (sym is_n) (spanned_renamed pre.valid.spanned same);
    };
    kept = record {
      same_n = is_n;
      more = omega arith;
      one = λ i h. refl;
      two = λ i h. refl;
      joins = λ x y h k e. same x h ∙ e ∙ sym (same y k);
    };
    joined = same p pre.p_in ∙ together ∙ sym (same (n1 + q) pre.q_in);
    new = λ i h k. absurd (omega arith);
  }

  -- the pairs afterwards, where they were not
  abbrev with_one_lem : List ℕ
  with_one_lem = set w.queue (2 * w.made) p

  abbrev after : Pairs
  after = record { sets = d; queue = set with_one_lem (2 * w.made + 1) q; made = w.made + 1 }

  -- a word before the pair
  before : (k : ℕ) → k < 2 * w.made → ◌≡◌ (get_or after.queue k 0) (get_or w.queue k 0)
  before k h = get_or-set_other with_one_lem (2 * w.made + 1) k q 0 (omega arith) ∙ get_or-set_other w.queue (2 * w.made) k p 0 (omega arith)

  new_one : one_at after w.made ≡ p
  new_one = get_or-set_other with_one_lem (2 * w.made + 1) (2 * w.made) q 0 (omega arith) ∙ get_or-set_same w.queue (2 * w.made) p 0 (omega (arith, pre.room, pre.valid.long))

  new_two : two_at after w.made ≡ q
  new_two = get_or-set_same with_one_lem (2 * w.made + 1) q 0 (omega (arith, pre.room, pre.valid.long, length-set w.queue (2 * w.made) p))

  old_one : (i : ℕ) → i < w.made → one_at after i ≡ one_at w i
  old_one i h = before (2 * i) (omega arith)

  old_two : (i : ℕ) → i < w.made → two_at after i ≡ two_at w i
  old_two i h = before (2 * i + 1) (omega arith)

  put : JoinLaw w.sets d p (n1 + q) true → PairJoined n1 p q w after
  put (new valid is_n m) = record {
    valid = record {
      valid = valid;
      few = omega (arith, is_n, pre.valid.few);
      long = length-set with_one_lem (2 * w.made + 1) q ∙ length-set w.queue (2 * w.made) p ∙ pre.valid.long;
      spanned = subst (λ (k : ℕ). Spanned k (class_of d) (one_at after) (λ i. n1 + two_at after i) (w.made + 1)) (sym is_n)
          (spanned_more pre.valid.spanned m old_one (λ i h. ap (λ (x : ℕ). n1 + x) (old_two i h)) new_one (ap (λ (x : ℕ). n1 + x) new_two));
    };
    kept = record { same_n = is_n; more = omega arith; one = old_one; two = old_two; joins = m.kept };
    joined = m.joined;
    new = λ i h k. let e : i ≡ w.made = omega arith in (e, ap (one_at after) e ∙ new_one, ap (two_at after) e ∙ new_two);
  }

  module _ (b : Bool) (j : JoinLaw w.sets d p (n1 + q) b) where
    pub pair_had : b ≡ false → PairJoined n1 p q w (record { sets = d; queue = w.queue; made = w.made })
    pair_had e = had (rw e at j)

    pub pair_put : b ≡ true → PairJoined n1 p q w after
    pair_put e = put (rw e at j)
