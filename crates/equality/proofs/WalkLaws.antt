-- The walk over the queue of pairs, from the starts to the verdict: its laws, in the words of the code. Assumes nothing.
use Rattle.std.proofs.Common.{Option, Some, ℕ, ◌+◌, ◌≤◌, ◌<◌, ◌≡◌, refl, sym, ap, subst, ◌∙◌, List, arith, length, get_or, drop}
use lib.Seq.{sets}
use Rattle.automata.specs.Automaton.{none, accept_of}
use Rattle.automata.specs.Successors.{state_after}
use Rattle.sheets.specs.inner.Runs.{starts_of, RunAt}
use Rattle.sheets.specs.Sheet.{state_count, read}
use Rattle.sheets.proofs.Runs.{run_at, starts_indexed}
use Rattle.dsu.specs.declared.SetsAnswer.{SetsAnswer}
use Rattle.dsu.specs.Sets.{new_of}
use Rattle.pairs.specs.inner.Pairs.{Pairs, one_at, two_at, NoPairs, PairFits, PairJoined}
use Rattle.pairs.proofs.Laws.{no_pairs, pairs_few, pair_fits}
use Rattle.equality.specs.declared.Verdict.TheVariants.{Same, Different}
use Rattle.determinizations.specs.Two.{total_size}
use Rattle.equality.specs.inner.Walking.{trail_of, WalkedPairs, SuccessorsJoined, Chained, Spelled}
use Rattle.equality.specs.Verdict.{Decided}
use Rattle.determinizations.specs.inner.Sheets.{two_of}
use Rattle.equality.specs.inner.Code.{SuccessorsCompared, WalkInput, StartsAgree}
use Rattle.equality.proofs.WalkedPairs.{begun, ended, short}
use Rattle.equality.proofs.Spelling.{chained, differs}
use Rattle.equality.proofs.RunLaws.{total}

module _ (a b : List ℕ) (lower upper : ℕ) (o : List ℕ) (g : WalkInput a b lower upper o) where
  -- the starts differ
  pub walk_first : (x y : ℕ) → x ≡ accept_of (read a) (get_or a 1 0) → y ≡ accept_of (read b) (get_or b 1 0) → (x ≡ y → ⊥) → Decided (two_of a b lower upper) o o (Different 0)
  unfolding Decided state_after
  walk_first x y ex ey n =
      let s = g.sheets.first.start in
      let t = g.sheets.second.start in
      (record { word = none; short = omega arith; differ = λ e. n (ex ∙ e ∙ sym ey) }, omega arith, refl)

  -- the starts agree
  pub walk_agree : (old-a starts-a old-b starts-b : List ℕ) → starts-a ≡ sets old-a 0 (starts_of a) → starts-b ≡ sets old-b 0 (starts_of b) → length old-a ≡ 257 → length old-b ≡ 257
      → (x y : ℕ) → x ≡ accept_of (read a) (get_or a 1 0) → y ≡ accept_of (read b) (get_or b 1 0) → x ≡ y → StartsAgree a b starts-a starts-b lower upper o
  walk_agree old-a starts-a old-b starts-b is-a is_b la lb x y ex ey e = record {
    input = g;
    index_a = starts_indexed a old-a starts-a is-a (omega (arith, g.sheets.first.few_states));
    index_b = starts_indexed b old-b starts-b is_b (omega (arith, g.sheets.second.few_states));
    agree = sym ex ∙ e ∙ ey;
  }

-- the pairs w with the trail l, of which the first `head` are compared
pub record WalkInvariant (a b starts-a starts-b : List ℕ) (lower upper n1 head : ℕ) (w : Pairs) (l o : List ℕ) : Type 0 where
  pub start : StartsAgree a b starts-a starts-b lower upper o
  pub is_n1 : n1 ≡ state_count a
  pub walked : WalkedPairs (two_of a b lower upper) w l
  pub so_far : head ≤ w.made
  pub closed : SuccessorsJoined (two_of a b lower upper) w head

-- the starts joined
module _ (a b starts-a starts-b : List ℕ) (lower upper : ℕ) (o : List ℕ) (s : StartsAgree a b starts-a starts-b lower upper o) (f : SetsAnswer)
    (is_f : f ≡ new_of (get_or a 2 0 + get_or b 2 0)) (queue : List ℕ) (long : length queue ≡ 1024) where
  abbrev fresh : Pairs
  fresh = record { sets = f.sets; queue = queue; made = 0 }

  is_fresh : NoPairs (get_or a 2 0 + get_or b 2 0) fresh
  is_fresh = no_pairs (get_or a 2 0 + get_or b 2 0) (omega (arith, s.input.sheets.first.few_states, s.input.sheets.second.few_states)) f is_f queue long

  pub walk_fits : PairFits (get_or a 2 0) (get_or a 1 0) (get_or b 1 0) fresh
  walk_fits = pair_fits (get_or a 2 0) (get_or a 1 0) (get_or b 1 0) fresh (is_fresh.valid (get_or a 2 0)) (omega (arith, is_fresh.is_n, s.input.sheets.first.start)) (omega (arith, is_fresh.is_n, s.input.sheets.second.start))

  pub walk_begin : (w : Pairs) → PairJoined (get_or a 2 0) (get_or a 1 0) (get_or b 1 0) fresh w → (l : List ℕ) → length l ≡ 1536 → get_or l 2 0 ≡ 0
      → WalkInvariant a b starts-a starts-b lower upper (get_or a 2 0) 0 w l o
  walk_begin w j l h z = record {
    start = s;
    is_n1 = refl;
    walked = begun (two_of a b lower upper) (total a b lower upper s.input.sheets) fresh is_fresh w j l h z s.agree;
    so_far = omega arith;
    closed = λ i h. absurd (omega arith);
  }

module _ (a b starts-a starts-b : List ℕ) (lower upper n1 head : ℕ) (w : Pairs) (l o : List ℕ) (g : WalkInvariant a b starts-a starts-b lower upper n1 head w l o) where
  pub walk_run_a : head < w.made → RunAt a starts-a (one_at w head)
  walk_run_a h = run_at a g.start.input.sheets.first starts-a (one_at w head) g.start.index_a (g.walked.in_one head h)

  pub walk_run_b : head < w.made → RunAt b starts-b (two_at w head)
  walk_run_b h = run_at b g.start.input.sheets.second starts-b (two_at w head) g.start.index_b (g.walked.in_two head h)

  -- all pairs are compared
  pub walk_same : w.made ≤ head → (o₀ : List ℕ) → o ≡ o₀ → Decided (two_of a b lower upper) o₀ o (Same w.made)
  unfolding Decided
  walk_same h o₀ kept = (ended (two_of a b lower upper) (total a b lower upper g.start.input.sheets) w l g.walked (subst (SuccessorsJoined (two_of a b lower upper) w) (omega (arith, g.so_far)) g.closed), kept)

  -- a pair compared, with a difference under x
  module _ (r : Pairs) (l' : List ℕ) (c : Option ℕ) (compared : SuccessorsCompared (two_of a b lower upper) head r l' c) (x : ℕ) (e : c ≡ Some x) where
    v : SuccessorsCompared (two_of a b lower upper) head r l' (Some x)
    v = subst (SuccessorsCompared (two_of a b lower upper) head r l') e compared

    near : (trail_of l').depth head + 1 + 2 ≤ total_size (two_of a b lower upper)
    near = short (two_of a b lower upper) (total a b lower upper g.start.input.sheets) r l' v.0 head x v.1 (v.2, v.3) v.4

    pub walk_spell : Chained (trail_of l') head × (head < 512) × ((trail_of l').depth head < length o)
    walk_spell = (
      chained v.0 v.1,
      omega (arith, pairs_few (state_count a) r v.0.valid, v.1),
      omega (arith, near, v.0.is_n, v.0.valid.few, g.start.input.room),
    )

    pub walk_differs : (n : ℕ) (o' : List ℕ) → Spelled (trail_of l') head x n o o' → (o₀ : List ℕ) → o ≡ o₀ → Decided (two_of a b lower upper) o₀ o' (Different n)
    unfolding Decided
    walk_differs n o' p o₀ kept = (differs (two_of a b lower upper) (total a b lower upper g.start.input.sheets) r l' v.0 head x v.1 (v.2, v.3) v.4 n o o' p, p.within, p.behind ∙ ap (drop n) kept)
