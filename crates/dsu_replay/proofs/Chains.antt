-- What `chain` and `with_one` make. Assumes nothing.
use Rattle.std.proofs.Common.{◌≡◌, ℕ, suc, ◌+◌, ◌<◌, ◌≤◌, List, [], ◌∷◌, ◌++◌, length, take, set, sym, refl, ap, ◌∙◌, ap₂, add-one, arith, length-set, take_all, take-suc-set, rules}
use Rattle.dsu.specs.declared.DSU.{DSU}
use Rattle.dsu.specs.declared.SetsAnswer.{SetsAnswer}
use Rattle.dsu.specs.Sets.{new_of}
use Rattle.dsu.specs.inner.Lent.{sets_of}
use Rattle.dsu_replay.specs.Values.{one_to, chain_to, with_one}

-- the first i words are 1, 2, .., i
pub record Counted (l : List ℕ) (i : ℕ) : Type 0 where
  pub long : length l ≡ 512
  pub so_far : take i l ≡ one_to i

pub none_counted : (l : List ℕ) → length l ≡ 512 → Counted l 0
unfolding one_to
none_counted l h = record { long = h; so_far = refl }

pub one_counted : (l : List ℕ) (i v : ℕ) → Counted l i → v ≡ i → i < 512 → Counted (set l v (i + 1)) (i + 1)
unfolding one_to
one_counted l i v f is-i h =
    record {
      long = length-set l v (i + 1) ∙ f.long;
      so_far = rw (is-i, add-one) (take-suc-set l i (suc i) (omega (arith, f.long)) ∙ ap (λ (t : List ℕ). t ++ suc i ∷ []) f.so_far);
    }

all_counted : (l : List ℕ) (i : ℕ) → Counted l i → i ≤ 512 → 512 ≤ i → l ≡ one_to 512
all_counted l i f few all =
    let q : i ≡ 512 = omega arith in sym (take_all i l (omega (arith, f.long))) ∙ f.so_far ∙ ap one_to q

pub chain_made : (l m : List ℕ) (i last : ℕ) → Counted l i → Counted m i → i ≤ 512 → 512 ≤ i → ◌≡◌ {A = DSU} (sets_of (set l 511 last) m 512) (chain_to last)
unfolding chain_to
chain_made l m i last f g few all =
    ap₂ (λ (a b : List ℕ). sets_of (set a 511 last) b 512) (all_counted l i f few all) (all_counted m i g few all)

pub ruleset chain_laws = (none_counted, one_counted, chain_made, rules)

pub one_changed : (n parent own : ℕ) (w : SetsAnswer) → w ≡ new_of 8 → ◌≡◌ {A = DSU} (sets_of (set w.sets.repr 1 parent) (set w.sets.size 1 own) n) (with_one n parent own)
unfolding new_of with_one
one_changed n parent own w e = ap (λ (t : SetsAnswer). sets_of (set t.sets.repr 1 parent) (set t.sets.size 1 own) n) e

pub ruleset one_laws = (one_changed, rules)
