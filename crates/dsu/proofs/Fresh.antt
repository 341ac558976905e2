-- What the loop of `new` makes: each index at its place. Assumes nothing.
use Rattle.std.proofs.Common.{Ok, Err, ℕ, ◌+◌, ◌≤◌, ◌<◌, ◌≡◌, List, [], ◌∷◌, ◌++◌, length, take, set, replicate, sym, ap, ◌∙◌, arith, add-one, length-set, take_all, take-suc-set, rules, lt-ltb, le-ltb, refl}
use Rattle.refusal.specs.declared.StateRefusal.TheVariants.{Element}
use Rattle.dsu.specs.declared.SetsAnswer.{SetsAnswer}
use Rattle.dsu.specs.Sets.{up_to, fresh, new_of}

-- the first i parents are the indices
pub record Filled (l : List ℕ) (i : ℕ) : Type 0 where
  pub long : length l ≡ 512
  pub so_far : take i l ≡ up_to i

pub none_filled : (l : List ℕ) → length l ≡ 512 → Filled l 0
unfolding up_to
none_filled l h = record { long = h; so_far = refl }

module _ (l : List ℕ) (i : ℕ) (f : Filled l i) where
  pub one_filled : (v : ℕ) → v ≡ i → i < 512 → Filled (set l v i) (i + 1)
  unfolding up_to
  one_filled v is-i h = record {
    long = length-set l v i ∙ f.long;
    so_far = rw (is-i, add-one) (take-suc-set l i i (omega (arith, f.long)) ∙ ap (λ (t : List ℕ). t ++ i ∷ []) f.so_far);
  }

  module _ (few : i ≤ 512) (all : 512 ≤ i) (n : ℕ) where
    all_filled : l ≡ up_to 512
    all_filled = let q : i ≡ 512 = omega arith in sym (take_all i l (omega (arith, f.long))) ∙ f.so_far ∙ ap up_to q

    pub new_refused : 512 < n → ◌≡◌ {A = SetsAnswer} (record { outcome = Err Element; sets = record { repr = l; size = replicate 512 1; n = 0 } }) (new_of n)
    unfolding new_of fresh
    new_refused h = rw (lt-ltb 512 n h, all_filled)

    pub new_made : n ≤ 512 → ◌≡◌ {A = SetsAnswer} (record { outcome = Ok tt; sets = record { repr = l; size = replicate 512 1; n = n } }) (new_of n)
    unfolding new_of fresh
    new_made h = rw (le-ltb 512 n h, all_filled)

pub ruleset filling = (none_filled, one_filled, new_refused, new_made, rules)
