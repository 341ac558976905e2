-- What `any` and `all` of an iterator answer, in the words of Lists: `any_from_yields_List` and `all_from_yields_List` of std speak of `list_any` and `list_all`.
use Rattle.std.proofs.Common.{◌≡◌, ℕ, zero, suc, ◌+◌, Bool, ◌&&◌, ◌||◌, List, [], ◌∷◌, map, refl, ap, ap₂, arith}
use Rattle.std.specs.List.{list_any, list_all, range_with_len}
use Rattle.lists.specs.Lists.{any, all, tabulate}

pub any_listed : {A : Type 0} (f : A → Bool) (l : List A) → list_any f l ≡ any f l
unfolding any
any_listed f [] = refl
any_listed f (x ∷ l) = ap (λ b. f x || b) (any_listed f l)

pub all_listed : {A : Type 0} (f : A → Bool) (l : List A) → list_all f l ≡ all f l
unfolding all
all_listed f [] = refl
all_listed f (x ∷ l) = ap (λ b. f x && b) (all_listed f l)

pub any_mapped : {A B : Type 0} (f : B → Bool) (g : A → B) (l : List A) → list_any (λ x. f (g x)) l ≡ any f (map g l)
unfolding any
any_mapped f g [] = refl
any_mapped f g (x ∷ l) = ap (λ b. f (g x) || b) (any_mapped f g l)

-- the numbers of a range
pub range_listed : (a n : ℕ) (g : ℕ → ℕ) → ((k : ℕ) → g k ≡ a + k) → range_with_len a n ≡ tabulate n g
unfolding tabulate
range_listed a zero g e = refl
range_listed a (suc n) g e =
    let h : a ≡ g 0 = omega (arith, e 0) in ap₂ ◌∷◌ h (range_listed (a + 1) n (λ k. g (suc k)) (λ k. omega (arith, e (suc k))))
