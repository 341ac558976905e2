-- Laws of `all`, of `any` where no element passes, and of members of `flat_map` and `tabulate`.
use Prim.Native.Nat.{ℕ, zero, suc, ◌<◌}
use mathlib.Core.Bool.{Bool, true, false, ◌&&◌, ◌||◌, false≢true}
use mathlib.Core.List.Memᴰ
use mathlib.Core.List.{List, [], ◌∷◌, flat_map}
use mathlib.Core.Logic.{⊎_elim}
use mathlib.Core.Path.{◌≡◌, refl, sym, ◌∙◌, ap, subst}
use native.Mathlib.Omega.{arith}
use Rattle.lists.specs.Lists.{◌∈◌, any, all, tabulate, Ascending}
use Rattle.lists.proofs.Lists.{any_in}
use Rattle.lists.proofs.Tests.{test, and_parts}

pub any_cons : {A : Type 0} (f : A → Bool) (x : A) (l : List A) (b : Bool) → b ≡ f x → any f (x ∷ l) ≡ (b || any f l)
unfolding any
any_cons f x l b e = rw e

pub any_none : {A : Type 0} (f : A → Bool) (l : List A) → any f l ≡ false → (x : A) → x ∈ l → f x ≡ false
any_none f l h x m = ⊎_elim (λ (t : f x ≡ true). absurd (false≢true (sym h ∙ any_in f m t))) (λ t. t) (test (f x))

pub all_cons : {A : Type 0} (f : A → Bool) (x : A) (l : List A) (b : Bool) → b ≡ f x → all f (x ∷ l) ≡ (b && all f l)
unfolding all
all_cons f x l b e = rw e

pub all_out : {A : Type 0} (f : A → Bool) {x : A} {l : List A} → x ∈ l → all f l ≡ true → f x ≡ true
unfolding all
all_out {A = A} f {l = []} x6 h = elim x6 [ ]
all_out f {l = y ∷ l} (Memᴰ.head e) h = ap f e ∙ (and_parts (f y) (all f l) h).0
all_out f {l = y ∷ l} (Memᴰ.tail m) h = all_out f m (and_parts (f y) (all f l) h).1

pub all_in : {A : Type 0} (f : A → Bool) (l : List A) → ((x : A) → x ∈ l → f x ≡ true) → all f l ≡ true
unfolding all
all_in f [] h = refl
all_in f (x ∷ l) h = rw (h x (Memᴰ.head refl)) (all_in f l (λ y m. h y (Memᴰ.tail m)))

pub all_not : {A : Type 0} (f : A → Bool) (l : List A) → all f l ≡ false → (x : A) × x ∈ l × (f x ≡ false)
unfolding all
all_not f [] h = absurd (false≢true (sym h))
all_not f (x ∷ l) h =
    ⊎_elim (λ (t : f x ≡ true). let (y, m, e) = all_not f l (sym (ap (λ b. b && all f l) t) ∙ h) in (y, Memᴰ.tail m, e)) (λ (t : f x ≡ false). (x, Memᴰ.head refl, t))
    (test (f x))

pub all_ext : {A : Type 0} (f g : A → Bool) (l : List A) → ((x : A) → x ∈ l → f x ≡ g x) → all f l ≡ all g l
unfolding all
all_ext f g [] h = refl
all_ext f g (x ∷ l) h = rw (h x (Memᴰ.head refl), all_ext f g l (λ y m. h y (Memᴰ.tail m)))

-- the members of lists one behind the other
pub flat_in : {X Y : Type 0} (f : X → List Y) {x : X} {y : Y} {l : List X} → x ∈ l → y ∈ f x → y ∈ flat_map f l
unfolding flat_map
flat_in {X = X} {Y = Y} f {y = y} {l = []} x6 m = elim x6 [ ]
flat_in f {y} {l = z ∷ l} (Memᴰ.head e) m = Memᴰ.append_left (flat_map f l) (subst (λ a. y ∈ f a) e m)
flat_in f {l = z ∷ l} (Memᴰ.tail n) m = Memᴰ.append_right (f z) (flat_in f n m)

pub flat_out : {X Y : Type 0} (f : X → List Y) (y : Y) (l : List X) → y ∈ flat_map f l → (x : X) × x ∈ l × y ∈ f x
unfolding flat_map
flat_out f y [] m = elim m [ ]
flat_out f y (x ∷ l) m =
    ⊎_elim (λ k. (x, Memᴰ.head refl, k)) (λ k. let r = flat_out f y l k in (r.0, Memᴰ.tail r.1, r.2)) (Memᴰ.append_cases (f x) m)

-- the members of a table of values
pub tabulate_in : {X : Type 0} (n : ℕ) (g : ℕ → X) (p : ℕ) → p < n → g p ∈ tabulate n g
unfolding tabulate
tabulate_in zero g p h = absurd (omega arith)
tabulate_in (suc n) g zero h = Memᴰ.head refl
tabulate_in (suc n) g (suc p) h = Memᴰ.tail (tabulate_in n (λ k. g (suc k)) p (omega arith))

pub tabulate_out : {X : Type 0} (n : ℕ) (g : ℕ → X) (x : X) → x ∈ tabulate n g → (p : ℕ) × (p < n) × (x ≡ g p)
unfolding tabulate
tabulate_out zero g x m = elim m [ ]
tabulate_out (suc n) g x (Memᴰ.head e) = (0, omega arith, e)
tabulate_out (suc n) g x (Memᴰ.tail m) = let r = tabulate_out n (λ k. g (suc k)) x m in (suc r.0, omega (arith, r.1), r.2)

pub tabulate_ascend : (n : ℕ) (g : ℕ → ℕ) → ((i j : ℕ) → i < j → g i < g j) → Ascending ◌<◌ (tabulate n g)
unfolding tabulate
tabulate_ascend zero g h = Ascending.none
tabulate_ascend (suc n) g h =
    Ascending.more {x = g 0} (λ y m. let r = tabulate_out n (λ k. g (suc k)) y m in rw r.2 (h 0 (suc r.0) (omega arith)))
    (tabulate_ascend n (λ k. g (suc k)) (λ i j l. h (suc i) (suc j) (omega arith)))
