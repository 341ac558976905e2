-- Laws of `any`, `filter`, `tabulate` and `map`: what membership says.
use Prim.Native.Nat.{ℕ, zero, suc, ◌+◌, ◌≤◌, ◌<◌}
use mathlib.Core.Bool.{Bool, true, false, cond, not, ◌&&◌, false≢true}
use mathlib.Core.List.Memᴰ
use mathlib.Core.List.{List, [], ◌∷◌, ◌++◌, map, nil≢cons}
use mathlib.Core.Logic.{⊎_elim}
use mathlib.Core.Path.{◌≡◌, refl, sym, ◌∙◌, ap, ap₂}
use native.Mathlib.Omega.{arith}
use lib.ListN.{get_or, length, drop, replicate}
use Rattle.lists.specs.Lists.{◌∈◌, any, filter, tabulate}
use Rattle.lists.proofs.Tests.{or_cases, or_left, or_right}

pub any_out : {A : Type 0} (f : A → Bool) (l : List A) → any f l ≡ true → (x : A) × x ∈ l × (f x ≡ true)
unfolding any
any_out f [] h = absurd (false≢true h)
any_out f (x ∷ l) h =
    ⊎_elim (λ k. (x, Memᴰ.head refl, k)) (λ k. let r = any_out f l k in (r.0, Memᴰ.tail r.1, r.2))
    (or_cases (f x) (any f l) h)

pub any_in : {A : Type 0} (f : A → Bool) {x : A} {l : List A} → x ∈ l → f x ≡ true → any f l ≡ true
unfolding any
any_in {A = A} f {l = []} x6 h = elim x6 [ ]
any_in f {l = y ∷ l} (Memᴰ.head e) h = or_left _ _ (ap f (sym e) ∙ h)
any_in f {l = y ∷ l} (Memᴰ.tail m) h = or_right (f y) _ (any_in f m h)

pub any_ext : {A : Type 0} (f g : A → Bool) (l : List A) → ((x : A) → x ∈ l → f x ≡ g x) → any f l ≡ any g l
unfolding any
any_ext f g [] h = refl
any_ext f g (x ∷ l) h = rw (h x (Memᴰ.head refl), any_ext f g l (λ y m. h y (Memᴰ.tail m)))

-- the element at a place
pub map_at : {X Y : Type 0} (f : X → Y) (l : List X) (k : ℕ) (d : X) (e : Y) → k < length l → get_or (map f l) k e ≡ f (get_or l k d)
map_at f [] k d e h = absurd (omega arith)
map_at f (x ∷ l) zero d e h = refl
map_at f (x ∷ l) (suc k) d e h = map_at f l k d e (omega arith)

pub filter_in : {A : Type 0} (f : A → Bool) {x : A} {l : List A} → x ∈ l → f x ≡ true → x ∈ filter f l
unfolding filter
filter_in {A = A} f {x = x} {l = []} x6 h = elim x6 [ ]
filter_in f {l = y ∷ l} (Memᴰ.head e) h = rw (ap f (sym e) ∙ h) (Memᴰ.head e)
filter_in f {x} {l = y ∷ l} (Memᴰ.tail m) h = skip (f y) (filter_in f m h)
  where
    skip : (b : Bool) → x ∈ filter f l → x ∈ cond b (y ∷ filter f l) (filter f l)
    skip true m = Memᴰ.tail m
    skip false m = m

pub filter_out : {A : Type 0} (f : A → Bool) (x : A) (l : List A) → x ∈ filter f l → x ∈ l × (f x ≡ true)
unfolding filter
filter_out f x [] m = elim m [ ]
filter_out f x (y ∷ l) m = go (f y) refl m (filter_out f x l)
  where
    far : x ∈ l × (f x ≡ true) → x ∈ (y ∷ l) × (f x ≡ true)
    far r = (Memᴰ.tail r.0, r.1)

    near : f y ≡ true → x ∈ (y ∷ filter f l) → (x ∈ filter f l → x ∈ l × (f x ≡ true)) → x ∈ (y ∷ l) × (f x ≡ true)
    near e (Memᴰ.head q) ih = (Memᴰ.head q, ap f q ∙ e)
    near e (Memᴰ.tail m) ih = far (ih m)

    go : (b : Bool) → f y ≡ b → x ∈ cond b (y ∷ filter f l) (filter f l) → (x ∈ filter f l → x ∈ l × (f x ≡ true)) → x ∈ (y ∷ l) × (f x ≡ true)
    go true e m ih = near e m ih
    go false e m ih = far (ih m)

pub filter_append : {A : Type 0} (f : A → Bool) (l m : List A) → filter f (l ++ m) ≡ filter f l ++ filter f m
unfolding filter
filter_append f [] m = refl
filter_append f (x ∷ l) m = go (f x) (filter_append f l m)
  where
    go : (b : Bool) → filter f (l ++ m) ≡ filter f l ++ filter f m → cond b (x ∷ filter f (l ++ m)) (filter f (l ++ m)) ≡ cond b (x ∷ filter f l) (filter f l) ++ filter f m
    go true e = rw e
    go false e = e

pub filter_none : {A : Type 0} (f : A → Bool) (l : List A) → ((x : A) → x ∈ l → f x ≡ false) → filter f l ≡ []
unfolding filter
filter_none f [] h = refl
filter_none f (x ∷ l) h = rw (h x (Memᴰ.head refl)) (filter_none f l (λ y m. h y (Memᴰ.tail m)))

pub filter_all : {A : Type 0} (f : A → Bool) (l : List A) → ((x : A) → x ∈ l → f x ≡ true) → filter f l ≡ l
unfolding filter
filter_all f [] h = refl
filter_all f (x ∷ l) h = rw (h x (Memᴰ.head refl), filter_all f l (λ y m. h y (Memᴰ.tail m)))

pub filter_ext : {X : Type 0} (f g : X → Bool) (l : List X) → ((x : X) → x ∈ l → f x ≡ g x) → filter f l ≡ filter g l
unfolding filter
filter_ext f g [] h = refl
filter_ext f g (x ∷ l) h = rw (h x (Memᴰ.head refl), filter_ext f g l (λ y m. h y (Memᴰ.tail m)))

pub filter_and : {X : Type 0} (f g : X → Bool) (l : List X) → filter (λ x. f x && g x) l ≡ filter g (filter f l)
unfolding filter
filter_and f g [] = refl
filter_and f g (x ∷ l) = go (f x) (filter_and f g l)
  where
    go : (b : Bool) → filter (λ x. f x && g x) l ≡ filter g (filter f l)
        → cond (b && g x) (x ∷ filter (λ x. f x && g x) l) (filter (λ x. f x && g x) l) ≡ filter g (cond b (x ∷ filter f l) (filter f l))
    go true e = rw e
    go false e = e

pub filter_map : {A B : Type 0} (f : B → Bool) (g : A → B) (h : A → Bool) (l : List A) → ((x : A) → f (g x) ≡ h x) → filter f (map g l) ≡ map g (filter h l)
unfolding filter
filter_map f g h [] e = refl
filter_map f g h (x ∷ l) e = rw (e x) (go (h x) (filter_map f g h l e))
  where
    go : (b : Bool) → filter f (map g l) ≡ map g (filter h l) → cond b (g x ∷ filter f (map g l)) (filter f (map g l)) ≡ map g (cond b (x ∷ filter h l) (filter h l))
    go true e = rw e
    go false e = e

pub tabulate_at : {A : Type 0} (n : ℕ) (g : ℕ → A) (p : ℕ) (d : A) → p < n → get_or (tabulate n g) p d ≡ g p
unfolding tabulate
tabulate_at zero g p d h = absurd (omega arith)
tabulate_at (suc n) g zero d h = refl
tabulate_at (suc n) g (suc p) d h = tabulate_at n (λ k. g (suc k)) p d (omega arith)

pub length_tabulate : {X : Type 0} (n : ℕ) (g : ℕ → X) → length (tabulate n g) ≡ n
unfolding tabulate
length_tabulate zero g = refl
length_tabulate (suc n) g = ap suc (length_tabulate n (λ k. g (suc k)))

pub tabulate_ext : {X : Type 0} (n : ℕ) (g h : ℕ → X) → ((j : ℕ) → j < n → g j ≡ h j) → tabulate n g ≡ tabulate n h
unfolding tabulate
tabulate_ext zero g h e = refl
tabulate_ext (suc n) g h e = ap₂ ◌∷◌ (e 0 (omega arith)) (tabulate_ext n (λ k. g (suc k)) (λ k. h (suc k)) (λ j l. e (suc j) (omega arith)))

pub tabulate_end : {X : Type 0} (n : ℕ) (g : ℕ → X) → tabulate (suc n) g ≡ tabulate n g ++ g n ∷ []
unfolding tabulate
tabulate_end zero g = refl
tabulate_end (suc n) g = ap (λ l. g 0 ∷ l) (tabulate_end n (λ k. g (suc k)))

pub map_tabulate : {X Y : Type 0} (f : X → Y) (n : ℕ) (g : ℕ → X) → map f (tabulate n g) ≡ tabulate n (λ j. f (g j))
unfolding tabulate
map_tabulate f zero g = refl
map_tabulate f (suc n) g = ap (λ l. f (g 0) ∷ l) (map_tabulate f n (λ k. g (suc k)))

pub map_ext : {X Y Z : Type 0} (f : Y → Z) (g : X → Y) (h : X → Z) (l : List X) → ((x : X) → x ∈ l → f (g x) ≡ h x) → map f (map g l) ≡ map h l
map_ext f g h [] e = refl
map_ext f g h (x ∷ l) e = ap₂ ◌∷◌ (e x (Memᴰ.head refl)) (map_ext f g h l (λ y m. e y (Memᴰ.tail m)))

pub map_append : {X Y : Type 0} (f : X → Y) (l m : List X) → map f (l ++ m) ≡ map f l ++ map f m
map_append f [] m = refl
map_append f (x ∷ l) m = ap (λ k. f x ∷ k) (map_append f l m)

pub length_filter : {A : Type 0} (f : A → Bool) (l : List A) → length (filter f l) ≤ length l
unfolding filter
length_filter f [] = omega arith
length_filter f (x ∷ l) = go (f x) (length_filter f l)
  where
    go : (b : Bool) → length (filter f l) ≤ length l → length (cond b (x ∷ filter f l) (filter f l)) ≤ suc (length l)
    go true h = omega arith
    go false h = omega arith

-- those that pass and those that don't
pub count_filter : {X : Type 0} (f : X → Bool) (l : List X) → length (filter f l) + length (filter (λ x. not (f x)) l) ≡ length l
unfolding filter
count_filter f [] = refl
count_filter f (x ∷ l) = go (f x) (count_filter f l)
  where
    go : (b : Bool) → length (filter f l) + length (filter (λ x. not (f x)) l) ≡ length l
        → length (cond b (x ∷ filter f l) (filter f l)) + length (cond (not b) (x ∷ filter (λ x. not (f x)) l) (filter (λ x. not (f x)) l)) ≡ suc (length l)
    go true h = omega arith
    go false h = omega arith

-- what stands at a place of a list is a member
pub drop_mem : {A : Type 0} (k : ℕ) (l : List A) (x : A) (r : List A) → drop k l ≡ x ∷ r → x ∈ l
drop_mem zero l x r e = rw e (Memᴰ.head refl)
drop_mem (suc k) [] x r e = absurd (nil≢cons e)
drop_mem (suc k) (y ∷ l) x r e = Memᴰ.tail (drop_mem k l x r e)

-- what stands in a blank array
pub blank_at : (n j : ℕ) → ◌≡◌ {A = ℕ} (get_or (replicate n 0) j 0) 0
blank_at zero j = refl
blank_at (suc n) zero = refl
blank_at (suc n) (suc j) = blank_at n j
