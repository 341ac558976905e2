-- Laws on members: of a list of images, at a place, and of lists that ascend or have no element twice.
use Prim.Native.Nat.{ℕ, zero, suc, ◌≤◌, ◌<◌}
use mathlib.Core.Bool.{Bool, true, false, cond, ◌||◌}
use mathlib.Core.List.Memᴰ
use mathlib.Core.List.{List, [], ◌∷◌, ◌++◌, map}
use mathlib.Core.List.{nil≢cons}
use mathlib.Core.Logic.{⊎_elim}
use mathlib.Core.Path.{◌≡◌, refl, sym, ◌∙◌, ap, subst}
use native.Mathlib.Omega.{arith}
use lib.ListN.{get_or, length, drop}
use Rattle.lists.specs.Lists.{◌∈◌, filter, Ascending, Distinct}
use Rattle.lists.proofs.Lists.{filter_none, filter_out, drop_mem}
use Rattle.lists.proofs.Tests.{test}

pub map_out : {X Y : Type 0} (f : X → Y) (l : List X) (y : Y) → y ∈ map f l → (x : X) × x ∈ l × (y ≡ f x)
map_out f [] y m = elim m [ ]
map_out f (x ∷ l) y m =
    ⊎_elim (λ e. (x, Memᴰ.head refl, e)) (λ k. let r = map_out f l y k in (r.0, Memᴰ.tail r.1, r.2)) (Memᴰ.cases_cons m)

pub map_in : {X Y : Type 0} (f : X → Y) {x : X} {l : List X} → x ∈ l → f x ∈ map f l
map_in f (Memᴰ.head e) = Memᴰ.head (ap f e)
map_in f (Memᴰ.tail m) = Memᴰ.tail (map_in f m)

pub at_in : {X : Type 0} (l : List X) (j : ℕ) (d : X) → j < length l → get_or l j d ∈ l
at_in [] j d h = absurd (omega arith)
at_in (x ∷ l) zero d h = Memᴰ.head refl
at_in (x ∷ l) (suc j) d h = Memᴰ.tail (at_in l j d (omega arith))

-- an entry of a list, whatever stands for those that it lacks
pub at_default : {X : Type 0} (l : List X) (j : ℕ) (c d : X) → j < length l → get_or l j c ≡ get_or l j d
at_default [] j c d h = absurd (omega arith)
at_default (x ∷ l) zero c d h = refl
at_default (x ∷ l) (suc j) c d h = at_default l j c d (omega arith)

module _ {X : Type 0} where
  pub distinct_end : (x : X) (l : List X) → Distinct l → (x ∈ l → ⊥) → Distinct (l ++ x ∷ [])
  distinct_end x [] Distinct.none f = Distinct.more (λ m. Memᴰ.not-nil m) Distinct.none
  distinct_end x (y ∷ l) (Distinct.more g d) f =
      Distinct.more (λ m. ⊎_elim g (λ k. f (Memᴰ.head (sym (Memᴰ.eq_of_singleton k)))) (Memᴰ.append_cases l m))
      (distinct_end x l d (λ m. f (Memᴰ.tail m)))

  -- a list without one of its members
  unfoldable pub without : {x : X} {l : List X} → x ∈ l → List X
  without {l = []} x3 = elim x3 [ ]
  without {l = y ∷ l} (Memᴰ.head e) = l
  without {l = y ∷ l} (Memᴰ.tail m) = y ∷ without m

  pub without_length : {x : X} {l : List X} (m : x ∈ l) → length l ≡ suc (length (without m))
  unfolding without
  without_length (Memᴰ.head e) = refl
  without_length (Memᴰ.tail m) = ap suc (without_length m)

  pub without_in : {x : X} {l : List X} (m : x ∈ l) (y : X) → y ∈ l → (y ≡ x → ⊥) → y ∈ without m
  unfolding without
  without_in {l = z ∷ l} (Memᴰ.head e) y k n = ⊎_elim (λ (q : y ≡ z). absurd (n (q ∙ sym e))) (λ k. k) (Memᴰ.cases_cons k)
  without_in {l = []} m y k n = elim m [ ]
  without_in {l = z ∷ l} (Memᴰ.tail m) y k n = ⊎_elim (λ q. Memᴰ.head q) (λ k. Memᴰ.tail (without_in m y k n)) (Memᴰ.cases_cons k)

  -- distinct elements that are all members of a list are no more than its elements
  pub distinct_length : (k l : List X) → Distinct k → ((x : X) → x ∈ k → x ∈ l) → length k ≤ length l
  distinct_length [] l d h = omega arith
  distinct_length (x ∷ k) l (Distinct.more f d) h =
      let m = h x (Memᴰ.head refl) in
      let n = without_length m in
      let p = distinct_length k (without m) d (λ y i. without_in m y (h y (Memᴰ.tail i)) (λ q. f (Memᴰ.cast (sym q) i))) in
      omega arith

-- images are distinct where no two elements have the same
pub distinct_map : {X Y : Type 0} (f : X → Y) {l : List X} → ((x y : X) → x ∈ l → y ∈ l → f x ≡ f y → x ≡ y) → Distinct l → Distinct (map f l)
distinct_map f h Distinct.none = Distinct.none
distinct_map f {l = x ∷ l} h (Distinct.more g d) =
    Distinct.more
    (λ m. let r = map_out f l (f x) m in let q = h x r.0 (Memᴰ.head refl) (Memᴰ.tail r.1) r.2 in g (Memᴰ.cast q r.1))
    (distinct_map f (λ y z m n. h y z (Memᴰ.tail m) (Memᴰ.tail n)) d)

module _ {X : Type 0} {R : X → X → Type 0} where
  pub ascending_first : {x : X} {l : List X} → Ascending R (x ∷ l) → (y : X) → y ∈ l → R x y
  ascending_first (Ascending.more g a) = g

  pub ascending_rest : {x : X} {l : List X} → Ascending R (x ∷ l) → Ascending R l
  ascending_rest (Ascending.more g a) = a

  -- by another relation that holds between its elements
  pub ascending_by : {Q : X → X → Type 0} {l : List X} → ((x y : X) → x ∈ l → y ∈ l → R x y → Q x y) → Ascending R l → Ascending Q l
  ascending_by h Ascending.none = Ascending.none
  ascending_by h (Ascending.more g a) =
      Ascending.more (λ y m. h _ y (Memᴰ.head refl) (Memᴰ.tail m) (g y m)) (ascending_by (λ x y m n. h x y (Memᴰ.tail m) (Memᴰ.tail n)) a)

  pub ascending_filter : (f : X → Bool) {l : List X} → Ascending R l → Ascending R (filter f l)
  unfolding filter
  ascending_filter f Ascending.none = Ascending.none
  ascending_filter f {l = x ∷ l} (Ascending.more g a) = go (f x) (ascending_filter f a)
    where
      go : (b : Bool) → Ascending R (filter f l) → Ascending R (cond b (x ∷ filter f l) (filter f l))
      go true k = Ascending.more (λ y m. g y (filter_out f y l m).0) k
      go false k = k

  -- where nothing is related to itself no element stands twice
  pub ascending_distinct : ((x : X) → R x x → ⊥) → {l : List X} → Ascending R l → Distinct l
  ascending_distinct h Ascending.none = Distinct.none
  ascending_distinct h (Ascending.more {x} g a) = Distinct.more (λ m. h x (g x m)) (ascending_distinct h a)

  pub ascending_map : {Y : Type 0} {Q : Y → Y → Type 0} (f : X → Y) → ((x y : X) → R x y → Q (f x) (f y)) → {l : List X} → Ascending R l → Ascending Q (map f l)
  ascending_map f h Ascending.none = Ascending.none
  ascending_map {Q = Q} f h {l = x ∷ l} (Ascending.more g a) =
      Ascending.more (λ y m. let r = map_out f l y m in subst (λ z. Q (f x) z) (sym r.2) (h x r.0 (g r.0 r.1))) (ascending_map f h a)

  pub ascending_append : {l m : List X} → Ascending R l → Ascending R m → ((x y : X) → x ∈ l → y ∈ m → R x y) → Ascending R (l ++ m)
  ascending_append Ascending.none b h = b
  ascending_append {l = x ∷ l} (Ascending.more g a) b h =
      Ascending.more (λ y k. ⊎_elim (λ k. g y k) (λ k. h x y (Memᴰ.head refl) k) (Memᴰ.append_cases l k))
      (ascending_append a b (λ x y k. h x y (Memᴰ.tail k)))

  -- the parts of what ascends
  pub ascending_left : (l m : List X) → Ascending R (l ++ m) → Ascending R l
  ascending_left [] m a = Ascending.none
  ascending_left (x ∷ l) m (Ascending.more f a) = Ascending.more (λ y k. f y (Memᴰ.append_left m k)) (ascending_left l m a)

  pub ascending_right : (l m : List X) → Ascending R (l ++ m) → Ascending R m
  ascending_right [] m a = a
  ascending_right (x ∷ l) m (Ascending.more f a) = ascending_right l m a

  pub ascending_across : (l m : List X) → Ascending R (l ++ m) → (x y : X) → x ∈ l → y ∈ m → R x y
  ascending_across [] m a x y h k = absurd (Memᴰ.not-nil h)
  ascending_across (z ∷ l) m (Ascending.more f a) x y h k =
      ⊎_elim (λ (e : x ≡ z). subst (λ (w : X). R w y) (sym e) (f y (Memᴰ.append_right l k))) (λ n. ascending_across l m a x y n k) (Memᴰ.cases_cons h)

  -- two tests, where no element that passes g stands before one that passes f
  pub filter_either : (f g : X → Bool) → ((x : X) → f x ≡ true → g x ≡ false) → ((x y : X) → R x y → g x ≡ true → f y ≡ false)
      → {l : List X} → Ascending R l → filter (λ x. f x || g x) l ≡ filter f l ++ filter g l
  unfolding filter
  filter_either f g d o Ascending.none = refl
  filter_either f g d o {l = x ∷ l} (Ascending.more h a) =
      let ih = filter_either f g d o a in
      ⊎_elim (λ (p : f x ≡ true). rw (p, d x p) (ap (λ k. x ∷ k) ih))
      (λ (p : f x ≡ false).
      ⊎_elim (λ (q : g x ≡ true). rw (p, q) (ap (λ k. x ∷ k) (ih ∙ ap (λ k. k ++ filter g l) (none q)) ∙ sym (ap (λ k. k ++ (x ∷ filter g l)) (none q))))
      (λ (q : g x ≡ false). rw (p, q) ih)
      (test (g x)))
      (test (f x))
    where
      none : g x ≡ true → filter f l ≡ []
      none q = filter_none f l (λ y m. o x y (h y m) q)

-- the place of an element
abbrev pub Place : {X : Type 0} → X → List X → Type 0
Place {X} x l = (j : ℕ) × (j < length l) × (r : List X) × (drop j l ≡ x ∷ r)

pub place : {X : Type 0} {x : X} {l : List X} → x ∈ l → Place x l
place {X = X} {l = []} x3 = elim x3 [ ]
place {l = y ∷ l} (Memᴰ.head e) = (0, omega arith, l, ap (λ z. z ∷ l) (sym e))
place {l = y ∷ l} (Memᴰ.tail m) = let p = place m in (suc p.0, omega (arith, p.1), p.2, p.3)

-- of two elements of an ascending list the earlier is related to the later
pub ascending_places : {X : Type 0} {R : X → X → Type 0} (i j : ℕ) (l : List X) → Ascending R l → i < j → (x y : X) (r s : List X) → drop i l ≡ x ∷ r → drop j l ≡ y ∷ s → R x y
ascending_places i zero l a h x y r s d e = absurd (omega arith)
ascending_places zero (suc j) l a h x y r s d e = ascending_first (rw d at a) y (drop_mem j r y s (rw d at e))
ascending_places (suc i) (suc j) [] a h x y r s d e = absurd (nil≢cons d)
ascending_places (suc i) (suc j) (z ∷ l) a h x y r s d e = ascending_places i j l (ascending_rest a) (omega arith) x y r s d e
