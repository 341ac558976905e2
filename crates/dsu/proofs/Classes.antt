-- The number of classes: there is exactly one, it goes with the relation, and it falls by one where two classes are made one.
-- Assumes nothing.
use Prim.Native.Nat.{ℕ, zero, suc, ◌≤◌, ◌<◌}
use mathlib.Core.Path.{◌≡◌, refl, sym, ap, ◌∙◌}
use mathlib.Core.Logic.{◌⊎◌, inl, inr}
use native.Mathlib.Decide.{ℕ_discrete}
use native.Mathlib.Omega.{arith}
use Rattle.dsu.specs.Classes.{Classes, none, old, new, Joined, before, across, back}
use Rattle.dsu.specs.inner.Generated.{Ker}
use Rattle.dsu.proofs.Count.{Merged}

pub classes_unique : {R : ℕ → ℕ → Type 0} {n j k : ℕ} → Classes R n j → Classes R n k → j ≡ k
classes_unique none none = refl
classes_unique (old i h r c) (old j l s d) = classes_unique c d
classes_unique (old i h r c) (new o d) = absurd (o i h r)
classes_unique (new o c) (old j l s d) = absurd (o j l s)
classes_unique (new o c) (new v d) = ap suc (classes_unique c d)

-- two relations that agree on the numbers below n have as many classes
pub classes_moved : {R S : ℕ → ℕ → Type 0} {n k : ℕ} → ((p q : ℕ) → p < n → q < n → R p q → S p q) → ((p q : ℕ) → p < n → q < n → S p q → R p q) → Classes R n k → Classes S n k
classes_moved f g none = none
classes_moved f g (old {n = n} i h r c) = old i h (f i n (omega arith) (omega arith) r) (classes_moved (λ p q a b. f p q (omega arith) (omega arith)) (λ p q a b. g p q (omega arith) (omega arith)) c)
classes_moved f g (new {n = n} o c) = new (λ i h s. o i h (g i n (omega arith) (omega arith) s)) (classes_moved (λ p q a b. f p q (omega arith) (omega arith)) (λ p q a b. g p q (omega arith) (omega arith)) c)

pub classes_alone : (f : ℕ → ℕ) (n : ℕ) → ((p q : ℕ) → p < n → q < n → f p ≡ f q → p ≡ q) → Classes (Ker f) n n
classes_alone f zero h = none
classes_alone f (suc n) h = new (λ i b e. omega (arith, h i n (omega arith) (omega arith) e)) (classes_alone f n (λ p q a b. h p q (omega arith) (omega arith)))

-- some number below k goes to c, or none does
abbrev Seen : (ℕ → ℕ) → ℕ → ℕ → Type 0
Seen f c k = (i : ℕ) × (i < k) × (f i ≡ c)

abbrev Unseen : (ℕ → ℕ) → ℕ → ℕ → Type 0
Unseen f c k = (i : ℕ) → i < k → f i ≡ c → ⊥

module _ {f : ℕ → ℕ} {c k : ℕ} where
  more_seen : Seen f c k → Seen f c (suc k)
  more_seen s = (s.0, omega (arith, s.1), s.2)

  more_unseen : Unseen f c k → (f k ≡ c → ⊥) → Unseen f c (suc k)
  more_unseen u e i h a = by_place (ℕ_discrete i k)
    where
      by_place : Dec (i ≡ k) → ⊥
      by_place (yes q) = e (sym (ap f q) ∙ a)
      by_place (no q) = u i (omega arith) a

seen? : (f : ℕ → ℕ) (c k : ℕ) → Seen f c k ⊎ Unseen f c k
seen? f c zero = inr (λ i h e. omega arith)
seen? f c (suc k) = by_last (seen? f c k) (ℕ_discrete (f k) c)
  where
    by_last : Seen f c k ⊎ Unseen f c k → Dec (f k ≡ c) → Seen f c (suc k) ⊎ Unseen f c (suc k)
    by_last (inl s) b = inl (more_seen s)
    by_last (inr u) (yes e) = inl (k, omega arith, e)
    by_last (inr u) (no e) = inr (more_unseen u e)

pub classes_some : (f : ℕ → ℕ) (n : ℕ) → (k : ℕ) × Classes (Ker f) n k
classes_some f zero = (0, none)
classes_some f (suc n) = by_last (classes_some f n) (seen? f (f n) n)
  where
    by_last : (k : ℕ) × Classes (Ker f) n k → Seen f (f n) n ⊎ Unseen f (f n) n → (k : ℕ) × Classes (Ker f) (suc n) k
    by_last w (inl s) = (w.0, old s.0 s.1 s.2 w.1)
    by_last w (inr u) = (suc w.0, new u w.1)

-- g makes the classes of x and y one, and leaves the others
pub record Joins (n : ℕ) (f g : ℕ → ℕ) (x y : ℕ) : Type 0 where
  pub apart : f x ≡ f y → ⊥
  pub joined : g x ≡ g y
  pub kept : (p q : ℕ) → p < n → q < n → f p ≡ f q → g p ≡ g q
  pub only : (p q : ℕ) → p < n → q < n → g p ≡ g q → Joined (Ker f) x y p q

pub turned : {n : ℕ} {f g : ℕ → ℕ} {x y : ℕ} → Joins n f g x y → Joins n f g y x
turned {f = f} {x = x} {y = y} j = record {
  apart = λ e. j.apart (sym e);
  joined = sym j.joined;
  kept = j.kept;
  only = λ p q a b e. turn (j.only p q a b e);
}
  where
    turn : {p q : ℕ} → Joined (Ker f) x y p q → Joined (Ker f) y x p q
    turn (before e) = before e
    turn (across a b) = back a b
    turn (back a b) = across a b

-- the same from names: what went to y's goes to x's
pub merged_joins : {n : ℕ} {f g : ℕ → ℕ} {x y : ℕ} → x < n → y < n → (f x ≡ f y → ⊥) → Merged f g (f x) (f y) n → Joins n f g x y
merged_joins {n} {f} {g} {x} {y} x_in y_in apart m = record {
  apart = apart;
  joined = m.left x x_in apart ∙ sym (m.moved y y_in refl);
  kept = λ p q a b e. filter p q a b e (ℕ_discrete (f p) (f y));
  only = λ p q a b e. why p q a b e (ℕ_discrete (f p) (f y)) (ℕ_discrete (f q) (f y));
}
  where
    filter : (p q : ℕ) → p < n → q < n → f p ≡ f q → Dec (f p ≡ f y) → g p ≡ g q
    filter p q a b e (yes h) = m.moved p a h ∙ sym (m.moved q b (sym e ∙ h))
    filter p q a b e (no h) = m.left p a h ∙ e ∙ sym (m.left q b (λ k. h (e ∙ k)))

    why : (p q : ℕ) → p < n → q < n → g p ≡ g q → Dec (f p ≡ f y) → Dec (f q ≡ f y) → Joined (Ker f) x y p q
    why p q a b e (yes h) (yes k) = before (h ∙ sym k)
    why p q a b e (yes h) (no k) = back h (sym (m.left q b k) ∙ sym e ∙ m.moved p a h)
    why p q a b e (no h) (yes k) = across (sym (m.left p a h) ∙ e ∙ m.moved q b k) k
    why p q a b e (no h) (no k) = before (sym (m.left p a h) ∙ e ∙ m.left q b k)

-- after k numbers: both classes were met, and g has one fewer; or one was not, and g has as many
data State (f g : ℕ → ℕ) (x y k c : ℕ) : Type 0 where
  both : (d : ℕ) → Seen f (f x) k → Seen f (f y) k → c ≡ suc d → Classes (Ker g) k d → State f g x y k c
  lacks : Unseen f (f x) k ⊎ Unseen f (f y) k → Classes (Ker g) k c → State f g x y k c

state_turned : {f g : ℕ → ℕ} {x y k c : ℕ} → State f g x y k c → State f g y x k c
state_turned (both d s t e w) = both d t s e w
state_turned (lacks (inl u) w) = lacks (inr u) w
state_turned (lacks (inr u) w) = lacks (inl u) w

module _ {n : ℕ} {f g : ℕ → ℕ} {x y : ℕ} (x_in : x < n) (y_in : y < n) (j : Joins n f g x y) where
  state_old : {k c : ℕ} (i : ℕ) → i < k → k < n → f i ≡ f k → State f g x y k c → State f g x y (suc k) c
  state_old {k} i h b e (both d s t q w) = both d (more_seen s) (more_seen t) q (old i h (j.kept i k (omega arith) b e) w)
  state_old {k} i h b e (lacks (inl u) w) = lacks (inl (more_unseen u (λ a. u i h (e ∙ a)))) (old i h (j.kept i k (omega arith) b e) w)
  state_old {k} i h b e (lacks (inr u) w) = lacks (inr (more_unseen u (λ a. u i h (e ∙ a)))) (old i h (j.kept i k (omega arith) b e) w)

  -- k is the first of x's class
  state_x : {k c : ℕ} → k < n → Unseen f (f k) k → f k ≡ f x → State f g x y k c → State f g x y (suc k) (suc c)
  state_x {k} b o e (both d s t q w) = absurd (o s.0 s.1 (s.2 ∙ sym e))
  state_x {k} {c} b o e (lacks u w) = by_y (seen? f (f y) k)
    where
      unmet : Unseen f (f y) k → (i : ℕ) → i < k → Joined (Ker f) x y i k → ⊥
      unmet v i h (before a) = o i h a
      unmet v i h (across a a') = j.apart (sym e ∙ a')
      unmet v i h (back a a') = v i h a

      by_y : Seen f (f y) k ⊎ Unseen f (f y) k → State f g x y (suc k) (suc c)
      by_y (inl s) =
          let g-y = j.kept s.0 y (omega (arith, s.1)) y_in s.2 in
          let g-x = j.kept k x b x_in e in
          both c (k, omega arith, e) (more_seen s) refl (old s.0 s.1 (g-y ∙ sym j.joined ∙ sym g-x) w)
      by_y (inr v) = lacks (inr (more_unseen v (λ a. j.apart (sym e ∙ a)))) (new (λ i h a. unmet v i h (j.only i k (omega arith) b a)) w)

  state_other : {k c : ℕ} → k < n → Unseen f (f k) k → (f k ≡ f x → ⊥) → (f k ≡ f y → ⊥) → State f g x y k c → State f g x y (suc k) (suc c)
  state_other {k} b o ex ey s = by_state s
    where
      unmet : (i : ℕ) → i < k → Joined (Ker f) x y i k → ⊥
      unmet i h (before a) = o i h a
      unmet i h (across a a') = ey a'
      unmet i h (back a a') = ex a'

      first : Unseen g (g k) k
      first i h a = unmet i h (j.only i k (omega arith) b a)

      by_state : {c : ℕ} → State f g x y k c → State f g x y (suc k) (suc c)
      by_state (both d s t q w) = both (suc d) (more_seen s) (more_seen t) (ap suc q) (new first w)
      by_state (lacks (inl u) w) = lacks (inl (more_unseen u ex)) (new first w)
      by_state (lacks (inr u) w) = lacks (inr (more_unseen u ey)) (new first w)

module _ {n : ℕ} {f g : ℕ → ℕ} {x y : ℕ} (x_in : x < n) (y_in : y < n) (j : Joins n f g x y) where
  state_new : {k c : ℕ} → k < n → Unseen f (f k) k → State f g x y k c → State f g x y (suc k) (suc c)
  state_new {k} {c} b o s = by_class (ℕ_discrete (f k) (f x)) (ℕ_discrete (f k) (f y))
    where
      by_class : Dec (f k ≡ f x) → Dec (f k ≡ f y) → State f g x y (suc k) (suc c)
      by_class (yes e) q = state_x x_in y_in j b o e s
      by_class (no e) (yes q) = state_turned (state_x y_in x_in (turned j) b o q (state_turned s))
      by_class (no e) (no q) = state_other x_in y_in j b o e q s

  state : {k c : ℕ} → k ≤ n → Classes (Ker f) k c → State f g x y k c
  state h none = lacks (inl (λ i b e. omega arith)) none
  state h (old i b e w) = state_old x_in y_in j i b h e (state (omega arith) w)
  state h (new o w) = state_new h o (state (omega arith) w)

  pub classes_fewer : {c : ℕ} → Classes (Ker f) n c → (d : ℕ) × (c ≡ suc d) × Classes (Ker g) n d
  classes_fewer {c} w = by_state (state (omega arith) w)
    where
      by_state : State f g x y n c → (d : ℕ) × (c ≡ suc d) × Classes (Ker g) n d
      by_state (both d s t q v) = (d, q, v)
      by_state (lacks (inl u) v) = absurd (u x x_in refl)
      by_state (lacks (inr u) v) = absurd (u y y_in refl)
