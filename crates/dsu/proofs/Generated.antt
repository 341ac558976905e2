-- What pairs of numbers generate: what holds of each pair holds of all, more pairs generate more, and the classes of joined pairs.
-- Assumes nothing.
use Prim.Native.Nat.{ℕ, ◌+◌, ◌≤◌, ◌<◌}
use mathlib.Core.Path.{◌≡◌, sym, subst, ◌∙◌}
use native.Mathlib.Omega.{arith}
use Rattle.dsu.specs.Classes.{Classes, none, old, new, Joined, before, across, back}
use Rattle.dsu.specs.inner.Generated.{Ker, Merges, Generated, pair, reflexive, symmetric, transitive, Spanned}
use Rattle.dsu.proofs.Classes.{classes_moved}

-- some number, some class
pub classes_positive : {R : ℕ → ℕ → Type 0} {n k : ℕ} → Classes R n k → 0 < n → 0 < k
classes_positive none h = h
classes_positive (old i l r c) h = classes_positive c (omega arith)
classes_positive (new o c) h = omega arith

-- what holds of each pair holds of all that the pairs generate
pub generated_into : {n : ℕ} {one two : ℕ → ℕ} {k : ℕ} (R : ℕ → ℕ → Type 0) → ((p : ℕ) → p < n → R p p) → ((p q : ℕ) → R p q → R q p)
    → ((p q s : ℕ) → R p q → R q s → R p s) → ((i : ℕ) → i < k → R (one i) (two i)) → {p q : ℕ} → Generated n one two k p q → R p q
generated_into R s u c h (pair i b) = h i b
generated_into R s u c h (reflexive {p = p} b) = s p b
generated_into R s u c h (symmetric {p = p} {q = q} l) = u p q (generated_into R s u c h l)
generated_into R s u c h (transitive {p = p} {q = q} {s = w} l m) = c p q w (generated_into R s u c h l) (generated_into R s u c h m)

-- more pairs generate more
pub generated_more : {n : ℕ} {one two one' two' : ℕ → ℕ} {k m : ℕ} → k ≤ m → ((j : ℕ) → j < k → one' j ≡ one j) → ((j : ℕ) → j < k → two' j ≡ two j)
    → {p q : ℕ} → Generated n one two k p q → Generated n one' two' m p q
generated_more {n} {one} {two} {one'} {two'} {k} {m} h a b l = generated_into (Generated n one' two' m) (λ p c. reflexive c) (λ p q l. symmetric l) (λ p q u l n. transitive l n)
    (λ i c. subst (λ (p : ℕ). Generated n one' two' m p (two i)) (a i c) (subst (Generated n one' two' m (one' i)) (b i c) (pair i (omega arith)))) l

-- of the joined pair and of what was joined before, what is joined now
merged_into : {n : ℕ} {f g : ℕ → ℕ} {p q : ℕ} → Merges n f g p q → (R : ℕ → ℕ → Type 0) → ((p q : ℕ) → R p q → R q p)
    → ((p q s : ℕ) → R p q → R q s → R p s) → ((u v : ℕ) → u < n → v < n → f u ≡ f v → R u v) → R p q → (u v : ℕ) → u < n → v < n → g u ≡ g v
    → R u v
merged_into {n} {f} {g} {p} {q} m R tn ch h e u v hu hv d = by_way (m.only u v hu hv d)
  where
    by_way : Joined (Ker f) p q u v → R u v
    by_way (before a) = h u v hu hv a
    by_way (across a b) = ch u p v (h u p hu m.x_in a) (ch p q v e (tn v q (h v q hv m.y_in b)))
    by_way (back a b) = ch u q v (h u q hu m.y_in a) (ch q p v (tn p q e) (tn v p (h v p hv m.x_in b)))

-- no pairs: each number is alone
pub spanned_alone : {n : ℕ} {f : ℕ → ℕ} (one two : ℕ → ℕ) → ((x y : ℕ) → x < n → y < n → f x ≡ f y → x ≡ y) → Classes (Ker f) n n → Spanned n f one two 0
spanned_alone {n} {f} one two alone c = record { only = λ p q a b e. subst (Generated n one two 0 p) (alone p q a b e) (reflexive a); number = n; classes = c; counted = omega arith }

-- a pair more, which was apart
pub spanned_more : {n : ℕ} {f g : ℕ → ℕ} {one two one' two' : ℕ → ℕ} {k x y : ℕ} → Spanned n f one two k → Merges n f g x y
    → ((j : ℕ) → j < k → one' j ≡ one j) → ((j : ℕ) → j < k → two' j ≡ two j) → one' k ≡ x → two' k ≡ y → Spanned n g one' two' (k + 1)
spanned_more {n} {f} {g} {one} {two} {one'} {two'} {k} {x} {y} s m a b p q =
    let c = m.fewer s.number s.classes in
    record {
      only = merged_into m (Generated n one' two' (k + 1)) (λ p q l. symmetric l) (λ p q s l n. transitive l n)
          (λ u v hu hv d. generated_more (omega arith) a b (s.only u v hu hv d))
          (subst (λ (u : ℕ). Generated n one' two' (k + 1) u y) p (subst (Generated n one' two' (k + 1) (one' k)) q (pair k (omega arith))));
      number = c.0;
      classes = c.2;
      counted = omega (arith, c.1, s.counted);
    }

-- the same classes under other names
pub spanned_renamed : {n : ℕ} {f g : ℕ → ℕ} {one two : ℕ → ℕ} {k : ℕ} → Spanned n f one two k → ((p : ℕ) → p < n → g p ≡ f p) → Spanned n g one two k
spanned_renamed {f = f} s e = record {
  only = λ p q hp hq d. s.only p q hp hq (sym (e p hp) ∙ d ∙ e q hq);
  number = s.number;
  classes = classes_moved {R = Ker f} (λ p q a b d. e p a ∙ d ∙ sym (e q b)) (λ p q a b d. sym (e p a) ∙ d ∙ e q b) s.classes;
  counted = s.counted;
}

-- fewer pairs than numbers
pub spanned_room : {n : ℕ} {f one two : ℕ → ℕ} {k : ℕ} → Spanned n f one two k → 0 < n → k < n
spanned_room s h = omega (arith, s.counted, classes_positive s.classes h)
