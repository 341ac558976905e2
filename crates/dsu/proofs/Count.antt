-- Laws of `count`. Assumes nothing.
use Prim.Native.Nat.{ℕ, zero, suc, ◌+◌, ◌≤◌, ◌<◌}
use mathlib.Core.Path.{◌≡◌, refl, sym, ◌∙◌}
use native.Mathlib.Decide.{ℕ_discrete}
use native.Mathlib.Omega.{arith}
use borrow.Author.Tests.{eq-eqb, ne_eqb}
use Rattle.dsu.specs.Laws.{count}

-- one more number, which f takes to a, or does not
module _ (f : ℕ → ℕ) (a m : ℕ) where
  hit : f m ≡ a → count f a (suc m) ≡ 1 + count f a m
  unfolding count
  hit e = rw (eq-eqb (f m) a e)

  miss : (f m ≡ a → ⊥) → count f a (suc m) ≡ count f a m
  unfolding count
  miss e = rw (ne_eqb (f m) a e) (omega arith)

none : (f : ℕ → ℕ) (a : ℕ) → count f a zero ≡ 0
unfolding count
none f a = refl

pub count_cong : (f g : ℕ → ℕ) (a m : ℕ) → ((x : ℕ) → x < m → f x ≡ g x) → count f a m ≡ count g a m
unfolding count
count_cong f g a zero h = refl
count_cong f g a (suc m) h = rw (h m (omega arith), count_cong f g a m (λ x b. h x (omega arith)))

-- no more than m of the numbers below m go to a or to b
pub count_two : (f : ℕ → ℕ) (a b m : ℕ) → (a ≡ b → ⊥) → count f a m + count f b m ≤ m
count_two f a b zero h = omega (arith, none f a, none f b)
count_two f a b (suc m) h = by_last (count_two f a b m h) (ℕ_discrete (f m) a) (ℕ_discrete (f m) b)
  where
    by_last : count f a m + count f b m ≤ m → Dec (f m ≡ a) → Dec (f m ≡ b) → count f a (suc m) + count f b (suc m) ≤ suc m
    by_last ih (yes p) (yes q) = absurd (h (sym p ∙ q))
    by_last ih (yes p) (no q) = omega (arith, hit f a m p, miss f b m q)
    by_last ih (no p) (yes q) = omega (arith, miss f a m p, hit f b m q)
    by_last ih (no p) (no q) = omega (arith, miss f a m p, miss f b m q)

-- where f leaves every number alone, each is counted once
count_none : (f : ℕ → ℕ) (a m : ℕ) → ((x : ℕ) → x < m → f x ≡ x) → m ≤ a → count f a m ≡ 0
count_none f a zero h b = none f a
count_none f a (suc m) h b = miss f a m (λ e. omega (arith, h m (omega arith))) ∙ count_none f a m (λ x c. h x (omega arith)) (omega arith)

pub count_one : (f : ℕ → ℕ) (a m : ℕ) → ((x : ℕ) → x < m → f x ≡ x) → a < m → count f a m ≡ 1
count_one f a zero h b = absurd (omega arith)
count_one f a (suc m) h b = by_last (λ c. count_one f a m (λ x d. h x (omega arith)) c) (ℕ_discrete m a)
  where
    by_last : (a < m → count f a m ≡ 1) → Dec (m ≡ a) → count f a (suc m) ≡ 1
    by_last ih (yes e) = omega (arith, hit f a m (h m (omega arith) ∙ e), count_none f a m (λ x d. h x (omega arith)) (omega arith))
    by_last ih (no e) = omega (arith, miss f a m (λ q. e (sym (h m (omega arith)) ∙ q)), ih (omega arith))

-- g takes to win what f takes to lose, and else what f takes there
pub record Merged (f g : ℕ → ℕ) (win lose m : ℕ) : Type 0 where
  pub moved : (x : ℕ) → x < m → f x ≡ lose → g x ≡ win
  pub left : (x : ℕ) → x < m → (f x ≡ lose → ⊥) → g x ≡ f x

module _ (f g : ℕ → ℕ) (win lose : ℕ) (apart : win ≡ lose → ⊥) where
  less : (m : ℕ) → Merged f g win lose (suc m) → Merged f g win lose m
  less m h = record { moved = λ x b. h.moved x (omega arith); left = λ x b. h.left x (omega arith) }

  pub count_win : (m : ℕ) → Merged f g win lose m → count g win m ≡ count f win m + count f lose m
  count_win zero h = omega (arith, none f win, none f lose, none g win)
  count_win (suc m) h = by_last (count_win m (less m h)) (ℕ_discrete (f m) lose) (ℕ_discrete (f m) win)
    where
      by_last : count g win m ≡ count f win m + count f lose m → Dec (f m ≡ lose) → Dec (f m ≡ win) → count g win (suc m) ≡ count f win (suc m) + count f lose (suc m)
      by_last ih (yes p) (yes q) = absurd (apart (sym q ∙ p))
      by_last ih (yes p) (no q) = omega (arith, hit g win m (h.moved m (omega arith) p), hit f lose m p, miss f win m q)
      by_last ih (no p) (yes q) = omega (arith, hit g win m (h.left m (omega arith) p ∙ q), miss f lose m p, hit f win m q)
      by_last ih (no p) (no q) = omega (arith, miss g win m (λ e. q (sym (h.left m (omega arith) p) ∙ e)), miss f lose m p, miss f win m q)

  pub count_rest : (c m : ℕ) → (c ≡ win → ⊥) → (c ≡ lose → ⊥) → Merged f g win lose m → count g c m ≡ count f c m
  count_rest c zero u v h = none g c ∙ sym (none f c)
  count_rest c (suc m) u v h = by_last (count_rest c m u v (less m h)) (ℕ_discrete (f m) lose) (ℕ_discrete (f m) c)
    where
      by_last : count g c m ≡ count f c m → Dec (f m ≡ lose) → Dec (f m ≡ c) → count g c (suc m) ≡ count f c (suc m)
      by_last ih (yes p) (yes q) = absurd (v (sym q ∙ p))
      by_last ih (yes p) (no q) = omega (arith, miss g c m (λ e. u (sym e ∙ h.moved m (omega arith) p)), miss f c m q)
      by_last ih (no p) (yes q) = omega (arith, hit g c m (h.left m (omega arith) p ∙ q), hit f c m q)
      by_last ih (no p) (no q) = omega (arith, miss g c m (λ e. q (sym (h.left m (omega arith) p) ∙ e)), miss f c m q)
