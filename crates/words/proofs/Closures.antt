-- The closure of a state is what epsilons reach, by runs.
use Prim.Native.Nat.{ℕ, zero, suc, ◌≤◌, ◌<◌}
use mathlib.Core.Bool.{Bool, true, false, cond, ◌||◌}
use mathlib.Core.List.{List, [], ◌++◌}
use mathlib.Core.Logic.{◌⊎◌, inl, inr, ⊎_elim}
use mathlib.Core.Path.{◌≡◌, refl, sym, subst}
use native.Mathlib.Nat.{eq-or-lt_of_le, le_refl}
use native.Mathlib.Omega.{arith}
use borrow.Author.Tests.{eq-eqb, eqb-true}
use lib.Dec.{eqb}
use lib.ListN.{get_or, get_or-map}
use Rattle.lists.specs.Lists.{any, tabulate}
use Rattle.lists.proofs.Lists.{any_out, any_in, tabulate_at}
use Rattle.lists.proofs.Tests.{test, or_cases, or_left, or_right, and_both, and_parts}
use Rattle.automata.specs.Automaton.{Transition, Automaton, Run, stay, skip, read, InBounds}
use Rattle.sets.specs.Sets.{Set, has, pick}
use Rattle.sets.specs.inner.Members.{Canon}
use Rattle.sets.specs.Closure.{through, closed}
use Rattle.sets.proofs.Sets.{picked, pick_out, pick_canon}
use Rattle.sets.proofs.Rounds.{through_canon}
use Rattle.words.specs.Simulation.{is_epsilon, epsilon_row, closures, closure}

-- runs compose
pub join : {A : Automaton} {p q r : ℕ} {v w : List ℕ} → Run A p v q → Run A q w r → Run A p (v ++ w) r
join stay s = s
join (skip e m f k r) s = skip e m f k (join r s)
join (read e m f k l u r) s = read e m f k l u (join r s)

-- `through`, by members
through_out : (n k : ℕ) (K R : Set) (q : ℕ) → has q (through n k K R) ≡ true → (has q R ≡ true) ⊎ ((has k R ≡ true) × (has q K ≡ true))
unfolding through
through_out n k K R q h = go (has k R) refl h
  where
    go : (b : Bool) → has k R ≡ b → has q (cond b (pick n (λ q. has q R || has q K)) R) ≡ true → (has q R ≡ true) ⊎ ((has k R ≡ true) × (has q K ≡ true))
    go true e h = ⊎_elim inl (λ c. inr (e, c)) (or_cases (has q R) (has q K) (pick_out 0 n _ q h).2)
    go false e h = inl h

through_both : (n k : ℕ) (K R : Set) (q : ℕ) → q < n → has k R ≡ true → (has q R || has q K) ≡ true → has q (through n k K R) ≡ true
unfolding through
through_both n k K R q l h o = rw h (picked n _ q l o)

through_old : (n k : ℕ) (K R : Set) (q : ℕ) → q < n → has q R ≡ true → has q (through n k K R) ≡ true
through_old n k K R q l h = ⊎_elim (λ t. through_both n k K R q l t (or_left _ _ h)) (λ (f : has k R ≡ false). unfold through in rw f h) (test (has k R))

-- the rows after k rounds
rows : Automaton → ℕ → List Set
rows A k = closed A.size k (tabulate A.size (epsilon_row A))

module _ (A : Automaton) (ok : InBounds A) where
  -- after k rounds q is known to be reached from p
  abbrev On : ℕ → ℕ → ℕ → Type 0
  On k p q = has q (get_or (rows A k) p []) ≡ true

  row : (k p : ℕ) → get_or (rows A (suc k)) p [] ≡ through A.size k (get_or (rows A k) k []) (get_or (rows A k) p [])
  unfolding rows closed through has
  row k p = get_or-map (through A.size k (get_or (rows A k) k [])) (rows A k) p []

  on_cases : (k p q : ℕ) → On (suc k) p q → On k p q ⊎ (On k p k × On k k q)
  on_cases k p q h = through_out _ k _ _ q (rw (row k p) at h)

  on_old : (k p q : ℕ) → q < A.size → On k p q → On (suc k) p q
  on_old k p q l h = rw (row k p) (through_old _ k _ _ q l h)

  on_via : (k p q : ℕ) → q < A.size → On k p k → On k k q → On (suc k) p q
  on_via k p q l h g = rw (row k p) (through_both _ k _ _ q l h (or_right (has q (get_or (rows A k) p [])) _ g))

  on_zero : (p q : ℕ) → p < A.size → q < A.size → (eqb p q || any (is_epsilon p q) A.transitions) ≡ true → On 0 p q
  unfolding rows closed epsilon_row
  on_zero p q l u h = rw (tabulate_at A.size (epsilon_row A) p [] l) (picked A.size _ q u h)

  on_lift : (k p q : ℕ) → q < A.size → On 0 p q → On k p q
  on_lift zero p q l h = h
  on_lift (suc k) p q l h = on_old k p q l (on_lift k p q l h)

  to_k : (k p : ℕ) → On (suc k) p k → On k p k
  to_k k p h = ⊎_elim (λ a. a) (λ b. b.0) (on_cases k p k h)

  from_k : (k q : ℕ) → On (suc k) k q → On k k q
  from_k k q h = ⊎_elim (λ a. a) (λ b. b.1) (on_cases k k q h)

  -- through states below k reaching is transitive: no path is ever shortened
  on_trans : (k p m q : ℕ) → k ≤ A.size → m < k → q < A.size → On k p m → On k m q → On k p q
  on_trans zero p m q b l u g h = absurd (omega arith)
  on_trans (suc k) p m q b l u g h =
      let go : (p m q : ℕ) → m < k → q < A.size → On k p m → On k m q → On k p q = λ p m q. on_trans k p m q (omega arith) in
      ⊎_elim
      (λ (e : suc m ≡ suc k).
      let c : m ≡ k = omega arith in
      on_via k p q u (to_k k p (rw c at g)) (from_k k q (rw c at h)))
      (λ (d : suc m < suc k).
      let l : m < k = omega arith in
      ⊎_elim
      (λ g₁.
      ⊎_elim (λ h₁. on_old k p q u (go p m q l u g₁ h₁)) (λ h₂. on_via k p q u (go p m k l b g₁ h₂.0) h₂.1) (on_cases k m q h))
      (λ g₂. on_via k p q u g₂.0 (⊎_elim (λ h₁. go k m q l u g₂.1 h₁) (λ h₂. h₂.1) (on_cases k m q h)))
      (on_cases k p m g))
      (eq-or-lt_of_le l)

  is_epsilon_out : (p q : ℕ) (e : Transition) → is_epsilon p q e ≡ true → (e.kind ≡ 0) × (e.from ≡ p) × (e.to ≡ q)
  unfolding is_epsilon
  is_epsilon_out p q e h =
      let r = and_parts _ _ h in
      let s = and_parts _ _ r.1 in
      (eqb-true _ _ r.0, eqb-true _ _ s.0, eqb-true _ _ s.1)

  is_epsilon_in : (p q : ℕ) (e : Transition) → e.kind ≡ 0 → e.from ≡ p → e.to ≡ q → is_epsilon p q e ≡ true
  unfolding is_epsilon
  is_epsilon_in p q e k f t = and_both _ _ (eq-eqb _ _ k) (and_both _ _ (eq-eqb _ _ f) (eq-eqb _ _ t))

  -- what a row has, a run reaches
  on_run : (k p q : ℕ) → k ≤ A.size → p < A.size → On k p q → Run A p [] q
  unfolding rows closed epsilon_row
  on_run zero p q b l h =
      ⊎_elim (λ c. subst (λ (x : ℕ). Run A p [] x) (eqb-true p q c) stay)
      (λ c.
      let r = any_out (is_epsilon p q) A.transitions c in
      let s = is_epsilon_out p q r.0 r.2 in
      skip r.0 r.1 s.1 s.0 (subst (λ (x : ℕ). Run A r.0.to [] x) s.2 stay))
      (or_cases (eqb p q) _ (pick_out 0 A.size _ q (rw (tabulate_at A.size (epsilon_row A) p [] l) at h)).2)
  on_run (suc k) p q b l h =
      ⊎_elim (on_run k p q (omega arith) l) (λ c. join (on_run k p k (omega arith) l c.0) (on_run k k q (omega arith) b c.1))
      (on_cases k p q h)

  pub closure_sound : (p q : ℕ) → p < A.size → has q (closure A p) ≡ true → Run A p [] q
  unfolding closure closures rows
  closure_sound p q l h = on_run A.size p q (le_refl _) l h

  -- a run stays among the states
  pub run_bound : {p q : ℕ} {w : List ℕ} → p < A.size → Run A p w q → q < A.size
  run_bound l stay = l
  run_bound l (skip e m f k r) = run_bound (ok.tos e m) r
  run_bound l (read e m f k a b r) = run_bound (ok.tos e m) r

  pub closure_complete : {p q : ℕ} → p < A.size → Run A p [] q → has q (closure A p) ≡ true
  unfolding closure closures rows
  closure_complete {p} l stay = on_lift A.size p p l (on_zero p p l l (or_left _ _ (eq-eqb p p refl)))
  closure_complete {p} {q} l (skip e m f k r) =
      let t = ok.tos e m in
      on_trans A.size p e.to q (le_refl _) t (run_bound t r)
      (on_lift A.size p e.to t (on_zero p e.to l t (or_right (eqb p e.to) _ (any_in (is_epsilon p e.to) m (is_epsilon_in p e.to e k f refl)))))
      (closure_complete t r)

  -- a closure is a set of states
  rows_canon : (k p : ℕ) → p < A.size → Canon A.size (get_or (rows A k) p [])
  unfolding rows closed epsilon_row
  rows_canon zero p l = rw (tabulate_at A.size (epsilon_row A) p [] l) (pick_canon A.size _)
  rows_canon (suc k) p l = subst (Canon A.size) (sym (row k p)) (through_canon A.size k _ _ (rows_canon k p l))

  pub closure_canon : (p : ℕ) → p < A.size → Canon A.size (closure A p)
  unfolding closure closures rows
  closure_canon p l = rows_canon A.size p l
