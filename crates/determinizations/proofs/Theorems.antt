-- What is proved of the determinizations of two automata.
--   determinized_both      where both are given, they are the two automata
--   determinized_parts     and only then
--   determinized_first, determinized_second     a refusal of the first is that of both, and so is one of the second behind it
--   determinized_21, determinized_22     each refusal, exactly
--   determinized_number    there is no other
--   determinized_given     nothing is refused exactly where both fit
--   total_few              both have at most 512 states together
--   accepts_determinized   the accept word at the end of a word says whether the automaton accepts it
--   same_words, one_word   where no word tells the determinizations apart the automata accept the same words; a word that does is accepted by exactly one
-- Assumes nothing.
use Prim.Native.Nat.{ℕ, zero, suc, ◌≤◌, ◌<◌}
use mathlib.Core.List.{List}
use mathlib.Core.Logic.{◌⊎◌, inl, inr, ⊎_elim, ◌↔◌}
use mathlib.Core.Path.{◌≡◌, refl, ap, subst}
use native.Mathlib.Omega.{arith}
use Rattle.automata.specs.Automaton.{Automaton, Accepts, Word, InBounds}
use Rattle.automata.specs.Deterministic.{Deterministic}
use Rattle.automata.specs.SameWords.{SameWords, ExactlyOne}
use Rattle.automata.specs.Successors.{accept_after}
use Rattle.automata.specs.WellFormed.{WellFormed}
use Rattle.automata.proofs.Successors.{accepts_after}
use Rattle.refusal.specs.Answer.{Answer, refused, given}
use Rattle.determinize.specs.Determinize.{determinize}
use Rattle.determinize.specs.Reached.{MoreThan}
use Rattle.determinize.proofs.Theorems.{determinize_words, determinize_deterministic, determinize_wellformed, determinize_fits, determinize_given, refused_21, refused_22}
use Rattle.determinizations.specs.Two.{Two, total_size}
use Rattle.determinizations.specs.Determinizations.{with_second, with_first, determinized, Overfull, Limits}
use Rattle.determinizations.proofs.Answers.{not_given, one_number}

-- one determinization
module _ (lower upper : ℕ) (A : Automaton) (ok : InBounds A) where
  abbrev Some : Type 0
  Some = (D : Automaton) × (determinize lower upper A ≡ given D)

  -- it is given exactly where it is within the limits
  some_limits : Some ↔ Limits lower upper A
  some_limits = (
    λ (D, e).
        let few : MoreThan 255 lower upper A → ⊥ = λ m. not_given ((refused_21 lower upper A ok).1 m) e in
        (few, λ m. not_given ((refused_22 lower upper A ok).1 (few, m)) e),
    λ l. determinize_given lower upper A ok l.0 l.1,
  )

  -- and refused with 21 or 22
  some_number : (n : ℕ) → determinize lower upper A ≡ refused n → (n ≡ 21 → ⊥) → (n ≡ 22 → ⊥) → ⊥
  some_number n e x y =
      let few : MoreThan 255 lower upper A → ⊥ = λ m. x (one_number e ((refused_21 lower upper A ok).1 m)) in
      let d = determinize_given lower upper A ok few (λ m. y (one_number e ((refused_22 lower upper A ok).1 (few, m)))) in
      not_given e d.1

-- t are both determinizations
pub record BothGiven (lower upper : ℕ) (A B : Automaton) (t : Two) : Type 0 where
  pub first : determinize lower upper A ≡ given t.one
  pub second : determinize lower upper B ≡ given t.two
  pub are : t ≡ record { one = t.one; two = t.two; lower = lower; upper = upper }

-- two answers, the first's refusal before the second's
module _ (lower upper : ℕ) where
  answers_refused : (n : ℕ) (x y : Answer Automaton) → with_first lower upper x y ≡ refused n → (x ≡ refused n) ⊎ (((D : Automaton) × (x ≡ given D)) × (y ≡ refused n))
  unfolding with_first with_second
  answers_refused n (refused k) y e = inl (ap refused (one_number refl e))
  answers_refused n (given D) (refused k) e = inr ((D, refl), ap refused (one_number refl e))
  answers_refused n (given D) (given E) e = absurd (not_given e refl)

  answers_given : (t : Two) (x y : Answer Automaton) → with_first lower upper x y ≡ given t → (x ≡ given t.one) × (y ≡ given t.two) × (t ≡ record { one = t.one; two = t.two; lower = lower; upper = upper })
  unfolding with_first with_second
  answers_given t (refused k) y e = absurd (not_given refl e)
  answers_given t (given D) (refused k) e = absurd (not_given refl e)
  answers_given t (given D) (given E) e =
      let z : ◌≡◌ {A = Two} (record { one = D; two = E; lower = lower; upper = upper }) t = cc in
      subst (λ (u : Two). (◌≡◌ {A = Answer Automaton} (given D) (given u.one)) × (◌≡◌ {A = Answer Automaton} (given E) (given u.two)) × (u ≡ record { one = u.one; two = u.two; lower = lower; upper = upper })) z
      (refl, refl, refl)

-- both determinizations
module _ (lower upper : ℕ) (A B : Automaton) where
  pub determinized_both : (D E : Automaton) → determinize lower upper A ≡ given D → determinize lower upper B ≡ given E → determinized lower upper A B ≡ given (record { one = D; two = E; lower = lower; upper = upper })
  unfolding determinized with_first with_second
  determinized_both D E d e = rw (d, e)

  pub determinized_parts : (t : Two) → determinized lower upper A B ≡ given t → BothGiven lower upper A B t
  unfolding determinized
  determinized_parts t e =
      let d = answers_given lower upper t (determinize lower upper A) (determinize lower upper B) e in
      record { first = d.0; second = d.1; are = d.2 }

  pub determinized_first : (n : ℕ) → determinize lower upper A ≡ refused n → determinized lower upper A B ≡ refused n
  unfolding determinized with_first
  determinized_first n e = rw e

  pub determinized_second : (D : Automaton) → determinize lower upper A ≡ given D → (n : ℕ) → determinize lower upper B ≡ refused n → determinized lower upper A B ≡ refused n
  unfolding determinized with_first with_second
  determinized_second D d n e = rw (d, e)

  refused_by : (n : ℕ)
      → (determinized lower upper A B ≡ refused n) ↔ ((determinize lower upper A ≡ refused n) ⊎ (((D : Automaton) × (determinize lower upper A ≡ given D)) × (determinize lower upper B ≡ refused n)))
  unfolding determinized
  refused_by n = (answers_refused lower upper n (determinize lower upper A) (determinize lower upper B), ⊎_elim (determinized_first n) (λ (d, e). determinized_second d.0 d.1 n e))

-- an equivalence of each part
parts : {P P' S S' Q Q' : Type 0} → P ↔ P' → S ↔ S' → Q ↔ Q' → (P ⊎ (S × Q)) ↔ (P' ⊎ (S' × Q'))
parts {P} {P'} {S} {S'} {Q} {Q'} p s q = (there, back)
  where
    there : P ⊎ (S × Q) → P' ⊎ (S' × Q')
    there (inl x) = inl (p.0 x)
    there (inr x) = inr (s.0 x.0, q.0 x.1)

    back : P' ⊎ (S' × Q') → P ⊎ (S × Q)
    back (inl x) = inl (p.1 x)
    back (inr x) = inr (s.1 x.0, q.1 x.1)

-- the refusals, exactly
module _ (lower upper : ℕ) (A B : Automaton) (ok-a : InBounds A) (ok-b : InBounds B) where
  pub determinized_21 : (determinized lower upper A B ≡ refused 21) ↔ (MoreThan 255 lower upper A ⊎ (Limits lower upper A × MoreThan 255 lower upper B))
  determinized_21 =
      let r = refused_by lower upper A B 21 in
      let k = parts (refused_21 lower upper A ok-a) (some_limits lower upper A ok-a) (refused_21 lower upper B ok-b) in
      (λ e. k.0 (r.0 e), λ m. r.1 (k.1 m))

  pub determinized_22 : (determinized lower upper A B ≡ refused 22) ↔ (Overfull lower upper A ⊎ (Limits lower upper A × Overfull lower upper B))
  determinized_22 =
      let r = refused_by lower upper A B 22 in
      let k = parts (refused_22 lower upper A ok-a) (some_limits lower upper A ok-a) (refused_22 lower upper B ok-b) in
      (λ e. k.0 (r.0 e), λ m. r.1 (k.1 m))

  pub determinized_number : (n : ℕ) → determinized lower upper A B ≡ refused n → (n ≡ 21 → ⊥) → (n ≡ 22 → ⊥) → ⊥
  determinized_number n e x y =
      ⊎_elim (λ d. some_number lower upper A ok-a n d x y) (λ d. some_number lower upper B ok-b n d.1 x y) ((refused_by lower upper A B n).0 e)

  pub determinized_given : ((t : Two) × (determinized lower upper A B ≡ given t)) ↔ (Limits lower upper A × Limits lower upper B)
  determinized_given = (
    λ (t, e).
        let d = determinized_parts lower upper A B t e in
        ((some_limits lower upper A ok-a).0 (t.one, d.first), (some_limits lower upper B ok-b).0 (t.two, d.second)),
    λ (l, m).
        let d = (some_limits lower upper A ok-a).1 l in
        let e = (some_limits lower upper B ok-b).1 m in
        (record { one = d.0; two = e.0; lower = lower; upper = upper }, determinized_both lower upper A B d.0 e.0 d.1 e.1),
  )

  pub total_few : (t : Two) → determinized lower upper A B ≡ given t → total_size t ≤ 512
  total_few t e =
      let d = determinized_parts lower upper A B t e in
      omega (arith, (determinize_fits lower upper A ok-a t.one d.first).few_states, (determinize_fits lower upper B ok-b t.two d.second).few_states)

-- the words of one determinization
module _ (lower upper : ℕ) (A : Automaton) (well : WellFormed A) (D : Automaton) (e : determinize lower upper A ≡ given D) where
  well_determinized : WellFormed D
  well_determinized = determinize_wellformed lower upper A well.states D e well

  deterministic : Deterministic lower upper D
  deterministic = determinize_deterministic lower upper A well.states D e

  module _ (w : List ℕ) (v : Word lower upper w) where
    pub accepts_determinized : Accepts A w ↔ (0 < accept_after D w)
    accepts_determinized =
        let k = determinize_words lower upper A well.states D e w v in
        let m = accepts_after lower upper D deterministic well_determinized.states w v in
        (λ h. m.0 (k.1 h), λ h. k.0 (m.1 h))

    after_bit : accept_after D w ≤ 1
    after_bit = well_determinized.accept_words_lem _

other_bits : (m n : ℕ) → m ≤ 1 → n ≤ 1 → (m ≡ n → ⊥) → ((0 < m) × (0 < n → ⊥)) ⊎ ((0 < m → ⊥) × (0 < n))
other_bits zero zero h k d = absurd (d refl)
other_bits zero (suc n) h k d = inr (λ z. omega arith, omega arith)
other_bits (suc m) zero h k d = inl (omega arith, λ z. omega arith)
other_bits (suc m) (suc n) h k d = absurd (d (omega arith))

-- the words of both
module _ (lower upper : ℕ) (A B : Automaton) (well_a : WellFormed A) (well_b : WellFormed B) (D E : Automaton) (is-d : determinize lower upper A ≡ given D)
    (is-e : determinize lower upper B ≡ given E) where
  by_a : (w : List ℕ) → Word lower upper w → Accepts A w ↔ (0 < accept_after D w)
  by_a = accepts_determinized lower upper A well_a D is-d

  by_b : (w : List ℕ) → Word lower upper w → Accepts B w ↔ (0 < accept_after E w)
  by_b = accepts_determinized lower upper B well_b E is-e

  pub same_words : ((w : List ℕ) → Word lower upper w → accept_after D w ≡ accept_after E w) → SameWords lower upper A B
  same_words all w v =
      let q = all w v in
      (λ h. (by_b w v).1 (let k = (by_a w v).0 h in omega arith), λ h. (by_a w v).1 (let k = (by_b w v).0 h in omega arith))

  pub one_word : (w : List ℕ) → Word lower upper w → (accept_after D w ≡ accept_after E w → ⊥) → ExactlyOne A B w
  one_word w v d = by_bits (other_bits (accept_after D w) (accept_after E w) (after_bit lower upper A well_a D is-d w v) (after_bit lower upper B well_b E is-e w v) d)
    where
      by_bits : ((0 < accept_after D w) × (0 < accept_after E w → ⊥)) ⊎ ((0 < accept_after D w → ⊥) × (0 < accept_after E w)) → ExactlyOne A B w
      by_bits (inl h) = inl ((by_a w v).1 h.0, λ k. h.1 ((by_b w v).0 k))
      by_bits (inr h) = inr (λ k. h.0 ((by_a w v).0 k), (by_b w v).1 h.1)
