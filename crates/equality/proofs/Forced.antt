-- The smallest equivalence is one of those that it is the smallest of; where all that it joins agrees in acceptance, no word
-- tells the two automata apart. Assumes nothing.
use Rattle.std.proofs.Common.{ℕ, ◌-◌, ◌<◌, ◌≡◌, refl, sym, subst, ◌∙◌, Bool, true, false, cond, List, [], ◌∷◌, arith, ltb, lt-ltb, le-ltb, ltb-true, ltb-false}
use Rattle.automata.specs.Automaton.{Automaton, Word, none, more, InBounds, accept_of}
use Rattle.automata.specs.Deterministic.{Deterministic}
use Rattle.automata.specs.Successors.{successor, state_after, accept_after}
use Rattle.determinizations.specs.Two.{Two, Symbol, total_size}
use Rattle.equality.specs.Forced.{left, right, successor_in, JoinsSuccessors, Forced, starts, follow, reflexive, symmetric, transitive}
use Rattle.automata.proofs.Successors.{next_inside}

unfoldable pub accept_in : Two → ℕ → ℕ
accept_in t p = cond (ltb p t.one.size) (accept_of t.one p) (accept_of t.two (p - t.one.size))

-- the start is a state and so is every successor of a state
pub record TotalOne (t : Two) (D : Automaton) : Type 0 where
  pub start_in : D.start < D.size
  pub next_in : (p x : ℕ) → p < D.size → Symbol t x → successor D p x < D.size

pub record Total (t : Two) : Type 0 where
  pub first : TotalOne t t.one
  pub second : TotalOne t t.two

-- it is so where every symbol has one transition in every state
pub total_of : (t : Two) → Deterministic t.lower t.upper t.one → InBounds t.one → Deterministic t.lower t.upper t.two → InBounds t.two → Total t
total_of t d i e j = record {
  first = record { start_in = i.starts; next_in = next_inside t.lower t.upper t.one d i };
  second = record { start_in = j.starts; next_in = next_inside t.lower t.upper t.two e j };
}

-- the two sides
module _ (t : Two) where
  pub successor_left : (p x : ℕ) → p < t.one.size → successor_in t (left t p) x ≡ left t (successor t.one p x)
  unfolding successor_in
  successor_left p x h = rw (lt-ltb p t.one.size h)

  pub accept_left : (p : ℕ) → p < t.one.size → accept_in t (left t p) ≡ accept_of t.one p
  unfolding accept_in
  accept_left p h = rw (lt-ltb p t.one.size h)

  back : (q : ℕ) → right t q - t.one.size ≡ q
  back q = omega arith

  pub successor_right : (q x : ℕ) → successor_in t (right t q) x ≡ right t (successor t.two q x)
  unfolding successor_in
  successor_right q x = rw (le-ltb (right t q) t.one.size (omega arith), back q)

  pub accept_right : (q : ℕ) → accept_in t (right t q) ≡ accept_of t.two q
  unfolding accept_in
  accept_right q = rw (le-ltb (right t q) t.one.size (omega arith), back q)

  -- each state is on one side
  pub by_side : (P : ℕ → Type 0) → ((p : ℕ) → p < t.one.size → P (left t p)) → ((q : ℕ) → q < t.two.size → P (right t q)) → (p : ℕ) → p < total_size t → P p
  by_side P l r p h = by_test (ltb p t.one.size) refl
    where
      by_test : (b : Bool) → ltb p t.one.size ≡ b → P p
      by_test true e = l p (ltb-true p t.one.size e)
      by_test false e = subst P (omega (arith, ltb-false p t.one.size e)) (r (p - t.one.size) (omega (arith, ltb-false p t.one.size e)))

module _ (t : Two) (total : Total t) where
  pub successor_in_lem : (p x : ℕ) → p < total_size t → Symbol t x → successor_in t p x < total_size t
  successor_in_lem p x h s = by_side t (λ (p : ℕ). successor_in t p x < total_size t)
      (λ p h. rw (successor_left t p x h) (omega (arith, total.first.next_in p x h s)))
      (λ q h. rw (successor_right t q x) (omega (arith, total.second.next_in q x h s))) p h

  -- every other such equivalence joins all that this one joins
  bounded : (R : ℕ → ℕ → Type 0) → JoinsSuccessors t R → {p q : ℕ} → Forced t p q → (p < total_size t) × (q < total_size t) × R p q
  bounded R c starts = (omega (arith, total.first.start_in), omega (arith, total.second.start_in), c.starts)
  bounded R c (follow {p = p} {q = q} x s f) = let i = bounded R c f in (successor_in_lem p x i.0 s, successor_in_lem q x i.1 s, c.follow p q x i.0 i.1 s i.2)
  bounded R c (reflexive {p = p} h) = (h, h, c.equivalence.reflexive p h)
  bounded R c (symmetric {p = p} {q = q} f) = let i = bounded R c f in (i.1, i.0, c.equivalence.symmetric p q i.0 i.1 i.2)
  bounded R c (transitive {p = p} {q = q} {r = r} f g) = let i = bounded R c f in let j = bounded R c g in (i.0, j.1, c.equivalence.transitive p q r i.0 i.1 j.1 i.2 j.2)

  pub forced_least : (R : ℕ → ℕ → Type 0) → JoinsSuccessors t R → {p q : ℕ} → Forced t p q → R p q
  forced_least R c f = (bounded R c f).2

  -- it is one of them
  pub forced_joins : JoinsSuccessors t (Forced t)
  forced_joins = record {
    equivalence = record { reflexive = λ p h. reflexive h; symmetric = λ p q h k f. symmetric f; transitive = λ p q r h k l f g. transitive f g };
    starts = starts;
    follow = λ p q x h k s f. follow x s f;
  }

  pub forced_in : {p q : ℕ} → Forced t p q → (p < total_size t) × (q < total_size t)
  forced_in f = let i = bounded (Forced t) forced_joins f in (i.0, i.1)

  -- words, on both sides
  steps : ℕ → List ℕ → ℕ
  steps p [] = p
  steps p (x ∷ w) = steps (successor_in t p x) w

  steps_left : (p : ℕ) {w : List ℕ} → p < t.one.size → Word t.lower t.upper w → accept_in t (steps (left t p) w) ≡ accept_of t.one (state_after t.one p w)
  unfolding steps state_after
  steps_left p h none = accept_left t p h
  steps_left p h (more {a = x} {w = w} lower upper v) = rw (successor_left t p x h) (steps_left (successor t.one p x) (total.first.next_in p x h (lower, upper)) v)

  steps_right : (q : ℕ) (w : List ℕ) → accept_in t (steps (right t q) w) ≡ accept_of t.two (state_after t.two q w)
  unfolding steps state_after
  steps_right q [] = accept_right t q
  steps_right q (x ∷ w) = rw (successor_right t q x) (steps_right (successor t.two q x) w)

  forced_steps : {w : List ℕ} {p q : ℕ} → Forced t p q → Word t.lower t.upper w → Forced t (steps p w) (steps q w)
  unfolding steps
  forced_steps f none = f
  forced_steps f (more {a = x} lower upper v) = forced_steps (follow x (lower, upper) f) v

  -- where all that is joined agrees in acceptance, no word tells the two apart
  pub agree_words : ((p q : ℕ) → Forced t p q → accept_in t p ≡ accept_in t q) → (w : List ℕ) → Word t.lower t.upper w → accept_after t.one w ≡ accept_after t.two w
  agree_words a w v = sym (steps_left t.one.start total.first.start_in v) ∙ a _ _ (forced_steps starts v) ∙ steps_right t.two.start w
