-- The set simulation says what runs say: a word is accepted exactly when a run of the model accepts it.
use Prim.Native.Nat.{ℕ, ◌≤◌, ◌<◌}
use mathlib.Core.Bool.{true}
use mathlib.Core.List.{List, [], ◌∷◌}
use mathlib.Core.Logic.{◌↔◌}
use mathlib.Core.Path.{◌≡◌, refl}
use borrow.Author.Tests.{eq-eqb, eqb-true, le-leb, leb-true}
use lib.Dec.{eqb, leb}
use Rattle.lists.specs.Lists.{◌∈◌}
use Rattle.lists.proofs.Lists.{any_out, any_in, filter_in, filter_out}
use Rattle.lists.proofs.Tests.{and_both, and_parts}
use Rattle.automata.specs.Automaton.{Transition, Automaton, Run, stay, skip, read, Accepts, InBounds, holds}
use Rattle.sets.specs.Sets.{Set, has}
use Rattle.sets.proofs.Sets.{picked, pick_out}
use Rattle.words.specs.Simulation.{closure, outgoing, step, simulate, start_set, kind}
use Rattle.words.proofs.Closures.{join, closure_sound, closure_complete, run_bound}
use Rattle.words.proofs.Kind.{kind_of_least, kind_of_some}

module _ (A : Automaton) (ok : InBounds A) where
  -- what a step's member comes from
  pub record Stepped (S : Set) (a q : ℕ) : Type 0 where
    pub edge : Transition
    pub «in» : edge ∈ A.transitions
    pub is_range : edge.kind ≡ 1
    pub from_in : has edge.from S ≡ true
    pub low : edge.first ≤ a
    pub high : a ≤ edge.last
    pub then : Run A edge.to [] q

  pub step_out : (S : Set) (a q : ℕ) → has q (step A S a) ≡ true → Stepped S a q
  unfolding step outgoing holds
  step_out S a q h =
      let r = any_out _ (outgoing A S) (pick_out 0 A.size _ q h).2 in
      let e = r.0 in
      let k = filter_out _ e A.transitions r.1 in
      let c = and_parts (holds a e) _ r.2 in
      let i = and_parts (leb e.first a) _ c.0 in
      let v = and_parts (eqb e.kind 1) _ k.1 in
      record {
        edge = e;
        «in» = k.0;
        is_range = eqb-true _ _ v.0;
        from_in = v.1;
        low = leb-true _ _ i.0;
        high = leb-true _ _ i.1;
        then = closure_sound A ok e.to q (ok.tos e k.0) c.1;
      }

  pub step_in : (S : Set) (a q : ℕ) → Stepped S a q → has q (step A S a) ≡ true
  unfolding step outgoing holds
  step_in S a q s =
      let t = ok.tos s.edge s.in in
      picked A.size _ q (run_bound A ok t s.then)
      (any_in _
      (filter_in _ s.in (and_both _ _ (eq-eqb _ _ s.is_range) s.from_in))
      (and_both _ _ (and_both _ _ (le-leb _ _ s.low) (le-leb _ _ s.high)) (closure_complete A ok t s.then)))

  -- epsilons lead nowhere new
  pub Shut : Set → Type 0
  Shut S = (p q : ℕ) → has p S ≡ true → Run A p [] q → has q S ≡ true

  pub step_shut : (S : Set) (a : ℕ) → Shut (step A S a)
  unfolding Shut
  step_shut S a p q h r =
      let s = step_out S a p h in
      step_in S a q record { edge = s.edge; «in» = s.in; is_range = s.is_range; from_in = s.from_in; low = s.low; high = s.high; then = join s.then r }

  pub closure_shut : (p : ℕ) → p < A.size → Shut (closure A p)
  unfolding Shut
  closure_shut p l q r h c = closure_complete A ok l (join (closure_sound A ok p q l h) c)

  pub simulate_sound : (S : Set) (w : List ℕ) (q : ℕ) → has q (simulate A S w) ≡ true → (p : ℕ) × (has p S ≡ true) × Run A p w q
  unfolding simulate
  simulate_sound S [] q h = (q, h, stay)
  simulate_sound S (a ∷ w) q h =
      let r = simulate_sound (step A S a) w q h in
      let s = step_out S a r.0 r.1 in
      (s.edge.from, s.from_in, read s.edge s.in refl s.is_range s.low s.high (join s.then r.2))

  pub simulate_complete : {p q : ℕ} {w : List ℕ} → Run A p w q → (S : Set) → Shut S → has p S ≡ true → has q (simulate A S w) ≡ true
  unfolding simulate Shut
  simulate_complete stay S c h = h
  simulate_complete {p} (skip e m f k r) S c h = simulate_complete r S c (c p e.to h (skip e m f k stay))
  simulate_complete {p} (read {a} e m f k l u r) S c h =
      simulate_complete r (step A S a) (step_shut S a)
      (step_in S a e.to record { edge = e; «in» = m; is_range = k; from_in = rw f h; low = l; high = u; then = stay })

  -- (i) a word is accepted by a run exactly when the simulation gives it a kind
  pub accepts_kind : (w : List ℕ) → Accepts A w ↔ (0 < kind A w)
  unfolding kind start_set
  accepts_kind w = (
    λ a. (kind_of_least A _ a.0 (simulate_complete a.1 (closure A A.start) (closure_shut A.start ok.starts) (closure_complete A ok ok.starts stay)) a.2).0,
    λ h.
        let r = kind_of_some A _ h in
        let s = simulate_sound (closure A A.start) w r.0 r.1 in
        (r.0, join (closure_sound A ok A.start s.0 ok.starts s.1) s.2, rw r.2 h),
  )
