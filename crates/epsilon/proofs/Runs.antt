-- Runs of an eliminated automaton: it reads what the automaton reads, up to the closure of the state at the end.
use Prim.Native.Nat.{ℕ, zero, suc, ◌≤◌, ◌<◌}
use mathlib.Core.Bool.{true}
use mathlib.Core.List.{List, [], append-nil}
use mathlib.Core.Logic.{◌↔◌}
use mathlib.Core.Path.{◌≡◌, refl, sym, ◌∙◌, ap, subst}
use native.Mathlib.Omega.{arith}
use lib.ListN.{get_or}
use Rattle.lists.specs.Lists.{◌∈◌}
use Rattle.lists.proofs.Lists.{tabulate_at}
use Rattle.automata.specs.Automaton.{Transition, Automaton, Run, stay, skip, read, Accepts, InBounds}
use Rattle.sets.specs.Sets.{has}
use Rattle.words.specs.Simulation.{closure, start_set, kind_of, kind}
use Rattle.words.proofs.Closures.{join, closure_sound, closure_complete, run_bound}
use Rattle.words.proofs.Kind.{kind_of_least, kind_of_some}
use Rattle.words.proofs.Simulation.{simulate_sound, simulate_complete, closure_shut}
use Rattle.epsilon.specs.Eliminate.{leaving_from, closure_kinds, eliminated}
use Rattle.epsilon.proofs.Members.{eliminated_out, eliminated_in}

-- epsilons behind a run
join_end : {A : Automaton} {p q r : ℕ} {w : List ℕ} → Run A p w q → Run A q [] r → Run A p w r
join_end {A} {p} {r} {w} x y = subst (λ (v : List ℕ). Run A p v r) (append-nil w) (join x y)

same_least : (a b : ℕ) → (0 < a → (0 < b) × (b ≤ a)) → (0 < b → (0 < a) × (a ≤ b)) → a ≡ b
same_least zero zero f g = refl
same_least zero (suc b) f g = let z = (g (omega arith)).0 in absurd (omega arith)
same_least (suc a) zero f g = let z = (f (omega arith)).0 in absurd (omega arith)
same_least (suc a) (suc b) f g = omega (arith, (f (omega arith)).1, (g (omega arith)).1)

-- the kind of a word is the least accept word, not 0, at the end of a run
module _ (A : Automaton) (ok : InBounds A) (w : List ℕ) where
  kind_some : 0 < kind A w → (q : ℕ) × Run A A.start w q × (get_or A.accept q 0 ≡ kind A w)
  unfolding kind start_set
  kind_some h =
      let r = kind_of_some A _ h in
      let s = simulate_sound A ok (closure A A.start) w r.0 r.1 in
      (r.0, join (closure_sound A ok A.start s.0 ok.starts s.1) s.2, r.2)

  kind_least : (q : ℕ) → Run A A.start w q → 0 < get_or A.accept q 0 → (0 < kind A w) × (kind A w ≤ get_or A.accept q 0)
  unfolding kind start_set
  kind_least q r h = kind_of_least A _ q (simulate_complete A ok r (closure A A.start) (closure_shut A ok A.start ok.starts) (closure_complete A ok ok.starts stay)) h

module _ (A : Automaton) (ok : InBounds A) where
  -- each transition is a range
  pub only_ranges : (e : Transition) → e ∈ (eliminated A).transitions → e.kind ≡ 1
  only_ranges e m = let c = (eliminated_out A e m).1 in ap (λ (d : Transition). d.kind) c.is ∙ c.is_range

  to_kept : (e : Transition) → e ∈ (eliminated A).transitions → e.to < A.size
  to_kept e m = let c = (eliminated_out A e m).1 in subst (λ (x : ℕ). x < A.size) (sym (ap (λ (d : Transition). d.to) c.is)) (ok.tos c.source c.in)

  pub states_kept : InBounds (eliminated A)
  unfolding eliminated
  states_kept = record { starts = ok.starts; froms = λ e m. (eliminated_out A e m).0; tos = to_kept }

  -- a run of the eliminated automaton, and then epsilons
  run_back : {p q : ℕ} {w : List ℕ} → p < A.size → Run (eliminated A) p w q → Run A p w q
  run_back l stay = stay
  run_back l (skip e m f k r) = let z = only_ranges e m in absurd (omega arith)
  run_back {p} {q} l (read {w = v} e m f k above below r) =
      let c = (eliminated_out A e m).1 in
      let d = c.source in
      let i : e ≡ leaving_from e.from d = c.is in
      let a : e.first ≡ d.first = ap (λ (x : Transition). x.first) i in
      let b : e.last ≡ d.last = ap (λ (x : Transition). x.last) i in
      let t : e.to ≡ d.to = ap (λ (x : Transition). x.to) i in
      let h : has d.from (closure A p) ≡ true = subst (λ (x : ℕ). has d.from (closure A x) ≡ true) f c.closed in
      let s = run_back (to_kept e m) r in
      join (closure_sound A ok p d.from l h) (read d c.in refl c.is_range (omega arith) (omega arith) (subst (λ (x : ℕ). Run A x v q) t s))

  -- a run of the eliminated automaton to a state whose closure has r
  record Reads (p : ℕ) (w : List ℕ) (r : ℕ) : Type 0 where
    pub state : ℕ
    pub run : Run (eliminated A) p w state
    pub closed : has r (closure A state) ≡ true

  -- an epsilon before it
  before : {p m : ℕ} → p < A.size → m < A.size → Run A p [] m → {w : List ℕ} {r : ℕ} → Reads m w r → Reads p w r
  before {p} {m} l b e {w} {r} s = go s.run s.closed
    where
      go : {q : ℕ} {v : List ℕ} → Run (eliminated A) m v q → has r (closure A q) ≡ true → Reads p v r
      go stay h = record { state = p; run = stay; closed = closure_complete A ok l (join e (closure_sound A ok m r b h)) }
      go (skip d i f k t) h = let z = only_ranges d i in absurd (omega arith)
      go (read d i f k above below t) h =
          let c = (eliminated_out A d i).1 in
          let n : has c.source.from (closure A m) ≡ true = subst (λ (x : ℕ). has c.source.from (closure A x) ≡ true) f c.closed in
          let o = closure_complete A ok l (join e (closure_sound A ok m c.source.from b n)) in
          let j : leaving_from p d ∈ (eliminated A).transitions =
          subst (λ (x : Transition). leaving_from p x ∈ (eliminated A).transitions) (sym c.is) (eliminated_in A p c.source l c.in c.is_range o) in
          record { state = _; run = read (leaving_from p d) j refl k above below t; closed = h }

  run_forth : {p r : ℕ} {w : List ℕ} → p < A.size → Run A p w r → Reads p w r
  run_forth {p} l stay = record { state = p; run = stay; closed = closure_complete A ok l stay }
  run_forth l (skip e m f k r) = let t = ok.tos e m in before l t (skip e m f k stay) (run_forth t r)
  run_forth {p} l (read e m f k above below r) =
      let s = run_forth (ok.tos e m) r in
      let h : has e.from (closure A p) ≡ true = subst (λ (x : ℕ). has x (closure A p) ≡ true) (sym f) (closure_complete A ok l stay) in
      record { state = s.state; run = read (leaving_from p e) (eliminated_in A p e l m k h) refl k above below s.run; closed = s.closed }

  -- the state at a run's end
  end_kept : {q : ℕ} {w : List ℕ} → Run (eliminated A) (eliminated A).start w q → q < A.size
  unfolding eliminated
  end_kept r = run_bound (eliminated A) states_kept ok.starts r

  pub accept_at : (q : ℕ) → q < A.size → get_or (eliminated A).accept q 0 ≡ kind_of A (closure A q)
  unfolding eliminated closure_kinds
  accept_at q l = tabulate_at A.size (λ p. kind_of A (closure A p)) q 0 l

  -- a run that the eliminated automaton accepts by is one to a state that accepts, by the same word
  accepted_back : (w : List ℕ) (q : ℕ) → Run (eliminated A) (eliminated A).start w q → 0 < get_or (eliminated A).accept q 0
      → (r : ℕ) × Run A A.start w r × (get_or A.accept r 0 ≡ get_or (eliminated A).accept q 0)
  unfolding eliminated
  accepted_back w q r h =
      let l = end_kept r in
      let s = kind_of_some A (closure A q) (rw (accept_at q l) at h) in
      (s.0, join_end (run_back ok.starts r) (closure_sound A ok q s.0 l s.1), s.2 ∙ sym (accept_at q l))

  accepted_forth : (w : List ℕ) (r : ℕ) → Run A A.start w r → 0 < get_or A.accept r 0
      → (q : ℕ) × Run (eliminated A) (eliminated A).start w q × (0 < get_or (eliminated A).accept q 0) × (get_or (eliminated A).accept q 0 ≤ get_or A.accept r 0)
  unfolding eliminated
  accepted_forth w r x h =
      let s = run_forth ok.starts x in
      let l = end_kept s.run in
      let k = kind_of_least A (closure A s.state) r s.closed h in
      (s.state, s.run, rw (accept_at s.state l) k.0, rw (accept_at s.state l) k.1)

  -- the words are kept
  pub words_kept : (w : List ℕ) → Accepts (eliminated A) w ↔ Accepts A w
  words_kept w = (
    λ a. let r = accepted_back w a.0 a.1 a.2 in (r.0, r.1, rw r.2 a.2),
    λ a. let r = accepted_forth w a.0 a.1 a.2 in (r.0, r.1, r.2),
  )

  -- and the accept words that they get
  pub kinds_kept : (w : List ℕ) → kind (eliminated A) w ≡ kind A w
  kinds_kept w =
      same_least (kind (eliminated A) w) (kind A w)
      (λ h.
      let q = kind_some (eliminated A) states_kept w h in
      let r = accepted_back w q.0 q.1 (rw q.2 h) in
      let k = kind_least A ok w r.0 r.1 (rw (r.2 ∙ q.2) h) in
      (k.0, omega (arith, k.1, r.2, q.2)))
      (λ h.
      let r = kind_some A ok w h in
      let q = accepted_forth w r.0 r.1 (rw r.2 h) in
      let k = kind_least (eliminated A) states_kept w q.0 q.1 q.2 in
      (k.0, omega (arith, k.1, q.3, r.2)))
