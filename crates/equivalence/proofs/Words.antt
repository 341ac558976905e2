-- On automata without epsilons or overlaps, where no reached pair differs: each run of the one has a run of the other beside it. Assumes nothing.
use Rattle.std.proofs.Common.{ℕ, ◌<◌, List, sym, ◌∙◌, subst, le_refl, arith}
use Rattle.lists.specs.Lists.{◌∈◌}
use Rattle.automata.specs.Automaton.{Transition, Automaton, Run, stay, skip, read, Accepts, leaving}
use Rattle.automata.specs.WellFormed.{WellFormed}
use Rattle.ranges.proofs.Held.{held}
use Rattle.automata.proofs.Leaving.{leaves, leaving_in}
use Rattle.ranges.proofs.Functional.{Functional}
use Rattle.equivalence.specs.Triggers.{FirstOfTrigger}
use Rattle.equivalence.specs.Equivalent.{ReachedByTriggers, start, step, Alike}
use Rattle.equivalence.proofs.Triggers.{trigger_turn}

-- every transition is the first of its trigger
own_first : (A : Automaton) → WellFormed A → Functional A → (p : ℕ) (d : Transition) → d ∈ leaving A p → FirstOfTrigger (leaving A p) d
own_first A v f p d m =
    let l = leaves A p d m in
    record {
      one = m;
      lowest = λ e n s.
          let k = leaves A p e n in
          let full = (v.sound d l.0).full in
          omega (arith, f.single d e d.first l.0 k.0 (l.1 ∙ sym k.1) (held d.first d (le_refl d.first) full) (held d.first e (omega (arith, s.first)) (omega (arith, s.last))));
    }

abbrev pub AllAlike : Automaton → Automaton → Type 0
AllAlike A B = (p q : ℕ) → ReachedByTriggers A B p q → Alike A B p q

module _ (A B : Automaton) (v : WellFormed A) (u : WellFormed B) (f : Functional A) (g : Functional B) (all : AllAlike A B) where
  run_beside : {p p' q : ℕ} {w : List ℕ} → Run A p w p' → ReachedByTriggers A B p q → (q' : ℕ) × Run B q w q' × ReachedByTriggers A B p' q'
  run_beside {q = q} stay r = (q, stay, r)
  run_beside (skip e m c k s) r = absurd (omega (arith, f.ranges e m))
  run_beside {q = q} (read {p = p} {a = a} e m c k l h s) r =
      let i = leaving_in A p e m c in
      let (d, n, t) = (all p q r).there e i in
      let o = leaves B q d n in
      let (x, y, z) = run_beside s (step r (own_first A v f p e i) (own_first B u g q d n) t) in
      (x, read {a = a} d o.0 o.1 (sym t.kind ∙ k) (omega (arith, t.first)) (omega (arith, t.last)) y, z)

  pub words_beside : (w : List ℕ) → Accepts A w → Accepts B w
  words_beside w (p, r, a) =
      let (q, s, t) = run_beside r start in
      (q, s, subst (λ (x : ℕ). 0 < x) (all p q t).accept a)

-- the two turned round
reached_turn : {A B : Automaton} {p q : ℕ} → ReachedByTriggers A B p q → ReachedByTriggers B A q p
reached_turn start = start
reached_turn (step r f g s) = step (reached_turn r) g f (trigger_turn s)

pub all_turn : (A B : Automaton) → AllAlike A B → AllAlike B A
all_turn A B all q p r = let a = all p q (reached_turn r) in record { accept = sym a.accept; there = a.back; back = a.there }
