-- What is reachable is what paths lead to, and paths are runs without their words.
use Prim.Native.Nat.{ℕ, ◌<◌}
use mathlib.Core.Bool.{true}
use mathlib.Core.List.Memᴰ
use mathlib.Core.List.{List, [], map, ◌∷◌}
use mathlib.Core.Logic.{◌↔◌}
use mathlib.Core.Path.{◌≡◌, refl, sym, ◌∙◌, ap, subst}
use native.Mathlib.Omega.{arith}
use Rattle.lists.specs.Lists.{◌∈◌}
use Rattle.automata.specs.Automaton.{Transition, Automaton, Run, InBounds}
use Rattle.automata.specs.Automaton as runs
use Rattle.sets.specs.Sets.{has}
use Rattle.sets.specs.inner.Members.{Canon}
use Rattle.words.proofs.Closures.{closure_sound, closure_complete, closure_canon}
use Rattle.emptiness.specs.Reachable.{Path, stay, follow, unlabelled, freed, reachable}

freed_in : {e : Transition} {es : List Transition} → e ∈ es → unlabelled e ∈ map unlabelled es
freed_in (Memᴰ.head q) = Memᴰ.head (ap unlabelled q)
freed_in (Memᴰ.tail m) = Memᴰ.tail (freed_in m)

freed_out : (d : Transition) (es : List Transition) → d ∈ map unlabelled es → (e : Transition) × e ∈ es × (d ≡ unlabelled e)
freed_out d [] m = elim m [ ]
freed_out d (e ∷ es) (Memᴰ.head q) = (e, Memᴰ.head refl, q)
freed_out d (e ∷ es) (Memᴰ.tail m) = let r = freed_out d es m in (r.0, Memᴰ.tail r.1, r.2)

module _ (A : Automaton) where
  -- the transition of A that a freed one comes from
  record Comes (d : Transition) : Type 0 where
    pub source : Transition
    pub «in» : source ∈ A.transitions
    pub epsilon : d.kind ≡ 0
    pub same_from : d.from ≡ source.from
    pub same_to : d.to ≡ source.to

  comes : (d : Transition) → d ∈ (freed A).transitions → Comes d
  unfolding freed
  comes d m =
      let r = freed_out d A.transitions m in
      record {
        source = r.0;
        «in» = r.1;
        epsilon = ap (λ (x : Transition). x.kind) r.2;
        same_from = ap (λ (x : Transition). x.from) r.2;
        same_to = ap (λ (x : Transition). x.to) r.2;
      }

  path_run : {p q : ℕ} → Path A p q → Run (freed A) p [] q
  unfolding freed
  path_run stay = runs.stay
  path_run (follow e m f r) = runs.skip (unlabelled e) (freed_in m) f refl (path_run r)

  run_path : {p q : ℕ} {w : List ℕ} → Run (freed A) p w q → Path A p q
  run_path runs.stay = stay
  run_path {q} (runs.skip d m f k r) = let c = comes d m in follow c.source c.in (sym c.same_from ∙ f) (subst (λ (x : ℕ). Path A x q) c.same_to (run_path r))
  run_path (runs.read d m f k l u r) = let c = comes d m in let z = c.epsilon in absurd (omega arith)

  module _ (ok : InBounds A) where
    freed_bounds : InBounds (freed A)
    unfolding freed
    freed_bounds =
        record {
          starts = ok.starts;
          froms = λ d m. let c = comes d m in subst (λ (x : ℕ). x < A.size) (sym c.same_from) (ok.froms c.source c.in);
          tos = λ d m. let c = comes d m in subst (λ (x : ℕ). x < A.size) (sym c.same_to) (ok.tos c.source c.in);
        }

    pub reachable_path : (q : ℕ) → (has q (reachable A) ≡ true) ↔ Path A A.start q
    unfolding reachable freed
    reachable_path q = (
      λ h. run_path (closure_sound (freed A) freed_bounds A.start q ok.starts h),
      λ r. closure_complete (freed A) freed_bounds ok.starts (path_run r),
    )

    pub reachable_canon : Canon A.size (reachable A)
    unfolding reachable freed
    reachable_canon = closure_canon (freed A) freed_bounds A.start ok.starts
