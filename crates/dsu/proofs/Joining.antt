-- What `join_roots`, `union_in` and `union` return, at each return, and what they ask of the roots. Assumes nothing.
use Rattle.std.proofs.Common.{Bool, true, false, Result, Ok, Err, ℕ, ◌+◌, ◌≤◌, ◌<◌, ◌≡◌, List, get_or, set, sym, ap, ◌∙◌, arith, rules, lt-ltb, le-ltb, le-leb, eq-eqb, ne_eqb, refl}
use borrow.Author.Tests.{lt-leb}
use Rattle.refusal.specs.declared.StateRefusal.{StateRefusal}
use Rattle.refusal.specs.declared.StateRefusal.TheVariants.{Element, JoinSets}
use Rattle.dsu.specs.declared.DSU.{DSU}
use Rattle.dsu.specs.declared.SetsAnswer.{SetsAnswer}
use Rattle.dsu.specs.Sets.{Way, broken, reached, way, changed, refuse, After, join, join_second, join_first, union_in, made_of, union_of}
use Rattle.dsu.specs.inner.Steps.{Roots, Climbed, climbed, answered}
use Rattle.dsu.proofs.WayLeads.{leads_end, way_leads}

-- `join_roots`
module _ (l z : List ℕ) (n a b : ℕ) where
  pub join_same : a ≡ b → ◌≡◌ {A = After} (Ok false, l, z) (join l z n a b)
  unfolding join
  join_same e = rw (eq-eqb a b e)

  module _ (apart : a ≡ b → ⊥) where
    pub join_over : n < get_or z a 0 + get_or z b 0 → ◌≡◌ {A = After} (Err JoinSets, l, z) (join l z n a b)
    unfolding join
    join_over h = rw (ne_eqb a b apart, lt-ltb n (get_or z a 0 + get_or z b 0) h)

    module _ (room : get_or z a 0 + get_or z b 0 ≤ n) where
      pub join_second_lem : get_or z a 0 < get_or z b 0 → ◌≡◌ {A = After} (Ok true, set l a b, set z b (get_or z a 0 + get_or z b 0)) (join l z n a b)
      unfolding join
      join_second_lem h =
          let turned : get_or z b 0 + get_or z a 0 ≡ get_or z a 0 + get_or z b 0 = omega arith in
          rw (ne_eqb a b apart, le-ltb n (get_or z a 0 + get_or z b 0) room, lt-ltb (get_or z a 0) (get_or z b 0) h, turned)

      pub join_first_lem : get_or z b 0 ≤ get_or z a 0 → ◌≡◌ {A = After} (Ok true, set l b a, set z a (get_or z a 0 + get_or z b 0)) (join l z n a b)
      unfolding join
      join_first_lem h = rw (ne_eqb a b apart, le-ltb n (get_or z a 0 + get_or z b 0) room, le-ltb (get_or z a 0) (get_or z b 0) h)

-- the way, from what `find_from` answered
module _ (l z : List ℕ) (n x : ℕ) (inside : x < n) (m : List ℕ) where
  way_root : (a : ℕ) → ◌≡◌ {A = Climbed} (Ok a, m) (answered l z n x) → way l z n x ≡ reached a m
  unfolding answered
  way_root a e = by_way (way l z n x) (rw (lt-leb n x inside) at e)
    where
      by_way : (w : Way) → ◌≡◌ {A = Climbed} (Ok a, m) (climbed l w) → w ≡ reached a m
      by_way broken q = let s : Ok a ≡ Err JoinSets = ap (λ (g : Climbed). g.0) q in cc
      by_way (reached b t) q = let s : Ok a ≡ Ok b = ap (λ (g : Climbed). g.0) q in let u : m ≡ t = ap (λ (g : Climbed). g.1) q in cc

  way_broken : (r : StateRefusal) → ◌≡◌ {A = Climbed} (Err r, m) (answered l z n x) → (way l z n x ≡ broken) × (m ≡ l) × (r ≡ JoinSets)
  unfolding answered
  way_broken r e = by_way (way l z n x) (rw (lt-leb n x inside) at e)
    where
      by_way : (w : Way) → ◌≡◌ {A = Climbed} (Err r, m) (climbed l w) → (w ≡ broken) × (m ≡ l) × (r ≡ JoinSets)
      by_way broken q = let s : Err r ≡ Err JoinSets = ap (λ (g : Climbed). g.0) q in (refl, ap (λ (g : Climbed). g.1) q, cc)
      by_way (reached b t) q = let s : Err r ≡ Ok b = ap (λ (g : Climbed). g.0) q in absurd (cc)

-- `union_in`
module _ (l z : List ℕ) (n x y : ℕ) where
  pub in_first_outside : n ≤ x → ◌≡◌ {A = After} (Err Element, l, z) (union_in l z n x y)
  unfolding union_in
  in_first_outside h = rw (le-leb n x h)

  module _ (x_in : x < n) where
    pub in_second_outside : n ≤ y → ◌≡◌ {A = After} (Err Element, l, z) (union_in l z n x y)
    unfolding union_in
    in_second_outside h = rw (lt-leb n x x_in, le-leb n y h)

    module _ (y_in : y < n) where
      first : union_in l z n x y ≡ join_first l z n y (way l z n x)
      unfolding union_in
      first = rw (lt-leb n x x_in, lt-leb n y y_in)

      -- m has the parents after the find of x
      module _ (m : List ℕ) where
        pub in_first_broken : (r : StateRefusal) → ◌≡◌ {A = Climbed} (Err r, m) (answered l z n x) → ◌≡◌ {A = After} (Err r, m, z) (union_in l z n x y)
        in_first_broken r e = let w = way_broken l z n x x_in m r e in sym (first ∙ rw (w.0, w.1, w.2))

        -- o has those after the find of y
        module _ (a : ℕ) (is-a : ◌≡◌ {A = Climbed} (Ok a, m) (answered l z n x)) (o : List ℕ) where
          second : union_in l z n x y ≡ join_second m z n a (way m z n y)
          second = first ∙ ap (join_first l z n y) (way_root l z n x x_in m a is-a)

          pub in_second_broken : (r : StateRefusal) → ◌≡◌ {A = Climbed} (Err r, o) (answered m z n y) → ◌≡◌ {A = After} (Err r, o, z) (union_in l z n x y)
          in_second_broken r e = let w = way_broken m z n y y_in o r e in sym (second ∙ rw (w.0, w.1, w.2))

          module _ (b : ℕ) (is-b : ◌≡◌ {A = Climbed} (Ok b, o) (answered m z n y)) where
            pub in_roots : Roots z n a b
            in_roots =
                let p = (leads_end (way_leads l z n x a m x_in (way_root l z n x x_in m a is-a))).0 in
                let q = (leads_end (way_leads m z n y b o y_in (way_root m z n y y_in o b is-b))).0 in
                record { few = p.few; first_inside = p.inside; second_inside = q.inside; first_fits = p.fits; second_fits = q.fits }

            pub in_joined : (u : After) → u ≡ join o z n a b → u ≡ union_in l z n x y
            in_joined u e = e ∙ sym (second ∙ ap (join_second m z n a) (way_root m z n y y_in o b is-b))

-- `union`: l and z are what `union_in` left
module _ (d : DSU) (x y : ℕ) (u : Result Bool StateRefusal) (l z : List ℕ) (is-u : ◌≡◌ {A = After} (u, l, z) (union_in d.repr d.size d.n x y)) where
  made : made_of d u l z ≡ union_of d x y
  unfolding union_of
  made = ap (λ (v : After). made_of d v.0 v.1 v.2) is-u

  pub union_refused : (r : StateRefusal) → u ≡ Err r → refuse d r ≡ union_of d x y
  union_refused r e = sym (ap (λ (v : Result Bool StateRefusal). made_of d v l z) e) ∙ made

  pub union_done : (apart : Bool) → u ≡ Ok apart → ◌≡◌ {A = SetsAnswer} (record { outcome = Ok tt; sets = changed d l z }) (union_of d x y)
  union_done apart e = sym (ap (λ (v : Result Bool StateRefusal). made_of d v l z) e) ∙ made

pub ruleset joining = (join_same, join_over, join_second_lem, join_first_lem, rules)

pub ruleset uniting = (in_first_outside, in_second_outside, in_first_broken, in_second_broken, in_roots, in_joined, rules)
