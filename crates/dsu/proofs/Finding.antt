-- What `find_in`, `find_from` and `find` return, at each return: the end of the way from x. Assumes nothing.
use Rattle.std.proofs.Common.{Result, Ok, Err, ℕ, ◌≤◌, ◌<◌, ◌≡◌, Bool, true, false, cond, List, leb, get_or, set, sym, ap, ◌∙◌, arith, rules, le-leb, refl}
use borrow.Author.Tests.{lt-leb}
use Rattle.refusal.specs.declared.StateRefusal.{StateRefusal}
use Rattle.refusal.specs.declared.StateRefusal.TheVariants.{Element, JoinSets}
use Rattle.dsu.specs.declared.DSU.{DSU}
use Rattle.dsu.specs.declared.FindAnswer.{FindAnswer}
use Rattle.dsu.specs.Sets.{Way, broken, reached, point, way, changed, found_by, find_of}
use Rattle.dsu.specs.inner.Steps.{SizedElement, Climbed, climbed, answered}
use Rattle.dsu.proofs.Ways.{seen_many, seen_none, seen_over, seen_top, seen_outside, seen_small, seen_up, way_fault, way_top, way_up}

module _ (l z : List ℕ) (n x : ℕ) where
  faulty : way l z n x ≡ broken → ◌≡◌ {A = Climbed} (Err JoinSets, l) (climbed l (way l z n x))
  faulty e = rw e

  -- `find_in`: p is the parent
  module _ (m : SizedElement z n x) (p : ℕ) (is_p : p ≡ get_or l x 0) where
    pub in_top : p ≡ x → ◌≡◌ {A = Climbed} (Ok (get_or l x 0), l) (climbed l (way l z n x))
    in_top h = let e : get_or l x 0 ≡ x = sym is_p ∙ h in rw (way_top l z n x (seen_top l z n x m e), e)

    module _ (apart : p ≡ x → ⊥) where
      pub in_outside : n ≤ p → ◌≡◌ {A = Climbed} (Err JoinSets, l) (climbed l (way l z n x))
      in_outside h = faulty (way_fault l z n x (seen_outside l z n x m (λ e. apart (is_p ∙ e)) (omega arith)))

      pub in_small : get_or z p 0 ≤ get_or z x 0 → ◌≡◌ {A = Climbed} (Err JoinSets, l) (climbed l (way l z n x))
      in_small h = faulty (way_fault l z n x (seen_small l z n x m (λ e. apart (is_p ∙ e)) (rw is_p at h)))

      module _ (inside : p < n) (grows : get_or z x 0 < get_or z p 0) where
        above : way l z n x ≡ point x (way l z n p)
        above = rw is_p (way_up l z n x (seen_up l z n x m (λ e. apart (is_p ∙ e)) (omega arith) (rw is_p at grows)))

        pub in_over : n < get_or z p 0 → ◌≡◌ {A = Climbed} (Err JoinSets, l) (climbed l (way l z n x))
        in_over h = faulty (above ∙ ap (point x) (way_fault l z n p (seen_over l z n p h)))

        -- l' has the parents that the find of p left
        module _ (l' : List ℕ) where
          pub in_broken : (r : StateRefusal) → ◌≡◌ {A = Climbed} (Err r, l') (climbed l (way l z n p)) → ◌≡◌ {A = Climbed} (Err r, l') (climbed l (way l z n x))
          in_broken r e = rw above (by_way (way l z n p) e)
            where
              by_way : (w : Way) → ◌≡◌ {A = Climbed} (Err r, l') (climbed l w) → ◌≡◌ {A = Climbed} (Err r, l') (climbed l (point x w))
              by_way broken q = q
              by_way (reached a after) q = let s : Err r ≡ Ok a = ap (λ (g : Climbed). g.0) q in cc

          pub in_stored : (a : ℕ) → ◌≡◌ {A = Climbed} (Ok a, l') (climbed l (way l z n p)) → ◌≡◌ {A = Climbed} (Ok a, set l' x a) (climbed l (way l z n x))
          in_stored a e = rw above (by_way (way l z n p) e)
            where
              by_way : (w : Way) → ◌≡◌ {A = Climbed} (Ok a, l') (climbed l w) → ◌≡◌ {A = Climbed} (Ok a, set l' x a) (climbed l (point x w))
              by_way broken q = let s : Ok a ≡ Err JoinSets = ap (λ (g : Climbed). g.0) q in cc
              by_way (reached b after) q =
                  let s : Ok a ≡ Ok b = ap (λ (g : Climbed). g.0) q in
                  let t : l' ≡ after = ap (λ (g : Climbed). g.1) q in
                  cc

  -- `find_from`
  pub from_outside : n ≤ x → ◌≡◌ {A = Climbed} (Err Element, l) (answered l z n x)
  unfolding answered
  from_outside h = rw (le-leb n x h)

  module _ (inside : x < n) where
    pub from_way : {b : Climbed} → b ≡ climbed l (way l z n x) → b ≡ answered l z n x
    unfolding answered
    from_way e = rw (lt-leb n x inside) e

    pub from_many : 512 < n → ◌≡◌ {A = Climbed} (Err JoinSets, l) (answered l z n x)
    from_many h = from_way (faulty (way_fault l z n x (seen_many l z n x h)))

    module _ (w : ℕ) (is-w : w ≡ get_or z x 0) where
      pub from_none : w ≡ 0 → ◌≡◌ {A = Climbed} (Err JoinSets, l) (answered l z n x)
      from_none h = from_way (faulty (way_fault l z n x (seen_none l z n x (sym is-w ∙ h))))

      pub from_over : n < w → ◌≡◌ {A = Climbed} (Err JoinSets, l) (answered l z n x)
      from_over h = from_way (faulty (way_fault l z n x (seen_over l z n x (omega arith))))

-- `find`: the sets with the parents that were left
module _ (d : DSU) where
  abbrev left : Climbed → FindAnswer
  left b = record { found = b.0; sets = changed d b.1 d.size }

  left_way : (w : Way) → left (climbed d.repr w) ≡ found_by d w
  left_way broken = refl
  left_way (reached a l) = refl

  pub find_made : (f : Result ℕ StateRefusal) (l : List ℕ) (x : ℕ) → ◌≡◌ {A = Climbed} (f, l) (answered d.repr d.size d.n x) → left (f, l) ≡ find_of d x
  unfolding answered find_of
  find_made f l x e = ap left e ∙ by_test (leb d.n x) (way d.repr d.size d.n x)
    where
      by_test : (b : Bool) (w : Way) → left (cond b (Err Element, d.repr) (climbed d.repr w)) ≡ cond b (record { found = Err Element; sets = d }) (found_by d w)
      by_test true w = refl
      by_test false w = left_way w

pub ruleset from = (from_outside, from_many, from_none, from_over, from_way, rules)

pub ruleset finding = (in_top, in_outside, in_small, in_over, in_broken, in_stored, rules)
