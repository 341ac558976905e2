-- What `find` leaves in the parents, on every value of the struct. Assumes nothing.
use Rattle.std.proofs.Common.{Ok, Err, ℕ, ◌≤◌, ◌<◌, ◌≡◌, length, get_or, sym, ap, subst, ◌∙◌, arith, get_or-set_same, get_or-set_other, le-leb, refl}
use native.Mathlib.Decide.{dec_lt}
use borrow.Author.Tests.{lt-leb}
use Rattle.refusal.specs.declared.StateRefusal.{StateRefusal}
use Rattle.dsu.specs.declared.DSU.{DSU}
use Rattle.dsu.specs.declared.FindAnswer.{FindAnswer}
use Rattle.dsu.specs.Sets.{Way, broken, reached, way, found_by, find_of}
use Rattle.dsu.specs.Refusals.{OnWay, here, next, Compressed}
use Rattle.dsu.proofs.WayLeads.{WayLeads, after, leads_start, leads_find, way_leads, after_long}
use Rattle.dsu.proofs.WayLeads as leads
use Rattle.dsu.proofs.Keep.{set_case}

module _ (d : DSU) where
  abbrev LeadsIn : ℕ → ℕ → Type 0
  LeadsIn x a = WayLeads d.repr d.size d.n x a

  after_passed : {x a y : ℕ} → d.n ≤ length d.repr → (t : LeadsIn x a) → OnWay d x y → get_or (after t) y 0 ≡ a
  unfolding after
  after_passed long (leads.here m e) here = e
  after_passed long (leads.here m e) (next h o) = absurd (h e)
  after_passed long (leads.above {x = x} {a = a} m h t) here = get_or-set_same (after t) x a 0 (omega (arith, m.inside, after_long t))
  after_passed {y = y} long (leads.above {x = x} {a = a} m h t) (next k o) =
      set_case (λ (p : ℕ). p ≡ a) (after t) x a y (omega (arith, m.inside, after_long t)) (λ q. refl) (λ q. after_passed long t o)

  after_others : {x a y : ℕ} (t : LeadsIn x a) → (OnWay d x y → ⊥) → get_or (after t) y 0 ≡ get_or d.repr y 0
  unfolding after
  after_others (leads.here m e) k = refl
  after_others {y = y} (leads.above {x = x} {a = a} m h t) k =
      get_or-set_other (after t) x y a 0 (λ q. k (subst (λ (i : ℕ). OnWay d x i) (sym q) here)) ∙ after_others t (λ o. k (next h.apart o))

  -- where `find` answers, the way leads to the answer
  module _ (x a : ℕ) where
    refused_root : (r : StateRefusal) → Err r ≡ Ok a → ⊥
    refused_root r e = let z : ◌≡◌ {A = ℕ} 0 1 = cc in omega arith

    found_leads : (find_of d x).found ≡ Ok a → LeadsIn x a
    unfolding find_of
    found_leads f = by_place (dec_lt x d.n)
      where
        by_way : x < d.n → (w : Way) → way d.repr d.size d.n x ≡ w → (found_by d w).found ≡ Ok a → LeadsIn x a
        by_way i broken e q = absurd (refused_root _ q)
        by_way i (reached b m) e q = let s : b ≡ a = cc in way_leads d.repr d.size d.n x a m i (rw s at e)

        by_place : Dec (x < d.n) → LeadsIn x a
        by_place (yes i) = by_way i (way d.repr d.size d.n x) refl (rw (lt-leb d.n x i) at f)
        by_place (no h) = absurd (refused_root _ (rw (le-leb d.n x (omega arith)) at f))

-- the length is that of the struct's array
pub find_compressed : (d : DSU) (x a : ℕ) (r : FindAnswer) → r ≡ find_of d x → r.found ≡ Ok a → length d.repr ≡ 512 → Compressed d x a r.sets
find_compressed d x a r e f long =
    let t = found_leads d x a (sym (ap (λ (q : FindAnswer). q.found) e) ∙ f) in
    subst (λ (q : FindAnswer). Compressed d x a q.sets) (sym (e ∙ leads_find t)) (record {
      passed = λ y o. after_passed d (omega (arith, (leads_start t).few)) t o;
      others = λ y o. after_others d t o;
      sizes = refl;
      is_n = refl;
    })
