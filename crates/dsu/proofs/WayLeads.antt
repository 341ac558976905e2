-- The way from an element to its representative as a relation, what `find` gives by it, and that pointing an element at its
-- representative changes no way's end. Assumes nothing.
use Rattle.std.proofs.Common.{Ok, ℕ, zero, suc, ◌≤◌, ◌<◌, ◌≡◌, List, length, get_or, set, sym, ap, subst, ◌∙◌, arith, length-set, get_or-set_same, get_or-set_other, refl}
use native.Mathlib.Decide.{ℕ_discrete}
use borrow.Author.Tests.{lt-leb}
use Rattle.dsu.specs.declared.FindAnswer.{FindAnswer}
use Rattle.dsu.specs.Sets.{Seen, top, up, fault, seen, Way, broken, reached, point, onward, walk, way, find_of}
use Rattle.dsu.specs.inner.Lent.{sets_of}
use Rattle.dsu.specs.inner.Steps.{SizedElement}
use Rattle.dsu.specs.Laws.{root_of, class_of}
use Rattle.dsu.proofs.Ways.{Higher, seen_top, seen_up, at_top, at_up, way_top, way_up}

-- the way from x leads to a
pub data WayLeads (l z : List ℕ) (n : ℕ) : ℕ → ℕ → Type 0 where
  here : {x : ℕ} → SizedElement z n x → get_or l x 0 ≡ x → WayLeads l z n x x
  above : {x a : ℕ} → SizedElement z n x → Higher l z n x → WayLeads l z n (get_or l x 0) a → WayLeads l z n x a

-- the parents afterwards
unfoldable pub after : {l z : List ℕ} {n x a : ℕ} → WayLeads l z n x a → List ℕ
after {l} (here m e) = l
after (above {x = x} {a = a} m h t) = set (after t) x a

pub leads_start : {l z : List ℕ} {n x a : ℕ} → WayLeads l z n x a → SizedElement z n x
leads_start (here m e) = m
leads_start (above m h t) = m

-- the end of a way is its own parent
pub leads_end : {l z : List ℕ} {n x a : ℕ} → WayLeads l z n x a → SizedElement z n a × (get_or l a 0 ≡ a)
leads_end (here m e) = (m, e)
leads_end (above m h t) = leads_end t

pub leads_le : {l z : List ℕ} {n x a : ℕ} → WayLeads l z n x a → get_or z x 0 ≤ get_or z a 0
leads_le (here m e) = omega arith
leads_le (above m h t) = omega (arith, h.grows, leads_le t)

pub leads_lt : {l z : List ℕ} {n x a : ℕ} → WayLeads l z n x a → (a ≡ x → ⊥) → get_or z x 0 < get_or z a 0
leads_lt (here m e) h = absurd (h refl)
leads_lt (above m h t) k = omega (arith, h.grows, leads_le t)

pub leads_way : {l z : List ℕ} {n x a : ℕ} (t : WayLeads l z n x a) → way l z n x ≡ reached a (after t)
unfolding after
leads_way {l} {z} {n} (here {x = x} m e) = way_top l z n x (seen_top l z n x m e)
leads_way {l} {z} {n} (above {x = x} m h t) = way_up l z n x (seen_up l z n x m h.apart h.inside h.grows) ∙ ap (point x) (leads_way t)

-- a way that reaches a leads there
abbrev Ends : List ℕ → List ℕ → ℕ → ℕ → Way → Type 0
Ends l z n x broken = Unit
Ends l z n x (reached a m) = WayLeads l z n x a

module _ (l z : List ℕ) (n : ℕ) where
  point_ends : (x : ℕ) (w : Way) → SizedElement z n x → Higher l z n x → Ends l z n (get_or l x 0) w → Ends l z n x (point x w)
  point_ends x broken m h e = tt
  point_ends x (reached a after) m h e = above m h e

  walk_ends : (k x : ℕ) → x < n → Ends l z n x (walk k l z n x)
  unfolding walk
  walk_ends zero x i = tt
  walk_ends (suc k) x i = by_seen (λ h. walk_ends k (get_or l x 0) h) (seen l z n x) refl
    where
      by_seen : (get_or l x 0 < n → Ends l z n (get_or l x 0) (walk k l z n (get_or l x 0))) → (s : Seen) → seen l z n x ≡ s → Ends l z n x (onward x l s (walk k l z n (get_or l x 0)))
      by_seen ih top e = let t = at_top l z n x i e in here t.0 t.1
      by_seen ih up e = let t = at_up l z n x e in point_ends x (walk k l z n (get_or l x 0)) (t.0 i) t.1 (ih t.1.inside)
      by_seen ih fault e = tt

  pub way_leads : (x a : ℕ) (m : List ℕ) → x < n → way l z n x ≡ reached a m → WayLeads l z n x a
  unfolding way
  way_leads x a m i e = subst (Ends l z n x) e (walk_ends (suc n) x i)

-- `find` by the way
pub leads_find : {l z : List ℕ} {n x a : ℕ} (t : WayLeads l z n x a) → find_of (sets_of l z n) x ≡ record { found = Ok a; sets = sets_of (after t) z n }
unfolding find_of
leads_find {l} {z} {n} {x} t = rw (lt-leb n x (leads_start t).inside, leads_way t)

pub leads_class : {l z : List ℕ} {n x a : ℕ} → WayLeads l z n x a → class_of (sets_of l z n) x ≡ a
unfolding class_of
leads_class t = ap (λ (f : FindAnswer). root_of f.found) (leads_find t)

leads_one : {l z : List ℕ} {n x a b : ℕ} → WayLeads l z n x a → WayLeads l z n x b → a ≡ b
leads_one s t = sym (leads_class s) ∙ leads_class t

-- x is pointed at its representative a, which is another: each way ends as before
module _ (l z : List ℕ) (n x a : ℕ) (long : n ≤ length l) (t : WayLeads l z n x a) (apart : a ≡ x → ⊥) where
  x_parent : get_or (set l x a) x 0 ≡ a
  x_parent = let m = leads_start t in get_or-set_same l x a 0 (omega arith)

  a_leads : WayLeads (set l x a) z n a a
  a_leads = let e = leads_end t in here e.0 (get_or-set_other l x a a 0 apart ∙ e.1)

  x_leads : WayLeads (set l x a) z n x a
  x_leads =
      let e = leads_end t in
      above {a = a} (leads_start t) (record { apart = λ q. apart (sym x_parent ∙ q); inside = rw x_parent e.0.inside; grows = rw x_parent (leads_lt t apart) }) (rw x_parent a_leads)

  pub pointed_leads : {y b : ℕ} → WayLeads l z n y b → WayLeads (set l x a) z n y b
  pointed_leads (here {x = y} m e) = here m (get_or-set_other l x y a 0 (λ q. apart (leads_one t (subst (λ (k : ℕ). WayLeads l z n k k) q (here m e)))) ∙ e)
  pointed_leads (above {x = y} {a = b} m h s) = by_place (pointed_leads s) (ℕ_discrete y x)
    where
      by_place : WayLeads (set l x a) z n (get_or l y 0) b → Dec (y ≡ x) → WayLeads (set l x a) z n y b
      by_place ih (yes e) =
          let q : a ≡ b = leads_one t (subst (λ (k : ℕ). WayLeads l z n k b) e (above m h s)) in
          subst (λ (k : ℕ). WayLeads (set l x a) z n y k) q (subst (λ (k : ℕ). WayLeads (set l x a) z n k a) (sym e) x_leads)
      by_place ih (no e) =
          let p : get_or (set l x a) y 0 ≡ get_or l y 0 = get_or-set_other l x y a 0 e in
          above {a = b} m (record { apart = λ q. h.apart (sym p ∙ q); inside = rw p h.inside; grows = rw p h.grows }) (rw p ih)

  pub pointed_back : {y b : ℕ} → WayLeads (set l x a) z n y b → WayLeads l z n y b
  pointed_back (here {x = y} m e) = here m (sym (get_or-set_other l x y a 0 (λ q. apart (sym x_parent ∙ ap (λ (k : ℕ). get_or (set l x a) k 0) (sym q) ∙ e ∙ q))) ∙ e)
  pointed_back (above {x = y} {a = b} m h s) = by_place (pointed_back s) (ℕ_discrete y x)
    where
      by_place : WayLeads l z n (get_or (set l x a) y 0) b → Dec (y ≡ x) → WayLeads l z n y b
      by_place ih (yes e) =
          let q : a ≡ b = leads_one a_leads (subst (λ (k : ℕ). WayLeads (set l x a) z n k b) (ap (λ (k : ℕ). get_or (set l x a) k 0) e ∙ x_parent) s) in
          subst (λ (k : ℕ). WayLeads l z n k b) (sym e) (subst (λ (k : ℕ). WayLeads l z n x k) q t)
      by_place ih (no e) =
          let p : get_or (set l x a) y 0 ≡ get_or l y 0 = get_or-set_other l x y a 0 e in
          above {a = b} m (record { apart = λ q. h.apart (p ∙ q); inside = rw p at h.inside; grows = rw p at h.grows }) (rw p at ih)

-- the end of a way that goes on is another element
pub end_apart : {l z : List ℕ} {n x a : ℕ} → Higher l z n x → WayLeads l z n (get_or l x 0) a → a ≡ x → ⊥
end_apart {z = z} h t e = omega (arith, h.grows, leads_le t, ap (λ (i : ℕ). get_or z i 0) e)

-- the parents afterwards: each way ends as before
pub after_long : {l z : List ℕ} {n x a : ℕ} (t : WayLeads l z n x a) → length (after t) ≡ length l
unfolding after
after_long (here m e) = refl
after_long (above {x = x} {a = a} m h t) = length-set (after t) x a ∙ after_long t

pub after_leads : {l z : List ℕ} {n x a y b : ℕ} → n ≤ length l → (t : WayLeads l z n x a) → WayLeads l z n y b → WayLeads (after t) z n y b
unfolding after
after_leads long (here m e) s = s
after_leads {z = z} {n = n} long (above {x = x} {a = a} m h t) s =
    pointed_leads (after t) z n x a (omega (arith, after_long t)) (after_leads long t (above m h t)) (end_apart h t) (after_leads long t s)

pub after_back : {l z : List ℕ} {n x a y b : ℕ} → n ≤ length l → (t : WayLeads l z n x a) → WayLeads (after t) z n y b → WayLeads l z n y b
unfolding after
after_back long (here m e) s = s
after_back {z = z} {n = n} long (above {x = x} {a = a} m h t) s =
    after_back long t (pointed_back (after t) z n x a (omega (arith, after_long t)) (after_leads long t (above m h t)) (end_apart h t) s)
