-- On valid sets each element's way leads to its class; `find` keeps the sets valid and changes no class. Assumes nothing.
use Prim.Native.Nat.{ℕ, zero, suc, ◌+◌, ◌<◌}
use mathlib.Core.Path.{◌≡◌, sym, ap, subst, ◌∙◌}
use mathlib.Core.List.{List}
use native.Mathlib.Decide.{ℕ_discrete}
use native.Mathlib.Omega.{arith}
use lib.ListN.{length, get_or, set, length-set}
use lib.Seq.{get_or-set_same, get_or-set_other}
use Rattle.dsu.specs.inner.Lent.{sets_of}
use Rattle.dsu.specs.inner.Steps.{SizedElement}
use Rattle.dsu.specs.Laws.{class_of, count, Valid}
use Rattle.dsu.proofs.Count.{count_cong}
use Rattle.dsu.proofs.WayLeads.{WayLeads, here, above, after, leads_start, leads_end, leads_lt, leads_class, pointed_leads, end_apart, after_leads}

-- what holds of the element at y after a store at x, by whether y is x
pub set_case : (P : ℕ → Type 0) (l : List ℕ) (x a y : ℕ) → x < length l → (y ≡ x → P a) → ((y ≡ x → ⊥) → P (get_or l y 0)) → P (get_or (set l x a) y 0)
set_case P l x a y h f g = by_place (ℕ_discrete y x)
  where
    by_place : Dec (y ≡ x) → P (get_or (set l x a) y 0)
    by_place (yes e) = subst P (sym (ap (λ (k : ℕ). get_or (set l x a) k 0) e ∙ get_or-set_same l x a 0 h)) (f e)
    by_place (no e) = subst P (sym (get_or-set_other l x y a 0 e)) (g e)

module _ (l z : List ℕ) (n : ℕ) (v : Valid (sets_of l z n)) where
  pub met : (x : ℕ) → x < n → SizedElement z n x
  met x h = record { few = v.few; inside = h; some = v.some x h; fits = v.fits x h }

  -- the first number bounds the steps
  leads_some : (k x : ℕ) → x < n → n < k + get_or z x 0 → (a : ℕ) × WayLeads l z n x a
  leads_some zero x h b = absurd (omega (arith, v.fits x h))
  leads_some (suc k) x h b = by_parent (λ c. leads_some k (get_or l x 0) (v.inside x h) c) (ℕ_discrete (get_or l x 0) x)
    where
      by_parent : (n < k + get_or z (get_or l x 0) 0 → (a : ℕ) × WayLeads l z n (get_or l x 0) a) → Dec (get_or l x 0 ≡ x) → (a : ℕ) × WayLeads l z n x a
      by_parent ih (yes e) = (x, here (met x h) e)
      by_parent ih (no e) =
          let w = ih (omega (arith, v.grows x h e)) in
          (w.0, above (met x h) (record { apart = e; inside = v.inside x h; grows = v.grows x h e }) w.1)

  pub leads_to_class : (x : ℕ) → x < n → WayLeads l z n x (class_of (sets_of l z n) x)
  leads_to_class x h =
      let w = leads_some (suc n) x h (omega (arith, v.some x h)) in
      subst (λ (a : ℕ). WayLeads l z n x a) (sym (leads_class w.1)) w.1

  -- x is pointed at its representative a
  module _ (x a : ℕ) (t : WayLeads l z n x a) (apart : a ≡ x → ⊥) where
    x_in : x < length l
    x_in = omega (arith, v.long_repr, (leads_start t).inside)

    same_class : (y : ℕ) → y < n → class_of (sets_of l z n) y ≡ class_of (sets_of (set l x a) z n) y
    same_class y h = sym (leads_class (pointed_leads l z n x a v.long_repr t apart (leads_to_class y h)))

    pointed_valid : Valid (sets_of (set l x a) z n)
    pointed_valid = record {
      few = v.few;
      long_repr = omega (arith, v.long_repr, length-set l x a);
      long_size = v.long_size;
      inside = λ y h. set_case (λ (k : ℕ). k < n) l x a y x_in (λ e. (leads_end t).0.inside) (λ e. v.inside y h);
      grows = λ y h. set_case (λ (k : ℕ). (k ≡ y → ⊥) → get_or z y 0 < get_or z k 0) l x a y x_in (λ e r. subst (λ (k : ℕ). get_or z k 0 < get_or z a 0) (sym e) (leads_lt t apart)) (λ e r. v.grows y h r);
      some = v.some;
      fits = v.fits;
      counted = λ y h. set_case (λ (k : ℕ). k ≡ y → get_or z y 0 ≡ count (class_of (sets_of (set l x a) z n)) y n) l x a y x_in (λ e r. absurd (apart (r ∙ e))) (λ e r. v.counted y h r ∙ count_cong (class_of (sets_of l z n)) (class_of (sets_of (set l x a) z n)) y n same_class);
    }

-- what `find` leaves
pub after_valid : {l z : List ℕ} {n x a : ℕ} → Valid (sets_of l z n) → (t : WayLeads l z n x a) → Valid (sets_of (after t) z n)
unfolding after
after_valid v (here m e) = v
after_valid {l} {z} {n} v (above {x = x} {a = a} m h t) = pointed_valid (after t) z n (after_valid v t) x a (after_leads v.long_repr t (above m h t)) (end_apart h t)

pub after_class : {l z : List ℕ} {n x a : ℕ} → Valid (sets_of l z n) → (t : WayLeads l z n x a) (y : ℕ) → y < n → class_of (sets_of (after t) z n) y ≡ class_of (sets_of l z n) y
after_class {l} {z} {n} v t y h = leads_class (after_leads v.long_repr t (leads_to_class l z n v y h))
