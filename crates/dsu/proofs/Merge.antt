-- The root b put under the root a, with the sum of the two sizes at a: the sets stay valid, what led to b leads to a, and
-- nothing else changes. Assumes nothing.
use Prim.Native.Nat.{ℕ, ◌+◌, ◌≤◌, ◌<◌}
use mathlib.Core.Path.{◌≡◌, sym, ap, subst, ◌∙◌}
use mathlib.Core.List.{List}
use native.Mathlib.Decide.{ℕ_discrete}
use native.Mathlib.Omega.{arith}
use lib.ListN.{length, get_or, set, length-set}
use lib.Seq.{get_or-set_same, get_or-set_other}
use Rattle.dsu.specs.inner.Lent.{sets_of}
use Rattle.dsu.specs.inner.Steps.{SizedElement}
use Rattle.dsu.specs.Laws.{class_of, count, Valid}
use Rattle.dsu.proofs.Ways.{Higher}
use Rattle.dsu.proofs.Count.{count_two, Merged, count_win, count_rest}
use Rattle.dsu.proofs.WayLeads.{WayLeads, here, above, leads_class}
use Rattle.dsu.proofs.Keep.{set_case, leads_to_class}

-- two roots, and their sizes together
pub record Apart (l : List ℕ) (n a b : ℕ) : Type 0 where
  pub a_in : a < n
  pub b_in : b < n
  pub a_root : get_or l a 0 ≡ a
  pub b_root : get_or l b 0 ≡ b
  pub apart : a ≡ b → ⊥

module _ (l z : List ℕ) (n : ℕ) (v : Valid (sets_of l z n)) (a b : ℕ) (r : Apart l n a b) where
  -- two classes have no more than n elements
  pub two_fit : get_or z a 0 + get_or z b 0 ≤ n
  two_fit = omega (arith, v.counted a r.a_in r.a_root, v.counted b r.b_in r.b_root, count_two (class_of (sets_of l z n)) a b n r.apart)

  abbrev joint : ℕ
  joint = get_or z a 0 + get_or z b 0

  abbrev parents : List ℕ
  parents = set l b a

  abbrev sized : List ℕ
  sized = set z a joint

  a_long : a < length z
  a_long = omega (arith, r.a_in, v.long_size)

  b_long : b < length l
  b_long = omega (arith, r.b_in, v.long_repr)

  b_parent : get_or parents b 0 ≡ a
  b_parent = get_or-set_same l b a 0 b_long

  other : (y : ℕ) → (y ≡ a → ⊥) → get_or sized y 0 ≡ get_or z y 0
  other y h = get_or-set_other z a y joint 0 h

  no_less : (y : ℕ) → get_or z y 0 ≤ get_or sized y 0
  no_less y = set_case (λ (k : ℕ). get_or z y 0 ≤ k) z a joint y a_long (λ e. omega (arith, ap (λ (i : ℕ). get_or z i 0) e)) (λ e. omega arith)

  b_below_a : get_or sized b 0 < get_or sized a 0
  b_below_a = omega (arith, other b (λ e. r.apart (sym e)), get_or-set_same z a joint 0 a_long, v.some a r.a_in)

  still_fits : (y : ℕ) → y < n → get_or sized y 0 ≤ n
  still_fits y h = set_case (λ (k : ℕ). k ≤ n) z a joint y a_long (λ e. two_fit) (λ e. v.fits y h)

  still_met : (y : ℕ) → y < n → SizedElement sized n y
  still_met y h = record { few = v.few; inside = h; some = omega (arith, v.some y h, no_less y); fits = still_fits y h }

  a_leads : WayLeads parents sized n a a
  a_leads = here (still_met a r.a_in) (get_or-set_other l b a a 0 r.apart ∙ r.a_root)

  b_leads : WayLeads parents sized n b a
  b_leads = above {a = a} (still_met b r.b_in) (record { apart = λ e. r.apart (sym b_parent ∙ e); inside = rw b_parent r.a_in; grows = rw b_parent b_below_a }) (rw b_parent a_leads)

  -- an element that is not its own parent is none of the two
  not_root : (y c : ℕ) → (get_or l y 0 ≡ y → ⊥) → get_or l c 0 ≡ c → y ≡ c → ⊥
  not_root y c h e q = h (ap (λ (k : ℕ). get_or l k 0) q ∙ e ∙ sym q)

  merged_leads : {y c : ℕ} → WayLeads l z n y c → (c ≡ b → WayLeads parents sized n y a) × ((c ≡ b → ⊥) → WayLeads parents sized n y c)
  merged_leads (here {x = y} m e) = (λ q. subst (λ (k : ℕ). WayLeads parents sized n k a) (sym q) b_leads, λ h. here (still_met y m.inside) (get_or-set_other l b y a 0 h ∙ e))
  merged_leads (above {x = y} {a = c} m h t) =
      let ih = merged_leads t in
      let p : get_or parents y 0 ≡ get_or l y 0 = get_or-set_other l b y a 0 (not_root y b h.apart r.b_root) in
      let h' : Higher parents sized n y = record {
        apart = λ q. h.apart (sym p ∙ q);
        inside = rw p h.inside;
        grows = rw p (omega (arith, other y (not_root y a h.apart r.a_root), h.grows, no_less (get_or l y 0)));
      } in
      (λ e. above {a = a} (still_met y m.inside) h' (rw p (ih.0 e)), λ k. above {a = c} (still_met y m.inside) h' (rw p (ih.1 k)))

  pub merged_class : Merged (class_of (sets_of l z n)) (class_of (sets_of parents sized n)) a b n
  merged_class = record {
    moved = λ y h e. leads_class ((merged_leads (leads_to_class l z n v y h)).0 e);
    left = λ y h e. leads_class ((merged_leads (leads_to_class l z n v y h)).1 e);
  }

  counted_root : (y : ℕ) → y < n → (y ≡ b → ⊥) → get_or l y 0 ≡ y → get_or sized y 0 ≡ count (class_of (sets_of parents sized n)) y n
  counted_root y h not-b e = by_place (ℕ_discrete y a)
    where
      by_place : Dec (y ≡ a) → get_or sized y 0 ≡ count (class_of (sets_of parents sized n)) y n
      by_place (yes q) = subst (λ (k : ℕ). get_or sized k 0 ≡ count (class_of (sets_of parents sized n)) k n) (sym q)
          (omega (arith, get_or-set_same z a joint 0 a_long, v.counted a r.a_in r.a_root, v.counted b r.b_in r.b_root, count_win (class_of (sets_of l z n)) (class_of (sets_of parents sized n)) a b r.apart n merged_class))
      by_place (no q) = other y q ∙ v.counted y h e ∙ sym (count_rest (class_of (sets_of l z n)) (class_of (sets_of parents sized n)) a b r.apart y n q not-b merged_class)

  pub merged_valid : Valid (sets_of parents sized n)
  merged_valid = record {
    few = v.few;
    long_repr = omega (arith, v.long_repr, length-set l b a);
    long_size = omega (arith, v.long_size, length-set z a joint);
    inside = λ y h. set_case (λ (k : ℕ). k < n) l b a y b_long (λ e. r.a_in) (λ e. v.inside y h);
    grows = λ y h. set_case (λ (k : ℕ). (k ≡ y → ⊥) → get_or sized y 0 < get_or sized k 0) l b a y b_long
        (λ e q. subst (λ (i : ℕ). get_or sized i 0 < get_or sized a 0) (sym e) b_below_a)
        (λ e q. omega (arith, other y (not_root y a q r.a_root), v.grows y h q, no_less (get_or l y 0)));
    some = λ y h. omega (arith, v.some y h, no_less y);
    fits = still_fits;
    counted = λ y h. set_case (λ (k : ℕ). k ≡ y → get_or sized y 0 ≡ count (class_of (sets_of parents sized n)) y n) l b a y b_long (λ e q. absurd (r.apart (q ∙ e))) (λ e q. counted_root y h e q);
  }
