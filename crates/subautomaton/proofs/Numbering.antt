-- The numbers of labels: the loop that notes them, and equal numbers for equal labels.
use Prim.Native.Nat.{ℕ, ◌+◌, ◌≤◌, ◌<◌}
use mathlib.Core.Bool.{Bool, true, false}
use mathlib.Core.List.{List, []}
use mathlib.Core.Path.{◌≡◌, refl, sym, ◌∙◌, ap, subst}
use native.Mathlib.Omega.{arith}
use mir.Syntax.{w32}
use mir.Val.{Fits}
use borrow.Author.Rules.{rules}
use borrow.Author.Tests.{eq-eqb, eqb-true, eqb-false}
use lib.Dec.{eqb}
use lib.ListN.{length, get_or, take, drop, set, length-set}
use lib.Seq.{get_or-set_same, get_or-set_other}
use Rattle.lists.specs.Lists.{◌∈◌}
use Rattle.lists.proofs.Tests.{true_same}
use Rattle.labels.specs.Labels.{labels_fault, read_labels, same_label}
use Rattle.labels.specs.inner.Places.{label_place}
use Rattle.labels.proofs.Places.{place_first}
use Rattle.lists.specs.Index.{index}
use Rattle.lists.proofs.Index.{same_equal, equal_same, same_decides, index_le, index_in, index_lt, index_at}
use Rattle.labels.proofs.Reading.{seek_inside, seek_whole, seek_next, label_is}
use Rattle.name_table.specs.inner.Names.{names_in, Table}
use Rattle.name_table.proofs.Finding.{names_count}
use Rattle.subautomaton.specs.inner.Tables.{Numbered}

-- the table of numbers
pub number_fits : (b t : List ℕ) (n : ℕ) → Table b t n → (l : List ℕ) (r : ℕ) → r ≡ index same_label l (names_in b t n) → Fits w32 r
number_fits b t n k l r e = record { fits = omega (arith, e, index_le same_label l (names_in b t n), names_count b t n, k.few) }

pub numbered_none : (ks ls : List (List ℕ)) (c : List ℕ) → length c ≡ 256 → Numbered 0 ks ls c
numbered_none ks ls c h = record { long = h; at = λ i g. absurd (omega arith) }

pub numbered_room : (m i : ℕ) (ks ls : List (List ℕ)) (c : List ℕ) → Numbered i ks ls c → i < m → m ≤ 256 → i < length c
numbered_room m i ks ls c t h g = omega (arith, t.long)

pub numbered_more : (x : List ℕ) (m at i : ℕ) (ls : List (List ℕ)) (c l : List ℕ) (r : ℕ) → labels_fault m x ≡ 0 → at ≡ label_place x i → i < m → m ≤ 256 → l ≡ take (get_or x at 0) (drop (at + 1) x)
    → r ≡ index same_label l ls → Numbered i (read_labels x) ls c → Numbered (i + 1) (read_labels x) ls (set c i r)
numbered_more x m at i ls c l r ok e h g d q t =
    record {
      long = length-set c i r ∙ t.long;
      at = λ j k. by_place (eqb j i) j refl k;
    }
  where
    is_l : l ≡ get_or (read_labels x) i []
    is_l = label_is x m at i ok e l h d

    by_place : (b : Bool) (j : ℕ) → eqb j i ≡ b → j < i + 1 → get_or (set c i r) j 0 ≡ index same_label (get_or (read_labels x) j []) ls
    by_place true j f k =
        let z : j ≡ i = eqb-true j i f in
        ap (λ (n : ℕ). get_or (set c i r) n 0) z ∙ get_or-set_same c i r 0 (omega (arith, t.long)) ∙ q ∙ ap (λ (y : List ℕ). index same_label y ls) (is_l ∙ ap (λ (n : ℕ). get_or (read_labels x) n []) (sym z))
    by_place false j f k =
        let z : j ≡ i → ⊥ = eqb-false j i f in
        get_or-set_other c i j r 0 z ∙ t.at j (omega arith)

pub numbered_ended : (m i : ℕ) (ks ls : List (List ℕ)) (c : List ℕ) → Numbered i ks ls c → i ≤ m → m ≤ i → Numbered m ks ls c
numbered_ended m i ks ls c t h g = let z : i ≡ m = omega arith in subst (λ (j : ℕ). Numbered j ks ls c) z t

pub ruleset number_laws = (place_first, seek_inside, seek_whole, seek_next, number_fits, numbered_none, numbered_room, numbered_more, numbered_ended, rules)

-- labels are equal exactly when their numbers are, where one of them is a label of the list
pub same_number : (x y : List ℕ) (ls : List (List ℕ)) → y ∈ ls → same_label x y ≡ eqb (index same_label y ls) (index same_label x ls)
same_number x y ls m = true_same _ _ to from
  where
    to : same_label x y ≡ true → eqb (index same_label y ls) (index same_label x ls) ≡ true
    to h = let e : x ≡ y = same_equal x y h in eq-eqb _ _ (ap (λ (z : List ℕ). index same_label z ls) (sym e))

    from : eqb (index same_label y ls) (index same_label x ls) ≡ true → same_label x y ≡ true
    from h =
        let e : index same_label y ls ≡ index same_label x ls = eqb-true _ _ h in
        let k : index same_label x ls < length ls = let g = index_lt same_label same_decides y m in omega arith in
        let n = index_in same_label same_decides x ls k in
        equal_same x y (sym (index_at same_label same_decides [] x ls n) ∙ ap (λ (j : ℕ). get_or ls j []) (sym e) ∙ index_at same_label same_decides [] y ls m)
