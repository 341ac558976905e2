-- Whether labels are names and no two are equal: the laws of the loop over one label, and of the loop that adds labels to a table.
use Prim.Native.Nat.{ℕ, suc, ◌+◌, ◌-◌, ◌≤◌, ◌<◌}
use mathlib.Core.Bool.{Bool, true, false, not, and-true, and-false}
use mathlib.Core.List.Memᴰ
use mathlib.Core.List.{List, [], ◌∷◌, ◌++◌}
use mathlib.Core.Logic.{⊎_elim}
use mathlib.Core.Path.{◌≡◌, refl, sym, ◌∙◌, ap, subst}
use native.Mathlib.Nat.{add-sub_cancel_left}
use native.Mathlib.Omega.{arith}
use Rattle.std.specs.List.{list_all}
use Rattle.std.proofs.lemmas.List.{take_rest}
use borrow.Author.Rules.{rules}
use borrow.Author.Tests.{not-true, not-false, lt-ltb, le-ltb, ltb-true, ltb-false}
use lib.Dec.{ltb}
use lib.ListN.{length, get_or, take, drop, length-append}
use lib.Seq.{take_all, split_at}
use Rattle.lists.specs.Lists.{◌∈◌, any, all, tabulate, Distinct, none, more}
use Rattle.lists.proofs.Chains.{all_listed}
use Rattle.lists.proofs.Every.{all_out}
use Rattle.lists.proofs.Index.{same_equal, equal_same, same_decides, index_in}
use Rattle.lists.proofs.Lists.{any_out, any_in, map_append}
use Rattle.lists.proofs.Members.{map_in, at_in}
use Rattle.lists.proofs.Parts.{take_more}
use Rattle.lists.proofs.Tests.{test, and_both, and_parts, or_left, or_right}
use Rattle.labels.specs.Labels.{label_count, read_labels, same_label}
use Rattle.labels.proofs.Reading.{seek_inside, seek_whole, label_is}
use Rattle.grammar.specs.Bytes.{is_letter, is_name_byte}
use Rattle.std.proofs.Common.{Option, Some, None}
use Rattle.name_table.specs.inner.Names.{slice, names_in, Table, Addition}
use Rattle.name_table.proofs.Adding.{table_none, added_table, added_names, added_full}
use Rattle.name_table.proofs.Finding.{names_count}
use Rattle.search.specs.Search.{index, add}
use Rattle.search.proofs.Tables.{add_known, add_new, add_length}
use Rattle.writer.proofs.Gathering.{state_below}
use Rattle.writer.specs.Text.{is_name, has_twice}
use Rattle.writer.specs.inner.Parts.{are_names}
use Rattle.writer.specs.inner.Tables.{LabelPlaces, StatesBelow, state_labels}

-- one label
pub name_empty : (l : List ℕ) → length l < 1 → false ≡ is_name l
unfolding is_name
name_empty [] h = refl
name_empty (b ∷ u) h = absurd (omega arith)

pub name_long : (l : List ℕ) → 64 < length l → false ≡ is_name l
unfolding is_name
name_long [] h = refl
name_long (b ∷ u) h = sym (rw (le-ltb (length u) 64 (omega arith), and-false (all is_name_byte u)) (and-false (is_letter b)))

no_letter : (l : List ℕ) → is_letter (get_or l 0 0) ≡ false → false ≡ is_name l
unfolding is_name
no_letter [] k = refl
no_letter (b ∷ u) k = rw k

letter : (l : List ℕ) → is_letter (get_or l 0 0) ≡ true → 1 ≤ length l → length l ≤ 64 → is_name l ≡ all is_name_byte (drop 1 l)
unfolding is_name
letter [] k h g = absurd (omega arith)
letter (b ∷ u) k h g = rw (k, lt-ltb (length u) 64 (omega arith)) (and-true (all is_name_byte u))

module _ (l : List ℕ) (r : Bool) (e : r ≡ is_letter (get_or l 0 0)) where
  pub name_first : not r ≡ true → false ≡ is_name l
  name_first t = no_letter l (sym e ∙ not-true r t)

  pub name_begin : 1 ≤ length l → length l ≤ 64 → not r ≡ false → is_name l ≡ all is_name_byte (drop 1 l)
  name_begin h g t = letter l (sym e ∙ not-false r t) h g

-- the bytes behind the first decide
pub name_rest : (l : List ℕ) (r : Bool) → r ≡ is_letter (get_or l 0 0) → 1 ≤ length l → length l ≤ 64 → not r ≡ false
    → (y : Bool) → y ≡ list_all is_name_byte (take (length l - 1) (drop 1 l)) → y ≡ is_name l
name_rest l r e h g t y k =
    let all_of : take (length l - 1) (drop 1 l) ≡ drop 1 l = take_rest l 1 in
    k ∙ ap (list_all is_name_byte) all_of ∙ all_listed is_name_byte (drop 1 l) ∙ sym (name_begin l r e h g t)

pub ruleset name_laws = (name_empty, name_long, name_first, rules)

-- equal labels
once : {ls : List (List ℕ)} → Distinct ls → has_twice ls ≡ false
unfolding has_twice
once none = refl
once (more {x} {l} out d) = ⊎_elim (λ (t : any (same_label x) l ≡ true). absurd (out (found t))) (λ (t : any (same_label x) l ≡ false). rw t (once d)) (test (any (same_label x) l))
  where
    found : any (same_label x) l ≡ true → x ∈ l
    found t = let r = any_out (same_label x) l t in subst (λ (y : List ℕ). y ∈ l) (sym (same_equal x r.0 r.2)) r.1

twice : (x : List ℕ) (ks ms : List (List ℕ)) → x ∈ ks → has_twice (ks ++ x ∷ ms) ≡ true
unfolding has_twice
twice x (y ∷ ks) ms (Memᴰ.head e) = or_left (any (same_label y) (ks ++ x ∷ ms)) _ (any_in (same_label y) (Memᴰ.append_right ks (Memᴰ.head refl)) (equal_same y x (sym e)))
twice x [] ms m = elim m [ ]
twice x (y ∷ ks) ms (Memᴰ.tail m) = or_right (any (same_label y) (ks ++ x ∷ ms)) _ (twice x ks ms m)

all_end : (f : List ℕ → Bool) (ks : List (List ℕ)) (x : List ℕ) → all f ks ≡ true → f x ≡ true → all f (ks ++ x ∷ []) ≡ true
unfolding all
all_end f [] x h g = rw g
all_end f (k ∷ ks) x h g = let p = and_parts (f k) (all f ks) h in and_both (f k) _ p.0 (all_end f ks x p.1 g)

-- the labels of the first i states are names, and they are those of the table
pub record LabelsListed (b qs t : List ℕ) (i : ℕ) : Type 0 where
  pub table : Table b t i
  pub named : names_in b t i ≡ state_labels b (take i qs)
  pub good : all is_name (state_labels b (take i qs)) ≡ true

pub listed_begin : (b qs t : List ℕ) → length t ≡ 1024 → LabelsListed b qs t 0
unfolding names_in tabulate state_labels all
listed_begin b qs t h = record { table = table_none b t h; named = refl; good = refl }

pub listed_table : (b qs t : List ℕ) (i : ℕ) → LabelsListed b qs t i → Table b t i
listed_table b qs t i g = g.table

pub listed_ended : (b qs t : List ℕ) (i : ℕ) → LabelsListed b qs t i → length qs ≤ i → true ≡ are_names (state_labels b qs)
unfolding are_names
listed_ended b qs t i g h =
    let z : take i qs ≡ qs = take_all i qs h in
    let d : has_twice (state_labels b qs) ≡ false = ap has_twice (sym (g.named ∙ ap (state_labels b) z)) ∙ once g.table.distinct in
    let a : all is_name (state_labels b qs) ≡ true = rw z at g.good in
    sym (rw (d, a))

module _ (b p qs : List ℕ) (i : ℕ) (k : LabelPlaces b p) (w : StatesBelow (label_count b) qs) (h : i < length qs) where
  in_labels : get_or (read_labels b) (get_or qs i 0) [] ∈ state_labels b qs
  unfolding state_labels
  in_labels = map_in (λ q. get_or (read_labels b) q []) (at_in qs i 0 h)

  pub listed_no_name : (l : List ℕ) → l ≡ get_or (read_labels b) (get_or qs i 0) [] → (r : Bool) → r ≡ is_name l → not r ≡ true → false ≡ are_names (state_labels b qs)
  unfolding are_names
  listed_no_name l e r f t =
      let no : is_name (get_or (read_labels b) (get_or qs i 0) []) ≡ false = ap is_name (sym e) ∙ sym f ∙ not-true r t in
      ⊎_elim
      (λ (a : all is_name (state_labels b qs) ≡ true). absurd (let z : true ≡ false = sym (all_out is_name in_labels a) ∙ no in let y : ◌≡◌ {A = ℕ} 0 1 = cc in omega arith))
      (λ (a : all is_name (state_labels b qs) ≡ false). sym (rw a (and-false (not (has_twice (state_labels b qs))))))
      (test (all is_name (state_labels b qs)))

  pub listed_place : get_or p (get_or qs i 0) 0 < length b
  listed_place = seek_inside b (label_count b) _ (get_or qs i 0) k.accepted (k.at _ (w.at i h)) (w.at i h)

  module _ (next : ℕ) (e : next ≡ get_or p (get_or qs i 0) 0 + 1 + get_or b (get_or p (get_or qs i 0) 0) 0) where
    pub listed_straight : get_or p (get_or qs i 0) 0 + 1 ≤ next
    listed_straight = omega arith

    pub listed_inside : next ≤ length b
    listed_inside = omega (arith, seek_whole b (label_count b) _ (get_or qs i 0) k.accepted (k.at _ (w.at i h)) (w.at i h))

    label : slice b (get_or p (get_or qs i 0) 0 + 1) next ≡ get_or (read_labels b) (get_or qs i 0) []
    label = label_is b (label_count b) _ (get_or qs i 0) k.accepted (k.at _ (w.at i h)) _ (w.at i h) (rw (e, add-sub_cancel_left))

    split : state_labels b qs ≡ state_labels b (take i qs) ++ slice b (get_or p (get_or qs i 0) 0 + 1) next ∷ state_labels b (drop (suc i) qs)
    unfolding state_labels
    split =
        ap (state_labels b) (split_at qs i 0 h) ∙ map_append (λ q. get_or (read_labels b) q []) (take i qs) (get_or qs i 0 ∷ drop (suc i) qs)
        ∙ ap (λ (x : List ℕ). state_labels b (take i qs) ++ x ∷ state_labels b (drop (suc i) qs)) (sym label)

    one_more : state_labels b (take (i + 1) qs) ≡ state_labels b (take i qs) ++ slice b (get_or p (get_or qs i 0) 0 + 1) next ∷ []
    unfolding state_labels
    one_more =
        ap (state_labels b) (take_more qs i h) ∙ map_append (λ q. get_or (read_labels b) q []) (take i qs) (get_or qs i 0 ∷ [])
        ∙ ap (λ (x : List ℕ). state_labels b (take i qs) ++ x ∷ []) (sym label)

    module _ (t u : List ℕ) (g : LabelsListed b qs t i) (r : Option ℕ) (a : Addition b (add same_label (slice b (get_or p (get_or qs i 0) 0 + 1) next) (names_in b t i)) u r) where
      abbrev x : List ℕ
      x = slice b (get_or p (get_or qs i 0) 0 + 1) next

      pub listed_full : length qs ≤ 256 → r ≡ None → false ≡ are_names (state_labels b qs)
      listed_full m q = absurd (omega (arith, added_full b _ u r a q, add_length same_label x (names_in b t i), names_count b t i))

      module _ (v : ℕ) (q : r ≡ Some v) where
        grown : v ≡ length (add same_label x (names_in b t i))
        grown = sym (names_count b u v) ∙ ap length (added_names b _ u r a v q)

        known : v ≡ i → index same_label x (names_in b t i) < length (names_in b t i)
        known z =
            ⊎_elim (λ (c : ltb (index same_label x (names_in b t i)) (length (names_in b t i)) ≡ true). ltb-true _ _ c)
            (λ (c : ltb (index same_label x (names_in b t i)) (length (names_in b t i)) ≡ false).
            let y = ap length (add_new same_label x (names_in b t i) (ltb-false _ _ c)) in
            absurd (omega (arith, grown, y, length-append (names_in b t i) (x ∷ []), names_count b t i)))
            (test (ltb (index same_label x (names_in b t i)) (length (names_in b t i))))

        new : (v ≡ i → ⊥) → add same_label x (names_in b t i) ≡ names_in b t i ++ x ∷ []
        new z =
            ⊎_elim
            (λ (c : ltb (index same_label x (names_in b t i)) (length (names_in b t i)) ≡ true).
            absurd (z (grown ∙ ap length (add_known same_label x (names_in b t i) (ltb-true _ _ c)) ∙ names_count b t i)))
            (λ (c : ltb (index same_label x (names_in b t i)) (length (names_in b t i)) ≡ false). add_new same_label x (names_in b t i) (ltb-false _ _ c))
            (test (ltb (index same_label x (names_in b t i)) (length (names_in b t i))))

        pub listed_twice : v ≡ i → false ≡ are_names (state_labels b qs)
        unfolding are_names
        listed_twice z =
            let m : x ∈ state_labels b (take i qs) = subst (λ (ls : List (List ℕ)). x ∈ ls) g.named (index_in same_label same_decides x (names_in b t i) (known z)) in
            let d : has_twice (state_labels b qs) ≡ true = ap has_twice split ∙ twice x (state_labels b (take i qs)) (state_labels b (drop (suc i) qs)) m in
            sym (rw d)

        pub listed_next : (v ≡ i → ⊥) → (l : List ℕ) → l ≡ get_or (read_labels b) (get_or qs i 0) [] → (c : Bool) → c ≡ is_name l → not c ≡ false → LabelsListed b qs u (i + 1)
        listed_next z l f c y n =
            let m : names_in b u v ≡ names_in b t i ++ x ∷ [] = added_names b _ u r a v q ∙ new z in
            let o : v ≡ i + 1 = sym (names_count b u v) ∙ ap length m ∙ length-append (names_in b t i) (x ∷ []) ∙ ap (λ (j : ℕ). j + 1) (names_count b t i) in
            let good : is_name x ≡ true = ap is_name (label ∙ sym f) ∙ sym y ∙ not-false c n in
            record {
              table = subst (Table b u) o (added_table b _ u r a v q);
              named = subst (λ (j : ℕ). names_in b u j ≡ state_labels b (take (i + 1) qs)) o (m ∙ ap (λ (ls : List (List ℕ)). ls ++ x ∷ []) g.named ∙ sym one_more);
              good = ap (all is_name) one_more ∙ all_end is_name (state_labels b (take i qs)) x g.good good;
            }

pub ruleset listed_laws = (
  state_below,
  listed_begin,
  listed_table,
  listed_ended,
  listed_no_name,
  listed_place,
  listed_straight,
  listed_inside,
  listed_full,
  listed_twice,
  listed_next,
  rules,
)
