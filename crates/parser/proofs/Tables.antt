-- Laws of the table of names: one more name behind the others, and how many there are.
use Prim.Native.Nat.{ℕ, ◌+◌, ◌-◌, ◌≤◌, ◌<◌}
use mathlib.Core.List.Memᴰ
use mathlib.Core.List.{List, [], ◌∷◌}
use mathlib.Core.Logic.{⊎_elim}
use mathlib.Core.Path.{◌≡◌, subst}
use native.Mathlib.Omega.{arith}
use mir.Syntax.{w32}
use mir.Val.{Fits}
use borrow.Author.Rules.{rules}
use lib.ListN.{length, get_or, length-take, length-drop}
use Rattle.grammar.specs.Places.{spelled}
use Rattle.grammar.specs.inner.Places.{Spelt}
use Rattle.grammar.specs.declared.tokens.TextSpan.{TextSpan}
use Rattle.labels.specs.Labels.{Label, same_label}
use Rattle.lists.specs.Lists.{◌∈◌, tabulate}
use Rattle.lists.proofs.Every.{tabulate_in, tabulate_out}
use Rattle.lists.proofs.Index.{index_le}
use Rattle.std.proofs.Common.{Option, Some, None}
use Rattle.name_table.specs.inner.Names.{name_at, Inside}
use Rattle.name_table.specs.inner.Names as Names
use Rattle.name_table.proofs.Adding as Adding
use Rattle.search.specs.Search.{index, add, meet}
use Rattle.search.proofs.Tables.{meet_out}
use Rattle.name_table.proofs.Finding.{names_count}
use Rattle.parser.specs.inner.Names.{span_at, names_in, SpeltTable, SpeltAddition, kept, full}

-- a name of a text is a label
module _ (t : List ℕ) (x : TextSpan) (p : Spelt t x) where
  pub spelt_label : Label (spelled t x)
  spelt_label =
      let n : length (spelled t x) ≡ x.end - x.start = simp (length-take, length-drop) (omega (arith, p.inside)) in
      record { some = omega (arith, p.some); short = omega (arith, p.short) }

  pub spelt_order : x.start ≤ x.end
  spelt_order = omega (arith, p.some)

  pub spelt_inside : x.end ≤ length t
  spelt_inside = p.inside

-- the table is one of crate `name_table`, in which each name is a label
pub named : (text t : List ℕ) (n : ℕ) → SpeltTable text t n → Names.Table text t n
named text t n k =
    record {
      room = k.room;
      few = k.few;
      inside = λ j h. record { straight = omega (arith, (k.spelt j h).some); within = (k.spelt j h).inside };
      distinct = k.distinct;
      arranged = k.arranged;
    }

labelled : (text t : List ℕ) (n : ℕ) → SpeltTable text t n → (x : List ℕ) → x ∈ names_in text t n → Label x
unfolding names_in
labelled text t n k x m = let r = tabulate_out n (name_at text t) x m in rw r.2 (spelt_label text (span_at t r.0) (k.spelt r.0 r.1))

-- a part of the text that is a label
label_spelt : (text t : List ℕ) (j : ℕ) → Inside text t j → Label (name_at text t j) → Spelt text (span_at t j)
label_spelt text t j i l =
    let n : length (name_at text t j) ≡ get_or t (768 + j) 0 - get_or t (512 + j) 0 = simp (length-take, length-drop) (omega (arith, i.within)) in
    record { some = omega (arith, l.some); short = omega (arith, l.short); inside = i.within }

labels_table : (text t : List ℕ) (n : ℕ) → Names.Table text t n → ((x : List ℕ) → x ∈ names_in text t n → Label x) → SpeltTable text t n
labels_table text t n k l =
    record {
      room = k.room;
      few = k.few;
      spelt = λ j h. label_spelt text t j (k.inside j h) (l (name_at text t j) (unfold names_in in tabulate_in n (name_at text t) j h));
      distinct = k.distinct;
      arranged = k.arranged;
    }

nowhere : (text t x : List ℕ) → x ∈ names_in text t 0 → ⊥
unfolding names_in tabulate
nowhere text t x m = Memᴰ.not-nil m

-- a table without names
pub table_none : (text t : List ℕ) → length t ≡ 1024 → SpeltTable text t 0
table_none text t e = labels_table text t 0 (Adding.table_none text t e) (λ x m. absurd (nowhere text t x m))

-- a name is added to a table
module _ (text t : List ℕ) (n : ℕ) (k : SpeltTable text t n) (x : TextSpan) (p : Spelt text x) (u : List ℕ) (r : Option ℕ)
    (a : Names.Addition text (add same_label (spelled text x) (names_in text t n)) u r) where
  labels_added : (y : List ℕ) → y ∈ add same_label (spelled text x) (names_in text t n) → Label y
  unfolding meet
  labels_added y m =
      ⊎_elim (labelled text t n k y) (λ l. let e : y ≡ spelled text x = Memᴰ.eq_of_singleton l in rw e (spelt_label text x p))
      (meet_out same_label (spelled text x ∷ []) (names_in text t n) y m)

  pub spelt_addition : SpeltAddition text (add same_label (spelled text x) (names_in text t n)) u r
  spelt_addition = by_case a
    where
      by_case : {v : Option ℕ} → Names.Addition text (add same_label (spelled text x) (names_in text t n)) u v → SpeltAddition text (add same_label (spelled text x) (names_in text t n)) u v
      by_case (Names.kept {n = m} j h) = kept (labels_table text u m j (λ y l. labels_added y (subst (λ (ls : List (List ℕ)). y ∈ ls) h l))) h
      by_case (Names.full h) = full h

pub ruleset add_laws = (named, spelt_order, spelt_inside, spelt_addition, rules)

-- the number of a name fits a word
pub number_fits : (text t : List ℕ) (n : ℕ) → SpeltTable text t n → (x : List ℕ) (i : ℕ) → i ≡ index same_label x (names_in text t n) → Fits w32 i
number_fits text t n k x i e = record { fits = omega (arith, e, index_le same_label x (names_in text t n), names_count text t n, k.few) }

pub ruleset number_laws = (named, number_fits, spelt_order, spelt_inside, rules)

-- what an addition says by its answer
module _ (text : List ℕ) (ls : List (List ℕ)) (t : List ℕ) (r : Option ℕ) (a : SpeltAddition text ls t r) where
  pub added_table : (n : ℕ) → r ≡ Some n → SpeltTable text t n
  added_table n e = elim_kept a e
    where
      elim_kept : {r : Option ℕ} → SpeltAddition text ls t r → r ≡ Some n → SpeltTable text t n
      elim_kept (kept {n = u} k h) e = let q : u ≡ n = cc in subst (SpeltTable text t) q k
      elim_kept (full h) e = let z : ◌≡◌ {A = ℕ} 0 1 = cc in absurd (omega arith)

  pub added_names : (n : ℕ) → r ≡ Some n → names_in text t n ≡ ls
  added_names n e = elim_kept a e
    where
      elim_kept : {r : Option ℕ} → SpeltAddition text ls t r → r ≡ Some n → names_in text t n ≡ ls
      elim_kept (kept {n = u} k h) e = let q : u ≡ n = cc in subst (λ (v : ℕ). names_in text t v ≡ ls) q h
      elim_kept (full h) e = let z : ◌≡◌ {A = ℕ} 0 1 = cc in absurd (omega arith)

  pub added_full : r ≡ None → 256 < length ls
  added_full e = elim_full a e
    where
      elim_full : {r : Option ℕ} → SpeltAddition text ls t r → r ≡ None → 256 < length ls
      elim_full (kept k h) e = let z : ◌≡◌ {A = ℕ} 0 1 = cc in absurd (omega arith)
      elim_full (full h) e = h
