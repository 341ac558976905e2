-- Laws of the label list that is written name by name.
use Prim.Native.Nat.{ℕ, ◌+◌, ◌≤◌, ◌<◌}
use mathlib.Core.List.{List}
use mathlib.Core.Path.{◌≡◌, subst}
use native.Mathlib.Nat.{le_antisymm}
use native.Mathlib.Numerals.{add-one}
use native.Mathlib.Omega.{arith}
use borrow.Author.Rules.{rules}
use lib.ListN.{length}
use Rattle.grammar.specs.Places.{spelled}
use Rattle.grammar.specs.inner.Places.{Spelt}
use Rattle.labels.specs.Labels.{entry, write_entries, count_bytes, write_labels, AllLabels}
use Rattle.labels.proofs.Listing.{list_none, list_next, list_length, list_room, list_done, labels_tabulate}
use Rattle.lists.specs.Lists.{tabulate}
use Rattle.stores.specs.Written.{Written}
use Rattle.lists.proofs.Lists.{tabulate_end}
use Rattle.name_table.proofs.Finding.{names_count}
use Rattle.parser.specs.inner.Names.{span_at, names_in, SpeltTable}
use Rattle.parser.proofs.Tables.{spelt_label}

-- no name is written
pub names_none : (text t m : List ℕ) (i : ℕ) → Written m i (write_entries (names_in text t 0)) m i
unfolding names_in tabulate
names_none text t m i = list_none m i

-- j of n names are written behind the count: l is the memory before, m after the count, o after the names
module _ (text t : List ℕ) (n : ℕ) (k : SpeltTable text t n) (j : ℕ) where
  pub name_there : j < n → Spelt text (span_at t j)
  name_there h = k.spelt j h

  pub name_low : j < n → j < 256
  name_low h = omega (arith, k.few)

  labels_in : j < n → AllLabels (names_in text t j)
  unfolding names_in
  labels_in h = labels_tabulate j _ (λ i l. spelt_label text (span_at t i) (k.spelt i (omega arith)))

  module _ (l m o : List ℕ) (i at : ℕ) (c : Written l 0 (count_bytes n) m i) (w : Written m i (write_entries (names_in text t j)) o at) where
    pub names_length : length o ≡ length l
    names_length = list_length l m o (names_in text t j) n i at c w

    pub names_room : 16642 ≤ length l → j < n → at + 65 ≤ length o
    names_room r h = list_room l m o (names_in text t j) n i at c w (labels_in h) (omega (arith, names_count text t j, k.few)) r

    pub names_next : (s : List ℕ) (r : ℕ) → Written o at (entry (spelled text (span_at t j))) s r → Written m i (write_entries (names_in text t (j + 1))) s r
    unfolding names_in
    names_next s r v = rw (add-one, tabulate_end j (λ i. spelled text (span_at t i))) (list_next m o s (spelled text (span_at t j)) _ i at r w v)

    pub names_done : n ≤ j → j ≤ n → Written l 0 (write_labels (names_in text t n)) o at
    names_done h g =
        let e : j ≡ n = le_antisymm g h in
        subst (λ (v : ℕ). Written l 0 (write_labels (names_in text t v)) o at) e (list_done l m o (names_in text t j) n i at c w (omega (arith, names_count text t j)))

pub count_small : (text t : List ℕ) (n : ℕ) → SpeltTable text t n → n < 65536
count_small text t n k = omega (arith, k.few)

pub count_room : (l : List ℕ) → 16642 ≤ length l → 2 ≤ length l
count_room l h = omega arith

pub ruleset label_laws = (names_none, name_there, name_low, names_length, names_room, names_next, names_done, count_small, count_room, rules)
