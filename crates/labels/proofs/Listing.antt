-- Laws of lists that are written label by label: the count first, then each label behind those before it.
use Prim.Native.Nat.{ℕ, zero, suc, ◌+◌, ◌^◌, ◌≤◌, ◌<◌}
use mathlib.Core.List.{List, [], ◌∷◌, ◌++◌, append_assoc, append-nil}
use mathlib.Core.Path.{◌≡◌, refl, sym, ◌∙◌, ap}
use native.Mathlib.Omega.{arith}
use lib.ListN.{length, length-append}
use Rattle.lists.specs.Lists.{tabulate}
use Rattle.decimal.specs.Decimal.{digits}
use Rattle.stores.specs.Written.{Written}
use Rattle.decimal.proofs.Decimal.{length_word}
use Rattle.stores.proofs.Written.{written_none, written_append, written_length}
use Rattle.labels.specs.Labels.{entry, write_entries, count_bytes, write_labels, Label, AllLabels, none, more}
use Rattle.labels.specs.Forms.{numbered_label, pair_label}
use Rattle.labels.proofs.Labels.{size_entries}

-- labels behind others
entries_append : (ls ms : List (List ℕ)) → write_entries (ls ++ ms) ≡ write_entries ls ++ write_entries ms
unfolding write_entries
entries_append [] ms = refl
entries_append (l ∷ ls) ms = ap (λ t. entry l ++ t) (entries_append ls ms) ∙ sym (append_assoc (entry l) (write_entries ls) (write_entries ms))

-- one label behind others
pub entries_more : (ls : List (List ℕ)) (l : List ℕ) → write_entries (ls ++ l ∷ []) ≡ write_entries ls ++ entry l
unfolding write_entries
entries_more ls l = entries_append ls (l ∷ []) ∙ ap (λ t. write_entries ls ++ t) (append-nil (entry l))

-- no label behind the count
pub list_none : (m : List ℕ) (i : ℕ) → Written m i (write_entries []) m i
unfolding write_entries
list_none m i = written_none m i

-- the label x behind the labels ls
pub list_next : (m o s x : List ℕ) (ls : List (List ℕ)) (i at r : ℕ) → Written m i (write_entries ls) o at → Written o at (entry x) s r → Written m i (write_entries (ls ++ x ∷ [])) s r
list_next m o s x ls i at r w v = rw (entries_more ls x) (written_append m o s (write_entries ls) (entry x) i at r w v)

-- the labels ls behind the count n: l is the memory before, m after the count, o after the labels
module _ (l m o : List ℕ) (ls : List (List ℕ)) (n i at : ℕ) (c : Written l 0 (count_bytes n) m i) (w : Written m i (write_entries ls) o at) where
  pub list_length : length o ≡ length l
  list_length = written_length m o _ i at w ∙ written_length l m _ 0 i c

  -- there is room for one more, up to 256
  pub list_room : AllLabels ls → length ls < 256 → 16642 ≤ length l → at + 65 ≤ length o
  list_room a h r = omega (arith, c.behind, w.behind, list_length, size_entries a)

  -- with as many as the count says the list is written
  pub list_done : length ls ≡ n → Written l 0 (write_labels ls) o at
  unfolding write_labels
  list_done e = rw e (written_append l m o (count_bytes n) (write_entries ls) 0 i at c w)

-- lists of labels
pub labels_append : {ls ms : List (List ℕ)} → AllLabels ls → AllLabels ms → AllLabels (ls ++ ms)
labels_append none q = q
labels_append (more h p) q = more h (labels_append p q)

pub labels_tabulate : (n : ℕ) (g : ℕ → List ℕ) → ((k : ℕ) → k < n → Label (g k)) → AllLabels (tabulate n g)
unfolding tabulate
labels_tabulate zero g h = none
labels_tabulate (suc n) g h = more (h 0 (omega arith)) (labels_tabulate n (λ k. g (suc k)) (λ k l. h (suc k) (omega arith)))

-- what operations make are labels
pub label_numbered : (k : ℕ) → k < 2 ^ 32 → Label (numbered_label k)
label_numbered k h = record { some = omega arith; short = omega (arith, length_word k h) }

pub label_pair : (p q : ℕ) → p < 2 ^ 32 → q < 2 ^ 32 → Label (pair_label p q)
label_pair p q h g =
    let n : length (pair_label p q) ≡ length (digits p) + length (digits q) + 4 = simp length-append (omega arith) in
    record { some = omega arith; short = omega (arith, length_word p h, length_word q g) }
