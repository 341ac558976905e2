-- Examples of label lists, which antt computes.
use Prim.Native.Nat.{ℕ}
use mathlib.Core.List.{List, [], ◌∷◌, ◌++◌}
use mathlib.Core.Path.{◌≡◌, refl}
use lib.ListN.{replicate}
use Rattle.lists.specs.Lists.{tabulate}
use Rattle.decimal.specs.Decimal.{digits, last_digits}
use Rattle.labels.specs.Labels.{write_labels, write_entries, read_labels, read_entries, labels_fault, labels_ok, entries_ok}
use Rattle.labels.specs.Forms.{numbered_labels, pair_label}

-- D0 and D1
numbered_two : write_labels (numbered_labels 2) ≡ 2 ∷ 0 ∷ 2 ∷ 68 ∷ 48 ∷ 2 ∷ 68 ∷ 49 ∷ []
unfolding write_labels write_entries numbered_labels tabulate digits last_digits
numbered_two = refl

-- (0, 1)
pair : pair_label 0 1 ≡ 40 ∷ 48 ∷ 44 ∷ 32 ∷ 49 ∷ 41 ∷ []
unfolding digits last_digits
pair = refl

-- p and q
two : List ℕ
two = 2 ∷ 0 ∷ 1 ∷ 112 ∷ 1 ∷ 113 ∷ []

two_accepted : labels_fault 2 two ≡ 0
unfolding two labels_fault labels_ok entries_ok
two_accepted = refl

two_read : read_labels two ≡ (112 ∷ []) ∷ (113 ∷ []) ∷ []
unfolding two read_labels read_entries
two_read = refl

-- another count, a byte left over, a byte missing, a length of 0, and one of 65
wrong_count : labels_fault 3 two ≡ 10
unfolding two labels_fault labels_ok entries_ok
wrong_count = refl

left_over : labels_fault 2 (two ++ 0 ∷ []) ≡ 10
unfolding two labels_fault labels_ok entries_ok
left_over = refl

missing : labels_fault 1 (1 ∷ 0 ∷ 2 ∷ 112 ∷ []) ≡ 10
unfolding labels_fault labels_ok entries_ok
missing = refl

length_0 : labels_fault 1 (1 ∷ 0 ∷ 0 ∷ []) ≡ 10
unfolding labels_fault labels_ok entries_ok
length_0 = refl

length_65 : labels_fault 1 (1 ∷ 0 ∷ 65 ∷ replicate 65 112) ≡ 10
unfolding labels_fault labels_ok entries_ok
length_65 = refl

length_64 : labels_fault 1 (1 ∷ 0 ∷ 64 ∷ replicate 64 112) ≡ 0
unfolding labels_fault labels_ok entries_ok
length_64 = refl
