-- Label lists of document 01: the count of labels in two bytes, low first, then each label after its one-byte length.
use Rattle.std.specs.Prelude.{ℕ, zero, suc, ◌+◌, ◌*◌, ◌/◌, ◌%◌, ◌≤◌, Bool, true, false, cond, ◌&&◌, List, [], ◌∷◌, ◌++◌, leb, eqb, length, get_or, take, drop}
unfoldable pub use Rattle.lists.specs.Index.{same as same_label}

-- a label after its length
abbrev pub entry : List ℕ → List ℕ
entry l = length l ∷ l

unfoldable pub write_entries : List (List ℕ) → List ℕ
write_entries [] = []
write_entries (l ∷ ls) = entry l ++ write_entries ls

-- a count in two bytes, low first
abbrev pub count_bytes : ℕ → List ℕ
count_bytes n = n % 256 ∷ n / 256 ∷ []

-- the list of these labels, which has its form for at most 65,535 of them
unfoldable pub write_labels : List (List ℕ) → List ℕ
write_labels ls = count_bytes (length ls) ++ write_entries ls

-- the count that a list announces
abbrev pub label_count : List ℕ → ℕ
label_count b = get_or b 0 0 + 256 * get_or b 1 0

-- the next k labels
unfoldable pub read_entries : ℕ → List ℕ → List (List ℕ)
read_entries zero b = []
read_entries (suc k) [] = []
read_entries (suc k) (l ∷ b) = take l b ∷ read_entries k (drop l b)

-- the labels of a list
unfoldable pub read_labels : List ℕ → List (List ℕ)
read_labels b = read_entries (label_count b) (drop 2 b)

-- k labels stand here, each after its length of 1 to 64, and nothing behind them
unfoldable pub entries_ok : ℕ → List ℕ → Bool
entries_ok zero [] = true
entries_ok zero (x ∷ b) = false
entries_ok (suc k) [] = false
entries_ok (suc k) (l ∷ b) = leb 1 l && (leb l 64 && (leb l (length b) && entries_ok k (drop l b)))

-- the list begins with the count n, and n labels follow
unfoldable pub labels_ok : ℕ → List ℕ → Bool
labels_ok n b = leb 2 (length b) && (eqb (get_or b 0 0) (n % 256) && (eqb (get_or b 1 0) (n / 256) && entries_ok n (drop 2 b)))

-- the fault of the bytes b as the labels of n states: every fault is 10
unfoldable pub labels_fault : ℕ → List ℕ → ℕ
labels_fault n b = cond (labels_ok n b) 0 10

-- bytes that can be a label
pub record Label (l : List ℕ) : Type 0 where
  pub some : 1 ≤ length l
  pub short : length l ≤ 64

-- each is a label
pub data AllLabels : List (List ℕ) → Type 0 where
  none : AllLabels []
  more : {l : List ℕ} {ls : List (List ℕ)} → Label l → AllLabels ls → AllLabels (l ∷ ls)
