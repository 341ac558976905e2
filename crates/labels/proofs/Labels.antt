-- Reading and writing label lists are inverse, and what an accepted list has.
use Prim.Native.Nat.{ℕ, zero, suc, ◌+◌, ◌*◌, ◌/◌, ◌%◌, ◌≤◌}
use mathlib.Core.Bool.{true, false≢true}
use mathlib.Core.List.{List, [], ◌∷◌, ◌++◌}
use mathlib.Core.Path.{◌≡◌, refl, sym, ◌∙◌, ap, ap₂}
use native.Mathlib.Omega.{arith}
use lib.Dec.{leb, eqb}
use lib.ListN.{length, get_or, take, drop, length-append, length-drop, take-append-drop}
use lib.Seq.{length-take-le, take-append_seam, drop-append_seam}
use borrow.Author.Tests.{leb-true, eqb-true, le-leb, eq-eqb}
use Rattle.lists.proofs.Tests.{and_both, and_parts, cond_yes}
use Rattle.labels.specs.Labels.{write_entries, write_labels, label_count, read_entries, read_labels, entries_ok, labels_ok, labels_fault, AllLabels, none, more}
use Rattle.labels.specs.inner.Places.{LabelList}

-- what it says that the first of some entries is right
pub record First (l : ℕ) (b : List ℕ) (k : ℕ) : Type 0 where
  pub some : 1 ≤ l
  pub short : l ≤ 64
  pub whole : l ≤ length b
  pub rest : entries_ok k (drop l b) ≡ true

pub first : (k l : ℕ) (b : List ℕ) → entries_ok (suc k) (l ∷ b) ≡ true → First l b k
unfolding entries_ok
first k l b h =
    let p = and_parts (leb 1 l) _ h in
    let q = and_parts (leb l 64) _ p.1 in
    let r = and_parts (leb l (length b)) (entries_ok k (drop l b)) q.1 in
    record { some = leb-true 1 l p.0; short = leb-true l 64 q.0; whole = leb-true l (length b) r.0; rest = r.1 }

write_read_entries : (k : ℕ) (b : List ℕ) → entries_ok k b ≡ true → write_entries (read_entries k b) ≡ b
unfolding entries_ok read_entries write_entries
write_read_entries zero [] h = refl
write_read_entries zero (x ∷ b) h = absurd (false≢true h)
write_read_entries (suc k) [] h = absurd (false≢true h)
write_read_entries (suc k) (l ∷ b) h =
    let f = first k l b h in
    ap₂ ◌∷◌ (length-take-le l b f.whole) (ap (λ t. take l b ++ t) (write_read_entries k (drop l b) f.rest) ∙ take-append-drop l b)

length_read_entries : (k : ℕ) (b : List ℕ) → entries_ok k b ≡ true → length (read_entries k b) ≡ k
unfolding entries_ok read_entries
length_read_entries zero b h = refl
length_read_entries (suc k) [] h = absurd (false≢true h)
length_read_entries (suc k) (l ∷ b) h = ap suc (length_read_entries k (drop l b) (first k l b h).rest)

labels_read_entries : (k : ℕ) (b : List ℕ) → entries_ok k b ≡ true → AllLabels (read_entries k b)
unfolding entries_ok read_entries
labels_read_entries zero b h = none
labels_read_entries (suc k) [] h = absurd (false≢true h)
labels_read_entries (suc k) (l ∷ b) h =
    let f = first k l b h in
    more {l = take l b} (record { some = rw (length-take-le l b f.whole) f.some; short = rw (length-take-le l b f.whole) f.short }) (labels_read_entries k (drop l b) f.rest)

read_write_entries : (ls : List (List ℕ)) → read_entries (length ls) (write_entries ls) ≡ ls
unfolding read_entries write_entries
read_write_entries [] = refl
read_write_entries (l ∷ ls) = ap₂ ◌∷◌ (take-append_seam l (write_entries ls)) (ap (read_entries (length ls)) (drop-append_seam l (write_entries ls)) ∙ read_write_entries ls)

ok_write_entries : {ls : List (List ℕ)} → AllLabels ls → entries_ok (length ls) (write_entries ls) ≡ true
unfolding entries_ok write_entries
ok_write_entries none = refl
ok_write_entries (more {l} {ls} p q) =
    and_both _ _ (le-leb 1 (length l) p.some)
    (and_both _ _ (le-leb (length l) 64 p.short)
    (and_both _ _ (le-leb (length l) (length (l ++ write_entries ls)) (omega (arith, length-append l (write_entries ls))))
    (ap (entries_ok (length ls)) (drop-append_seam l (write_entries ls)) ∙ ok_write_entries q)))

-- the entries of a list of labels take at most 65 bytes each
pub size_entries : {ls : List (List ℕ)} → AllLabels ls → length (write_entries ls) ≤ 65 * length ls
unfolding write_entries
size_entries none = omega arith
size_entries (more {l} {ls} p q) = omega (arith, p.short, size_entries q, length-append l (write_entries ls))

-- what an accepted list says of its bytes
pub record Sound (n : ℕ) (b : List ℕ) : Type 0 where
  pub low : get_or b 0 0 ≡ n % 256
  pub high : get_or b 1 0 ≡ n / 256
  pub counted : 2 ≤ length b
  pub entries : entries_ok n (drop 2 b) ≡ true

pub sound : (n : ℕ) (b : List ℕ) → labels_fault n b ≡ 0 → Sound n b
unfolding labels_fault labels_ok
sound n b h =
    let o = (cond_yes (labels_ok n b) 9 0 h).0 in
    let p = and_parts (leb 2 (length b)) _ o in
    let q = and_parts (eqb (get_or b 0 0) (n % 256)) _ p.1 in
    let r = and_parts (eqb (get_or b 1 0) (n / 256)) (entries_ok n (drop 2 b)) q.1 in
    record {
      low = eqb-true (get_or b 0 0) (n % 256) q.0;
      high = eqb-true (get_or b 1 0) (n / 256) r.0;
      counted = leb-true 2 (length b) p.0;
      entries = r.1;
    }

count_two : (b : List ℕ) → 2 ≤ length b → b ≡ get_or b 0 0 ∷ get_or b 1 0 ∷ drop 2 b
count_two [] h = absurd (omega arith)
count_two (x ∷ []) h = absurd (omega arith)
count_two (x ∷ y ∷ b) h = refl

module _ (n : ℕ) (b : List ℕ) (h : labels_fault n b ≡ 0) where
  -- it announces n labels
  pub count_read : label_count b ≡ n
  count_read = omega (arith, (sound n b h).low, (sound n b h).high)

  -- it is an accepted list
  pub label_list : LabelList b
  label_list = record { accepted = rw count_read h }

  -- it has n labels
  pub length_read : length (read_labels b) ≡ n
  unfolding read_labels
  length_read = rw count_read (length_read_entries n (drop 2 b) (sound n b h).entries)

  -- what stands behind the count is its labels
  pub entries_read : write_entries (read_labels b) ≡ drop 2 b
  unfolding read_labels
  entries_read = rw count_read (write_read_entries n (drop 2 b) (sound n b h).entries)

  -- all of them are labels
  pub labels_read : AllLabels (read_labels b)
  unfolding read_labels
  labels_read = rw count_read (labels_read_entries n (drop 2 b) (sound n b h).entries)

  -- it has at most 65 bytes a label
  pub size_read : length b ≤ 2 + 65 * n
  size_read = omega (arith, size_entries labels_read, ap length entries_read, length-drop 2 b, length_read)

  -- written again it is the same list
  pub write_read : write_labels (read_labels b) ≡ b
  unfolding write_labels
  write_read = rw (length_read, entries_read, ← (sound n b h).low, ← (sound n b h).high) (sym (count_two b (sound n b h).counted))

-- what is written is read again
pub count_write : (ls : List (List ℕ)) → label_count (write_labels ls) ≡ length ls
unfolding write_labels
count_write ls = omega arith

pub read_write : (ls : List (List ℕ)) → read_labels (write_labels ls) ≡ ls
unfolding read_labels
read_write ls = ap (λ k. read_entries k (drop 2 (write_labels ls))) (count_write ls) ∙ unfold write_labels in read_write_entries ls

-- and accepted
pub fault_write : (ls : List (List ℕ)) → AllLabels ls → labels_fault (length ls) (write_labels ls) ≡ 0
unfolding labels_fault labels_ok write_labels
fault_write ls a = rw (le-leb 2 (length (write_labels ls)) (omega arith), eq-eqb (length ls % 256) (length ls % 256) refl, eq-eqb (length ls / 256) (length ls / 256) refl, ok_write_entries a)

-- 256 labels fit the output's fixed size
pub size_write : (ls : List (List ℕ)) → AllLabels ls → length ls ≤ 256 → length (write_labels ls) ≤ 16642
unfolding write_labels
size_write ls a h = omega (arith, size_entries a)
