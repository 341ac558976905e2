-- Where the labels of an accepted list stand.
use Prim.Native.Nat.{ℕ, zero, suc, ◌+◌, ◌-◌, ◌≤◌, ◌<◌}
use mathlib.Core.Bool.{Bool, true, false, false≢true}
use mathlib.Core.List.{List, [], ◌∷◌}
use mathlib.Core.Path.{◌≡◌, refl, sym, ◌∙◌, ap}
use native.Mathlib.Nat.{add-zero, add-sub_cancel_left}
use native.Mathlib.Numerals.{add-one}
use native.Mathlib.Omega.{arith}
use lib.Dec.{ltb}
use lib.ListN.{length, get_or, take, drop, length-drop, drop_of_length-le}
use lib.Seq.{drop-drop, get_or-drop}
use borrow.Author.Rules.{rules}
use borrow.Author.Tests.{ltb-true, ltb-false}
use Rattle.lists.proofs.Parts.{drop_at}
use Rattle.labels.specs.Labels.{label_count, read_entries, read_labels, entries_ok, labels_fault}
use Rattle.labels.specs.inner.Places.{LabelList, label_place}
use Rattle.labels.proofs.Labels.{first, sound, count_read}

-- what is known at a place where one label and then k more stand
record Here (b : List ℕ) (p k : ℕ) : Type 0 where
  inside : p < length b
  whole : p + 1 + get_or b p 0 ≤ length b
  rest : entries_ok k (drop (p + 1 + get_or b p 0) b) ≡ true
  read : read_entries (suc k) (drop p b) ≡ take (get_or b p 0) (drop (p + 1) b) ∷ read_entries k (drop (p + 1 + get_or b p 0) b)

inside_of : (k p : ℕ) (b : List ℕ) → entries_ok (suc k) (drop p b) ≡ true → p < length b
unfolding entries_ok
inside_of k p b h = go (ltb p (length b)) refl
  where
    go : (t : Bool) → ltb p (length b) ≡ t → p < length b
    go true e = ltb-true p (length b) e
    go false e = absurd (false≢true (sym (ap (entries_ok (suc k)) (drop_of_length-le b (ltb-false p (length b) e))) ∙ h))

here : (k p : ℕ) (b : List ℕ) → entries_ok (suc k) (drop p b) ≡ true → Here b p k
unfolding read_entries
here k p b h =
    let i : p < length b = inside_of k p b h in
    let f = first k (get_or b p 0) (drop (p + 1) b) (ap (entries_ok (suc k)) (sym (drop_at b p i)) ∙ h) in
    record {
      inside = i;
      whole = omega (arith, f.whole, length-drop (p + 1) b);
      rest = rw drop-drop at f.rest;
      read = ap (read_entries (suc k)) (drop_at b p i) ∙ rw drop-drop;
    }

-- the labels from label i on, of which there are k
record From (b : List ℕ) (i k : ℕ) : Type 0 where
  within : label_place b i ≤ length b
  ok : entries_ok k (drop (label_place b i) b) ≡ true
  read : drop i (read_labels b) ≡ read_entries k (drop (label_place b i) b)

from : (b : List ℕ) → LabelList b → (i k : ℕ) → label_count b ≡ i + k → From b i k
unfolding label_place read_labels
from b a zero k e = let c : label_count b ≡ k = omega arith in let s = sound (label_count b) b a.accepted in record { within = s.counted; ok = rw c at s.entries; read = ap (λ j. read_entries j (drop 2 b)) c }
from b a (suc i) k e =
    let f = from b a i (suc k) (omega arith) in
    let h = here k (label_place b i) b f.ok in
    record { within = h.whole; ok = h.rest; read = sym (ap (λ j. drop j (read_labels b)) (add-one i)) ∙ sym (drop-drop 1 i (read_labels b)) ∙ ap (drop 1) (f.read ∙ h.read) }

module _ (b : List ℕ) (i : ℕ) (a : LabelList b) (h : i < label_count b) where
  from_i : From b i (suc (label_count b - (i + 1)))
  from_i = from b a i (suc (label_count b - (i + 1))) (omega arith)

  from_here : Here b (label_place b i) (label_count b - (i + 1))
  from_here = here (label_count b - (i + 1)) (label_place b i) b from_i.ok

  -- the length of label i stands inside the list
  pub place_inside : label_place b i < length b
  place_inside = from_here.inside

  -- and so does the label
  pub place_whole : label_place b i + 1 + get_or b (label_place b i) 0 ≤ length b
  place_whole = from_here.whole

  -- what stands there is label i
  pub place_label : take (get_or b (label_place b i) 0) (drop (label_place b i + 1) b) ≡ get_or (read_labels b) i []
  place_label = sym (ap (λ j. get_or (read_labels b) j []) (sym (add-zero i)) ∙ sym (get_or-drop i (read_labels b) 0 []) ∙ ap (λ t. get_or t 0 []) (from_i.read ∙ from_here.read))

-- the first place
pub place_first : (b : List ℕ) → 2 ≡ label_place b 0
unfolding label_place
place_first b = refl

-- the next place
pub place_next : (b : List ℕ) (i : ℕ) → label_place b (i + 1) ≡ label_place b i + 1 + get_or b (label_place b i) 0
unfolding label_place
place_next b i = rw (add-one i)

-- the code that takes a label out of the list, whose length l was read
pub part_label : (b : List ℕ) (at l : ℕ) → l ≡ get_or b at 0 → take (at + 1 + l - (at + 1)) (drop (at + 1) b) ≡ take (get_or b at 0) (drop (at + 1) b)
part_label b at l e = rw (add-sub_cancel_left, e)

-- what stands at a place that was found
pub found_whole : (b : List ℕ) (i at : ℕ) → at ≡ label_place b i → LabelList b → i < label_count b → at + 1 + get_or b at 0 ≤ length b
found_whole b i at e a h = rw e (place_whole b i a h)

pub found_label : (b l : List ℕ) (i at : ℕ) → at ≡ label_place b i → LabelList b → i < label_count b → l ≡ take (get_or b at 0) (drop (at + 1) b) → l ≡ get_or (read_labels b) i []
found_label b l i at e a h d = d ∙ rw e (place_label b i a h)

pub ruleset place_laws = (part_label, rules)

-- for callers: what is known of the count, from the fault of b as the labels of n states
module _ (n : ℕ) (b : List ℕ) where
  pub within_count : (i : ℕ) → labels_fault n b ≡ 0 → i < n → i < label_count b
  within_count i h g = rw (count_read n b h) g

  pub few_count : labels_fault n b ≡ 0 → n ≤ 256 → label_count b ≤ 256
  few_count h g = rw (count_read n b h) g
