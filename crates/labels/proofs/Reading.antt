-- A loop over the labels of a list, from its first place on.
use Prim.Native.Nat.{ℕ, ◌+◌, ◌≤◌, ◌<◌}
use mathlib.Core.List.{List, []}
use mathlib.Core.Path.{◌≡◌, sym, ◌∙◌}
use lib.ListN.{length, get_or, take, drop}
use Rattle.labels.specs.Labels.{labels_fault, read_labels}
use Rattle.labels.specs.inner.Places.{label_place}
use Rattle.labels.proofs.Labels.{label_list}
use Rattle.labels.proofs.Places.{place_next, place_inside, found_whole, found_label, within_count}

-- a place in the list b of n labels, behind k of them
module _ (b : List ℕ) (n at k : ℕ) (ok : labels_fault n b ≡ 0) (e : at ≡ label_place b k) where
  pub seek_inside : k < n → at < length b
  seek_inside h = rw e (place_inside b k (label_list n b ok) (within_count n b k ok h))

  pub seek_whole : k < n → at + 1 + get_or b at 0 ≤ length b
  seek_whole h = found_whole b k at e (label_list n b ok) (within_count n b k ok h)

  pub seek_next : (r : ℕ) → r ≡ at + 1 + get_or b at 0 → r ≡ label_place b (k + 1)
  seek_next r d = d ∙ rw e (sym (place_next b k))

  pub label_is : (l : List ℕ) → k < n → l ≡ take (get_or b at 0) (drop (at + 1) b) → l ≡ get_or (read_labels b) k []
  label_is l h d = found_label b l k at e (label_list n b ok) (within_count n b k ok h) d
