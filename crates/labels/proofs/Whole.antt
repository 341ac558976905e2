-- Laws of the whole lists that are written, in the shape of what those functions ask: the numbered labels, and an accepted list again.
use Prim.Native.Nat.{ℕ, ◌+◌, ◌-◌, ◌≤◌, ◌<◌}
use mathlib.Core.List.{List, [], ◌∷◌, ◌++◌}
use mathlib.Core.Path.{◌≡◌, sym, ◌∙◌, subst}
use native.Mathlib.Nat.{le_antisymm}
use native.Mathlib.Numerals.{add-one}
use native.Mathlib.Omega.{arith}
use lib.ListN.{length, take, drop, length-append, length-drop}
use borrow.Author.Rules.{rules}
use Rattle.lists.specs.Lists.{tabulate}
use Rattle.lists.proofs.Lists.{length_tabulate, tabulate_end}
use Rattle.lists.proofs.Parts.{part_all}
use Rattle.stores.specs.Written.{Written}
use Rattle.stores.proofs.Written.{written_length}
use Rattle.labels.specs.Labels.{entry, write_entries, count_bytes, write_labels, read_labels, label_count, labels_fault, AllLabels}
use Rattle.labels.specs.inner.Places.{LabelList}
use Rattle.labels.specs.Forms.{numbered_label, sink_label, numbered_labels}
use Rattle.labels.proofs.Labels.{sound, length_read, entries_read, labels_read, size_read, write_read}
use Rattle.labels.proofs.Listing.{list_none, list_next, list_length, list_room, list_done, labels_tabulate, label_numbered}

pub labels_numbered : (n : ℕ) → n ≤ 256 → AllLabels (numbered_labels n)
unfolding numbered_labels
labels_numbered n h = labels_tabulate n numbered_label (λ k l. label_numbered k (omega arith))

pub length_numbered : (n : ℕ) → length (numbered_labels n) ≡ n
unfolding numbered_labels
length_numbered n = length_tabulate n numbered_label

-- the numbered labels, of which k are written
pub numbered_none : (m : List ℕ) (i : ℕ) → Written m i (write_entries (numbered_labels 0)) m i
unfolding numbered_labels tabulate
numbered_none m i = list_none m i

pub numbered_next : (m o s : List ℕ) (k i at r : ℕ) → Written m i (write_entries (numbered_labels k)) o at
    → Written o at (entry (numbered_label k)) s r → Written m i (write_entries (numbered_labels (k + 1))) s r
unfolding numbered_labels
numbered_next m o s k i at r w v = rw (add-one, tabulate_end k numbered_label) (list_next m o s (numbered_label k) (numbered_labels k) i at r w v)

module _ (l m o : List ℕ) (n k i at : ℕ) (c : Written l 0 (count_bytes n) m i) (w : Written m i (write_entries (numbered_labels k)) o at) where
  pub numbered_length : length o ≡ length l
  numbered_length = list_length l m o (numbered_labels k) n i at c w

  pub numbered_room : 16642 ≤ length l → n ≤ 256 → k < n → at + 12 ≤ length o
  numbered_room r h g = omega (arith, list_room l m o (numbered_labels k) n i at c w (labels_numbered k (omega arith)) (rw (length_numbered k) (omega arith)) r)

  pub numbered_done : n ≤ k → k ≤ n → Written l 0 (write_labels (numbered_labels n)) o at
  numbered_done h g =
      let e : k ≡ n = le_antisymm g h in
      subst (λ j. Written l 0 (write_labels (numbered_labels j)) o at) e (list_done l m o (numbered_labels k) n i at c w (length_numbered k ∙ e))

pub ruleset numbered_laws = (numbered_none, numbered_next, numbered_length, numbered_room, numbered_done, rules)

-- an accepted list b of n labels behind another count, and `sink` behind it: l is the memory before, m after the count, o after the labels
module _ (n : ℕ) (b : List ℕ) (h : labels_fault n b ≡ 0) where
  pub list_counted : 2 ≤ length b
  list_counted = (sound n b h).counted

  module _ (l m : List ℕ) (k first : ℕ) (c : Written l 0 (count_bytes k) m first) where
    pub labels_room : 16642 ≤ length l → n < 256 → first + length (take (length b - 2) (drop 2 b)) ≤ length m
    labels_room r g = rw (part_all 2 b) (omega (arith, c.behind, written_length l m _ 0 first c, size_read n b h, length-drop 2 b))

    module _ (o : List ℕ) (behind : ℕ) (w : Written m first (take (length b - 2) (drop 2 b)) o behind) where
      labels_put : Written m first (write_entries (read_labels b)) o behind
      labels_put = rw (entries_read n b h) (rw (part_all 2 b) at w)

      pub sink_room : 16642 ≤ length l → n < 256 → behind + 5 ≤ length o
      sink_room r g = omega (arith, list_room l m o (read_labels b) k first behind c labels_put (labels_read n b h) (rw (length_read n b h) g) r)

      pub sink_put : (s : List ℕ) (r : ℕ) → k ≡ n + 1 → Written o behind (entry sink_label) s r → Written l 0 (write_labels (read_labels b ++ sink_label ∷ [])) s r
      sink_put s r e v =
          list_done l m s (read_labels b ++ sink_label ∷ []) k first r c (list_next m o s sink_label (read_labels b) first behind r labels_put v)
          (length-append (read_labels b) (sink_label ∷ []) ∙ rw (length_read n b h) (sym e))

pub ruleset sink_laws = (list_counted, labels_room, sink_room, sink_put, written_length, rules)

-- an accepted list again
module _ (b : List ℕ) (a : LabelList b) (l : List ℕ) where
  pub all_room : label_count b ≤ 256 → 16642 ≤ length l → 0 + length b ≤ length l
  all_room h r = omega (arith, size_read (label_count b) b a.accepted)

  pub all_put : (m : List ℕ) (r : ℕ) → Written l 0 b m r → Written l 0 (write_labels (read_labels b)) m r
  all_put m r w = rw (write_read (label_count b) b a.accepted) w

pub ruleset all_laws = (all_room, all_put, written_length, rules)
