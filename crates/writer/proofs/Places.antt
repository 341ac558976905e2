-- Where the labels stand: the loop that notes the places, and the label of a state.
use Prim.Native.Nat.{ℕ, ◌+◌, ◌≤◌, ◌<◌}
use mathlib.Core.List.Memᴰ
use mathlib.Core.List.{List, []}
use mathlib.Core.Path.{◌≡◌, refl, sym, ◌∙◌, ap, ap₂, subst}
use native.Mathlib.Omega.{arith}
use borrow.Author.Rules.{rules}
use lib.ListN.{length, get_or, take, drop, set}
use lib.Seq.{length-sets}
use Rattle.labels.specs.Labels.{label_count, labels_fault, read_labels, Label, AllLabels, more}
use Rattle.labels.specs.inner.Places.{label_place}
use Rattle.labels.proofs.Labels.{count_read, length_read, labels_read}
use Rattle.labels.proofs.Places.{place_first}
use Rattle.labels.proofs.Reading.{seek_inside, seek_whole, seek_next, label_is}
use Rattle.lists.specs.Lists.{◌∈◌, tabulate}
use Rattle.lists.proofs.Members.{at_in}
use Rattle.lists.proofs.Parts.{table_next, table_at}
use Rattle.writer.specs.inner.Tables.{LabelPlaces, places_below}

-- the places of the first labels are noted
pub placed_none : (b old : List ℕ) → old ≡ places_below b old 0
unfolding tabulate places_below
placed_none b old = refl

module _ (b old p : List ℕ) (q : ℕ) (e : p ≡ places_below b old q) where
  pub placed_long : length p ≡ length old
  unfolding places_below
  placed_long = ap length e ∙ length-sets old 0 (tabulate q (label_place b))

  pub placed_more : (at : ℕ) → at ≡ label_place b q → set p q at ≡ places_below b old (q + 1)
  unfolding places_below
  placed_more at h = ap₂ (λ l x. set l q x) e h ∙ table_next old (label_place b) q

pub ruleset placing_laws = (place_first, seek_inside, seek_next, placed_none, placed_more, rules)

pub labels_placed : (b old p : List ℕ) (n : ℕ) → labels_fault n b ≡ 0 → n ≤ 256 → length old ≡ 256 → p ≡ places_below b old n → LabelPlaces b p
unfolding places_below
labels_placed b old p n ok g l e =
    let c : label_count b ≡ n = count_read n b ok in
    record {
      accepted = rw c ok;
      few = omega arith;
      long = placed_long b old p n e ∙ l;
      at = λ q h. ap (λ (x : List ℕ). get_or x q 0) e ∙ table_at old (label_place b) n q (omega arith) (omega arith);
    }

label_of : {ls : List (List ℕ)} {l : List ℕ} → AllLabels ls → l ∈ ls → Label l
label_of {l = l} Rattle.labels.specs.Labels.none x3 = elim x3 [ ]
label_of (more k a) (Memᴰ.head e) = subst Label (sym e) k
label_of (more k a) (Memᴰ.tail m) = label_of a m

-- the label of the state q
module _ (b p : List ℕ) (q : ℕ) (i : LabelPlaces b p) (h : q < label_count b) where
  pub place_room : q < length p
  place_room = omega (arith, i.few, i.long)

  pub label_whole : get_or p q 0 + 1 + get_or b (get_or p q 0) 0 ≤ length b
  label_whole = seek_whole b (label_count b) (get_or p q 0) q i.accepted (i.at q h) h

  pub label_found : (l : List ℕ) → l ≡ take (get_or b (get_or p q 0) 0) (drop (get_or p q 0 + 1) b) → l ≡ get_or (read_labels b) q []
  label_found l d = label_is b (label_count b) (get_or p q 0) q i.accepted (i.at q h) l h d

  pub label_short : length (get_or (read_labels b) q []) ≤ 64
  label_short = (label_of (labels_read (label_count b) b i.accepted) (at_in (read_labels b) q [] (omega (arith, length_read (label_count b) b i.accepted)))).short

pub ruleset label_laws = (place_room, label_whole, label_found, rules)
