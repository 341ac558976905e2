-- Writing the sheet and the labels of the product: the laws by which these functions are proved.
use Prim.Native.Nat.{ℕ, ◌+◌, ◌/◌, ◌%◌, ◌≤◌, ◌<◌}
use mathlib.Core.Bool.{cond}
use mathlib.Core.List.Memᴰ
use mathlib.Core.List.{List, [], ◌∷◌, ◌++◌, map, map-append}
use mathlib.Core.Path.{◌≡◌, refl, sym, ◌∙◌, ap, ap₂, subst}
use native.Mathlib.Nat.{le_antisymm}
use native.Mathlib.Omega.{arith}
use borrow.Author.Rules.{rules}
use lib.Dec.{eqb}
use lib.ListN.{get_or, length, take, drop, set, length-map, take-append-drop}
use lib.Seq.{take-take}
use Rattle.lists.specs.Lists.{◌∈◌}
use Rattle.stores.specs.Written.{Written}
use Rattle.lists.proofs.Parts.{take_more}
use Rattle.stores.proofs.Written.{written_none, written_append, written_more, written_length}
use Rattle.labels.specs.Labels.{entry, write_entries, count_bytes, write_labels, AllLabels, none, more}
use Rattle.labels.proofs.Listing.{list_none, list_next, list_length, list_room, list_done, label_pair}
use Rattle.sheets.specs.Sheet.{state_count, read}
use Rattle.sheets.proofs.Words.{accept_at}
use Rattle.automata.specs.Pairs.{Pair}
use Rattle.product.specs.Product.{pair_accept, pair_label_of}
use Rattle.product.specs.inner.Tables.{pair_of, table_of, PairsBelow, sheet_words}
use Rattle.product.proofs.Blocking.{within_left, within_right}
use Rattle.product.proofs.Queueing.{length_table}

-- one entry more
table_more : (words : List ℕ) (i : ℕ) → i < length words → table_of words (i + 1) ≡ table_of words i ++ pair_of (get_or words i 0) ∷ []
unfolding table_of
table_more words i h = ap (map pair_of) (take_more words i h) ∙ map-append pair_of (take i words) (get_or words i 0 ∷ [])

pub accept_pair : (a b : List ℕ) (c x : ℕ) → (pair_of c).left < state_count a → (pair_of c).right < state_count b → x ≡ cond (eqb (get_or b (c % 256 + 3) 0) 0) 0 (get_or a (c / 256 + 3) 0)
    → x ≡ pair_accept (read a) (read b) (pair_of c)
unfolding pair_accept
accept_pair a b c x h k e = e ∙ ap₂ (λ u v. cond (eqb u 0) 0 v) (accept_at b (c % 256) k) (accept_at a (c / 256) h)

-- the accept words of i pairs
pub words_begin : (a b words out : List ℕ) (at : ℕ) → Written out at (map (pair_accept (read a) (read b)) (table_of words 0)) out at
unfolding table_of
words_begin a b words out at = written_none out at

module _ (a b words : List ℕ) (n i : ℕ) (out₀ out : List ℕ) (at end : ℕ) (w : Written out₀ at (map (pair_accept (read a) (read b)) (table_of words i)) out end) (l : n ≤ length words) where
  pub words_next : i < n → (x : ℕ) → x ≡ pair_accept (read a) (read b) (pair_of (get_or words i 0)) → Written out₀ at (map (pair_accept (read a) (read b)) (table_of words (i + 1))) (set out end x) (end + 1)
  words_next h x e =
      let m : map (pair_accept (read a) (read b)) (table_of words (i + 1)) ≡ map (pair_accept (read a) (read b)) (table_of words i) ++ x ∷ [] =
      ap (map (pair_accept (read a) (read b))) (table_more words i (omega arith)) ∙ map-append (pair_accept (read a) (read b)) (table_of words i) _
      ∙ ap (λ y. map (pair_accept (read a) (read b)) (table_of words i) ++ y ∷ []) (sym e) in
      rw m (written_more out₀ out _ at end x w)

  pub words_ended : n ≤ i → i ≤ n → Written out₀ at (map (pair_accept (read a) (read b)) (table_of words n)) out end
  words_ended h k = subst (λ j. Written out₀ at (map (pair_accept (read a) (read b)) (table_of words j)) out end) (le_antisymm k h) w

pub ruleset words_laws = (words_begin, words_next, words_ended, within_left, within_right, written_length, rules)

-- the sections of the sheet, one behind the other
module _ (a b words : List ℕ) (n : ℕ) (l : n ≤ length words) (out m : List ℕ) (states : ℕ) (p : Written out 0 (1 ∷ 0 ∷ n ∷ []) m states) where
  module _ (o : List ℕ) (counts : ℕ) (q : Written m states (map (pair_accept (read a) (read b)) (table_of words n)) o counts) where
    place : counts ≡ 3 + n
    place = omega (arith, p.behind, q.behind, length-map (table_of words n) (pair_accept (read a) (read b)), length_table words n l)

    long : length o ≡ length out
    long = written_length m o _ states counts q ∙ written_length out m _ 0 states p

    pub sheet_count : n ≤ 256 → 10500 ≤ length out → counts < length o
    sheet_count f r = omega (arith, place, long)

    module _ (x : ℕ) (s : List ℕ) (first : ℕ) (v : Written o counts (x ∷ []) s first) where
      pub sheet_records : n ≤ 256 → 10500 ≤ length out → (records : List ℕ) → length records ≤ 10240 → first + length records ≤ length s
      sheet_records f r records h = omega (arith, place, long, v.behind, written_length o s _ counts first v)

      pub sheet_done : (records t : List ℕ) (end : ℕ) → x ≡ length records / 5 → Written s first records t end
          → Written out 0 (sheet_words (map (pair_accept (read a) (read b)) (table_of words n)) n records) t end
      sheet_done records t end e u =
          rw (← e)
          (written_append out m t _ _ 0 states end p (written_append m o t _ _ states counts end q (written_append o s t _ _ counts first end v u)))

-- the labels of i pairs
pub labels_all : (T : List Pair) → PairsBelow 256 256 T → AllLabels (map pair_label_of T)
labels_all [] w = none
labels_all (p ∷ T) w =
    let h = w.states p (Memᴰ.head refl) in
    more (label_pair p.left p.right (omega (arith, h.0)) (omega (arith, h.1))) (labels_all T (record { states = λ q m. w.states q (Memᴰ.tail m) }))

within_front : (words : List ℕ) (n i : ℕ) → n ≤ length words → i ≤ n → PairsBelow 256 256 (table_of words n) → PairsBelow 256 256 (table_of words i)
unfolding table_of
within_front words n i l h w = record { states = λ p m. w.states p (front m) }
  where
    cut : take n words ≡ take i words ++ drop i (take n words)
    cut = sym (take-append-drop i (take n words)) ∙ ap (λ x. x ++ drop i (take n words)) (take-take i n words h)

    front : {p : Pair} → p ∈ map pair_of (take i words) → p ∈ map pair_of (take n words)
    front {p} m = subst (λ (x : List Pair). p ∈ x) (sym (ap (map pair_of) cut ∙ map-append pair_of (take i words) (drop i (take n words)))) (Memᴰ.append_left (map pair_of (drop i (take n words))) m)

pub labels_begin : (words m : List ℕ) (at : ℕ) → Written m at (write_entries (map pair_label_of (table_of words 0))) m at
unfolding table_of
labels_begin words m at = list_none m at

module _ (words : List ℕ) (n i : ℕ) (names m o : List ℕ) (first at : ℕ) (l : n ≤ length words) (c : Written names 0 (count_bytes n) m first)
    (w : Written m first (write_entries (map pair_label_of (table_of words i))) o at) where
  count : i ≤ n → length (map pair_label_of (table_of words i)) ≡ i
  count h = length-map (table_of words i) pair_label_of ∙ length_table words i (omega arith)

  pub labels_room : i < n → n ≤ 256 → 16642 ≤ length names → PairsBelow 256 256 (table_of words n) → at + 25 ≤ length o
  labels_room h f r v =
      omega (arith, list_room names m o (map pair_label_of (table_of words i)) n first at c w (labels_all (table_of words i) (within_front words n i l (omega arith) v)) (rw (count (omega arith)) (omega arith)) r)

  pub labels_next : i < n → (s : List ℕ) (r : ℕ) → Written o at (entry (pair_label_of (pair_of (get_or words i 0)))) s r → Written m first (write_entries (map pair_label_of (table_of words (i + 1)))) s r
  labels_next h s r v =
      rw (table_more words i (omega arith), map-append pair_label_of (table_of words i) (pair_of (get_or words i 0) ∷ [])) (list_next m o s (pair_label_of (pair_of (get_or words i 0))) (map pair_label_of (table_of words i)) first at r w v)

  pub labels_ended : n ≤ i → i ≤ n → Written names 0 (write_labels (map pair_label_of (table_of words n))) o at
  labels_ended h k =
      let e : i ≡ n = le_antisymm k h in
      subst (λ j. Written names 0 (write_labels (map pair_label_of (table_of words j))) o at) e (list_done names m o (map pair_label_of (table_of words i)) n first at c w (count k ∙ e))

pub ruleset labels_laws = (labels_begin, labels_room, labels_next, labels_ended, list_length, rules)
