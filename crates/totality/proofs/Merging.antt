-- Merging the records of a state with its holes: what stands before each hole, and the laws by which the code is proved.
use Prim.Native.Nat.{ℕ, zero, suc, ◌+◌, ◌-◌, ◌*◌, ◌/◌, ◌≤◌, ◌<◌}
use mathlib.Core.Bool.{Bool, true, false, cond}
use mathlib.Core.List.Memᴰ
use mathlib.Core.List.{List, [], ◌∷◌, ◌++◌, map, append-nil}
use mathlib.Core.Logic.{⊎_elim}
use mathlib.Core.Path.{◌≡◌, refl, sym, ◌∙◌, ap, subst}
use native.Mathlib.Omega.{arith}
use Rattle.std.specs.List.{prefix_len}
use Rattle.std.specs.Simd.{first_chunks}
use Rattle.std.proofs.lemmas.List.{drop_more, drop_all}
use borrow.Author.Rules.{rules}
use borrow.Author.Tests.{leb-true, leb-false}
use lib.Dec.{leb}
use lib.ListN.{length, get_or, take, drop, length-drop}
use lib.Seq.{drop-drop, length-take-le}
use Rattle.lists.specs.Lists.{◌∈◌, more}
use Rattle.stores.specs.Written.{Written}
use Rattle.lists.proofs.Parts.{part_all}
use Rattle.automata.specs.Automaton.{Transition}
use Rattle.automata.specs.Ordered.{in_order}
use Rattle.automata.specs.Records.{read_records, write_records}
use Rattle.automata.specs.WellFormed.{Before}
use Rattle.automata.proofs.Ordered.{lex_trans, in_order_in, in_order_out, in_order_ascending, ascending_unique, in_order_same}
use Rattle.automata.specs.inner.Chunks.{records_of}
use Rattle.automata.proofs.Chunks.{records_are}
use Rattle.automata.proofs.Records.{read_drop, read_take, write_read, write_append}
use Rattle.ranges.specs.Span.{Span}
use Rattle.totality.specs.Totality.{hole_to}
use Rattle.totality.specs.inner.Merging.{read_spans, leading, Mergeable, merged, WholeRecords}
use Rattle.stores.proofs.Left.{Left, left_start, left_done, left_room, left_next}
use Rattle.lists.proofs.Members.{ascending_first, ascending_rest}

-- the records before a hole that begins at `first` are those of the front whose firsts are at most that
leading_front : (first : ℕ) (rs : List (List ℕ)) → prefix_len (λ r. leb (get_or r 2 0) first) rs ≡ leading first (records_of rs)
unfolding leading records_of
leading_front first [] = refl
leading_front first (r ∷ rs) =
    let z : 1 + prefix_len (λ r. leb (get_or r 2 0) first) rs ≡ suc (leading first (records_of rs)) = omega (arith, leading_front first rs) in
    ap (λ (n : ℕ). cond (leb (get_or r 2 0) first) n 0) z

leading_few : (first : ℕ) (es : List Transition) → leading first es ≤ length es
unfolding leading
leading_few first [] = omega arith
leading_few first (e ∷ es) = go (leb e.first first) (leading_few first es)
  where
    go : (b : Bool) → leading first es ≤ length es → cond b (suc (leading first es)) 0 ≤ suc (length es)
    go true h = omega arith
    go false h = omega arith

records_few : (s : List ℕ) → 5 * length (read_records s) ≤ length s
unfolding read_records
records_few [] = omega arith
records_few (a ∷ []) = omega arith
records_few (a ∷ b ∷ []) = omega arith
records_few (a ∷ b ∷ c ∷ []) = omega arith
records_few (a ∷ b ∷ c ∷ d ∷ []) = omega arith
records_few (a ∷ b ∷ c ∷ d ∷ e ∷ s) = let h = records_few s in omega arith

module _ (run : List ℕ) (i first : ℕ) (rs : List (List ℕ)) (e : rs ≡ first_chunks 5 (length (take (length run - i) (drop i run)) / 5) (take (length run - i) (drop i run)))
    (n : ℕ) (m : n ≡ prefix_len (λ r. leb (get_or r 2 0) first) rs) where
  pub leading_count : n ≡ leading first (read_records (drop i run))
  leading_count = m ∙ leading_front first rs ∙ ap (leading first) (records_are _ rs e ∙ ap read_records (part_all i run))

  pub leading_within : 5 * n ≤ length run - i
  leading_within =
      let es = read_records (drop i run) in
      omega (arith, leading_count, leading_few first es, records_few (drop i run), length-drop i run)

-- a transition before all others comes first
in_order_first : (x : Transition) (ds es : List Transition) → ((y : Transition) → y ∈ (ds ++ es) → Before x y) → in_order (ds ++ x ∷ es) ≡ x ∷ in_order (ds ++ es)
in_order_first x ds es f =
    ascending_unique _ _ (in_order_ascending (ds ++ x ∷ es)) (more (λ y m. f y (in_order_out y (ds ++ es) m)) (in_order_ascending (ds ++ es)))
    (λ y. (
      λ m.
          ⊎_elim (λ k. Memᴰ.tail (in_order_in (Memᴰ.append_left es k)))
          (λ k. ⊎_elim (λ q. Memᴰ.head q) (λ k. Memᴰ.tail (in_order_in (Memᴰ.append_right ds k))) (Memᴰ.cases_cons k))
          (Memᴰ.append_cases ds (in_order_out y (ds ++ x ∷ es) m)),
      λ m.
          in_order_in
          (⊎_elim (λ q. Memᴰ.append_right ds (Memᴰ.head q))
          (λ k. ⊎_elim (λ k. Memᴰ.append_left (x ∷ es) k) (λ k. Memᴰ.append_right ds (Memᴰ.tail k)) (Memᴰ.append_cases ds (in_order_out y (ds ++ es) k)))
          (Memᴰ.cases_cons m)),
    ))

module _ (sink q : ℕ) where
  less_records : {e : Transition} {es : List Transition} {hs : List Span} → Mergeable sink q (e ∷ es) hs → Mergeable sink q es hs
  less_records m =
      record {
        records = ascending_rest m.records;
        holes = m.holes;
        later = λ e h i j. m.later e h (Memᴰ.tail i) j;
        sooner = λ e h i j. m.sooner e h (Memᴰ.tail i) j;
      }

  pub less_holes : {es : List Transition} {h : Span} {hs : List Span} → Mergeable sink q es (h ∷ hs) → Mergeable sink q es hs
  less_holes m =
      record {
        records = m.records;
        holes = ascending_rest m.holes;
        later = λ e h i j. m.later e h i (Memᴰ.tail j);
        sooner = λ e h i j. m.sooner e h i (Memᴰ.tail j);
      }

  pub drop_records : (k : ℕ) (es : List Transition) {hs : List Span} → Mergeable sink q es hs → Mergeable sink q (drop k es) hs
  drop_records zero es m = m
  drop_records (suc k) [] m = m
  drop_records (suc k) (e ∷ es) m = drop_records k es (less_records m)

  -- the transitions before a hole, the hole, and what is left of both
  pub merge_hole : (es : List Transition) (h : Span) (hs : List Span) → Mergeable sink q es (h ∷ hs)
      → in_order (es ++ map (hole_to sink q) (h ∷ hs)) ≡ take (leading h.first es) es ++ hole_to sink q h ∷ in_order (drop (leading h.first es) es ++ map (hole_to sink q) hs)
  unfolding leading
  merge_hole [] h hs m = in_order_first (hole_to sink q h) [] (map (hole_to sink q) hs) (ascending_first m.holes)
  merge_hole (e ∷ es) h hs m = go (leb e.first h.first) refl (merge_hole es h hs (less_records m))
    where
      before : Before e (hole_to sink q h) → (y : Transition) → y ∈ (es ++ (hole_to sink q h) ∷ map (hole_to sink q) hs) → Before e y
      before l y k =
          ⊎_elim (λ i. ascending_first m.records y i)
          (λ i. ⊎_elim (λ (c : y ≡ hole_to sink q h). subst (Before e) (sym c) l) (λ n. lex_trans l (ascending_first m.holes y n)) (Memᴰ.cases_cons i))
          (Memᴰ.append_cases es k)

      behind : Before (hole_to sink q h) e → (y : Transition) → y ∈ ((e ∷ es) ++ map (hole_to sink q) hs) → Before (hole_to sink q h) y
      behind l y k =
          ⊎_elim (λ i. ⊎_elim (λ (c : y ≡ e). subst (Before (hole_to sink q h)) (sym c) l) (λ n. lex_trans l (ascending_first m.records y n)) (Memᴰ.cases_cons i))
          (λ i. ascending_first m.holes y i)
          (Memᴰ.append_cases (e ∷ es) k)

      go : (b : Bool) → leb e.first h.first ≡ b
          → in_order (es ++ map (hole_to sink q) (h ∷ hs)) ≡ take (leading h.first es) es ++ hole_to sink q h ∷ in_order (drop (leading h.first es) es ++ map (hole_to sink q) hs)
          → in_order ((e ∷ es) ++ map (hole_to sink q) (h ∷ hs)) ≡ take (cond b (suc (leading h.first es)) 0) (e ∷ es) ++ hole_to sink q h ∷ in_order (drop (cond b (suc (leading h.first es)) 0) (e ∷ es) ++ map (hole_to sink q) hs)
      go true c ih = in_order_first e [] (es ++ map (hole_to sink q) (h ∷ hs)) (before (m.sooner e h (Memᴰ.head refl) (Memᴰ.head refl) (leb-true _ _ c))) ∙ ap (λ l. e ∷ l) ih
      go false c ih = in_order_first (hole_to sink q h) (e ∷ es) (map (hole_to sink q) hs) (behind (m.later e h (Memᴰ.head refl) (Memᴰ.head refl) (leb-false _ _ c)))

-- the spans of pairs of words
unfoldable pub spans_of : List (List ℕ) → List Span
spans_of [] = []
spans_of (h ∷ hs) = record { first = get_or h 0 0; last = get_or h 1 0 } ∷ spans_of hs

spans_chunks : (n : ℕ) (ws : List ℕ) → n ≡ length ws / 2 → spans_of (first_chunks 2 n ws) ≡ read_spans ws
unfolding spans_of read_spans
spans_chunks zero [] h = refl
spans_chunks zero (a ∷ []) h = refl
spans_chunks zero (a ∷ b ∷ ws) h = absurd (omega arith)
spans_chunks (suc n) [] h = absurd (omega arith)
spans_chunks (suc n) (a ∷ []) h = absurd (omega arith)
spans_chunks (suc n) (a ∷ b ∷ ws) h = ap (λ (l : List Span). record { first = a; last = b } ∷ l) (spans_chunks n ws (omega arith))

spans_are : (holes : List ℕ) (hs : List (List ℕ)) → hs ≡ first_chunks 2 (length holes / 2) holes → spans_of hs ≡ read_spans holes
spans_are holes hs e = ap spans_of e ∙ spans_chunks (length holes / 2) holes refl

spans_next : (hs : List (List ℕ)) (j : ℕ) → j < length hs → spans_of (drop j hs) ≡ record { first = get_or (get_or hs j []) 0 0; last = get_or (get_or hs j []) 1 0 } ∷ spans_of (drop (j + 1) hs)
unfolding spans_of
spans_next hs j h = rw (drop_more hs j [] h)

spans_done : (hs : List (List ℕ)) (j : ℕ) → length hs ≤ j → spans_of (drop j hs) ≡ []
unfolding spans_of
spans_done hs j h = rw (drop_all j hs h)

-- the records of a run and spans of holes, in order
unfoldable pub merging : ℕ → ℕ → List ℕ → List Span → List Transition
merging sink q run hs = in_order (read_records run ++ map (hole_to sink q) hs)

pub merging_begins : (sink q : ℕ) (run holes : List ℕ) (hs : List (List ℕ)) → hs ≡ first_chunks 2 (length holes / 2) holes → merged sink q run holes ≡ merging sink q run (spans_of hs)
unfolding merged merging
merging_begins sink q run holes hs e = rw (spans_are holes hs e)

pub mergeable_begins : (sink q : ℕ) (es : List Transition) (holes : List ℕ) (hs : List (List ℕ)) → hs ≡ first_chunks 2 (length holes / 2) holes → Mergeable sink q es (read_spans holes) → Mergeable sink q es (spans_of hs)
mergeable_begins sink q es holes hs e m = rw (spans_are holes hs e) m

pub left_begins : (sink q : ℕ) (run holes : List ℕ) (hs : List (List ℕ)) (o : List ℕ) (at : ℕ) → hs ≡ first_chunks 2 (length holes / 2) holes
    → Left o at (write_records (merged sink q run holes)) o at (write_records (merging sink q run (spans_of hs)))
left_begins sink q run holes hs o at e = rw (merging_begins sink q run holes hs e) (left_start o at (write_records (merging sink q run (spans_of hs))))

-- the words of the first k records
front_words_lem : (k : ℕ) (s : List ℕ) → 5 * k ≤ length s → take (5 * k) s ≡ write_records (take k (read_records s))
front_words_lem k s h = sym (write_read k (take (5 * k) s) (length-take-le (5 * k) s h)) ∙ ap write_records (read_take k s)

-- a state's records from i on and its holes from j on are left to write
module _ (sink q : ℕ) (run : List ℕ) (hs : List (List ℕ)) (i j : ℕ) (w : WholeRecords (drop i run)) (m : Mergeable sink q (read_records (drop i run)) (spans_of (drop j hs))) where
  -- no hole is left
  module _ (h : length hs ≤ j) where
    merged_end : write_records (merging sink q (drop i run) (spans_of (drop j hs))) ≡ take (length run - i) (drop i run) ++ []
    unfolding merging
    merged_end =
        let es = read_records (drop i run) in
        rw (spans_done hs j h, append-nil es, in_order_same es m.records, write_read (length es) (drop i run) w, part_all i run, append-nil (drop i run))

  -- k is the place behind the records before the next hole
  module _ (h : j < length hs) (k : ℕ) (e : k ≡ i + 5 * leading (get_or (get_or hs j []) 0 0) (read_records (drop i run))) (f : k ≤ length run) where
    n : ℕ
    n = leading (get_or (get_or hs j []) 0 0) (read_records (drop i run))

    rest_records : read_records (drop k run) ≡ drop n (read_records (drop i run))
    unfolding n
    rest_records = rw e (ap read_records (sym (drop-drop (5 * n) i run)) ∙ read_drop n (drop i run))

    pub merge_whole : WholeRecords (drop k run)
    unfolding n
    merge_whole = omega (arith, ap length rest_records, length-drop n (read_records (drop i run)), length-drop k run, length-drop i run, w)

    pub merge_mergeable : Mergeable sink q (read_records (drop k run)) (spans_of (drop (j + 1) hs))
    merge_mergeable = rw rest_records (drop_records sink q n (read_records (drop i run)) (less_holes sink q (rw (spans_next hs j h) at m)))

    merged_at : write_records (merging sink q (drop i run) (spans_of (drop j hs))) ≡ take (k - i) (drop i run) ++ (q ∷ 1 ∷ get_or (get_or hs j []) 0 0 ∷ get_or (get_or hs j []) 1 0 ∷ sink ∷ write_records (merging sink q (drop k run) (spans_of (drop (j + 1) hs))))
    unfolding merging n write_records
    merged_at =
        let es = read_records (drop i run) in
        let s : Span = record { first = get_or (get_or hs j []) 0 0; last = get_or (get_or hs j []) 1 0 } in
        let rest = spans_of (drop (j + 1) hs) in
        let d : k - i ≡ 5 * n = omega arith in
        let r : Mergeable sink q es (s ∷ rest) = rw (spans_next hs j h) at m in
        rw (spans_next hs j h, merge_hole sink q es s rest r, write_append (take n es) (hole_to sink q s ∷ in_order (drop n es ++ map (hole_to sink q) rest)), rest_records, d)
        (ap (λ l. l ++ write_records (hole_to sink q s ∷ in_order (drop n es ++ map (hole_to sink q) rest))) (sym (front_words_lem n (drop i run) (omega (arith, length-drop i run)))))

module _ (o₀ : List ℕ) (at : ℕ) (all o : List ℕ) (end : ℕ) (sink q : ℕ) (run : List ℕ) (hs : List (List ℕ)) (i j : ℕ)
    (l : Left o₀ at all o end (write_records (merging sink q (drop i run) (spans_of (drop j hs))))) (w : WholeRecords (drop i run))
    (m : Mergeable sink q (read_records (drop i run)) (spans_of (drop j hs))) where
  module _ (h : length hs ≤ j) where
    pub rest_room : at + length all ≤ length o₀ → end + length (take (length run - i) (drop i run)) ≤ length o
    rest_room r = left_room o₀ at all o end _ l (take (length run - i) (drop i run)) [] (merged_end sink q run hs i j w m h) r

    pub rest_done : (o' : List ℕ) (end' : ℕ) → Written o end (take (length run - i) (drop i run)) o' end' → Written o₀ at all o' end'
    rest_done o' end' v = left_done o₀ at all o' end' [] (left_next o₀ at all o end _ l (take (length run - i) (drop i run)) [] (merged_end sink q run hs i j w m h) o' end' v) refl

  module _ (h : j < length hs) (k : ℕ) (e : k ≡ i + 5 * leading (get_or (get_or hs j []) 0 0) (read_records (drop i run))) (f : k ≤ length run) where
    hole : List ℕ
    hole = q ∷ 1 ∷ get_or (get_or hs j []) 0 0 ∷ get_or (get_or hs j []) 1 0 ∷ sink ∷ []

    pub records_room : at + length all ≤ length o₀ → end + length (take (k - i) (drop i run)) ≤ length o
    records_room r = left_room o₀ at all o end _ l (take (k - i) (drop i run)) _ (merged_at sink q run hs i j w m h k e f) r

    module _ (o₁ : List ℕ) (end₁ : ℕ) (v : Written o end (take (k - i) (drop i run)) o₁ end₁) where
      with_hole : Left o₀ at all o₁ end₁ (hole ++ write_records (merging sink q (drop k run) (spans_of (drop (j + 1) hs))))
      unfolding hole
      with_hole = left_next o₀ at all o end _ l (take (k - i) (drop i run)) _ (merged_at sink q run hs i j w m h k e f) o₁ end₁ v

      pub hole_room : at + length all ≤ length o₀ → end₁ + 5 ≤ length o₁
      unfolding hole
      hole_room r = left_room o₀ at all o₁ end₁ _ with_hole hole _ refl r

      pub hole_next : (o₂ : List ℕ) (end₂ : ℕ) → Written o₁ end₁ (q ∷ 1 ∷ get_or (get_or hs j []) 0 0 ∷ get_or (get_or hs j []) 1 0 ∷ sink ∷ []) o₂ end₂
          → Left o₀ at all o₂ end₂ (write_records (merging sink q (drop k run) (spans_of (drop (j + 1) hs))))
      unfolding hole
      hole_next o₂ end₂ u = left_next o₀ at all o₁ end₁ _ with_hole hole _ refl o₂ end₂ u

pub ruleset merge_laws = (left_begins, mergeable_begins, rest_room, rest_done, records_room, hole_room, rules)
