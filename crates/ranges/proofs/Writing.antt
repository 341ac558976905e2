-- The laws by which `missing_ranges` is proved: holes as words at the front of a list, written one after the other.
use Prim.Native.Nat.{ℕ, suc, ◌+◌, ◌-◌, ◌*◌, ◌/◌, ◌≤◌, ◌<◌, min, max}
use mathlib.Core.Bool.{Bool, true, false, cond}
use mathlib.Core.List.{List, [], ◌∷◌, ◌++◌}
use mathlib.Core.Path.{◌≡◌, refl, ◌∙◌, ap}
use native.Mathlib.Numerals.{add-one}
use native.Mathlib.Omega.{arith}
use lib.Dec.{ltb}
use lib.ListN.{length, get_or, drop, length-append}
use lib.Seq.{sets, length-sets}
use Rattle.lists.proofs.Parts.{sets_append}
use Rattle.automata.specs.Automaton.{Transition}
use Rattle.ranges.specs.Span.{Span}
use Rattle.ranges.specs.Missing.{missing, SortedRanges}
use Rattle.ranges.specs.inner.Missing.{gap, scan, span_words}
use Rattle.ranges.proofs.Missing.{missing_scan}
use Rattle.automata.specs.Automaton.{ranges_of}
use Rattle.automata.specs.Records.{read_records}
use Rattle.automata.proofs.Chunks.{records_are}
use Rattle.std.specs.Simd.{first_chunks}
use Rattle.ranges.proofs.Runs.{ranges_in, ranges_at, ranges_skip, ranges_end}

words_append : (gs hs : List Span) → span_words (gs ++ hs) ≡ span_words gs ++ span_words hs
unfolding span_words
words_append [] hs = refl
words_append (s ∷ gs) hs = ap (λ l. s.first ∷ s.last ∷ l) (words_append gs hs)

pub words_length : (hs : List Span) → length (span_words hs) ≡ 2 * length hs
unfolding span_words
words_length [] = refl
words_length (s ∷ hs) = let h = words_length hs in omega arith

pub gap_short : (a b : ℕ) → length (gap a b) ≤ 1
unfolding gap
gap_short a b = go (ltb a b)
  where
    go : (t : Bool) → length {A = Span} (cond t (record { first = a; last = b - 1 } ∷ []) []) ≤ 1
    go true = omega arith
    go false = omega arith

-- sorted ranges leave at most one hole more than they are
pub scan_short : (c upper : ℕ) (es : List Transition) → length (scan c upper es) ≤ suc (length es)
unfolding scan
scan_short c upper [] = gap_short c (suc upper)
scan_short c upper (e ∷ es) =
    let b = min e.first (suc upper) in
    let d = max c (suc e.last) in
    omega (arith, length-append (gap c b) (scan d upper es), gap_short c b, scan_short d upper es)

-- n spans stand at the front of h; with those that are left to write, `all` stand at the front of h₀
pub record SpansLeft (h₀ : List ℕ) (all : List Span) (h : List ℕ) (n : ℕ) (left : List Span) : Type 0 where
  pub count : n + length left ≡ length all
  pub words : sets h (2 * n) (span_words left) ≡ sets h₀ 0 (span_words all)

left_start : (h : List ℕ) (all : List Span) → SpansLeft h all h 0 all
left_start h all = record { count = omega arith; words = refl }

-- the spans gs are written
left_more : {h₀ h : List ℕ} {all : List Span} {n : ℕ} (gs hs : List Span) → SpansLeft h₀ all h n (gs ++ hs) → (h' : List ℕ) (n' : ℕ)
    → n' ≡ n + length gs → h' ≡ sets h (2 * n) (span_words gs)
    → SpansLeft h₀ all h' n' hs
left_more {h₀} {h} {all} {n} gs hs l h' n' p q =
    record {
      count = omega (arith, l.count, length-append gs hs);
      words = rw (q, place, sets_append, ← words_append gs hs) l.words;
    }
  where
    place : 2 * n' ≡ 2 * n + length (span_words gs)
    place = omega (arith, words_length gs)

-- a gap more takes at most two words
pub holes_room : (rs : List (List ℕ)) (h h' : List ℕ) (n n' a b i : ℕ) → i < length rs → n' ≡ n + length (gap a b) → h' ≡ sets h (2 * n) (span_words (gap a b))
    → n + (length rs - i) + 1 ≤ length h / 2 → n' + (length rs - (i + 1)) + 1 ≤ length h' / 2
holes_room rs h h' n n' a b i p r w m = omega (arith, gap_short a b, ap length w ∙ length-sets h (2 * n) (span_words (gap a b)))

-- the holes: those from `cursor` on in the ranges from the record at an index on are left
module _ (rs : List (List ℕ)) (h₀ : List ℕ) (upper : ℕ) (all : List Span) where
  abbrev pub HolesLeft : List ℕ → ℕ → ℕ → ℕ → Type 0
  HolesLeft h cursor n i = SpansLeft h₀ all h n (scan cursor upper (ranges_in (drop i rs)))

  module _ (h : List ℕ) (cursor n i : ℕ) (l : HolesLeft h cursor n i) where
    pub holes_skip : i < length rs → (get_or (get_or rs i []) 1 0 ≡ 1 → ⊥) → HolesLeft h cursor n (i + 1)
    holes_skip p k = rw (ranges_skip rs i p k) at l

    module _ (b n' : ℕ) (h' : List ℕ) (r : n' ≡ n + length (gap cursor b)) (w : h' ≡ sets h (2 * n) (span_words (gap cursor b))) where
      pub holes_next : i < length rs → get_or (get_or rs i []) 1 0 ≡ 1 → b ≡ min (get_or (get_or rs i []) 2 0) (upper + 1) → (cursor' : ℕ) → cursor' ≡ max cursor (get_or (get_or rs i []) 3 0 + 1)
          → HolesLeft h' cursor' n' (i + 1)
      unfolding scan
      holes_next p k e cursor' f = left_more (gap cursor b) (scan cursor' upper (ranges_in (drop (i + 1) rs))) (rw step at l) h' n' r w
        where
          step : scan cursor upper (ranges_in (drop i rs)) ≡ gap cursor b ++ scan cursor' upper (ranges_in (drop (i + 1) rs))
          step = rw (ranges_at rs i p k, e, f, add-one upper, add-one (get_or (get_or rs i []) 3 0))

      module _ (p : length rs ≤ i) (e : b ≡ upper + 1) where
        last_left : SpansLeft h₀ all h n (gap cursor b)
        unfolding scan
        last_left = rw (e, add-one upper) (rw (ranges_end rs i p) at l)

        pub holes_count : n' ≡ length all
        holes_count = r ∙ last_left.count

        pub holes_words : h' ≡ sets h₀ 0 (span_words all)
        holes_words = w ∙ last_left.words

-- all holes of the records that a run of words is
pub holes_start : (s h : List ℕ) (lower upper : ℕ) (rs : List (List ℕ)) → rs ≡ first_chunks 5 (length s / 5) s → SortedRanges (ranges_of (read_records s))
    → HolesLeft rs h upper (missing lower upper (ranges_of (read_records s))) h lower 0 0
holes_start s h lower upper rs e o =
    rw (records_are s rs e, missing_scan lower upper (ranges_of (read_records s)) o) (left_start h (scan lower upper (ranges_of (read_records s))))
