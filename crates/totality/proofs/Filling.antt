-- The records of a run with its holes: the holes that are found stand as words at the front of their table, and are merged with the records.
use Prim.Native.Nat.{ℕ, ◌+◌, ◌*◌, ◌^◌, ◌≤◌, ◌<◌}
use mathlib.Core.List.{List, [], ◌∷◌, append_assoc}
use mathlib.Core.Path.{◌≡◌, refl, sym, ap}
use native.Mathlib.Omega.{arith}
use mir.Syntax.{w64}
use mir.Val.{Fits}
use borrow.Author.Rules.{rules}
use lib.Dec.{eqb}
use lib.ListN.{length, take, drop}
use lib.Seq.{take_at, length-take-le, sets, sets-eq, length-sets}
use Rattle.stores.specs.Written.{Written}
use Rattle.lists.proofs.Lists.{length_filter}
use Rattle.automata.specs.Automaton.{ranges_of}
use Rattle.automata.specs.Records.{read_records, write_records}
use Rattle.nondeterminism.specs.Nondeterminism.{holes_of}
use Rattle.ranges.specs.Span.{Span}
use Rattle.ranges.specs.Missing.{missing}
use Rattle.ranges.specs.inner.Missing.{span_words}
use Rattle.ranges.proofs.Missing.{missing_scan}
use Rattle.ranges.proofs.Writing.{words_length, scan_short}
use Rattle.totality.specs.Totality.{filled}
use Rattle.totality.specs.inner.Merging.{read_spans, Mergeable, merged, Fillable}

-- spans as words, and read again
read_spans_lem : (hs : List Span) → read_spans (span_words hs) ≡ hs
unfolding read_spans span_words
read_spans_lem [] = refl
read_spans_lem (s ∷ hs) = ap (λ l. s ∷ l) (read_spans_lem hs)

-- the holes of a run are found and stand at the front of h'
module _ (lower upper sink q : ℕ) (run h h' : List ℕ) (f : Fillable lower upper sink q run h) (k : ℕ) (e : k ≡ length (missing lower upper (ranges_of (read_records run))))
    (w : h' ≡ sets h 0 (span_words (missing lower upper (ranges_of (read_records run))))) where
  hs : List Span
  hs = missing lower upper (ranges_of (read_records run))

  half_room : 2 * k ≤ length h
  unfolding ranges_of
  half_room =
      omega (
        arith,
        f.room,
        f.whole,
        e,
        ap length (missing_scan lower upper (ranges_of (read_records run)) f.sorted),
        scan_short lower upper (ranges_of (read_records run)),
        length_filter (λ e. eqb e.kind 1) (read_records run),
      )

  pub half_within : 2 * k ≤ length h'
  half_within = omega (arith, half_room, ap length w, length-sets h 0 (span_words (missing lower upper (ranges_of (read_records run)))))

  pub half_fits : length h < 2 ^ 64 → Fits w64 (2 * k)
  half_fits l = record { fits = omega (arith, half_room) }

  pub half_length : 2 * k ≡ length (take (2 * k) h')
  half_length = sym (length-take-le (2 * k) h' half_within)

  half_words : take (2 * k) h' ≡ span_words hs
  unfolding hs
  half_words =
      let n : length (span_words hs) ≡ 2 * k = omega (arith, words_length hs, e) in
      rw (w, sets-eq (span_words hs) h 0 (omega (arith, half_room)), append_assoc [] (span_words hs) (drop (0 + length (span_words hs)) h)) (take_at (span_words hs) _ (2 * k) n)

  half_spans : read_spans (take (2 * k) h') ≡ holes_of lower upper (read_records run)
  unfolding hs holes_of
  half_spans = rw half_words (read_spans_lem hs)

  pub half_mergeable : Mergeable sink q (read_records run) (read_spans (take (2 * k) h'))
  half_mergeable = rw half_spans f.mergeable

  half_merged : merged sink q run (take (2 * k) h') ≡ filled lower upper sink q (read_records run)
  unfolding merged filled
  half_merged = rw half_spans

  pub half_room_out : (o : List ℕ) (at : ℕ) → at + length (write_records (filled lower upper sink q (read_records run))) ≤ length o
      → at + length (write_records (merged sink q run (take (2 * k) h'))) ≤ length o
  half_room_out o at r = rw half_merged r

  pub half_written : (o o' : List ℕ) (at end : ℕ) → Written o at (write_records (merged sink q run (take (2 * k) h'))) o' end
      → Written o at (write_records (filled lower upper sink q (read_records run))) o' end
  half_written o o' at end v = rw half_merged at v

pub ruleset filled_laws = (half_within, half_fits, half_length, half_mergeable, half_room_out, half_written, rules)
