-- What the code reads of runs: triggers, and the end of a row of one trigger. Assumes nothing.
use Rattle.std.proofs.Common.{ℕ, ◌+◌, ◌≤◌, ◌<◌, Bool, true, false, List, [], ◌≡◌, sym, ap, ◌∙◌, arith, length, get_or, drop}
use Rattle.automata.specs.inner.Chunks.{records_of}
use Rattle.automata.specs.inner.Records.{record_at}
use Rattle.automata.proofs.Chunks.{records_next, records_done}
use Rattle.equivalence.specs.Triggers.{same_trigger}
use Rattle.equivalence.specs.inner.Rows.{behind_row, RowEnd}

-- the records behind `at` and before i have the trigger of record `at`
pub record InRow (rs : List (List ℕ)) (at i : ℕ) : Type 0 where
  pub onward : at < i
  pub inside : i ≤ length rs
  pub left : behind_row (record_at (get_or rs at []) 0) (records_of (drop i rs)) ≡ behind_row (record_at (get_or rs at []) 0) (records_of (drop (at + 1) rs))

module _ (rs : List (List ℕ)) (at i : ℕ) (r : InRow rs at i) where
  pub row_end : length rs ≤ i → RowEnd rs at (length rs)
  unfolding behind_row
  row_end h =
      let e : i ≡ length rs = omega (arith, r.inside) in
      rw (← e) (record { onward = r.onward; inside = r.inside; rest = records_done rs i h ∙ sym (ap (behind_row (record_at (get_or rs at []) 0)) (records_done rs i h)) ∙ r.left })

  module _ (h : i < length rs) (b : Bool) (e : b ≡ same_trigger (record_at (get_or rs at []) 0) (record_at (get_or rs i []) 0)) where
    pub row_stop : b ≡ false → RowEnd rs at i
    unfolding behind_row
    row_stop f =
        let t : same_trigger (record_at (get_or rs at []) 0) (record_at (get_or rs i []) 0) ≡ false = sym e ∙ f in
        record { onward = r.onward; inside = r.inside; rest = records_next rs i h ∙ sym (ap (behind_row (record_at (get_or rs at []) 0)) (records_next rs i h) ∙ rw t) ∙ r.left }

    pub row_next : b ≡ true → InRow rs at (i + 1)
    unfolding behind_row
    row_next f =
        let t : same_trigger (record_at (get_or rs at []) 0) (record_at (get_or rs i []) 0) ≡ true = sym e ∙ f in
        record { onward = omega (arith, r.onward); inside = omega arith; left = sym (ap (behind_row (record_at (get_or rs at []) 0)) (records_next rs i h) ∙ rw t) ∙ r.left }
