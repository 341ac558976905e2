-- A table has a row for each state that the records of an accepted sheet, or those of a state's run, name: of all records, and of the one at an index.
use Prim.Native.Nat.{ℕ, ◌+◌, ◌-◌, ◌*◌, ◌/◌, ◌≤◌, ◌<◌}
use mathlib.Core.List.{List, []}
use mathlib.Core.Path.{◌≡◌, sym, ◌∙◌, ap, subst}
use native.Mathlib.Omega.{arith}
use lib.ListN.{length, get_or, take, drop}
use Rattle.lists.specs.Lists.{◌∈◌}
use Rattle.lists.proofs.Parts.{part_all}
use Rattle.automata.specs.Automaton.{Transition, leaving}
use Rattle.automata.specs.Records.{read_records, write_records}
use Rattle.automata.specs.inner.Records.{record_at}
use Rattle.std.specs.Simd.{first_chunks}
use Rattle.automata.proofs.Chunks.{records_are, record_in_chunks}
use Rattle.automata.proofs.Leaving.{leaves}
use Rattle.automata.proofs.Records.{read_write}
use Rattle.sheets.specs.inner.Accepted.{Accepted}
use Rattle.sheets.specs.Sheet.{state_count, records_at, read}
use Rattle.sheets.proofs.Meaning.{read_well}
use Rattle.words.specs.inner.Gather.{RowsFor}

-- the record at an index of the chunks of words
module _ (k : ℕ) (t : List ℕ) (rs : List (List ℕ)) (i : ℕ) (q : rs ≡ first_chunks 5 (length t / 5) t) (n : RowsFor k (read_records t)) (h : i < length rs) where
  among : record_at (get_or rs i []) 0 ∈ read_records t
  among = subst (λ (es : List Transition). record_at (get_or rs i []) 0 ∈ es) (records_are t rs q) (record_in_chunks rs i h)

  pub chunk_row : 4 * get_or (get_or rs i []) 0 0 + 4 ≤ k
  chunk_row = n.froms _ among

  pub chunk_target : 4 * get_or (get_or rs i []) 4 0 + 4 ≤ k
  chunk_target = n.tos _ among

-- the records of an accepted sheet
module _ (s : List ℕ) (a : Accepted s) (k : ℕ) (l : 4 * state_count s ≤ k) where
  rows_in : (es : List Transition) → ((e : Transition) → e ∈ es → e ∈ (read s).transitions) → RowsFor k es
  rows_in es f =
      let w = (read_well s a).states in
      record { froms = λ e m. omega (arith, w.froms e (f e m)); tos = λ e m. omega (arith, w.tos e (f e m)) }

  pub sheet_rows : RowsFor k (read_records (take (length s - records_at s) (drop (records_at s) s)))
  sheet_rows = subst (λ (x : List ℕ). RowsFor k (read_records x)) (sym (part_all (records_at s) s)) (rows_in (read s).transitions (λ e m. m))

  pub run_rows : (q : ℕ) (run : List ℕ) → run ≡ write_records (leaving (read s) q) → RowsFor k (read_records run)
  run_rows q run e = subst (RowsFor k) (sym (ap read_records e ∙ read_write _)) (rows_in (leaving (read s) q) (λ d m. (leaves (read s) q d m).0))
