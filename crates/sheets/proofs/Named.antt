-- The states that records name are below a bound, those of an accepted sheet and of a state's run below 256: of all records, of the one at a place, and of those
-- behind it.
use Prim.Native.Nat.{ℕ, ◌+◌, ◌-◌, ◌/◌, ◌≤◌, ◌<◌}
use mathlib.Core.List.Memᴰ
use mathlib.Core.List.{List, []}
use mathlib.Core.Path.{◌≡◌, refl, sym, ◌∙◌, ap, subst}
use native.Mathlib.Omega.{arith}
use lib.ListN.{length, get_or, take, drop}
use Rattle.lists.specs.Lists.{◌∈◌}
use Rattle.lists.proofs.Parts.{part_all}
use Rattle.automata.specs.Automaton.{Transition, leaving}
use Rattle.automata.specs.Records.{read_records, write_records}
use Rattle.automata.specs.inner.Records.{record_at}
use Rattle.std.specs.Simd.{first_chunks}
use Rattle.automata.specs.inner.Chunks.{records_of}
use Rattle.automata.proofs.Chunks.{records_are, record_in_chunks}
use Rattle.automata.proofs.Leaving.{leaves}
use Rattle.automata.proofs.Records.{read_write, records_at_lem, part_in}
use Rattle.sheets.specs.Sheet.{state_count, records_at, read}
use Rattle.sheets.specs.inner.Accepted.{Accepted}
use Rattle.sheets.specs.inner.Runs.{IndexedSheet, Named, RunAt}
use Rattle.sheets.proofs.Meaning.{read_well}
use Rattle.sheets.proofs.Runs.{run_at}

-- the record at a place, as it is handed on, and the records behind it
module _ {b : ℕ} (t : List ℕ) (at : ℕ) (n : Named b (read_records (drop at t))) (h : 5 ≤ length t - at) where
  pub named_from : get_or (take (at + 5 - at) (drop at t)) 0 0 < b
  named_from = n.froms _ (part_in t at h)

  pub named_to : get_or (take (at + 5 - at) (drop at t)) 4 0 < b
  named_to = n.tos _ (part_in t at h)

  pub named_target : get_or t (at + 4) 0 < b
  named_target = n.tos (record_at t at) (rw (records_at_lem t at h) (Memᴰ.head refl))

  pub named_next : Named b (read_records (drop (at + 5) t))
  named_next = let r = rw (records_at_lem t at h) at n in record { froms = λ e m. r.froms e (Memᴰ.tail m); tos = λ e m. r.tos e (Memᴰ.tail m) }

-- the record at an index of arrays of five words
module _ {b : ℕ} (rs : List (List ℕ)) (i : ℕ) (n : Named b (records_of rs)) (h : i < length rs) where
  pub record_from : get_or (get_or rs i []) 0 0 < b
  record_from = n.froms _ (record_in_chunks rs i h)

  pub record_to : get_or (get_or rs i []) 4 0 < b
  record_to = n.tos _ (record_in_chunks rs i h)

-- where the arrays are the chunks of words
module _ {b : ℕ} (t : List ℕ) (rs : List (List ℕ)) (i : ℕ) (q : rs ≡ first_chunks 5 (length t / 5) t) (n : Named b (read_records t)) (h : i < length rs) where
  all : Named b (records_of rs)
  all = subst (Named b) (sym (records_are t rs q)) n

  pub chunk_from : get_or (get_or rs i []) 0 0 < b
  chunk_from = record_from rs i all h

  pub chunk_to : get_or (get_or rs i []) 4 0 < b
  chunk_to = record_to rs i all h

-- the records of an accepted sheet
module _ (s : List ℕ) (a : Accepted s) where
  named_in : (es : List Transition) → ((e : Transition) → e ∈ es → e ∈ (read s).transitions) → Named 256 es
  named_in es f =
      let w = (read_well s a).states in
      record { froms = λ e m. omega (arith, w.froms e (f e m), a.few_states); tos = λ e m. omega (arith, w.tos e (f e m), a.few_states) }

  pub sheet_named : Named 256 (read_records (take (length s - records_at s) (drop (records_at s) s)))
  sheet_named = subst (λ (l : List ℕ). Named 256 (read_records l)) (sym (part_all (records_at s) s)) (named_in (read s).transitions (λ e m. m))

  pub run_named : (q : ℕ) (run : List ℕ) → run ≡ write_records (leaving (read s) q) → Named 256 (read_records run)
  run_named q run e = subst (Named 256) (sym (ap read_records e ∙ read_write _)) (named_in (leaving (read s) q) (λ d m. (leaves (read s) q d m).0))

-- the same with the table of runs
module _ (s starts : List ℕ) (r : IndexedSheet s starts) (q : ℕ) where
  pub ready_run : q < state_count s → RunAt s starts q
  ready_run h = run_at s r.accepted starts q r.indexed h

  pub ready_named : (run : List ℕ) → run ≡ write_records (leaving (read s) q) → Named 256 (read_records run)
  ready_named = run_named s r.accepted q
