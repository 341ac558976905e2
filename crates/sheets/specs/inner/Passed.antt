-- For inner contracts. The fault of the records behind one that passes.
use Rattle.std.specs.Prelude.{ℕ, ◌+◌, ◌*◌, ◌≤◌, ◌<◌, false, cond, List, [], ◌≡◌, eqb, ltb, leb, length, get_or, drop}
use Rattle.automata.specs.Automaton.{Transition}
use Rattle.automata.specs.Records.{words_of}
use Rattle.automata.specs.inner.Chunks.{records_of}
use Rattle.automata.specs.inner.Records.{record_at}
use Rattle.sheets.specs.Fault.{is_bad, records_fault}

-- the five words of a record that breaks no rule, and its key
pub record Keyed (n key : ℕ) (r : List ℕ) : Type 0 where
  pub long : length r ≡ 5
  pub good : is_bad n (record_at r 0) ≡ false
  pub is : key ≡ get_or r 0 0 * 4294967296 + get_or r 2 0

-- the first fault of the records behind the one at the index i
unfoldable pub fault_behind : ℕ → List (List ℕ) → ℕ → ℕ
fault_behind n rs i = records_fault n (words_of (record_at (get_or rs i []) 0)) (records_of (drop (i + 1) rs))

-- the records behind the one at `from` pass up to the one at `to`
pub record Passed (n : ℕ) (rs : List (List ℕ)) (from to : ℕ) : Type 0 where
  pub further : from ≤ to
  pub within : to < length rs
  pub same : fault_behind n rs from ≡ fault_behind n rs to

-- the records behind the one at `from` pass up to the one at `to`, if that leaves a state below n
pub record PassedBelow (n : ℕ) (rs : List (List ℕ)) (from to : ℕ) : Type 0 where
  pub further : from ≤ to
  pub within : to < length rs
  pub good : get_or (get_or rs to []) 0 0 < n → is_bad n (record_at (get_or rs to []) 0) ≡ false
  pub same : get_or (get_or rs to []) 0 0 < n → fault_behind n rs from ≡ fault_behind n rs to

-- the key of a range that breaks no rule, except that it may leave no state below n, if the key is greater than `before`; or else 0
unfoldable pub range_key : ℕ → ℕ → Transition → ℕ
range_key n before e =
    cond (eqb e.kind 1)
    (cond (ltb e.last e.first) 0 (cond (leb n e.to) 0 (cond (leb (e.from * 4294967296 + e.first) before) 0 (e.from * 4294967296 + e.first)))) 0
