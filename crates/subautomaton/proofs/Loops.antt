-- Loops that test each state or each record: what is left to test decides.
use Rattle.std.proofs.Common.{ℕ, ◌≡◌, ◌+◌, ◌≤◌, ◌<◌, Bool, true, false, not, ◌&&◌, List, [], length, get_or, drop, sym, ◌∙◌, ap}
use Rattle.lists.specs.Lists.{any, all}
use Rattle.std.specs.List.{list_any, list_all, range_with_len}
use Rattle.lists.proofs.Chains.{any_listed, all_listed}
use Rattle.lists.proofs.Every.{all_cons}
use Rattle.automata.specs.Automaton.{Transition, states}
use Rattle.automata.specs.inner.Chunks.{records_of}
use Rattle.automata.specs.inner.Records.{record_at}
use Rattle.automata.proofs.States.{states_listed}
use Rattle.automata.proofs.Chunks.{records_next, records_done}
use borrow.Author.Tests.{not-true, not-false}

-- whether some state passes, and whether each does
pub any_states : (f : ℕ → Bool) (n : ℕ) → list_any f (range_with_len 0 n) ≡ any f (states n)
any_states f n = any_listed f (range_with_len 0 n) ∙ ap (any f) (states_listed n)

pub all_states : (f : ℕ → Bool) (n : ℕ) → list_all f (range_with_len 0 n) ≡ all f (states n)
all_states f n = all_listed f (range_with_len 0 n) ∙ ap (all f) (states_listed n)

-- whether each record passes, where those from i on are left
module _ (f : Transition → Bool) (es : List Transition) (rs : List (List ℕ)) (i : ℕ) (e : all f es ≡ all f (records_of (drop i rs))) where
  pub records_ended : length rs ≤ i → true ≡ all f es
  unfolding all
  records_ended h = sym (e ∙ ap (all f) (records_done rs i h))

  module _ (h : i < length rs) (b : Bool) (g : b ≡ f (record_at (get_or rs i []) 0)) where
    at_each : all f es ≡ (b && all f (records_of (drop (i + 1) rs)))
    at_each = e ∙ ap (all f) (records_next rs i h) ∙ all_cons f (record_at (get_or rs i []) 0) _ b g

    pub records_failed : not b ≡ true → false ≡ all f es
    records_failed s = let r = not-true b s in sym (rw r at at_each)

    pub records_left : not b ≡ false → all f es ≡ all f (records_of (drop (i + 1) rs))
    records_left s = let r = not-false b s in rw r at at_each
