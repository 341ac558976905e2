-- Laws of the list of all states: its members, and what is left of it from a state on.
use Prim.Native.Nat.{ℕ, suc, ◌+◌, ◌≤◌, ◌<◌}
use mathlib.Core.List.{[], ◌∷◌}
use mathlib.Core.Path.{◌≡◌, sym, ◌∙◌, ap}
use native.Mathlib.Omega.{arith}
use native.Mathlib.Numerals.{add-one}
use lib.ListN.{length, drop, drop_of_length-le}
use lib.Seq.{drop-cons}
use Rattle.std.specs.List.{range_with_len}
use Rattle.lists.specs.Lists.{◌∈◌, Ascending, tabulate}
use Rattle.lists.proofs.Lists.{tabulate_at, length_tabulate}
use Rattle.lists.proofs.Every.{tabulate_in, tabulate_out, tabulate_ascend}
use Rattle.lists.proofs.Chains.{range_listed}
use Rattle.automata.specs.Automaton.{states}

pub length_states : (n : ℕ) → length (states n) ≡ n
unfolding states
length_states n = length_tabulate n (λ q. q)

pub states_in : (n q : ℕ) → q < n → q ∈ states n
unfolding states
states_in n q h = tabulate_in n (λ q. q) q h

pub states_out : (n q : ℕ) → q ∈ states n → q < n
unfolding states
states_out n q m = let r = tabulate_out n (λ q. q) q m in rw r.2 r.1

pub states_ascend : (n : ℕ) → Ascending ◌<◌ (states n)
unfolding states
states_ascend n = tabulate_ascend n (λ q. q) (λ i j h. h)

-- the states from q on
pub states_at : (n q : ℕ) → q < n → drop q (states n) ≡ q ∷ drop (q + 1) (states n)
unfolding states
states_at n q h =
    drop-cons (tabulate n (λ q. q)) q 0 (rw (length_tabulate n (λ q. q)) h) ∙ ap (λ x. x ∷ drop (suc q) (tabulate n (λ q. q))) (tabulate_at n (λ q. q) q 0 h)
    ∙ ap (λ k. q ∷ drop k (tabulate n (λ q. q))) (sym (add-one q))

pub states_end : (n q : ℕ) → n ≤ q → drop q (states n) ≡ []
states_end n q h = drop_of_length-le (states n) {i = q} (rw (length_states n) h)

-- the states as the numbers of a range
pub states_listed : (n : ℕ) → range_with_len 0 n ≡ states n
unfolding states
states_listed n = range_listed 0 n (λ q. q) (λ k. omega arith)
