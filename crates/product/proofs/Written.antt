-- The result can be written as a sheet: it is well-formed where both automata are, and its transitions ascend.
use Prim.Native.Nat.{ℕ, ◌≤◌}
use mathlib.Core.Bool.{Bool, true, false, cond}
use mathlib.Core.List.{List, map}
use mathlib.Core.Logic.{⊎_elim}
use mathlib.Core.Path.{◌≡◌}
use native.Mathlib.Omega.{arith}
use borrow.Author.Tests.{ltb-true, ltb-false}
use lib.Dec.{eqb, ltb}
use lib.ListN.{get_or, length, length-map, get_or-eq_default}
use Rattle.lists.proofs.Tests.{test}
use Rattle.automata.specs.Automaton.{Automaton}
use Rattle.automata.specs.WellFormed.{most_states, greatest_accept, WellFormed}
use Rattle.automata.proofs.Ordered.{in_order_ascending}
use Rattle.search.specs.Search.{found, table}
use Rattle.search.proofs.Queue.{table_some}
use Rattle.automata.specs.Pairs.{Pair}
use Rattle.product.specs.Product.{meeting_pairs, pair_accept, product_automaton}
use Rattle.product.proofs.Pairs.{pairs_decides}
use Rattle.lists.proofs.Lists.{map_at}
use Rattle.product.proofs.Result.{start_pair}
use Rattle.product.proofs.Runs.{leads}

accept_most : (A B : Automaton) → ((q : ℕ) → get_or A.accept q 0 ≤ greatest_accept) → (p : Pair) → pair_accept A B p ≤ greatest_accept
unfolding pair_accept
accept_most A B h p = go (eqb (get_or B.accept p.right 0) 0) (h p.left)
  where
    go : (b : Bool) → get_or A.accept p.left 0 ≤ greatest_accept → cond b 0 (get_or A.accept p.left 0) ≤ greatest_accept
    go true h = omega arith
    go false h = h

accept_built : (A B : Automaton) (T : List Pair) → ((q : ℕ) → get_or A.accept q 0 ≤ greatest_accept) → (q : ℕ) → get_or (product_automaton A B T).accept q 0 ≤ greatest_accept
unfolding product_automaton
accept_built A B T h q =
    ⊎_elim (λ t. rw (map_at (pair_accept A B) T q (start_pair A B) 0 (ltb-true q (length T) t)) (accept_most A B h (get_or T q (start_pair A B))))
    (λ (t : ltb q (length T) ≡ false).
    let l : length (map (pair_accept A B) T) ≤ q = omega (arith, ltb-false q (length T) t, length-map T (pair_accept A B)) in
    rw (get_or-eq_default (map (pair_accept A B) T) 0 l) (omega arith))
    (test (ltb q (length T)))

pub built_well_formed : (A B : Automaton) → WellFormed A → (T : List Pair) → table (meeting_pairs A B) most_states ≡ found T → WellFormed (product_automaton A B T)
built_well_formed A B w T e =
    record {
      states = record {
        starts = unfold product_automaton in table_some (meeting_pairs A B) (pairs_decides A B) most_states T e;
        froms = λ t m. unfold product_automaton in (leads A B T e t m).from_lt;
        tos = λ t m. unfold product_automaton in (leads A B T e t m).to_lt;
      };
      accepts = unfold product_automaton in length-map T (pair_accept A B);
      accept_words_lem = accept_built A B T w.accept_words_lem;
      sound = λ t m.
          let r = leads A B T e t m in
          let k = r.is_range in
          record { known = omega arith; full = r.full; blank = λ z. absurd (omega arith) };
      ascends = unfold product_automaton in in_order_ascending _;
    }
