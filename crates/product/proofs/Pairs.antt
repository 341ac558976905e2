-- The pairs that are reached by ranges that meet are those of the graph; there is no table exactly when they are too many.
use Prim.Native.Nat.{ℕ}
use mathlib.Core.Logic.{◌↔◌}
use mathlib.Core.Path.{◌≡◌, ◌∙◌, ap}
use native.Mathlib.Omega.{arith}
use Rattle.lists.proofs.Index.{Decides}
use Rattle.lists.proofs.Members.{map_in, map_out}
use Rattle.automata.specs.Automaton.{Automaton}
use Rattle.automata.specs.WellFormed.{most_states}
use Rattle.automata.proofs.Pairs.{pair_decides}
use Rattle.search.specs.Search.{over, table}
use Rattle.search.proofs.Reached as Search
use Rattle.search.proofs.Queue.{over_exact}
use Rattle.automata.specs.Pairs.{Pair}
use Rattle.product.specs.Product.{Joint, joints_from, meeting_pairs}
use Rattle.product.specs.Reached.{PairReached, start, step, ManyPairs}
use Rattle.product.proofs.Joints.{from_out, from_in}

module _ (A B : Automaton) where
  pub pairs_decides : Decides (meeting_pairs A B).same
  unfolding meeting_pairs
  pairs_decides = pair_decides

  pub graph_reached : {p : Pair} → Search.Reached (meeting_pairs A B) p → PairReached A B p.left p.right
  unfolding meeting_pairs
  graph_reached Search.start = start
  graph_reached {p} (Search.step {x = q} r m) =
      let k = map_out (λ (j : Joint). j.to) (joints_from A B q) p m in
      let j = k.0 in
      let f = from_out A B q j k.1 in
      let first_is = ap (λ (x : Joint). x.span.first) f.of.is in
      let last_is = ap (λ (x : Joint). x.span.last) f.of.is in
      let t : p ≡ record { left = f.left.to; right = f.right.to } = k.2 ∙ ap (λ (x : Joint). x.to) f.of.is in
      rw t (step (graph_reached r) (f.meet j.span.first (omega arith) (omega (arith, first_is, last_is, f.of.meets))))

  pub reached_graph : {p q : ℕ} → PairReached A B p q → Search.Reached (meeting_pairs A B) (record { left = p; right = q })
  unfolding meeting_pairs
  reached_graph start = Search.start
  reached_graph (step {p} {q} r m) = Search.step (reached_graph r) (map_in (λ (j : Joint). j.to) (from_in A B (record { left = p; right = q }) m))

  pub over_pairs : (table (meeting_pairs A B) most_states ≡ over) ↔ ManyPairs most_states A B
  over_pairs = (
    λ e.
        let r = (over_exact (meeting_pairs A B) pairs_decides most_states).0 e in
        record { pairs = r.0; distinct = r.1.distinct; reached = λ p m. graph_reached (r.1.reached p m); many = r.2 },
    λ m.
        (over_exact (meeting_pairs A B) pairs_decides most_states).1
        (m.pairs, record { distinct = m.distinct; reached = λ p k. reached_graph (m.reached p k) }, m.many),
  )
