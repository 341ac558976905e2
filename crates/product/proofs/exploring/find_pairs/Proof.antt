-- `find_pairs` meets its contract: the pairs before `i` are done.
use Prim.Native.Nat.{◌-◌, ◌≤◌}
use mathlib.Core.Path.{◌≡◌}
use lib.ListN.{length}
use Rattle.automata.specs.WellFormed.{most_states}
use Rattle.search.specs.Search.{table}
use Rattle.search.proofs.Queue as Search
use Rattle.sheets.specs.Sheet.{state_count, read}
use Rattle.product.specs.Product.{meeting_pairs}
use Rattle.product.specs.inner.Tables.{table_of, Queued, PairsBelow}
use Rattle.product.proofs.Finding.{find_laws, begin_queue, begin_within, find_next, find_within}
use Rattle.product.proofs.exploring.find_pairs.Statement.{statement}
use Rattle.product.proofs.exploring.find_pairs.Tie as tie

abbrev invariant-loop-i : tie.invariant-loop-i
invariant-loop-i a aruns b bruns queue₀ t₀ n₀ i₀ queue t n i = (length t ≡ length t₀) × (i ≤ 256) × Queued queue t n × PairsBelow (state_count a) (state_count b) (table_of queue n) × (Search.queue (meeting_pairs (read a) (read b)) most_states i (table_of queue n) ≡ table (meeting_pairs (read a) (read b)) most_states)

abbrev decreases-loop-i : tie.decreases-loop-i
decreases-loop-i a aruns b bruns queue₀ t₀ n₀ i₀ queue t n i = 257 - i

pub find_pairs_spec : {M : Type 1} → statement M
find_pairs_spec =
    tie.close
    (tie.spec
    invariant-loop-i decreases-loop-i (λ c. search find_laws) (λ c. search find_laws) (λ c κs. search find_laws)
    (λ c. let p = c.meet_pair-n.ensures in
    (search find_laws, search find_laws, p.queued, begin_within _ _ _ _ c.requires.0 c.requires.1 _ _ _ _ p, begin_queue _ _ _ _ c.requires.0 c.requires.1 _ _ _ _ p))
    (λ c. search find_laws) (λ c. search find_laws) (λ c. search find_laws) (λ c κs. search find_laws) (λ c. search find_laws) (λ c. search find_laws)
    (λ c. let l = c.loop-i in
    let p = c.visit_pair-n.ensures in (
      search find_laws,
      search find_laws,
      p.queued,
      find_within _ _ _ _ c.requires.0 c.requires.1 _ _ _ _ l.invariant.2 l.invariant.3 l.invariant.4
          c.loop-i-test.true _ _ _ p,
      find_next _ _ _ _ c.requires.0 c.requires.1 _ _ _ _ l.invariant.2 l.invariant.3 l.invariant.4
          c.loop-i-test.true _ _ _ p c.if-n-gt256.false,
    ))
    (λ c. search find_laws) (λ c. search find_laws) (λ c. search find_laws))
