-- Products that antt computes: a range with a shorter one, and an epsilon beside a range.
use Prim.Native.Nat.{ℕ}
use mathlib.Core.List.{[], ◌∷◌}
use mathlib.Core.Path.{◌≡◌, refl}
use Rattle.lists.specs.Lists.{any, filter}
use Rattle.automata.specs.Automaton.{Automaton, leaving, ranges_of, has_epsilon}
use Rattle.automata.specs.Ordered.{insert, in_order}
use Rattle.automata.specs.Pairs.{same_pair}
use Rattle.ranges.specs.Span.{intersect_ranges}
use Rattle.refusal.specs.Answer.{refused, given}
use Rattle.search.specs.Search.{index, add, meet, explore, table}
use Rattle.decimal.specs.Decimal.{digits, last_digits}
use Rattle.output.specs.Output.{transitions_first}
use Rattle.product.specs.Product

-- 0 to 1 by the symbols up to n
up_to : ℕ → Automaton
up_to n = record { size = 2; start = 0; accept = 0 ∷ 1 ∷ []; transitions = record { from = 0; kind = 1; first = 0; last = n; to = 1 } ∷ [] }

-- 0 to 1 by an epsilon
skipping : Automaton
skipping = record { size = 2; start = 0; accept = 0 ∷ 1 ∷ []; transitions = record { from = 0; kind = 0; first = 0; last = 0; to = 1 } ∷ [] }

shorter : Product.product (up_to 9) (up_to 8) ≡ given (record { automaton = up_to 8; labels = (40 ∷ 48 ∷ 44 ∷ 32 ∷ 48 ∷ 41 ∷ []) ∷ (40 ∷ 49 ∷ 44 ∷ 32 ∷ 49 ∷ 41 ∷ []) ∷ [] })
unfolding up_to Product.product Product.pairs_answer Product.labelled transitions_first Product.product_automaton Product.transitions_from Product.transition_of_joint Product.pair_accept Product.blocked_at Product.blocked has_epsilon Product.is_none Product.meeting_pairs same_pair Product.joints_from Product.joints_of Product.joints Product.joints_with Product.joint Product.joint_of any filter leaving ranges_of insert in_order intersect_ranges index add meet explore table digits last_digits
shorter = refl

epsilon : Product.product (up_to 9) skipping ≡ refused 7
unfolding up_to skipping Product.product Product.pairs_answer Product.blocked_at Product.blocked has_epsilon Product.is_none Product.meeting_pairs same_pair Product.joints_from Product.joints_of Product.joints Product.joints_with Product.joint Product.joint_of any filter leaving ranges_of intersect_ranges index add meet explore table
epsilon = refl
