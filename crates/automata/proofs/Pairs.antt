-- Two pairs of states are equal where their states are, which `same_pair` decides.
use mathlib.Core.Path.{◌≡◌, refl}
use borrow.Author.Tests.{eq-eqb, eqb-true}
use lib.Dec.{eqb}
use Rattle.lists.proofs.Index.{Decides}
use Rattle.lists.proofs.Tests.{and_both, and_parts}
use Rattle.automata.specs.Pairs.{Pair, same_pair}

pub pair_eq : (p q : Pair) → p.left ≡ q.left → p.right ≡ q.right → p ≡ q
pair_eq p q l r = rw (l, r)

pub pair_decides : Decides same_pair
unfolding same_pair
pair_decides =
    record {
      same_eq = λ p q h.
          let r = and_parts (eqb p.left q.left) _ h in
          pair_eq p q (eqb-true _ _ r.0) (eqb-true _ _ r.1);
      same_self = λ p. and_both _ _ (eq-eqb p.left p.left refl) (eq-eqb p.right p.right refl);
    }
