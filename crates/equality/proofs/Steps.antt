-- The trail after a step was put behind the others: the words before it are kept, and its own are read back. Assumes nothing.
use Rattle.std.proofs.Common.{ℕ, ◌+◌, ◌*◌, ◌≤◌, List, ◌≡◌, refl, ◌∙◌, arith, rules, length, get_or, set, length-set, get_or-set_same, get_or-set_other}
use Rattle.equality.specs.inner.Walking.{StepFits, StepPut}

module _ (l : List ℕ) (made i : ℕ) (f : StepFits l made i) (more x : ℕ) where
  pub step_none : more ≤ made → StepPut l l made more i x
  step_none h = record { long = f.long; kept = λ k b. refl; put_from = λ b. absurd (omega arith); put_by = λ b. absurd (omega arith); put_depth = λ b. absurd (omega arith) }

  abbrev with_from : List ℕ
  with_from = set l (3 * made) i

  abbrev with_by : List ℕ
  with_by = set with_from (3 * made + 1) x

  abbrev deep : ℕ
  deep = get_or l (3 * i + 2) 0 + 1

  abbrev after : List ℕ
  after = set with_by (3 * made + 2) deep

  long_from : length with_from ≡ 1536
  long_from = length-set l (3 * made) i ∙ f.long

  long_by : length with_by ≡ 1536
  long_by = length-set with_from (3 * made + 1) x ∙ long_from

  pub step_put : StepPut l after made more i x
  step_put = record {
    long = length-set with_by (3 * made + 2) deep ∙ long_by;
    kept = λ k b. get_or-set_other with_by (3 * made + 2) k deep 0 (omega arith) ∙ get_or-set_other with_from (3 * made + 1) k x 0 (omega arith) ∙ get_or-set_other l (3 * made) k i 0 (omega arith);
    put_from = λ b. get_or-set_other with_by (3 * made + 2) (3 * made) deep 0 (omega arith) ∙ get_or-set_other with_from (3 * made + 1) (3 * made) x 0 (omega arith) ∙ get_or-set_same l (3 * made) i 0 (omega (arith, f.room, f.long));
    put_by = λ b. get_or-set_other with_by (3 * made + 2) (3 * made + 1) deep 0 (omega arith) ∙ get_or-set_same with_from (3 * made + 1) x 0 (omega (arith, f.room, long_from));
    put_depth = λ b. get_or-set_same with_by (3 * made + 2) deep 0 (omega (arith, f.room, long_by));
  }

pub ruleset step_laws = (step_none, step_put, rules)
