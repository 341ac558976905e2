-- Verdicts on two determinizations, told of the automata that were determinized: the lemmas of Theorems. Assumes nothing.
use Rattle.std.proofs.Common.{ℕ, List, ◌≡◌, refl, arith, take, length-take-le}
use Rattle.automata.specs.Automaton.{Automaton}
use Rattle.automata.specs.WellFormed.{WellFormed}
use Rattle.automata.proofs.SameWords.{not_same}
use Rattle.refusal.specs.Answer.{given}
use Rattle.determinize.specs.Determinize.{determinize}
use Rattle.determinize.proofs.Theorems.{determinize_deterministic, determinize_wellformed}
use Rattle.determinizations.specs.Two.{Two}
use Rattle.determinizations.proofs.Theorems.{same_words, one_word}
use Rattle.equality.specs.declared.Verdict.{Verdict}
use Rattle.equality.specs.declared.Verdict.TheVariants.{Same, Different, Refused}
use Rattle.equality.specs.Forced.{Forced, Smallest}
use Rattle.equality.specs.Verdict.{Decided}
use Rattle.equality.specs.Equality.{Exact}
use Rattle.equality.proofs.Forced.{total_of, forced_joins, forced_least}

module _ (lower upper : ℕ) (A B : Automaton) (well_a : WellFormed A) (well_b : WellFormed B) (D E : Automaton) (is-d : determinize lower upper A ≡ given D)
    (is-e : determinize lower upper B ≡ given E) where
  abbrev two : Two
  two = record { one = D; two = E; lower = lower; upper = upper }

  -- what follows from the starts is the smallest equivalence, since every state has a successor
  pub smallest_two : Smallest two (Forced two)
  smallest_two =
      let total =
      total_of two (determinize_deterministic lower upper A well_a.states D is-d) (determinize_wellformed lower upper A well_a.states D is-d well_a).states
      (determinize_deterministic lower upper B well_b.states E is-e) (determinize_wellformed lower upper B well_b.states E is-e well_b).states in
      record { joins = forced_joins two total; least = λ S c p q f. forced_least two total S c f }

  pub decided_exact : (o o' : List ℕ) (r : Verdict) → Decided two o o' r → Exact lower upper A B two o o' r
  unfolding Decided
  decided_exact o o' (Same j) d =
      let s = same_words lower upper A B well_a well_b D E is-d is-e d.0.words in
      record {
        same = (λ e. s, λ e. (j, refl));
        different = λ n. absurd (n s);
        joins = λ i e. (d.0.number, d.0.counted, let q : i ≡ j = cc in let k = d.0.joined in omega arith, d.1);
      }
  decided_exact o o' (Different n) d =
      let w = d.0.word in
      let one = one_word lower upper A B well_a well_b D E is-d is-e (take n o') w d.0.differ in
      let long = length-take-le n o' d.1 in
      let short = d.0.short in
      record {
        same = (λ e. let q : Different n ≡ Same e.0 = e.1 in absurd (let z : ◌≡◌ {A = ℕ} 0 1 = cc in omega arith), λ s. absurd (not_same lower upper A B (take n o') one w s));
        different = λ s. (n, refl, record { word = w; one = one; long = long; short = omega arith; behind = d.2 });
        joins = λ i e. absurd (let z : ◌≡◌ {A = ℕ} 0 1 = cc in omega arith);
      }
  decided_exact o o' (Refused r) d = absurd d
