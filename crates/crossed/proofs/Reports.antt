-- The report of `ringmatch_equality`, from the verdict that it tells. Assumes nothing.
use Prim.Native.Nat.{ℕ, ◌≤◌}
use mathlib.Core.List.{List}
use mathlib.Core.Logic.{inl, inr}
use mathlib.Core.Path.{◌≡◌, refl, sym, subst}
use native.Mathlib.Omega.{arith}
use lib.ListN.{length}
use Rattle.automata.specs.WellFormed.{last_symbol}
use Rattle.determinizations.specs.Two.{Two, total_size}
use Rattle.equality.specs.Equality.{word_size, Differs, Exact}
use Rattle.equality.specs.declared.Verdict.{Verdict}
use Rattle.equality.specs.declared.Verdict.TheVariants.{Same, Different, Refused}
use Rattle.refusal.specs.Reply.{Reply}
use Rattle.ringmatch.specs.Reply.{VerdictCells, reply_to_verdict}
use Rattle.sheets.specs.Sheet.{read}
use Rattle.crossed.specs.Calls.{Difference}
use Rattle.crossed.specs.Demand.{EqualWords, Report}

-- the sheets a and b, whose determinizations t have at most 512 states; o is the lent word before, o' after
module _ (a b : List ℕ) (t : Two) (few : total_size t ≤ 512) (o o' : List ℕ) (s n : ℕ) (room : word_size ≤ length o) where
  -- the memory with the reply r
  abbrev memory : Reply VerdictCells (List ℕ) → Difference
  memory r = record { word = o; same = s; number = n; room = room; after = r }

  told_exact : (v : Verdict) → Exact 0 last_symbol (read a) (read b) t o o' v → Report a b t (memory (reply_to_verdict s n v o'))
  told_exact (Same j) x =
      let words = x.same.0 (j, refl) in
      let (k, counted, sum, same) = x.joins j refl in
      record {
        code = refl;
        either = inl refl;
        equal = (λ z. words, λ z. refl);
        different = (λ z. absurd (omega arith), λ z. absurd (z words));
        word = λ z. absurd (omega arith);
        most = λ z. absurd (omega arith);
        joins = λ z. (k, counted, sum);
        kept = λ z. same;
      }
  told_exact (Different m) x =
      let apart : EqualWords a b → ⊥ = λ w. let (j, e) = x.same.1 w in let z : ◌≡◌ {A = ℕ} 0 1 = cc in omega arith in
      let (k, e, d) = x.different apart in
      let i : k ≡ m = cc in
      record {
        code = refl;
        either = inr refl;
        equal = (λ z. absurd (omega arith), λ w. absurd (apart w));
        different = (λ z. apart, λ z. refl);
        word = λ z. subst (Differs 0 last_symbol (read a) (read b) (total_size t) o o') i d;
        most = λ z. omega (arith, i, d.short, few);
        joins = λ z. absurd (omega arith);
        kept = λ z. absurd (omega arith);
      }
  told_exact (Refused r) x =
      let apart : EqualWords a b → ⊥ = λ w. let (j, e) = x.same.1 w in let z : ◌≡◌ {A = ℕ} 0 1 = cc in omega arith in
      let (k, e, d) = x.different apart in
      let z : ◌≡◌ {A = ℕ} 0 1 = cc in
      absurd (omega arith)

  -- the reply that tells the verdict
  pub reported : (r : Reply VerdictCells (List ℕ)) (v : Verdict) → r ≡ reply_to_verdict s n v o' → Exact 0 last_symbol (read a) (read b) t o o' v → Report a b t (memory r)
  reported r v e x = subst (λ (r : Reply VerdictCells (List ℕ)). Report a b t (memory r)) (sym e) (told_exact v x)
