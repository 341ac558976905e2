-- Laws of cases of operations, of the pattern reader and of subautomata: the calls get the lists of the case.
use Prim.Native.Nat.{ℕ, ◌+◌, ◌≤◌}
use mathlib.Core.Bool.{Bool, false, cond}
use mathlib.Core.List.{List}
use mathlib.Core.Path.{◌≡◌, sym, ◌∙◌, ap, ap₂}
use borrow.Author.Rules.{rules}
use borrow.Author.Tests.{eq-eqb, ne_eqb}
use lib.Dec.{eqb}
use lib.ListN.{length, take}
use Rattle.determinize.specs.Sheets.{determinize_answer}
use Rattle.stores.specs.Written.{Written}
use Rattle.output.specs.declared.Made.{Made}
use Rattle.output.specs.Made.{output_of}
use Rattle.output.specs.Output.{Lengths, Outputs, outputs}
use Rattle.parser.specs.declared.Parsed.{Parsed}
use Rattle.std.proofs.Common.{Result, Ok, Err}
use Rattle.parser.specs.Parsed.{parsed, parsed_of}
use Rattle.parser.specs.Pattern.{parse_answer}
use Rattle.product.specs.Product.{intersection_answer}
use Rattle.refusal.specs.declared.InputRefusal.{InputRefusal}
use Rattle.refusal.specs.Decision.{decision_of}
use Rattle.refusal.specs.declared.Refusal.{Refusal}
use Rattle.refusal.specs.Outcome.{Outcome}
use Rattle.replay.specs.Cases.{list_at, bytes_before}
use Rattle.subautomaton.specs.Answer.{subautomaton_answer}
use Rattle.replay_all.specs.Decided.{decided, subautomaton_of, subautomaton_case}
use Rattle.replay_all.specs.Outcomes.{words, bytes, is_outcome, determinize_case, product_case, Operation, operation_case, is_reading, parse_case}
use Rattle.replay_all.proofs.Bytes.{bytes_all}

-- one sheet, or two
module _ (s x : List ℕ) (lx : x ≡ list_at s 0) (o l : List ℕ) (a : Result Made Refusal) (b : Bool) where
  pub determinize_told : output_of a o l ≡ outputs words bytes (determinize_answer x words bytes) → b ≡ is_outcome s (1 + length x) (output_of a o l) → b ≡ determinize_case s
  unfolding determinize_case
  determinize_told e p = p ∙ ap (is_outcome s (1 + length x)) e ∙ rw lx

  pub product_told : (y : List ℕ) → y ≡ list_at s (1 + length x) → output_of a o l ≡ outputs words bytes (intersection_answer x y words bytes)
      → b ≡ is_outcome s (1 + length x + 1 + length y) (output_of a o l) → b ≡ product_case s
  unfolding product_case
  product_told y ly e p = p ∙ ap (is_outcome s (1 + length x + 1 + length y)) e ∙ rw (ly, lx)

-- a sheet and its labels
module _ (k : Operation) (s x y : List ℕ) (lx : x ≡ list_at s 0) (ly : y ≡ list_at s (1 + length x)) (n : ℕ) (q : n ≡ bytes_before (take 16642 y)) where
  operation_by : operation_case k s
      ≡ cond (eqb n (length y)) (is_outcome s (1 + length x + 1 + length y) (outputs words bytes (k x y words bytes))) false
  unfolding operation_case
  operation_by = rw (← lx, ← ly, ← q)

  pub operation_other : (n ≡ length y → ⊥) → false ≡ operation_case k s
  operation_other h = sym (operation_by ∙ rw (ne_eqb n (length y) h))

  pub operation_told : n ≡ length y → (z m : List ℕ) → Written z 0 (take n y) m n → n ≤ length m → (o : Outcome Lengths Outputs) (b : Bool)
      → o ≡ outputs words bytes (k x (take n m) words bytes) → b ≡ is_outcome s (1 + length x + 1 + length y) o → b ≡ operation_case k s
  operation_told h z m w g o b e p =
      p ∙ ap (is_outcome s (1 + length x + 1 + length y)) (e ∙ ap (λ (v : List ℕ). outputs words bytes (k x v words bytes)) (bytes_all z m y n w h g))
      ∙ sym (operation_by ∙ rw (eq-eqb n (length y) h))

-- a text
module _ (s x : List ℕ) (lx : x ≡ list_at s 0) (n : ℕ) (q : n ≡ bytes_before (take 4096 x)) where
  parse_by : parse_case s ≡ cond (eqb n (length x)) (is_reading s (1 + length x) (parsed words bytes (parse_answer x words bytes))) false
  unfolding parse_case
  parse_by = rw (← lx, ← q)

  pub parse_other : (n ≡ length x → ⊥) → false ≡ parse_case s
  parse_other h = sym (parse_by ∙ rw (ne_eqb n (length x) h))

  pub parse_told : n ≡ length x → (z m : List ℕ) → Written z 0 (take n x) m n → n ≤ length m → (o l : List ℕ) (a : Result Parsed Refusal) (b : Bool)
      → parsed_of a o l ≡ parsed words bytes (parse_answer (take n m) words bytes) → b ≡ is_reading s (1 + length x) (parsed_of a o l) → b ≡ parse_case s
  parse_told h z m w g o l a b e p =
      p ∙ ap (is_reading s (1 + length x)) (e ∙ ap (λ (v : List ℕ). parsed words bytes (parse_answer v words bytes)) (bytes_all z m x n w h g))
      ∙ sym (parse_by ∙ rw (eq-eqb n (length x) h))

-- two sheets and their labels
module _ (s x f y g : List ℕ) (lx : x ≡ list_at s 0) (lf : f ≡ list_at s (1 + length x)) (ly : y ≡ list_at s (1 + length x + 1 + length f))
    (lg : g ≡ list_at s (1 + length x + 1 + length f + 1 + length y)) (n : ℕ) (q : n ≡ bytes_before (take 1024 f)) where
  sub_by : subautomaton_case s
      ≡ cond (eqb n (length f))
      (cond (eqb (bytes_before (take 1024 g)) (length g)) (decided s (1 + length x + 1 + length f + 1 + length y + 1 + length g) (subautomaton_answer x f y g)) false)
      false
  unfolding subautomaton_case subautomaton_of
  sub_by = rw (← lx, ← lf, ← ly, ← lg, ← q)

  pub sub_first : (n ≡ length f → ⊥) → false ≡ subautomaton_case s
  sub_first h = sym (sub_by ∙ rw (ne_eqb n (length f) h))

  module _ (h : n ≡ length f) (k : ℕ) (t : k ≡ bytes_before (take 1024 g)) where
    pub sub_second : (k ≡ length g → ⊥) → false ≡ subautomaton_case s
    sub_second i = sym (sub_by ∙ rw (eq-eqb n (length f) h, ← t, ne_eqb k (length g) i))

    pub sub_told : k ≡ length g → (z m : List ℕ) → Written z 0 (take n f) m n → n ≤ length m → (z' m' : List ℕ) → Written z' 0 (take k g) m' k → k ≤ length m' → (a : Result Bool InputRefusal) (b : Bool)
        → decision_of a ≡ subautomaton_answer x (take n m) y (take k m') → b ≡ decided s (1 + length x + 1 + length f + 1 + length y + 1 + length g) (decision_of a)
        → b ≡ subautomaton_case s
    sub_told i z m w u z' m' w' u' a b e p =
        p ∙ ap (decided s (1 + length x + 1 + length f + 1 + length y + 1 + length g))
        (e ∙ ap₂ (λ (v v' : List ℕ). subautomaton_answer x v y v') (bytes_all z m f n w h u) (bytes_all z' m' g k w' i u'))
        ∙ sym (sub_by ∙ rw (eq-eqb n (length f) h, ← t, eq-eqb k (length g) i))

pub ruleset call_laws = (determinize_told, product_told, rules)

pub ruleset parse_laws = (parse_other, parse_told, rules)

pub ruleset sub_laws = (sub_first, sub_second, sub_told, rules)
