-- The product of one determinization with the complement of another, multiplied and asked whether it is empty: both calls answer 0, and the product is
-- empty exactly where the second accepts all that the first accepts. Assumes nothing.
use Prim.Native.Nat.{ℕ, zero, suc, ◌≤◌, ◌<◌}
use mathlib.Core.Bool.{Bool, true, false, true≢false}
use mathlib.Core.List.{List}
use mathlib.Core.Logic.{◌⊎◌, inl, inr, ◌↔◌}
use mathlib.Core.Path.{◌≡◌, refl, ◌∙◌, ap, ap₂, subst}
use native.Mathlib.Omega.{arith}
use Rattle.lists.specs.Lists.{◌∈◌}
use Rattle.automata.specs.Automaton.{Transition, Automaton, Run, stay, skip, Accepts, Word, none, more, EpsilonFree}
use Rattle.automata.specs.Automaton as runs
use Rattle.automata.specs.WellFormed.{last_symbol}
use Rattle.determinize.specs.Determinize.{determinize}
use Rattle.emptiness.specs.Reachable.{has_reachable_accepting, reachable_answer}
use Rattle.emptiness.proofs.Theorems.{empty_exact}
use Rattle.automata.specs.Successors.{accept_after}
use Rattle.automata.proofs.Successors.{accepts_after}
use Rattle.output.specs.Output.{Pattern}
use Rattle.product.specs.Product.{product, intersection_answer}
use Rattle.product.specs.Reached.{Blocked}
use Rattle.product.proofs.Given.{given_fits}
use Rattle.product.proofs.Theorems.{product_words, product_wellformed, product_written, product_read, product_given}
use Rattle.refusal.specs.Answer.{given}
use Rattle.refusal.specs.Reply.{Reply}
use Rattle.ringmatch.specs.Reply.{reply_to_bool}
use Rattle.sheets.specs.Checked.{sheet_first}
use Rattle.sheets.specs.Fault.{fault}
use Rattle.sheets.specs.Sheet.{read, write}
use Rattle.sheets.proofs.Meaning.{read_write_sheet, write_accepted}
use Rattle.totality.specs.Totality.{flipped}
use Rattle.crossed.specs.Calls.{sheet_of}
use Rattle.crossed.specs.Demand.{Fit, Product, ProductAnswers, Empty}
use Rattle.crossed.proofs.Fronts.{code_left, sheet_left}
use Rattle.crossed.proofs.Sides.{well, deterministic, between, no_fault, read_back, flipped_wellformed, flipped_fits, other_words}

-- a run reads symbols of ranges
run_word : {A : Automaton} (upper : ℕ) → ((d : Transition) → d ∈ A.transitions → d.last ≤ upper) → {p q : ℕ} {w : List ℕ} → Run A p w q → Word 0 upper w
run_word upper b stay = none
run_word upper b (skip e m f k r) = run_word upper b r
run_word upper b (runs.read {a = a} e m f k l u r) = more {a = a} (omega arith) (omega (arith, b e m)) (run_word upper b r)

-- accepted sheets s and t whose determinizations are D and E
module _ (s : List ℕ) (f : fault s ≡ 0) (D : Automaton) (e : determinize 0 last_symbol (read s) ≡ given D) (t : List ℕ) (g : fault t ≡ 0) (E : Automaton)
    (h : determinize 0 last_symbol (read t) ≡ given E) where
  other_back : read (write (flipped E)) ≡ flipped E
  other_back = read_write_sheet (flipped E) (flipped_wellformed t g E h).accepts

  -- the call is the product of the two automata
  call_product : sheet_first (write D) (sheet_first (write (flipped E)) (product (read (write D)) (read (write (flipped E))))) ≡ product D (flipped E)
  unfolding sheet_first
  call_product = rw (no_fault s f D e, write_accepted (flipped E) (flipped_wellformed t g E h) (flipped_fits t g E h), read_back s f D e, other_back)

  free_one : EpsilonFree D
  free_one = (deterministic s f D e).ranges

  free_other : EpsilonFree (flipped E)
  unfolding flipped
  free_other = (deterministic t g E h).ranges

  not_blocked : Blocked D (flipped E) → ⊥
  not_blocked b = go b.epsilon
    where
      go : (b.left.kind ≡ 0) ⊎ (b.right.kind ≡ 0) → ⊥
      go (inl z) = omega (arith, free_one b.left b.in_left)
      go (inr z) = omega (arith, free_other b.right b.in_right)

  -- acceptance by E is decided
  decided : (w : List ℕ) → Word 0 last_symbol w → Accepts E w ⊎ (Accepts E w → ⊥)
  decided w v = go (accept_after E w) refl
    where
      at_end : Accepts E w ↔ (0 < accept_after E w)
      at_end = accepts_after 0 last_symbol E (deterministic t g E h) (well t g E h).states w v

      go : (n : ℕ) → accept_after E w ≡ n → Accepts E w ⊎ (Accepts E w → ⊥)
      go zero z = inr (λ r. omega (arith, at_end.0 r))
      go (suc n) z = inl (at_end.1 (omega arith))

  -- the product P
  module _ (P : Pattern) (made : product D (flipped E) ≡ given P) where
    -- its words are those of D that E rejects
    words_are : (w : List ℕ) → Accepts P.automaton w ↔ (Word 0 last_symbol w × Accepts D w × (Accepts E w → ⊥))
    words_are w =
        let k = product_words D (flipped E) P made free_one free_other w in
        let symbols : Accepts D w → Word 0 last_symbol w = λ r. run_word last_symbol (between s f D e).below r.1 in (
          λ r. let b = k.0 r in (symbols b.0, b.0, (other_words t g E h w (symbols b.0)).0 b.1),
          λ r. k.1 (r.1, (other_words t g E h w r.0).1 r.2),
        )

    -- no accepting state is reached exactly where E accepts all that D accepts
    none_reached : (has_reachable_accepting P.automaton ≡ false) ↔ ((w : List ℕ) → Word 0 last_symbol w → Accepts D w → Accepts E w)
    none_reached =
        let k = empty_exact P.automaton (product_wellformed D (flipped E) P made (well s f D e)) in (
          λ z w v a. within (decided w v) (λ n. k.0 z w ((words_are w).1 (v, a, n))),
          λ all. k.1 (λ w r. let b = (words_are w).0 r in b.2 (all w b.0 b.1)),
        )
      where
        within : {X : Type 0} → X ⊎ (X → ⊥) → ((X → ⊥) → ⊥) → X
        within (inl a) n = a
        within (inr b) n = absurd (n b)

    reached_answer : reachable_answer (write P.automaton) ≡ given (has_reachable_accepting P.automaton)
    unfolding reachable_answer sheet_first
    reached_answer = rw (product_written D (flipped E) P made (well s f D e), product_read D (flipped E) P made (well s f D e))

  -- the calls on the sheets S and T, which are those of D and of E's complement
  module _ (S T : List ℕ) (is-s : S ≡ write D) (is-t : T ≡ write (flipped E)) (x : Product S T) where
    fit : Fit D (flipped E)
    fit = subst (λ (B : Automaton). Fit D B) (ap read is-t ∙ other_back) (subst (λ (A : Automaton). Fit A (read T)) (ap read is-s ∙ read_back s f D e) x.fits)

    abbrev P : Pattern
    P = (product_given D (flipped E) fit.0 not_blocked fit.1).0

    is_p : product D (flipped E) ≡ given P
    is_p = (product_given D (flipped E) fit.0 not_blocked fit.1).1

    answer_is : sheet_first S (sheet_first T (product (read S) (read T))) ≡ given P
    answer_is = ap₂ (λ (S T : List ℕ). sheet_first S (sheet_first T (product (read S) (read T)))) is-s is-t ∙ call_product ∙ is_p

    product_left : sheet_of x.product ≡ write P.automaton
    unfolding intersection_answer
    product_left = sheet_left x.product _ x.intersects P answer_is (product_wellformed D (flipped E) P is_p (well s f D e)) (given_fits D (flipped E) P is_p)

    question_left : x.question.after ≡ reply_to_bool x.question.answer (given (has_reachable_accepting P.automaton))
    question_left = x.asks ∙ ap (reply_to_bool x.question.answer) (ap reachable_answer product_left ∙ reached_answer P is_p)

    replied_bit : (r : Reply ℕ (Unit {0})) (old : ℕ) (n : Bool) → r ≡ reply_to_bool old (given n) → (r.code ≡ 0) × ((r.cells ≡ 0) ↔ (n ≡ false))
    replied_bit r old true q = (ap (λ z. z.code) q, (λ z. absurd (omega (arith, ap (λ z. z.cells) q)), λ z. absurd (true≢false z)))
    replied_bit r old false q = (ap (λ z. z.code) q, (λ z. refl, λ z. ap (λ z. z.cells) q))

    pub product_answers : ProductAnswers x
    unfolding intersection_answer
    product_answers = record {
      product_code = code_left x.product _ x.intersects P answer_is;
      question_code = (replied_bit x.question.after x.question.answer (has_reachable_accepting P.automaton) question_left).0;
    }

    -- the product is empty exactly where E accepts all that D accepts
    pub empty_within : Empty x ↔ ((w : List ℕ) → Word 0 last_symbol w → Accepts D w → Accepts E w)
    empty_within =
        let k = (replied_bit x.question.after x.question.answer (has_reachable_accepting P.automaton) question_left).1 in
        let m = none_reached P is_p in
        (λ z. m.0 (k.0 z), λ z. k.1 (m.1 z))
