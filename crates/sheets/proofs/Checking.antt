-- The laws by which the check is proved: each says what one more word, record or section does.
use Prim.Native.Nat.{ℕ, zero, suc, ◌+◌, ◌-◌, ◌*◌, ◌≤◌, ◌<◌}
use mathlib.Core.Path.{◌≡◌, refl, sym, ap, ◌∙◌}
use mathlib.Core.Bool.{Bool, true, false, cond, ◌&&◌, ◌||◌, and-true, and_assoc}
use mathlib.Core.List.{List, [], ◌∷◌}
use native.Mathlib.Numerals.{add-one, sub-one}
use native.Mathlib.Omega.{arith}
use borrow.Author.Tests.{leb-true, le-leb, eq-eqb, ne_eqb}
use borrow.Author.Rules.{rules}
use lib.Bits.{bit_and, bit_or, or_add_and, and_le_l, and_le_r, or_lt}
use lib.Dec.{leb, ltb, eqb}
use lib.ListN.{length, get_or, take, drop}
use Rattle.std.specs.List.{fold}
use Rattle.lists.proofs.Parts.{part_all}
use Rattle.lists.proofs.Tests.{tests, and_both, and_parts, true_same, cond_no}
use Rattle.std.specs.Prelude.{Result, Ok, Err}
use Rattle.automata.specs.Ordered.{less}
use Rattle.automata.specs.Records.{words_of, read_records}
use Rattle.automata.specs.inner.Records.{record_at}
use Rattle.automata.proofs.Ordered.{less_slices}
use Rattle.automata.specs.inner.Chunks.{records_of}
use Rattle.automata.proofs.Chunks.{records_next, records_done}
use Rattle.refusal.specs.declared.InputRefusal.{InputRefusal}
use Rattle.refusal.specs.declared.InputRefusal.TheVariants.{SheetLength, Start, Counts, AcceptWord, Record, RecordOrder, Epsilon, Grammar, Utf8, Labels}
use Rattle.refusal.specs.declared.InputRefusal.TheVariants.{EpsilonRecord, NoAcceptingState, Names, AcceptingName, OuterMark}
use Rattle.refusal.specs.Answer.{Answer, refused}
use Rattle.refusal.specs.Number.{input_number}
use Rattle.sheets.specs.Checked.{checked_number, sheet_first}
use Rattle.sheets.specs.inner.Passed.{fault_behind, Passed}
use Rattle.sheets.specs.Fault.{accept_words, is_bad, record_fault, records_fault, or_else, transitions_fault, states_fault, fault}

-- the bits of the accept words together decide
or_small : (a x : ℕ) → leb (bit_or a x) 1 ≡ (leb a 1 && leb x 1)
or_small a x = true_same _ _ (λ h. let l = leb-true (bit_or a x) 1 h in and_both (leb a 1) (leb x 1) (le-leb a 1 (omega (arith, sum, right))) (le-leb x 1 (omega (arith, sum, left)))) (λ h. let p = and_parts (leb a 1) (leb x 1) h in both (leb-true a 1 p.0) (leb-true x 1 p.1))
  where
    sum : bit_or a x + bit_and a x ≡ a + x
    sum = or_add_and a x

    left : bit_and a x ≤ a
    left = and_le_l a x

    right : bit_and a x ≤ x
    right = and_le_r a x

    both : a ≤ 1 → x ≤ 1 → leb (bit_or a x) 1 ≡ true
    both l r = let o : bit_or a x < 2 = or_lt 1 a x (omega arith) (omega arith) in le-leb (bit_or a x) 1 (omega arith)

accept_behind : (all : ℕ) (s : List ℕ) → leb (fold (λ all word. bit_or all word) all s) 1 ≡ (leb all 1 && accept_words s)
accept_behind all [] = sym (and-true (leb all 1))
accept_behind all (x ∷ s) = accept_behind (bit_or all x) s ∙ ap (λ b. b && accept_words s) (or_small all x) ∙ and_assoc (leb all 1) (leb x 1) (accept_words s)

pub accept_folded : (s : List ℕ) (all : ℕ) → all ≡ fold (λ all word. bit_or all word) 0 s → leb all 1 ≡ accept_words s
accept_folded s all e = rw e (accept_behind 0 s)

-- a record of kind 1
pub bad_range : (n f k x y z : ℕ) (b : Bool) → b ≡ is_bad n (record { from = f; kind = 1; first = x; last = y; to = z }) → k ≡ 1
    → b ≡ is_bad n (record { from = f; kind = k; first = x; last = y; to = z })
bad_range n f k x y z b e h = e ∙ ap (λ i. is_bad n (record { from = f; kind = i; first = x; last = y; to = z })) (sym h)

pub ruleset kind_laws = (bad_range, rules)

-- five words are those of the record that they are read as
pub five_words : (r : List ℕ) → length r ≡ 5 → words_of (record_at r 0) ≡ r
five_words [] h = absurd (omega arith)
five_words (a ∷ []) h = absurd (omega arith)
five_words (a ∷ b ∷ []) h = absurd (omega arith)
five_words (a ∷ b ∷ c ∷ []) h = absurd (omega arith)
five_words (a ∷ b ∷ c ∷ d ∷ []) h = absurd (omega arith)
five_words (a ∷ b ∷ c ∷ d ∷ e ∷ []) h = refl
five_words (a ∷ b ∷ c ∷ d ∷ e ∷ f ∷ r) h = absurd (omega arith)

-- a record's fault, from the answers of the two functions that test it
module _ (n : ℕ) (before r : List ℕ) (b : Bool) (e : b ≡ is_bad n (record_at r 0)) where
  pub record_bad : b ≡ true → 5 ≡ record_fault n before (record_at r 0)
  unfolding record_fault
  record_bad p = rw (← e, p)

  pub in_order : (l : Bool) → length r ≡ 5 → b ≡ false → l ≡ less before r → record_fault n before (record_at r 0) ≡ cond l 0 6
  unfolding record_fault
  in_order l h p d = ap (λ x. cond x 5 (cond (less before (words_of (record_at r 0))) 0 6)) (sym e ∙ p) ∙ ap (λ x. cond (less before x) 0 6) (five_words r h) ∙ ap (λ x. cond x 0 6) (sym d)

  pub record_good : (l : Bool) → length r ≡ 5 → b ≡ false → l ≡ less before r → l ≡ true → 0 ≡ record_fault n before (record_at r 0)
  record_good l h p d q = sym (in_order l h p d ∙ rw q)

  pub record_order : (l : Bool) → length r ≡ 5 → b ≡ false → l ≡ less before r → l ≡ false → 6 ≡ record_fault n before (record_at r 0)
  record_order l h p d q = sym (in_order l h p d ∙ rw q)

pub ruleset record_laws = (record_bad, record_good, record_order, less_slices, tests)

or_else_stop : (f g : ℕ) → (f ≡ 0 → ⊥) → or_else f g ≡ f
or_else_stop zero g h = absurd (h refl)
or_else_stop (suc f) g h = refl

-- a refusal's number is not 0
pub refused_some : (r : InputRefusal) → input_number r ≡ 0 → ⊥
refused_some SheetLength h = omega arith
refused_some Start h = omega arith
refused_some Counts h = omega arith
refused_some AcceptWord h = omega arith
refused_some Record h = omega arith
refused_some RecordOrder h = omega arith
refused_some Epsilon h = omega arith
refused_some Grammar h = omega arith
refused_some Utf8 h = omega arith
refused_some Labels h = omega arith
refused_some EpsilonRecord h = omega arith
refused_some NoAcceptingState h = omega arith
refused_some Names h = omega arith
refused_some AcceptingName h = omega arith
refused_some OuterMark h = omega arith

-- the records from an index on decide, where the one at the index has the answer f; d is what all give
module _ (n d : ℕ) (rs : List (List ℕ)) (before : List ℕ) (at : ℕ) (e : d ≡ records_fault n before (records_of (drop at rs))) where
  pub records_ended : length rs ≤ at → 0 ≡ d
  unfolding records_fault
  records_ended h = sym (e ∙ rw (records_done rs at h))

  module _ (h : at < length rs) (f : Result (Unit {0}) InputRefusal) (p : checked_number f ≡ record_fault n before (record_at (get_or rs at []) 0)) where
    one_more : d ≡ or_else (checked_number f) (fault_behind n rs at)
    unfolding records_fault fault_behind
    one_more = e ∙ ap (records_fault n before) (records_next rs at h) ∙ ap (λ x. or_else x (records_fault n (words_of (record_at (get_or rs at []) 0)) (records_of (drop (at + 1) rs)))) (sym p)

    pub records_stopped : (r : InputRefusal) → f ≡ Err r → checked_number f ≡ d
    records_stopped r q = sym (one_more ∙ or_else_stop (checked_number f) _ (λ z. refused_some r (ap checked_number (sym q) ∙ z)))

    pub records_good : f ≡ Ok tt → is_bad n (record_at (get_or rs at []) 0) ≡ false
    unfolding record_fault
    records_good q = (cond_no (is_bad n (record_at (get_or rs at []) 0)) 4 _ (sym p ∙ ap checked_number q)).0

    pub records_passed : f ≡ Ok tt → (r : ℕ) → Passed n rs at r → length (get_or rs r []) ≡ 5 → d ≡ records_fault n (get_or rs r []) (records_of (drop (r + 1) rs))
    unfolding fault_behind
    records_passed q r g l =
        one_more ∙ ap (λ x. or_else (checked_number x) (fault_behind n rs at)) q
        ∙ g.same ∙ ap (λ x. records_fault n x (records_of (drop (r + 1) rs))) (five_words (get_or rs r []) l)

pub ruleset records_laws = (records_ended, records_stopped, records_good, records_passed, rules)

-- each section's fault, in the terms that the code has
pub transitions_none : (n : ℕ) (t : List ℕ) → length t ≡ 0 → 1 ≡ transitions_fault n t
unfolding transitions_fault
transitions_none n [] h = refl
transitions_none n (x ∷ t) h = absurd (omega arith)

pub transitions_at_lem : (n : ℕ) (t : List ℕ) → (length t ≡ 0 → ⊥) → transitions_fault n t ≡
    cond (ltb 2048 (get_or t 0 0)) 3
    (cond (eqb (length t - 1) (5 * get_or t 0 0)) (records_fault n [] (read_records (take (length t - 1) (drop 1 t)))) 1)
unfolding transitions_fault
transitions_at_lem n [] h = absurd (h refl)
transitions_at_lem n (x ∷ t) h = rw (part_all 1 (x ∷ t), sub-one)

pub states_none : (start : ℕ) (t : List ℕ) → length t ≡ 0 → 1 ≡ states_fault start t
unfolding states_fault
states_none start [] h = refl
states_none start (x ∷ t) h = absurd (omega arith)

pub states_at : (start : ℕ) (t : List ℕ) → (length t ≡ 0 → ⊥) → states_fault start t ≡
    cond (eqb (get_or t 0 0) 0 || ltb 256 (get_or t 0 0)) 3
    (cond (ltb (length t - 1) (get_or t 0 0)) 1
    (cond (leb (get_or t 0 0) start) 2
    (cond (accept_words (take (get_or t 0 0 + 1 - 1) (drop 1 t)))
    (transitions_fault (get_or t 0 0) (take (length t - (get_or t 0 0 + 1)) (drop (get_or t 0 0 + 1) t))) 4)))
unfolding states_fault
states_at start [] h = absurd (h refl)
states_at start (x ∷ t) h = rw (part_all (x + 1) (x ∷ t), sub-one (suc (length t)), add-one, sub-one (suc x))

pub start_short : (s : List ℕ) → length s < 2 → 1 ≡ fault s
unfolding fault
start_short [] h = refl
start_short (a ∷ []) h = refl
start_short (a ∷ b ∷ s) h = absurd (omega arith)

pub start_at : (s : List ℕ) → 2 ≤ length s → fault s ≡ cond (eqb (get_or s 0 0) 1) (states_fault (get_or s 1 0) (take (length s - 2) (drop 2 s))) 2
unfolding fault
start_at [] h = absurd (omega arith)
start_at (a ∷ []) h = absurd (omega arith)
start_at (a ∷ b ∷ s) h = rw (part_all 2 (a ∷ b ∷ s))

pub ruleset sections = (transitions_none, transitions_at_lem, states_none, states_at, start_short, start_at, tests)

-- what the check's answer says of an answer that the sheet's fault precedes
module _ {X : Type 0} (s : List ℕ) (a : Answer X) (r : Result (Unit {0}) InputRefusal) (e : checked_number r ≡ fault s) where
  pub sheet_passed : r ≡ Ok tt → sheet_first s a ≡ a
  unfolding sheet_first
  sheet_passed h = rw (eq-eqb (fault s) 0 (sym e ∙ ap checked_number h))

  pub sheet_refused : (i : InputRefusal) → r ≡ Err i → sheet_first s a ≡ refused (input_number i)
  unfolding sheet_first
  sheet_refused i h =
      let n : fault s ≡ input_number i = sym e ∙ ap checked_number h in
      rw (ne_eqb (fault s) 0 (λ z. refused_some i (sym n ∙ z))) (ap refused n)
