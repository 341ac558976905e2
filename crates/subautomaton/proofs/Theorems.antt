-- What is proved of `is_subautomaton`:
--   subautomaton_call: true is answered exactly when the first pattern is a subautomaton of the second in document 01's words
--   subautomaton_answers: a truth is answered exactly when neither a sheet nor a label list has a fault
--   subautomaton_sheets: 1 to 6 is answered exactly when it is the first sheet's fault or, where that has none, the second's
--   subautomaton_labels: 10 is answered exactly when the sheets have no fault, and the first label list has one or else the second
--   subautomaton_words: the test of the definition holds exactly when document 01's conditions do
use Prim.Native.Nat.{ℕ, ◌≤◌, ◌<◌}
use mathlib.Core.Bool.{Bool, true, false, ◌||◌}
use mathlib.Core.List.{List}
use mathlib.Core.Logic.{◌⊎◌, inl, inr, ⊎_elim, ◌↔◌}
use mathlib.Core.Path.{◌≡◌, refl, sym, ◌∙◌}
use native.Mathlib.Omega.{arith}
use borrow.Author.Tests.{eq-eqb, eqb-true, eqb-false, le-leb, leb-true, lt-ltb, ltb-true}
use lib.Dec.{eqb, ltb, leb, lit≤}
use Rattle.std.specs.Prelude.{Result, Ok, Err}
use Rattle.lists.specs.Lists.{◌∈◌, any, all}
use Rattle.lists.proofs.Lists.{any_out, any_in}
use Rattle.lists.proofs.Tests.{and_parts, and_both, or_cases}
use Rattle.automata.specs.Automaton.{Transition, states, accept_of}
use Rattle.labels.specs.Labels.{same_label, labels_fault, labels_ok}
use Rattle.lists.proofs.Index.{same_equal, equal_same}
use Rattle.output.specs.Output.{Pattern, labels_first, label_of, read_pattern}
use Rattle.output.proofs.Left.{labels_first_lem, labels_given, labels_number}
use Rattle.refusal.specs.Answer.{Answer, refused, given}
use Rattle.refusal.specs.Decision.{decision_of}
use Rattle.refusal.specs.Number.{input_number}
use Rattle.refusal.specs.declared.InputRefusal.{InputRefusal}
use Rattle.refusal.specs.declared.InputRefusal.TheVariants.{Labels}
use Rattle.sheets.specs.Checked.{sheet_first}
use Rattle.sheets.specs.Fault.{fault}
use Rattle.sheets.specs.Sheet.{state_count}
use Rattle.sheets.proofs.Decisions.{number_some, call_is, call_refused, sheet_either, given_not}
use Rattle.sheets.proofs.Numbers.{sheet_given, sheet_number, sheet_fault}
use Rattle.subautomaton.specs.Answer.{subautomaton_answer}
use Rattle.subautomaton.specs.Inclusion.{is_same, has_state, covers, is_covered, is_subautomaton, Covers, Sub}
use Rattle.lists.proofs.Every.{all_out, all_in}
use Rattle.automata.proofs.States.{states_in, states_out}

module _ (P Q : Pattern) where
  covers_out : (d e : Transition) → covers P Q d e ≡ true → Covers P Q d e
  unfolding covers
  covers_out d e h =
      let one = and_parts (same_label (label_of P d.from) (label_of Q e.from)) _ h in
      let two = and_parts (same_label (label_of P d.to) (label_of Q e.to)) _ one.1 in
      let three = and_parts (eqb e.kind d.kind) _ two.1 in
      let four = and_parts (leb e.first d.first) _ three.1 in
      record {
        from = same_equal _ _ one.0;
        to = same_equal _ _ two.0;
        kind = eqb-true e.kind d.kind three.0;
        first = leb-true e.first d.first four.0;
        last = leb-true d.last e.last four.1;
      }

  covers_in : (d e : Transition) → Covers P Q d e → covers P Q d e ≡ true
  unfolding covers
  covers_in d e c = rw (equal_same _ _ c.from, equal_same _ _ c.to, eq-eqb e.kind d.kind c.kind, le-leb e.first d.first c.first, le-leb d.last e.last c.last)

  same_in : (p q : ℕ) → label_of P p ≡ label_of Q q → (0 < accept_of P.automaton p → 0 < accept_of Q.automaton q) → is_same P Q p q ≡ true
  unfolding is_same
  same_in p q e h = rw (equal_same _ _ e) (by_word (eqb (accept_of P.automaton p) 0) refl)
    where
      by_word : (b : Bool) → eqb (accept_of P.automaton p) 0 ≡ b → (b || ltb 0 (accept_of Q.automaton q)) ≡ true
      by_word true k = refl
      by_word false k = let n : accept_of P.automaton p ≡ 0 → ⊥ = eqb-false (accept_of P.automaton p) 0 k in lt-ltb 0 (accept_of Q.automaton q) (h (omega arith))

  -- the state of Q that the state p of P is
  same_out : (p q : ℕ) → is_same P Q p q ≡ true → (label_of P p ≡ label_of Q q) × (0 < accept_of P.automaton p → 0 < accept_of Q.automaton q)
  unfolding is_same
  same_out p q h =
      let two = and_parts (same_label (label_of P p) (label_of Q q)) _ h in
      (same_equal _ _ two.0, λ a. ⊎_elim (λ (z : eqb (accept_of P.automaton p) 0 ≡ true). absurd (let y : accept_of P.automaton p ≡ 0 = eqb-true (accept_of P.automaton p) 0 z in omega arith)) (λ z. ltb-true 0 (accept_of Q.automaton q) z) (or_cases (eqb (accept_of P.automaton p) 0) _ two.1))

  has_out : (p : ℕ) → has_state P Q p ≡ true → (q : ℕ) × (q < Q.automaton.size) × (label_of P p ≡ label_of Q q) × (0 < accept_of P.automaton p → 0 < accept_of Q.automaton q)
  unfolding has_state
  has_out p h =
      let o = any_out (is_same P Q p) (states Q.automaton.size) h in
      let s = same_out p o.0 o.2 in
      (o.0, states_out Q.automaton.size o.0 o.1, s.0, s.1)

  has_in : Sub P Q → (p : ℕ) → p < P.automaton.size → has_state P Q p ≡ true
  unfolding has_state
  has_in s p h = by_word (eqb (accept_of P.automaton p) 0) refl
    where
      by_word : (b : Bool) → eqb (accept_of P.automaton p) 0 ≡ b → any (is_same P Q p) (states Q.automaton.size) ≡ true
      by_word true k =
          let z : accept_of P.automaton p ≡ 0 = eqb-true (accept_of P.automaton p) 0 k in
          let q = s.has_state_lem p h in
          any_in (is_same P Q p) (states_in Q.automaton.size q.0 q.1) (same_in p q.0 q.2 (λ a. absurd (omega arith)))
      by_word false k =
          let n : accept_of P.automaton p ≡ 0 → ⊥ = eqb-false (accept_of P.automaton p) 0 k in
          let q = s.accepting p h (omega arith) in
          any_in (is_same P Q p) (states_in Q.automaton.size q.0 q.1) (same_in p q.0 q.2 (λ a. q.3))

  covered_out : (d : Transition) → is_covered P Q d ≡ true → (e : Transition) × e ∈ Q.automaton.transitions × Covers P Q d e
  unfolding is_covered
  covered_out d h = let o = any_out (covers P Q d) Q.automaton.transitions h in (o.0, o.1, covers_out d o.0 o.2)

  covered_in : (d e : Transition) → e ∈ Q.automaton.transitions → Covers P Q d e → is_covered P Q d ≡ true
  unfolding is_covered
  covered_in d e m c = any_in (covers P Q d) m (covers_in d e c)

  -- P is a subautomaton of Q exactly when document 01's conditions hold
  pub subautomaton_words : (is_subautomaton P Q ≡ true) ↔ Sub P Q
  unfolding is_subautomaton
  subautomaton_words = (to, from)
    where
      to : is_subautomaton P Q ≡ true → Sub P Q
      to h =
          let one = and_parts (all (has_state P Q) (states P.automaton.size)) _ h in
          let two = and_parts (same_label (label_of P P.automaton.start) (label_of Q Q.automaton.start)) _ one.1 in
          let state : (p : ℕ) → p < P.automaton.size → has_state P Q p ≡ true = λ p g. all_out (has_state P Q) (states_in P.automaton.size p g) one.0 in
          record {
            has_state_lem = λ p g. let q = has_out p (state p g) in (q.0, q.1, q.2);
            accepting = λ p g a. let q = has_out p (state p g) in (q.0, q.1, q.2, q.3 a);
            start = same_equal _ _ two.0;
            transitions = λ d m. covered_out d (all_out (is_covered P Q) m two.1);
          }

      from : Sub P Q → is_subautomaton P Q ≡ true
      from s =
          and_both _ _ (all_in (has_state P Q) (states P.automaton.size) (λ p m. has_in s p (states_out P.automaton.size p m)))
          (and_both _ _ (equal_same _ _ s.start) (all_in (is_covered P Q) P.automaton.transitions (λ d m. let c = s.transitions d m in covered_in d c.0 c.1 c.2)))

-- an answer behind the labels' fault is refused with 10 where the labels have a fault, or where they have none and the answer is
labels_either : {X : Type 0} (n : ℕ) (l : List ℕ) (y : Answer X) → (labels_first n l y ≡ refused 10) ↔ ((labels_fault n l ≡ 10) ⊎ ((labels_fault n l ≡ 0) × (y ≡ refused 10)))
unfolding labels_first labels_fault
labels_either n l y = (out (labels_ok n l) refl, ⊎_elim (into (labels_ok n l) refl) (λ (f, e). labels_first_lem n l y f ∙ e))
  where
    out : (c : Bool) → labels_ok n l ≡ c → labels_first n l y ≡ refused 10 → (labels_fault n l ≡ 10) ⊎ ((labels_fault n l ≡ 0) × (y ≡ refused 10))
    out true h e = inr (rw h, rw h at e)
    out false h e = inl (rw h)

    into : (c : Bool) → labels_ok n l ≡ c → labels_fault n l ≡ 10 → labels_first n l y ≡ refused 10
    into true h e = let z = rw h at e in absurd (omega (arith, z))
    into false h e = rw h

-- the contract of the call: r is its answer for the sheets a and b with the label lists al and bl
module _ (a al b bl : List ℕ) (r : Result Bool InputRefusal) (call : decision_of r ≡ subautomaton_answer a al b bl) where
  abbrev truth : Answer Bool
  truth = given (is_subautomaton (read_pattern a al) (read_pattern b bl))

  abbrev behind_sheets : Answer Bool
  behind_sheets = labels_first (state_count a) al (labels_first (state_count b) bl truth)

  answer_is : (x : Bool) → (r ≡ Ok x) ↔ ((fault a ≡ 0) × (fault b ≡ 0) × (labels_fault (state_count a) al ≡ 0) × (labels_fault (state_count b) bl ≡ 0) × (truth ≡ given x))
  unfolding subautomaton_answer
  answer_is x =
      let k = call_is r (subautomaton_answer a al b bl) call x in
      let one = sheet_given a (sheet_first b behind_sheets) x in
      let two = sheet_given b behind_sheets x in
      let three = labels_given (state_count a) al (labels_first (state_count b) bl truth) x in
      let four = labels_given (state_count b) bl truth x in (
        λ e. let (f, u) = one.0 (k.0 e) in let (g, v) = two.0 u in let (h, w) = three.0 v in let (i, z) = four.0 w in (f, g, h, i, z),
        λ (f, g, h, i, z). k.1 (one.1 (f, two.1 (g, three.1 (h, four.1 (i, z))))),
      )

  -- true exactly when the pattern of the first sheet is a subautomaton of that of the second
  pub subautomaton_call : (x : Bool) → r ≡ Ok x → (x ≡ true) ↔ Sub (read_pattern a al) (read_pattern b bl)
  subautomaton_call x e =
      let (f, g, h, i, z) = (answer_is x).0 e in
      let is : is_subautomaton (read_pattern a al) (read_pattern b bl) ≡ x = cc in
      let words = subautomaton_words (read_pattern a al) (read_pattern b bl) in
      (λ t. words.0 (is ∙ t), λ s. sym is ∙ words.1 s)

  -- a truth is answered exactly when neither a sheet nor a label list has a fault
  pub subautomaton_answers : ((x : Bool) × (r ≡ Ok x)) ↔ ((fault a ≡ 0) × (fault b ≡ 0) × (labels_fault (state_count a) al ≡ 0) × (labels_fault (state_count b) bl ≡ 0))
  subautomaton_answers = (
    λ (x, e). let (f, g, h, i, z) = (answer_is x).0 e in (f, g, h, i),
    λ (f, g, h, i). (is_subautomaton (read_pattern a al) (read_pattern b bl), (answer_is _).1 (f, g, h, i, refl)),
  )

  -- 1 to 6 exactly when it is the first sheet's fault or, where that has none, the second's
  pub subautomaton_sheets : (i : InputRefusal) → input_number i ≤ 6 → (r ≡ Err i) ↔ ((fault a ≡ input_number i) ⊎ ((fault a ≡ 0) × (fault b ≡ input_number i)))
  unfolding subautomaton_answer
  subautomaton_sheets i l =
      let k = call_refused r (subautomaton_answer a al b bl) call i in
      let one = sheet_either a (sheet_first b behind_sheets) (input_number i) (number_some i) in
      let two = sheet_fault b behind_sheets (input_number i) (number_some i) other in (
        λ e. ⊎_elim inl (λ (f, h). inr (f, two.0 h)) (one.0 (k.0 e)),
        λ h. k.1 (one.1 (⊎_elim inl (λ (f, e). inr (f, two.1 e)) h)),
      )
    where
      not_10 : input_number i ≡ 10 → ⊥
      not_10 e = omega arith

      -- the label lists are refused with 10 alone
      other : behind_sheets ≡ refused (input_number i) → ⊥
      other e =
          let (f, h) = (labels_number (state_count a) al (labels_first (state_count b) bl truth) (input_number i) not_10).0 e in
          given_not _ _ ((labels_number (state_count b) bl truth (input_number i) not_10).0 h).1

  -- 10 exactly when the sheets have no fault, and the first label list has one or, where it has none, the second
  pub subautomaton_labels : (r ≡ Err Labels) ↔ ((fault a ≡ 0) × (fault b ≡ 0) × ((labels_fault (state_count a) al ≡ 10) ⊎ ((labels_fault (state_count a) al ≡ 0) × (labels_fault (state_count b) bl ≡ 10))))
  unfolding subautomaton_answer
  subautomaton_labels =
      let k = call_refused r (subautomaton_answer a al b bl) call Labels in
      let one = sheet_number a (sheet_first b behind_sheets) 10 (lit≤ tt) in
      let two = sheet_number b behind_sheets 10 (lit≤ tt) in
      let three = labels_either (state_count a) al (labels_first (state_count b) bl truth) in
      let four = labels_either (state_count b) bl truth in (
        λ e.
            let (f, u) = one.0 (k.0 e) in
            let (g, v) = two.0 u in
            (f, g, ⊎_elim inl (λ (h, w). inr (h, ⊎_elim (λ q. q) (λ (q, z). absurd (given_not _ _ z)) (four.0 w))) (three.0 v)),
        λ (f, g, h). k.1 (one.1 (f, two.1 (g, three.1 (⊎_elim inl (λ (q, z). inr (q, four.1 (inl z))) h)))),
      )
