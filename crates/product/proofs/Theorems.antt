-- What is proved of the product of two automata (document 01, "Product, totality, complement, emptiness").
--
-- Of two automata, as accepted sheets read:
--   product_words            where neither holds an epsilon the product accepts just the words that both accept
--   product_labels           state q stands for pair q of the table, and its label is `(i, j)` for the states i and j of that pair
--   product_pairs            the table holds exactly the reached pairs, each once
--   product_wellformed, product_written, product_read
--                            the product is well-formed, and written as an accepted sheet, which reads as the product
--   refused_21, refused_7, refused_22
--                            where each number is refused, exactly
--   product_given            where none is, a product is given
-- Of the call on the sheets a and b, from its contract:
--   intersection_left        where lengths are answered, the product and its labels stand in the outputs
--   intersection_left_labels state q of the sheet left stands for pair q of the table, and its label is `(i, j)`
--   intersection_left_words  where neither sheet holds an epsilon, the sheet left accepts just the words that both accept
--   intersection_lengths     where lengths are answered, exactly
--   intersection_20, intersection_fault, intersection_21, intersection_7, intersection_22
--                            where each number is answered, exactly
--   intersection_unchanged   a refusal leaves both outputs as they were
use Rattle.std.proofs.Common.{Result, Ok}
use Prim.Native.Nat.{ℕ, ◌≤◌, ◌<◌}
use mathlib.Core.Bool.{false, false≢true}
use mathlib.Core.List.{List, map}
use mathlib.Core.Logic.{◌⊎◌, ◌↔◌}
use mathlib.Core.Path.{◌≡◌, sym, ◌∙◌, ap, subst}
use native.Mathlib.Omega.{arith}
use lib.ListN.{take}
use Rattle.lists.specs.Lists.{◌∈◌, any, Distinct}
use Rattle.automata.specs.Automaton.{Automaton, Accepts, EpsilonFree}
use Rattle.automata.specs.Pairs.{Pair}
use Rattle.automata.specs.WellFormed.{most_states, most_transitions, WellFormed}
use Rattle.labels.specs.Labels.{read_labels}
use Rattle.output.specs.declared.Made.{Made}
use Rattle.refusal.specs.declared.Refusal.{Refusal}
use Rattle.output.specs.Left.{made_number, Room, Leaves, Unchanged}
use Rattle.output.specs.Made.{output_of}
use Rattle.output.specs.Output.{Pattern, outputs, room_first}
use Rattle.output.proofs.Left.{call_given, call_20, call_number, call_refused, call_leaves}
use Rattle.refusal.specs.Answer.{Answer, refused, given}
use Rattle.search.specs.Search.{found, over, table}
use Rattle.search.proofs.Queue.{table_all}
use Rattle.sheets.specs.Checked.{sheet_first}
use Rattle.sheets.specs.Fault.{fault}
use Rattle.sheets.specs.Sheet.{read, write}
use Rattle.sheets.proofs.Decisions.{given_not}
use Rattle.sheets.proofs.Accepted.{accepted}
use Rattle.sheets.proofs.Meaning.{read_well, read_write_sheet, write_accepted}
use Rattle.product.specs.Product.{product_automaton, blocked_at, pair_label_of, product, intersection_answer}
use Rattle.product.specs.Product
use Rattle.product.specs.Reached.{PairReached, ManyPairs, Blocked, ManyTransitions}
use Rattle.product.proofs.Answers.{Outcome, many_pairs, stopped, many_transitions, made, outcome, answer_over}
use Rattle.product.proofs.Given.{built_by, product_other, given_well, given_fits, given_writable, sheets_given, sheets_number, sheets_fault}
use Rattle.product.proofs.Pairs.{pairs_decides, over_pairs}
use Rattle.product.proofs.Refusals.{reached_in, in_reached, blocked_exact, many_exact}
use Rattle.product.proofs.Runs.{words_both}

module _ (A B : Automaton) where
  -- the table holds exactly the reached pairs, each once
  pub product_pairs : (T : List Pair) → table (Product.meeting_pairs A B) most_states ≡ found T → Distinct T × ((p : Pair) → (p ∈ T) ↔ PairReached A B p.left p.right)
  product_pairs T e = ((table_all (Product.meeting_pairs A B) (pairs_decides A B) most_states T e).good.distinct, λ p. (in_reached A B T e p, reached_in A B T e))

  module _ (P : Pattern) (e : product A B ≡ given P) where
    -- state q stands for pair q of the table, in the order in which the queue meets them, and its label is `(i, j)` for the states i and j of that pair
    pub product_labels : (T : List Pair) × (table (Product.meeting_pairs A B) most_states ≡ found T) × (P.automaton ≡ product_automaton A B T) × (P.labels ≡ map pair_label_of T)
    product_labels = let r = built_by A B P e in (r.pairs, r.whole, ap (λ (Q : Pattern). Q.automaton) r.is, ap (λ (Q : Pattern). Q.labels) r.is)

    -- where neither automaton holds an epsilon the product accepts just the words that both accept
    pub product_words : EpsilonFree A → EpsilonFree B → (w : List ℕ) → Accepts P.automaton w ↔ (Accepts A w × Accepts B w)
    product_words f g w = let r = built_by A B P e in rw r.is (words_both A B r.pairs r.whole f g w)

    -- the product is well-formed where the first automaton is
    pub product_wellformed : WellFormed A → WellFormed P.automaton
    product_wellformed = given_well A B P e

    -- it is then written as an accepted sheet, which reads as the product
    pub product_written : WellFormed A → fault (write P.automaton) ≡ 0
    product_written w = write_accepted P.automaton (product_wellformed w) (given_fits A B P e)

    pub product_read : WellFormed A → read (write P.automaton) ≡ P.automaton
    product_read w = read_write_sheet P.automaton (product_wellformed w).accepts

  few_found : {T : List Pair} → table (Product.meeting_pairs A B) most_states ≡ found T → ManyPairs most_states A B → ⊥
  few_found {T} e m = let c : found T ≡ over = sym e ∙ (over_pairs A B).1 m in let z : ◌≡◌ {A = ℕ} 0 1 = cc in absurd (omega arith)

  free : (T : List Pair) → table (Product.meeting_pairs A B) most_states ≡ found T → any (blocked_at A B) T ≡ false → Blocked A B → ⊥
  free T e h b = false≢true (sym h ∙ (blocked_exact A B T e).1 b)

  -- 21 exactly where over 256 pairs are reached
  pub refused_21 : (product A B ≡ refused 21) ↔ ManyPairs most_states A B
  refused_21 = (λ p. out p (outcome A B), λ m. answer_over A B ((over_pairs A B).1 m))
    where
      out : product A B ≡ refused 21 → Outcome A B → ManyPairs most_states A B
      out p (many_pairs e q) = (over_pairs A B).0 e
      out p (stopped T e b q) = let z : ◌≡◌ {A = ℕ} 21 7 = cc in absurd (omega arith)
      out p (many_transitions T e b h q) = let z : ◌≡◌ {A = ℕ} 21 22 = cc in absurd (omega arith)
      out p (made T e b h q) = let z : ◌≡◌ {A = ℕ} 0 1 = cc in absurd (omega arith)

  -- 7 exactly where they are not, and some reached pair has records on both sides and an epsilon on at least one of them
  pub refused_7 : (product A B ≡ refused 7) ↔ ((ManyPairs most_states A B → ⊥) × Blocked A B)
  refused_7 = (λ p. out p (outcome A B), λ m. into m.0 m.1 (outcome A B))
    where
      out : product A B ≡ refused 7 → Outcome A B → (ManyPairs most_states A B → ⊥) × Blocked A B
      out p (many_pairs e q) = let z : ◌≡◌ {A = ℕ} 21 7 = cc in absurd (omega arith)
      out p (stopped T e b q) = (few_found e, (blocked_exact A B T e).0 b)
      out p (many_transitions T e b h q) = let z : ◌≡◌ {A = ℕ} 7 22 = cc in absurd (omega arith)
      out p (made T e b h q) = let z : ◌≡◌ {A = ℕ} 0 1 = cc in absurd (omega arith)

      into : (ManyPairs most_states A B → ⊥) → Blocked A B → Outcome A B → product A B ≡ refused 7
      into n m (many_pairs e q) = absurd (n ((over_pairs A B).0 e))
      into n m (stopped T e b q) = q
      into n m (many_transitions T e b h q) = absurd (free T e b m)
      into n m (made T e b h q) = absurd (free T e b m)

  -- 22 exactly where neither holds, and there are over 2,048 transitions, equal ones counted once
  pub refused_22 : (product A B ≡ refused 22) ↔ ((ManyPairs most_states A B → ⊥) × (Blocked A B → ⊥) × ManyTransitions most_transitions A B)
  refused_22 = (λ p. out p (outcome A B), λ m. into m.0 m.1 m.2 (outcome A B))
    where
      out : product A B ≡ refused 22 → Outcome A B → (ManyPairs most_states A B → ⊥) × (Blocked A B → ⊥) × ManyTransitions most_transitions A B
      out p (many_pairs e q) = let z : ◌≡◌ {A = ℕ} 21 22 = cc in absurd (omega arith)
      out p (stopped T e b q) = let z : ◌≡◌ {A = ℕ} 7 22 = cc in absurd (omega arith)
      out p (many_transitions T e b h q) = (few_found e, free T e b, (many_exact A B T e).0 h)
      out p (made T e b h q) = let z : ◌≡◌ {A = ℕ} 0 1 = cc in absurd (omega arith)

      into : (ManyPairs most_states A B → ⊥) → (Blocked A B → ⊥) → ManyTransitions most_transitions A B → Outcome A B → product A B ≡ refused 22
      into n m k (many_pairs e q) = absurd (n ((over_pairs A B).0 e))
      into n m k (stopped T e b q) = absurd (m ((blocked_exact A B T e).0 b))
      into n m k (many_transitions T e b h q) = q
      into n m k (made T e b h q) = let l = (many_exact A B T e).1 k in absurd (omega arith)

  -- a product is given where none of them holds
  pub product_given : (ManyPairs most_states A B → ⊥) → (Blocked A B → ⊥) → (ManyTransitions most_transitions A B → ⊥) → (P : Pattern) × (product A B ≡ given P)
  product_given n m k = go (outcome A B)
    where
      go : Outcome A B → (P : Pattern) × (product A B ≡ given P)
      go (many_pairs e q) = absurd (n ((over_pairs A B).0 e))
      go (stopped T e b q) = absurd (m ((blocked_exact A B T e).0 b))
      go (many_transitions T e b h q) = absurd (k ((many_exact A B T e).0 h))
      go (made T e b h q) = (record { automaton = product_automaton A B T; labels = map pair_label_of T }, q)

-- the call on the sheets a and b: r is its answer, o and l are the outputs before it, o' and l' after it
module _ (a b o l o' l' : List ℕ) (r : Result Made Refusal) (call : output_of r o' l' ≡ outputs o l (intersection_answer a b o l)) where
  -- the answer behind 20
  abbrev answer : Answer Pattern
  answer = sheet_first a (sheet_first b (product (read a) (read b)))

  contract : output_of r o' l' ≡ outputs o l (room_first o l answer)
  unfolding intersection_answer
  contract = call

  module _ (w n : ℕ) (lengths : r ≡ Ok (record { words = w; bytes = n })) where
    answered : (P : Pattern) × (fault a ≡ 0) × (fault b ≡ 0) × (product (read a) (read b) ≡ given P)
    answered =
        let (k, x) = (call_given o l o' l' r answer contract).0 (ap made_number lengths) in
        let (f, g, e) = (sheets_given a b (product (read a) (read b)) x.0).0 x.1 in
        (x.0, f, g, e)

    -- the product stands in the one output, and its labels in the other
    pub intersection_left : (P : Pattern) × (product (read a) (read b) ≡ given P) × Leaves o l o' l' w n P.automaton P.labels
    intersection_left =
        let (P, f, g, e) = answered in
        let i = accepted a f in
        let j = accepted b g in
        let h = (sheets_given a b (product (read a) (read b)) P).1 (f, g, e) in
        let ok = given_writable (read a) (read b) P e (read_well a i) (read_well b j) i.few_states j.few_states in
        (P, e, call_leaves o l o' l' r answer contract w n lengths P h ok)

    -- state q of the sheet left stands for pair q of the table, and its label is `(i, j)` for the states i and j of that pair
    pub intersection_left_labels : (T : List Pair) × (table (Product.meeting_pairs (read a) (read b)) most_states ≡ found T) × (read (take w o') ≡ product_automaton (read a) (read b) T) × (read_labels (take n l') ≡ map pair_label_of T)
    intersection_left_labels =
        let (P, e, left) = intersection_left in
        let (T, whole, is, names) = product_labels (read a) (read b) P e in
        (T, whole, left.reads ∙ is, left.labelled ∙ names)

    -- where neither sheet holds an epsilon, the sheet left accepts just the words that both accept
    pub intersection_left_words : EpsilonFree (read a) → EpsilonFree (read b) → (v : List ℕ) → Accepts (read (take w o')) v ↔ (Accepts (read a) v × Accepts (read b) v)
    intersection_left_words f g v =
        let (P, e, left) = intersection_left in
        subst (λ (A : Automaton). Accepts A v ↔ (Accepts (read a) v × Accepts (read b) v)) (sym left.reads) (product_words (read a) (read b) P e f g v)

  -- nothing is refused exactly where there is room, neither sheet has a fault and none of the conditions of 21, 7 and 22 holds
  pub intersection_lengths : (made_number r ≡ 0)
      ↔ (Room o l × (fault a ≡ 0) × (fault b ≡ 0) × (ManyPairs most_states (read a) (read b) → ⊥) × (Blocked (read a) (read b) → ⊥) × (ManyTransitions most_transitions (read a) (read b) → ⊥))
  intersection_lengths =
      let A = read a in
      let B = read b in
      let c = call_given o l o' l' r answer contract in (
        λ h.
            let (k, x) = c.0 h in
            let (f, g, e) = (sheets_given a b (product A B) x.0).0 x.1 in
            let few-pairs : ManyPairs most_states A B → ⊥ = λ m. given_not _ _ (sym e ∙ (refused_21 A B).1 m) in
            let free : Blocked A B → ⊥ = λ m. given_not _ _ (sym e ∙ (refused_7 A B).1 (few-pairs, m)) in
            (k, f, g, few-pairs, free, λ m. given_not _ _ (sym e ∙ (refused_22 A B).1 (few-pairs, free, m))),
        λ (k, f, g, i, j, m). let (P, e) = product_given A B i j m in c.1 (k, (P, (sheets_given a b (product A B) P).1 (f, g, e))),
      )

  -- 20 exactly where an output is too short
  pub intersection_20 : (made_number r ≡ 20) ↔ (Room o l → ⊥)
  intersection_20 =
      call_20 o l o' l' r answer contract
      (λ e. product_other (read a) (read b) 20 (λ z. omega arith) (λ z. omega arith) (λ z. omega arith) ((sheets_number a b (product (read a) (read b)) 20 (omega arith)).0 e).2)

  -- 1 to 6 exactly where there is room and the first sheet has that fault, or the second where the first has none
  pub intersection_fault : (m : ℕ) → 1 ≤ m → m ≤ 6 → (made_number r ≡ m) ↔ (Room o l × ((fault a ≡ m) ⊎ ((fault a ≡ 0) × (fault b ≡ m))))
  intersection_fault m i j =
      let c = call_number o l o' l' r answer contract m (λ z. omega arith) (λ z. omega arith) in
      let p = sheets_fault a b (product (read a) (read b)) m (omega arith) (product_other (read a) (read b) m (λ z. omega arith) (λ z. omega arith) (λ z. omega arith)) in
      (λ h. let (k, e) = c.0 h in (k, p.0 e), λ (k, f). c.1 (k, p.1 f))

  number : (m : ℕ) → 6 < m → (m ≡ 20 → ⊥) → (made_number r ≡ m) ↔ (Room o l × (fault a ≡ 0) × (fault b ≡ 0) × (product (read a) (read b) ≡ refused m))
  number m i j =
      let c = call_number o l o' l' r answer contract m (λ z. omega arith) j in
      let p = sheets_number a b (product (read a) (read b)) m i in
      (λ h. let (k, e) = c.0 h in let (f, g, q) = p.0 e in (k, f, g, q), λ (k, f, g, q). c.1 (k, p.1 (f, g, q)))

  -- 21 exactly where there is room, neither sheet has a fault and over 256 pairs are reached
  pub intersection_21 : (made_number r ≡ 21) ↔ (Room o l × (fault a ≡ 0) × (fault b ≡ 0) × ManyPairs most_states (read a) (read b))
  intersection_21 =
      let c = number 21 (omega arith) (λ z. omega arith) in
      let p = refused_21 (read a) (read b) in
      (λ h. let (k, f, g, e) = c.0 h in (k, f, g, p.0 e), λ (k, f, g, m). c.1 (k, f, g, p.1 m))

  -- 7 exactly where there is room, neither sheet has a fault, at most 256 pairs are reached, and one of them has records on both sides and an epsilon on at least one
  pub intersection_7 : (made_number r ≡ 7) ↔ (Room o l × (fault a ≡ 0) × (fault b ≡ 0) × (ManyPairs most_states (read a) (read b) → ⊥) × Blocked (read a) (read b))
  intersection_7 =
      let c = number 7 (omega arith) (λ z. omega arith) in
      let p = refused_7 (read a) (read b) in
      (λ h. let (k, f, g, e) = c.0 h in let (i, m) = p.0 e in (k, f, g, i, m), λ (k, f, g, i, m). c.1 (k, f, g, p.1 (i, m)))

  -- 22 exactly where there is room, neither sheet has a fault, neither condition before holds, and there are over 2,048 transitions, equal ones counted once
  pub intersection_22 : (made_number r ≡ 22)
      ↔ (Room o l × (fault a ≡ 0) × (fault b ≡ 0) × (ManyPairs most_states (read a) (read b) → ⊥) × (Blocked (read a) (read b) → ⊥) × ManyTransitions most_transitions (read a) (read b))
  intersection_22 =
      let c = number 22 (omega arith) (λ z. omega arith) in
      let p = refused_22 (read a) (read b) in
      (λ h. let (k, f, g, e) = c.0 h in let (i, j, m) = p.0 e in (k, f, g, i, j, m), λ (k, f, g, i, j, m). c.1 (k, f, g, p.1 (i, j, m)))

  -- a refusal leaves both outputs as they were
  pub intersection_unchanged : (made_number r ≡ 0 → ⊥) → Unchanged o l o' l'
  intersection_unchanged = call_refused o l o' l' r answer contract
