-- A product that is given: it comes from a finished table and can be written. And exactly where the answer for two sheets is each refusal.
use Prim.Native.Nat.{ℕ, ◌≤◌, ◌<◌}
use mathlib.Core.Bool.{Bool, true, false, cond}
use mathlib.Core.List.{List, map}
use mathlib.Core.Logic.{◌⊎◌, inl, inr, ◌↔◌}
use mathlib.Core.Path.{◌≡◌, refl, ◌∙◌}
use native.Mathlib.Omega.{arith}
use borrow.Author.Tests.{eqb-true, ne_eqb}
use lib.Dec.{eqb}
use lib.ListN.{length, length-map}
use Rattle.automata.specs.Automaton.{Automaton, InBounds}
use Rattle.automata.specs.Pairs.{Pair}
use Rattle.automata.specs.WellFormed.{most_states, most_transitions, WellFormed, Fits}
use Rattle.output.specs.Output.{Pattern}
use Rattle.output.proofs.Left.{Writable}
use Rattle.refusal.specs.Answer.{Answer, refused, given}
use Rattle.search.specs.Search.{found, table}
use Rattle.search.proofs.Queue.{table_few}
use Rattle.sheets.specs.Checked.{sheet_first}
use Rattle.sheets.specs.Fault.{fault}
use Rattle.sheets.proofs.Numbers.{sheet_first_lem, sheet_given, sheet_number, sheet_fault}
use Rattle.product.specs.Product
use Rattle.product.specs.Product.{product_automaton, pair_label_of, product}
use Rattle.product.specs.Reached.{PairReached, start, step}
use Rattle.product.specs.inner.Tables.{PairsBelow}
use Rattle.product.proofs.Answers.{Outcome, many_pairs, stopped, many_transitions, made, outcome}
use Rattle.product.proofs.Pairs.{pairs_decides}
use Rattle.product.proofs.Refusals.{in_reached}
use Rattle.product.proofs.Sections.{labels_all}
use Rattle.product.proofs.Written.{built_well_formed}

-- a reached pair is a pair of states
reached_states : {A B : Automaton} → InBounds A → InBounds B → {p q : ℕ} → PairReached A B p q → (p < A.size) × (q < B.size)
reached_states v w start = (v.starts, w.starts)
reached_states v w (step {d} {e} r m) = (v.tos d m.left, w.tos e m.right)

module _ (A B : Automaton) where
  -- a product that was given comes from a finished table, with few enough transitions
  pub record Built (P : Pattern) : Type 0 where
    pub pairs : List Pair
    pub whole : table (Product.meeting_pairs A B) most_states ≡ found pairs
    pub is : P ≡ record { automaton = product_automaton A B pairs; labels = map pair_label_of pairs }
    pub few : length (product_automaton A B pairs).transitions ≤ most_transitions

  pub built_by : (P : Pattern) → product A B ≡ given P → Built P
  built_by P p = go (outcome A B)
    where
      go : Outcome A B → Built P
      go (many_pairs e q) = let z : ◌≡◌ {A = ℕ} 0 1 = cc in absurd (omega arith)
      go (stopped T e b q) = let z : ◌≡◌ {A = ℕ} 0 1 = cc in absurd (omega arith)
      go (many_transitions T e b h q) = let z : ◌≡◌ {A = ℕ} 0 1 = cc in absurd (omega arith)
      go (made T e b h q) = record { pairs = T; whole = e; is = cc; few = h }

  -- no number but 21, 7 and 22 is refused
  pub product_other : (m : ℕ) → (m ≡ 21 → ⊥) → (m ≡ 7 → ⊥) → (m ≡ 22 → ⊥) → product A B ≡ refused m → ⊥
  product_other m i j k p = go (outcome A B)
    where
      go : Outcome A B → ⊥
      go (many_pairs e q) = let z : m ≡ 21 = cc in i z
      go (stopped T e b q) = let z : m ≡ 7 = cc in j z
      go (many_transitions T e b h q) = let z : m ≡ 22 = cc in k z
      go (made T e b h q) = let z : ◌≡◌ {A = ℕ} 0 1 = cc in absurd (omega arith)

  module _ (P : Pattern) (e : product A B ≡ given P) where
    -- it is well-formed where the first automaton is, and within the limits
    pub given_well : WellFormed A → WellFormed P.automaton
    given_well v = let r = built_by P e in rw r.is (built_well_formed A B v r.pairs r.whole)

    pub given_fits : Fits P.automaton
    given_fits =
        let r = built_by P e in
        rw r.is (record { few_states = unfold product_automaton in table_few (Product.meeting_pairs A B) (pairs_decides A B) most_states r.pairs r.whole; few_transitions_lem = r.few })

    -- and can be written where both are, of at most 256 states
    pub given_writable : WellFormed A → WellFormed B → A.size ≤ most_states → B.size ≤ most_states → Writable P
    given_writable v w i j =
        let r = built_by P e in
        let within : PairsBelow 256 256 r.pairs =
        record { states = λ p m. let (x, y) = reached_states v.states w.states (in_reached A B r.pairs r.whole p m) in (omega arith, omega arith) } in
        record {
          well = given_well v;
          fits = given_fits;
          labels = rw r.is (labels_all r.pairs within);
          each = rw r.is (unfold product_automaton in length-map r.pairs pair_label_of);
        }

-- an answer behind the faults of two sheets
module _ {X : Type 0} (a b : List ℕ) (p : Answer X) where
  pub sheets_given : (x : X) → (sheet_first a (sheet_first b p) ≡ given x) ↔ ((fault a ≡ 0) × (fault b ≡ 0) × (p ≡ given x))
  sheets_given x =
      let i = sheet_given a (sheet_first b p) x in
      let j = sheet_given b p x in
      (λ e. let (f, h) = i.0 e in let (g, k) = j.0 h in (f, g, k), λ (f, g, k). i.1 (f, j.1 (g, k)))

  pub sheets_number : (m : ℕ) → 6 < m → (sheet_first a (sheet_first b p) ≡ refused m) ↔ ((fault a ≡ 0) × (fault b ≡ 0) × (p ≡ refused m))
  sheets_number m l =
      let i = sheet_number a (sheet_first b p) m l in
      let j = sheet_number b p m l in
      (λ e. let (f, h) = i.0 e in let (g, k) = j.0 h in (f, g, k), λ (f, g, k). i.1 (f, j.1 (g, k)))

  -- the first's fault, or the second's where the first has none
  pub sheets_fault : (m : ℕ) → 0 < m → (p ≡ refused m → ⊥) → (sheet_first a (sheet_first b p) ≡ refused m) ↔ ((fault a ≡ m) ⊎ ((fault a ≡ 0) × (fault b ≡ m)))
  unfolding sheet_first
  sheets_fault m l other = (out (eqb (fault a) 0) refl, into)
    where
      out : (c : Bool) → eqb (fault a) 0 ≡ c → cond c (sheet_first b p) (refused (fault a)) ≡ refused m → (fault a ≡ m) ⊎ ((fault a ≡ 0) × (fault b ≡ m))
      out true h e = inr (eqb-true _ _ h, (sheet_fault b p m l other).0 e)
      out false h e = let z : fault a ≡ m = cc in inl z

      into : (fault a ≡ m) ⊎ ((fault a ≡ 0) × (fault b ≡ m)) → cond (eqb (fault a) 0) (sheet_first b p) (refused (fault a)) ≡ refused m
      into (inl f) = rw (f, ne_eqb m 0 (λ z. omega arith))
      into (inr (f, g)) = sheet_first_lem a (sheet_first b p) f ∙ (sheet_fault b p m l other).1 g
