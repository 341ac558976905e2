-- What is proved of acceptance: what closures and simulated sets hold, and what the two entries answer.
-- closure_ascends, closure_runs: a closure is the ascending list of the states that epsilons reach.
-- simulate_runs: the set at the end of a word has exactly the states at the ends of the word's runs.
-- kind_runs: the kind of a word is the least accept word other than 0 among those states, or 0.
-- accepts_words, accepts_words_bit, accepts_words_fault: the word entry answers 1 exactly for accepted words, and otherwise 0; it refuses a sheet
-- exactly by its fault.
-- accepts_text, accepts_text_bit, accepts_text_0, accepts_text_fault, accepts_text_9: the text entry answers likewise for the code points that the
-- text encodes; it refuses a sheet by its fault, and with 9 exactly where no code points encode to the text.
use Prim.Native.Nat.{ℕ, zero, suc, ◌≤◌, ◌<◌}
use mathlib.Core.Bool.{Bool, true, false, cond}
use mathlib.Core.List.{List, [], ◌∷◌}
use mathlib.Core.Logic.{◌↔◌}
use mathlib.Core.Path.{◌≡◌, refl, sym, ◌∙◌, ap, subst}
use native.Mathlib.Omega.{arith}
use Rattle.std.specs.Prelude.{Result, Ok, Err}
use Rattle.lists.specs.Lists.{◌∈◌, Ascending, none, more}
use Rattle.automata.specs.Automaton.{Automaton, Run, stay, Accepts, InBounds}
use Rattle.automata.specs.WellFormed.{WellFormed}
use Rattle.refusal.specs.declared.InputRefusal.{InputRefusal}
use Rattle.refusal.specs.Answer.{refused, given}
use Rattle.sets.specs.Sets.{has, pick_from}
use Rattle.sets.proofs.Sets.{pick_out, mem_has, has_mem}
use Rattle.sheets.specs.Fault.{fault}
use Rattle.sheets.specs.Sheet.{read}
use Rattle.sheets.proofs.Accepted.{accepted}
use Rattle.sheets.proofs.Checking.{refused_some}
use Rattle.sheets.proofs.Meaning.{read_well}
use Rattle.sheets.proofs.Numbers.{sheet_first_lem, sheet_given, sheet_number, sheet_fault}
use Rattle.utf8.specs.Encode.{Encoded}
use Rattle.utf8.specs.Utf8.{Decoded, malformed, points, decode}
use Rattle.utf8.proofs.Exact.{decode_exact}
use Rattle.words.specs.Acceptance.{accepts_words_answer, accepts_text_answer, acceptance_of, acceptance_number}
use Rattle.words.specs.Kinds
use Rattle.words.specs.Simulation.{closure, simulate, start_set, kind_of, kind}
use Rattle.words.proofs.Answers.{text_answer}
use Rattle.words.proofs.Closures.{join, closure_sound, closure_complete, closure_canon}
use Rattle.words.proofs.Kind.{kind_of_some, kind_of_least}
use Rattle.words.proofs.Simulation.{simulate_sound, simulate_complete, closure_shut, accepts_kind}

pick_ascends : (k n : ℕ) (P : ℕ → Bool) → Ascending ◌<◌ (pick_from k n P)
unfolding pick_from
pick_ascends k zero P = none
pick_ascends k (suc n) P = go (P k) (pick_ascends (suc k) n P)
  where
    go : (b : Bool) → Ascending ◌<◌ (pick_from (suc k) n P) → Ascending ◌<◌ (cond b (k ∷ pick_from (suc k) n P) (pick_from (suc k) n P))
    go true a = more (λ q m. let r = pick_out (suc k) n P q (mem_has m) in r.0) a
    go false a = a

module _ (A : Automaton) (ok : InBounds A) where
  module _ (p : ℕ) (l : p < A.size) where
    -- the closure of a state is an ascending list
    pub closure_ascends : Ascending ◌<◌ (closure A p)
    closure_ascends = subst (Ascending ◌<◌) (closure_canon A ok p l) (pick_ascends 0 A.size _)

    -- of the states that epsilons reach
    pub closure_runs : (q : ℕ) → (q ∈ closure A p) ↔ Run A p [] q
    closure_runs q = (λ m. closure_sound A ok p q l (mem_has m), λ r. has_mem q _ (closure_complete A ok l r))

  -- the set at the end of a word has exactly the states at the ends of the word's runs
  pub simulate_runs : (w : List ℕ) (q : ℕ) → (has q (simulate A (start_set A) w) ≡ true) ↔ Run A A.start w q
  unfolding start_set
  simulate_runs w q = (
    λ h. let s = simulate_sound A ok _ w q h in join (closure_sound A ok A.start s.0 ok.starts s.1) s.2,
    λ r. simulate_complete A ok r _ (closure_shut A ok A.start ok.starts) (closure_complete A ok ok.starts stay),
  )

  -- the kind of a word is the least accept word other than 0 among those states, or 0
  pub kind_runs : (w : List ℕ) → Kinds.Kind A w (kind A w)
  unfolding kind
  kind_runs w =
      record {
        some = λ h. let r = kind_of_some A _ h in (r.0, (simulate_runs w r.0).0 r.1, r.2);
        least = λ q r h. kind_of_least A _ q ((simulate_runs w q).1 r) h;
      }

-- an accept word of 0 or 1 gives 0 or 1
kind_most : (A : Automaton) → WellFormed A → (w : List ℕ) → kind A w ≤ 1
unfolding kind
kind_most A well w = go (kind_of A (simulate A (start_set A) w)) refl
  where
    go : (k : ℕ) → kind_of A (simulate A (start_set A) w) ≡ k → k ≤ 1
    go zero e = omega arith
    go (suc k) e = let r = kind_of_some A (simulate A (start_set A) w) (rw e (omega arith)) in let b = well.accept_words_lem r.0 in omega (arith, r.2, b, e)

-- the number of an answer as the model's
number_refused : (r : Result ℕ InputRefusal) (n : ℕ) → 0 < n → (acceptance_number r ≡ n) ↔ (acceptance_of r ≡ refused n)
number_refused (Ok k) n l = (λ e. absurd (omega arith), λ e. let z : ◌≡◌ {A = ℕ} 0 1 = cc in absurd (omega arith))
number_refused (Err i) n l = (λ e. ap refused e, λ e. cc)

number_given : (r : Result ℕ InputRefusal) → acceptance_number r ≡ 0 → (k : ℕ) × (acceptance_of r ≡ given k)
number_given (Ok k) e = (k, refl)
number_given (Err i) e = absurd (refused_some i e)

given_number : (r : Result ℕ InputRefusal) (k : ℕ) → acceptance_of r ≡ given k → acceptance_number r ≡ 0
given_number (Ok j) k e = refl
given_number (Err i) k e = let z : ◌≡◌ {A = ℕ} 0 1 = cc in absurd (omega arith)

-- an answer that is the kind of a word in a sheet without a fault
module _ (s w : List ℕ) (f : fault s ≡ 0) (k : ℕ) (e : kind (read s) w ≡ k) where
  kind_accepts : (0 < k) ↔ Accepts (read s) w
  kind_accepts =
      let r = accepts_kind (read s) (read_well s (accepted s f)).states w in
      (λ h. r.1 (rw e h), λ a. rw e at (r.0 a))

  kind_bit : k ≤ 1
  kind_bit = subst (λ n. n ≤ 1) e (kind_most (read s) (read_well s (accepted s f)) w)

-- the contract of `accepts_words`: r is its answer
module _ (s w : List ℕ) (r : Result ℕ InputRefusal) (call : acceptance_of r ≡ accepts_words_answer s w) where
  words_kind : (k : ℕ) → r ≡ Ok k → (fault s ≡ 0) × (kind (read s) w ≡ k)
  unfolding accepts_words_answer
  words_kind k h = let p = (sheet_given s (given (kind (read s) w)) k).0 (sym call ∙ ap acceptance_of h) in (p.0, cc p.1)

  -- the kind that is answered is not 0 exactly where a run accepts the word
  pub accepts_words : (k : ℕ) → r ≡ Ok k → (0 < k) ↔ Accepts (read s) w
  accepts_words k h = let p = words_kind k h in kind_accepts s w p.0 k p.1

  -- it is 0 or 1
  pub accepts_words_bit : (k : ℕ) → r ≡ Ok k → k ≤ 1
  accepts_words_bit k h = let p = words_kind k h in kind_bit s w p.0 k p.1

  -- a refusal's number is answered exactly where the sheet has that fault
  pub accepts_words_fault : (n : ℕ) → 0 < n → (acceptance_number r ≡ n) ↔ (fault s ≡ n)
  unfolding accepts_words_answer
  accepts_words_fault n l =
      let p = sheet_fault s (given (kind (read s) w)) n l (λ e. let z : ◌≡◌ {A = ℕ} 0 1 = cc in omega arith) in
      (λ e. p.0 (sym call ∙ (number_refused r n l).0 e), λ e. (number_refused r n l).1 (call ∙ p.1 e))

-- no code points encode to a malformed text
malformed_none : (t : List ℕ) → decode t ≡ malformed → (ps : List ℕ) → Encoded t ps → ⊥
malformed_none t e ps c = let z : malformed ≡ points ps = sym e ∙ (decode_exact t ps).1 c in let y : ◌≡◌ {A = ℕ} 0 1 = cc in omega arith

-- the contract of `accepts_text`: r is its answer
module _ (s t : List ℕ) (r : Result ℕ InputRefusal) (call : acceptance_of r ≡ accepts_text_answer s t) where
  -- the answer behind the sheet's faults, by what the text decodes to
  data Text : Type 0 where
    bad : text_answer (read s) (decode t) ≡ refused 9 → ((ps : List ℕ) → Encoded t ps → ⊥) → Text
    good : (ps : List ℕ) → text_answer (read s) (decode t) ≡ given (kind (read s) ps) → Encoded t ps → Text

  text : Text
  text = go (decode t) refl
    where
      go : (d : Decoded) → decode t ≡ d → Text
      go malformed e = bad (ap (text_answer (read s)) e) (malformed_none t e)
      go (points ps) e = good ps (ap (text_answer (read s)) e) ((decode_exact t ps).0 e)

  text_kind : (k : ℕ) → r ≡ Ok k → (fault s ≡ 0) × ((ps : List ℕ) × Encoded t ps × (kind (read s) ps ≡ k))
  unfolding accepts_text_answer
  text_kind k h = go text
    where
      p : (fault s ≡ 0) × (text_answer (read s) (decode t) ≡ given k)
      p = (sheet_given s (text_answer (read s) (decode t)) k).0 (sym call ∙ ap acceptance_of h)

      go : Text → (fault s ≡ 0) × ((ps : List ℕ) × Encoded t ps × (kind (read s) ps ≡ k))
      go (bad e n) = let q : refused 9 ≡ given k = sym e ∙ p.1 in let z : ◌≡◌ {A = ℕ} 0 1 = cc in absurd (omega arith)
      go (good ps e c) = let q : given (kind (read s) ps) ≡ given k = sym e ∙ p.1 in (p.0, (ps, c, cc))

  -- the kind that is answered is not 0 exactly where a run accepts the code points that the text encodes
  pub accepts_text : (k : ℕ) → r ≡ Ok k → (ps : List ℕ) × Encoded t ps × ((0 < k) ↔ Accepts (read s) ps)
  accepts_text k h = let (f, (ps, c, e)) = text_kind k h in (ps, c, kind_accepts s ps f k e)

  -- it is 0 or 1
  pub accepts_text_bit : (k : ℕ) → r ≡ Ok k → k ≤ 1
  accepts_text_bit k h = let (f, (ps, c, e)) = text_kind k h in kind_bit s ps f k e

  -- a kind is answered exactly where the sheet has no fault and the text encodes code points
  pub accepts_text_0 : (acceptance_number r ≡ 0) ↔ ((fault s ≡ 0) × ((ps : List ℕ) × Encoded t ps))
  unfolding accepts_text_answer
  accepts_text_0 = (out text, λ (f, (ps, c)). into text f ps c)
    where
      out : Text → acceptance_number r ≡ 0 → (fault s ≡ 0) × ((ps : List ℕ) × Encoded t ps)
      out (bad e n) h =
          let (k, g) = number_given r h in
          let q : refused 9 ≡ given k = sym e ∙ ((sheet_given s (text_answer (read s) (decode t)) k).0 (sym call ∙ g)).1 in
          let z : ◌≡◌ {A = ℕ} 0 1 = cc in
          absurd (omega arith)
      out (good ps e c) h = let (k, g) = number_given r h in (((sheet_given s (text_answer (read s) (decode t)) k).0 (sym call ∙ g)).0, (ps, c))

      into : Text → fault s ≡ 0 → (ps : List ℕ) → Encoded t ps → acceptance_number r ≡ 0
      into (bad e n) f ps c = absurd (n ps c)
      into (good qs e d) f ps c = given_number r (kind (read s) qs) (call ∙ sheet_first_lem s (text_answer (read s) (decode t)) f ∙ e)

  -- 1 to 6 are answered exactly where the sheet has that fault
  pub accepts_text_fault : (n : ℕ) → 0 < n → n ≤ 6 → (acceptance_number r ≡ n) ↔ (fault s ≡ n)
  unfolding accepts_text_answer
  accepts_text_fault n l m =
      let p = sheet_fault s (text_answer (read s) (decode t)) n l (other text) in
      (λ e. p.0 (sym call ∙ (number_refused r n l).0 e), λ e. (number_refused r n l).1 (call ∙ p.1 e))
    where
      other : Text → text_answer (read s) (decode t) ≡ refused n → ⊥
      other (bad e x) h = let q : refused 9 ≡ refused n = sym e ∙ h in let z : 9 ≡ n = cc in omega arith
      other (good ps e c) h = let q : given (kind (read s) ps) ≡ refused n = sym e ∙ h in let z : ◌≡◌ {A = ℕ} 0 1 = cc in omega arith

  -- 9 is answered exactly where the sheet has no fault and no code points encode to the text
  pub accepts_text_9 : (acceptance_number r ≡ 9) ↔ ((fault s ≡ 0) × ((ps : List ℕ) → Encoded t ps → ⊥))
  unfolding accepts_text_answer
  accepts_text_9 = (out text, λ (f, n). into text f n)
    where
      p : (accepts_text_answer s t ≡ refused 9) ↔ ((fault s ≡ 0) × (text_answer (read s) (decode t) ≡ refused 9))
      p = sheet_number s (text_answer (read s) (decode t)) 9 (omega arith)

      out : Text → acceptance_number r ≡ 9 → (fault s ≡ 0) × ((ps : List ℕ) → Encoded t ps → ⊥)
      out (bad e n) h = ((p.0 (sym call ∙ (number_refused r 9 (omega arith)).0 h)).0, n)
      out (good ps e c) h =
          let q : given (kind (read s) ps) ≡ refused 9 = sym e ∙ (p.0 (sym call ∙ (number_refused r 9 (omega arith)).0 h)).1 in
          let z : ◌≡◌ {A = ℕ} 0 1 = cc in
          absurd (omega arith)

      into : Text → fault s ≡ 0 → ((ps : List ℕ) → Encoded t ps → ⊥) → acceptance_number r ≡ 9
      into (bad e x) f n = (number_refused r 9 (omega arith)).1 (call ∙ p.1 (f, e))
      into (good ps e c) f n = absurd (n ps c)
