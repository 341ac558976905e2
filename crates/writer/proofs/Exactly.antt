-- Exactly where the text of a pattern, and of a sheet with its labels, is given, and where each refusal is.
use Prim.Native.Nat.{ℕ, ◌≤◌, ◌<◌}
use mathlib.Core.Bool.{true, false}
use mathlib.Core.List.{List}
use mathlib.Core.Logic.{◌↔◌, inr}
use mathlib.Core.Path.{◌≡◌, ap}
use native.Mathlib.Omega.{arith}
use borrow.Author.Tests.{lt-ltb, le-ltb, ltb-true, ltb-false}
use lib.Dec.{ltb}
use lib.ListN.{length}
use Rattle.labels.specs.Labels.{labels_fault}
use Rattle.output.specs.Output.{Pattern, read_pattern, labels_first}
use Rattle.output.proofs.Exact.{inputs_given, inputs_10}
use Rattle.output.proofs.Left.{labels_number}
use Rattle.refusal.specs.Answer.{Answer, refused, given}
use Rattle.refusal.proofs.Behind.{behind_given, behind_number, behind_refused}
use Rattle.sheets.specs.Fault.{fault}
use Rattle.sheets.specs.Checked.{sheet_first}
use Rattle.sheets.specs.Sheet.{state_count}
use Rattle.sheets.proofs.Decisions.{given_not}
use Rattle.sheets.proofs.Numbers.{sheet_some, sheet_number, sheet_fault}
use Rattle.writer.specs.Text.{text_size, pattern_text, epsilon_first, accepting_first, names_first, pattern_answer, write_answer}
use Rattle.writer.specs.Refusals.{SomeEpsilon, SomeAccepting, Unfit}
use Rattle.writer.proofs.Conditions.{fails, passes, epsilon_test, accepting_test, unfit_test}

module _ (P : Pattern) where
  abbrev text : Answer (List ℕ)
  text = given (pattern_text P)

  names_given : (t : List ℕ) → (names_first P text ≡ given t) ↔ ((Unfit P → ⊥) × (text ≡ given t))
  unfolding names_first
  names_given = behind_given _ 32 text (unfit_test P) (fails _ (unfit_test P))

  names_32 : (names_first P text ≡ refused 32) ↔ Unfit P
  unfolding names_first
  names_32 = behind_refused _ 32 text (unfit_test P) (fails _ (unfit_test P)) (given_not _ _)

  -- 32 alone is answered by the names and the length
  names_other : (m : ℕ) → (m ≡ 32 → ⊥) → names_first P text ≡ refused m → ⊥
  unfolding names_first
  names_other m n e = given_not _ _ ((behind_number _ 32 text (unfit_test P) (fails _ (unfit_test P)) m n).0 e).1

  abbrev behind_epsilons : Answer (List ℕ)
  behind_epsilons = accepting_first P.automaton (names_first P text)

  accepting_given : (t : List ℕ) → (behind_epsilons ≡ given t) ↔ (SomeAccepting P × (names_first P text ≡ given t))
  unfolding accepting_first
  accepting_given = behind_given _ 31 (names_first P text) (passes _ (accepting_test P)) (accepting_test P)

  accepting_number : (m : ℕ) → (m ≡ 31 → ⊥) → (behind_epsilons ≡ refused m) ↔ (SomeAccepting P × (names_first P text ≡ refused m))
  unfolding accepting_first
  accepting_number = behind_number _ 31 (names_first P text) (passes _ (accepting_test P)) (accepting_test P)

  accepting_31 : (behind_epsilons ≡ refused 31) ↔ (SomeAccepting P → ⊥)
  unfolding accepting_first
  accepting_31 = behind_refused _ 31 (names_first P text) (passes _ (accepting_test P)) (accepting_test P) (names_other 31 (λ z. omega arith))

  -- the text is given exactly where none of the three refusals is
  pub pattern_given : (t : List ℕ) → (pattern_answer P ≡ given t) ↔ ((SomeEpsilon P → ⊥) × SomeAccepting P × (Unfit P → ⊥) × (pattern_text P ≡ t))
  unfolding pattern_answer epsilon_first
  pattern_given t =
      let p = behind_given _ 30 behind_epsilons (epsilon_test P) (fails _ (epsilon_test P)) t in
      let q = accepting_given t in
      let r = names_given t in (
        λ e. let (n, f) = p.0 e in let (a, g) = q.0 f in let (u, h) = r.0 g in (n, a, u, cc),
        λ (n, a, u, z). p.1 (n, q.1 (a, r.1 (u, ap given z))),
      )

  -- and it has at most 65,536 bytes
  pub pattern_short : (t : List ℕ) → pattern_answer P ≡ given t → length t ≤ text_size
  pattern_short t e =
      let (n, a, u, z) = (pattern_given t).0 e in
      let k : text_size < length (pattern_text P) → ⊥ = λ h. u (inr (inr h)) in
      omega (arith, ap length z)

  pub pattern_30 : (pattern_answer P ≡ refused 30) ↔ SomeEpsilon P
  unfolding pattern_answer epsilon_first
  pattern_30 =
      behind_refused _ 30 behind_epsilons (epsilon_test P) (fails _ (epsilon_test P))
      (λ e. names_other 30 (λ z. omega arith) ((accepting_number 30 (λ z. omega arith)).0 e).1)

  pub pattern_31 : (pattern_answer P ≡ refused 31) ↔ ((SomeEpsilon P → ⊥) × (SomeAccepting P → ⊥))
  unfolding pattern_answer epsilon_first
  pattern_31 =
      let p = behind_number _ 30 behind_epsilons (epsilon_test P) (fails _ (epsilon_test P)) 31 (λ z. omega arith) in
      (λ e. let (n, f) = p.0 e in (n, accepting_31.0 f), λ (n, a). p.1 (n, accepting_31.1 a))

  pub pattern_32 : (pattern_answer P ≡ refused 32) ↔ ((SomeEpsilon P → ⊥) × SomeAccepting P × Unfit P)
  unfolding pattern_answer epsilon_first
  pattern_32 =
      let p = behind_number _ 30 behind_epsilons (epsilon_test P) (fails _ (epsilon_test P)) 32 (λ z. omega arith) in
      let q = accepting_number 32 (λ z. omega arith) in (
        λ e. let (n, f) = p.0 e in let (a, g) = q.0 f in (n, a, names_32.0 g),
        λ (n, a, u). p.1 (n, q.1 (a, names_32.1 u)),
      )

  -- no other number is answered
  pub pattern_other : (m : ℕ) → m < 30 → pattern_answer P ≡ refused m → ⊥
  unfolding pattern_answer epsilon_first
  pattern_other m l e =
      let p = behind_number _ 30 behind_epsilons (epsilon_test P) (fails _ (epsilon_test P)) m (λ z. omega arith) in
      names_other m (λ z. omega arith) ((accepting_number m (λ z. omega arith)).0 (p.0 e).1).1

-- of the sheet s with the labels b, where o is lent for the text
module _ (s b o : List ℕ) where
  abbrev behind_room : Answer (List ℕ)
  behind_room = sheet_first s (labels_first (state_count s) b (pattern_answer (read_pattern s b)))

  short : (ltb (length o) text_size ≡ true) ↔ (length o < text_size)
  short = (ltb-true (length o) text_size, lt-ltb (length o) text_size)

  long : (ltb (length o) text_size ≡ false) ↔ (text_size ≤ length o)
  long = (ltb-false (length o) text_size, le-ltb (length o) text_size)

  -- a text is given exactly where there is room, the sheet and the labels have no fault, and it is given for the pattern
  pub write_given : (t : List ℕ) → (write_answer s b o ≡ given t)
      ↔ ((text_size ≤ length o) × (fault s ≡ 0) × (labels_fault (state_count s) b ≡ 0) × (pattern_answer (read_pattern s b) ≡ given t))
  unfolding write_answer
  write_given t =
      let p = behind_given _ 20 behind_room short long t in
      let q = inputs_given s b (pattern_answer (read_pattern s b)) t in (
        λ e. let (r, h) = p.0 e in let (f, g, i) = q.0 h in (r, f, g, i),
        λ (r, f, g, i). p.1 (r, q.1 (f, g, i)),
      )

  -- and there is room for it
  pub write_room : (t : List ℕ) → write_answer s b o ≡ given t → length t ≤ length o
  write_room t e = let (r, f, g, h) = (write_given t).0 e in omega (arith, pattern_short (read_pattern s b) t h)

  -- a number over 20 is the pattern's, where there is room and the sheet and the labels have no fault
  pub write_number : (m : ℕ) → 20 < m → (write_answer s b o ≡ refused m)
      ↔ ((text_size ≤ length o) × (fault s ≡ 0) × (labels_fault (state_count s) b ≡ 0) × (pattern_answer (read_pattern s b) ≡ refused m))
  unfolding write_answer
  write_number m l =
      let p = behind_number _ 20 behind_room short long m (λ z. omega arith) in
      let q = sheet_number s (labels_first (state_count s) b (pattern_answer (read_pattern s b))) m (omega arith) in
      let r = labels_number (state_count s) b (pattern_answer (read_pattern s b)) m (λ z. omega arith) in (
        λ e. let (k, h) = p.0 e in let (f, i) = q.0 h in let (g, j) = r.0 i in (k, f, g, j),
        λ (k, f, g, j). p.1 (k, q.1 (f, r.1 (g, j))),
      )

  -- 20 exactly where the buffer is too short
  pub write_20 : (write_answer s b o ≡ refused 20) ↔ (length o < text_size)
  unfolding write_answer
  write_20 =
      behind_refused _ 20 behind_room short long λ e.
      let (f, h) = (sheet_number s (labels_first (state_count s) b (pattern_answer (read_pattern s b))) 20 (omega arith)).0 e in
      let (g, i) = (labels_number (state_count s) b (pattern_answer (read_pattern s b)) 20 (λ z. omega arith)).0 h in
      pattern_other (read_pattern s b) 20 (omega arith) i

  -- 1 to 6 exactly where there is room and the sheet has that fault
  pub write_sheet : (m : ℕ) → 1 ≤ m → m ≤ 6 → (write_answer s b o ≡ refused m) ↔ ((text_size ≤ length o) × (fault s ≡ m))
  unfolding write_answer
  write_sheet m i j =
      let p = behind_number _ 20 behind_room short long m (λ z. omega arith) in
      let q = sheet_fault s (labels_first (state_count s) b (pattern_answer (read_pattern s b))) m (omega arith)
      (λ e. pattern_other (read_pattern s b) m (omega arith) ((labels_number (state_count s) b (pattern_answer (read_pattern s b)) m (λ z. omega arith)).0 e).1) in
      (λ e. let (r, h) = p.0 e in (r, q.0 h), λ (r, f). p.1 (r, q.1 f))

  -- 10 exactly where there is room, the sheet has no fault and the labels have one
  pub write_10 : (write_answer s b o ≡ refused 10) ↔ ((text_size ≤ length o) × (fault s ≡ 0) × (labels_fault (state_count s) b ≡ 10))
  unfolding write_answer
  write_10 =
      let p = behind_number _ 20 behind_room short long 10 (λ z. omega arith) in
      let q = inputs_10 s b (pattern_answer (read_pattern s b)) (pattern_other (read_pattern s b) 10 (omega arith)) in
      (λ e. let (r, h) = p.0 e in let (f, g) = q.0 h in (r, f, g), λ (r, f, g). p.1 (r, q.1 (f, g)))

  -- no refusal has the number 0
  pub write_some : write_answer s b o ≡ refused 0 → ⊥
  unfolding write_answer
  write_some e =
      let (r, h) = (behind_number _ 20 behind_room short long 0 (λ z. omega arith)).0 e in
      let i = sheet_some s (labels_first (state_count s) b (pattern_answer (read_pattern s b))) h in
      let (g, j) = (labels_number (state_count s) b (pattern_answer (read_pattern s b)) 0 (λ z. omega arith)).0 i in
      pattern_other (read_pattern s b) 0 (omega arith) j
