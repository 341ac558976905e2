-- What is proved of writing patterns (document 02, M-100):
--   written_read: the text of a pattern is read to its end, as the written part of the pattern under its labels
--   write_read: the text of a sheet and its labels is read so, and what is read accepts the same words
--   written_exact: a written state is the start, or a record names it
--   write_text: a text is given exactly where nothing is refused
--   write_20, write_sheet, write_10: 20 exactly where the buffer is too short, 1 to 6 exactly by the sheet's fault behind it, 10 by that of its labels
--   write_some: no refusal has the number 0
--   write_30, write_31, write_32: each number exactly by its condition, behind 20 and the faults of the sheet and of its labels
-- The call, by its contract:
--   write_left: the text stands at the front of the buffer and is read so, and nothing is changed behind it
--   write_gives: a length is answered exactly where a text is given
--   write_refuses: a number is answered exactly where `write_answer` has it
--   write_unchanged: a refusal leaves the buffer as it was
use Prim.Native.Nat.{ℕ, ◌+◌, ◌≤◌}
use mathlib.Core.List.{List}
use mathlib.Core.Logic.{◌↔◌, ◌⊎◌, ⊎_elim}
use mathlib.Core.Path.{◌≡◌, refl, ◌∙◌, ap, subst}
use native.Mathlib.Omega.{arith}
use lib.ListN.{length, get_or, drop}
use lib.Seq.{get_or-drop}
use Rattle.lists.specs.Lists.{◌∈◌}
use Rattle.automata.specs.Automaton.{Transition, Accepts, InBounds}
use Rattle.automata.specs.WellFormed.{last_symbol}
use Rattle.automata.proofs.Records.{records_most}
use Rattle.labels.specs.Labels.{labels_fault}
use Rattle.output.specs.Output.{Pattern, read_pattern}
use Rattle.parser.specs.Pattern.{pattern_of, reading_answer}
use Rattle.refusal.specs.Answer.{refused, given}
use Rattle.refusal.specs.Outcome.{Outcome}
use Rattle.sheets.specs.Fault.{fault}
use Rattle.sheets.specs.Sheet.{state_count, records_at, read}
use Rattle.sheets.proofs.Theorems.{read_well, read_fits}
use Rattle.writer.specs.Text.{text_size, pattern_answer, write_answer, write_outcome}
use Rattle.writer.specs.ReadBack.{OfSheet, WrittenState, ReadBack, TextLeft}
use Rattle.writer.specs.Refusals.{SomeEpsilon, SomeAccepting, Unfit}
use Rattle.writer.proofs.Exactly.{pattern_given, pattern_30, pattern_31, pattern_32, write_given, write_room, write_number}
use Rattle.writer.proofs.Derived.{said_of}
use Rattle.writer.proofs.Left.{call_number, call_given, call_unchanged, call_text}
use Rattle.writer.proofs.Taken.{taken, taken_back}
use Rattle.writer.proofs.Reading.{written_cases}
use Rattle.writer.proofs.Words.{start_written, from_written, to_written, same_words}
pub use Rattle.writer.proofs.Exactly.{write_20, write_sheet, write_10, write_some}

-- a written state is the start, or a record names it
pub written_exact : (P : Pattern) → InBounds P.automaton → (q : ℕ)
    → WrittenState P q ↔ ((q ≡ P.automaton.start) ⊎ ((e : Transition) × e ∈ P.automaton.transitions × ((q ≡ e.from) ⊎ (q ≡ e.to))))
written_exact P ok q = (
  λ w. written_cases P q w.1,
  ⊎_elim (λ (z : q ≡ P.automaton.start). rw z (start_written P ok))
      (λ (e, m, k). ⊎_elim (λ (z : q ≡ e.from). rw z (from_written P ok e m)) (λ (z : q ≡ e.to). rw z (to_written P ok e m)) k),
)

-- the text of a pattern is read to its end, as the written part of the pattern under its labels
pub written_read : (P : Pattern) (t : List ℕ) → OfSheet P.automaton → pattern_answer P ≡ given t
    → (Q : Pattern) × (reading_answer t ≡ given (record { pattern = Q; read = length t })) × ReadBack P Q
written_read P t ok e =
    let (n, a, f, z) = (pattern_given P t).0 e in
    (pattern_of (said_of P), subst (λ u. reading_answer u ≡ given (record { pattern = pattern_of (said_of P); read = length u })) z (taken P ok n a f), taken_back P ok n a f)

-- the automaton of a sheet without a fault, whose words are of 32 bits
read_sheet : (s : List ℕ) → fault s ≡ 0 → ((i : ℕ) → get_or s i 0 ≤ last_symbol) → OfSheet (read s)
read_sheet s f b = record {
  well = read_well s f;
  fits = read_fits s f;
  symbols = records_most last_symbol (drop (records_at s) s) (λ i. rw (get_or-drop (records_at s) s i 0) (b (records_at s + i)));
}

-- of the sheet s with the labels b, where o is lent for the text
module _ (s b o : List ℕ) where
  -- the text is read to its end, as the written part of the pattern under its labels, which accepts the same words
  pub write_read : ((i : ℕ) → get_or s i 0 ≤ last_symbol) → (t : List ℕ) → write_answer s b o ≡ given t
      → (Q : Pattern) × (reading_answer t ≡ given (record { pattern = Q; read = length t })) × ReadBack (read_pattern s b) Q × ((w : List ℕ) → Accepts Q.automaton w ↔ Accepts (read s) w)
  write_read bits t e =
      let (r, f, g, h) = (write_given s b o t).0 e in
      let ok = read_sheet s f bits in
      let (Q, i, k) = written_read (read_pattern s b) t ok h in
      (Q, i, k, same_words (read_pattern s b) ok.well.states Q k)

  -- a text is given exactly where there is room, the sheet and the labels have no fault, no record is an epsilon, a written state accepts, and the
  -- written labels are different names and the text is short enough
  pub write_text : ((t : List ℕ) × (write_answer s b o ≡ given t))
      ↔ ((text_size ≤ length o) × (fault s ≡ 0) × (labels_fault (state_count s) b ≡ 0)
      × (SomeEpsilon (read_pattern s b) → ⊥) × SomeAccepting (read_pattern s b) × (Unfit (read_pattern s b) → ⊥))
  write_text = (
    λ (t, e).
        let (r, f, g, h) = (write_given s b o t).0 e in
        let (n, a, u, z) = (pattern_given (read_pattern s b) t).0 h in
        (r, f, g, n, a, u),
    λ (r, f, g, n, a, u). (_, (write_given s b o _).1 (r, f, g, (pattern_given (read_pattern s b) _).1 (n, a, u, refl))),
  )

  -- 30 exactly where a record is an epsilon
  pub write_30 : (write_answer s b o ≡ refused 30) ↔ ((text_size ≤ length o) × (fault s ≡ 0) × (labels_fault (state_count s) b ≡ 0) × SomeEpsilon (read_pattern s b))
  write_30 =
      let p = write_number s b o 30 (omega arith) in
      let q = pattern_30 (read_pattern s b) in
      (λ e. let (r, f, g, h) = p.0 e in (r, f, g, q.0 h), λ (r, f, g, h). p.1 (r, f, g, q.1 h))

  -- 31 exactly where no record is, and no written state accepts
  pub write_31 : (write_answer s b o ≡ refused 31)
      ↔ ((text_size ≤ length o) × (fault s ≡ 0) × (labels_fault (state_count s) b ≡ 0) × (SomeEpsilon (read_pattern s b) → ⊥) × (SomeAccepting (read_pattern s b) → ⊥))
  write_31 =
      let p = write_number s b o 31 (omega arith) in
      let q = pattern_31 (read_pattern s b) in
      (λ e. let (r, f, g, h) = p.0 e in let (n, a) = q.0 h in (r, f, g, n, a), λ (r, f, g, n, a). p.1 (r, f, g, q.1 (n, a)))

  -- 32 exactly where no record is and a written state accepts, and two written labels are equal, or one is no name, or the text is too long
  pub write_32 : (write_answer s b o ≡ refused 32)
      ↔ ((text_size ≤ length o) × (fault s ≡ 0) × (labels_fault (state_count s) b ≡ 0) × (SomeEpsilon (read_pattern s b) → ⊥) × SomeAccepting (read_pattern s b) × Unfit (read_pattern s b))
  write_32 =
      let p = write_number s b o 32 (omega arith) in
      let q = pattern_32 (read_pattern s b) in
      (λ e. let (r, f, g, h) = p.0 e in let (n, a, u) = q.0 h in (r, f, g, n, a, u), λ (r, f, g, n, a, u). p.1 (r, f, g, q.1 (n, a, u)))

-- the contract of a call: x is its outcome
module _ (s b o : List ℕ) (x : Outcome ℕ (List ℕ)) (call : x ≡ write_outcome o (write_answer s b o)) where
  -- n bytes at the front of the buffer are a text that is read as the written part of the pattern, with the same words; behind them nothing is changed
  pub write_left : ((i : ℕ) → get_or s i 0 ≤ last_symbol) → (n : ℕ) → x.answer ≡ given n → TextLeft s b o n x.memory
  write_left bits n e =
      let (t, a, l, u, v) = call_text o (write_answer s b o) x call (write_room s b o) n e in
      let (Q, i, k, w) = write_read s b o bits t a in
      record { pattern = Q; whole = ap reading_answer u ∙ subst (λ m. reading_answer t ≡ given (record { pattern = Q; read = m })) l i; states = k; words = w; behind = v }

  -- a length is answered exactly where a text is given
  pub write_gives : ((n : ℕ) × (x.answer ≡ given n)) ↔ ((t : List ℕ) × (write_answer s b o ≡ given t))
  write_gives = call_given o (write_answer s b o) x call

  -- a number is answered exactly where `write_answer` has it
  pub write_refuses : (m : ℕ) → (x.answer ≡ refused m) ↔ (write_answer s b o ≡ refused m)
  write_refuses = call_number o (write_answer s b o) x call

  -- and then the buffer is as it was
  pub write_unchanged : (m : ℕ) → x.answer ≡ refused m → x.memory ≡ o
  write_unchanged = call_unchanged o (write_answer s b o) x call
