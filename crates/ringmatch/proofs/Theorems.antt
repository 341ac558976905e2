-- What is proved of `ringmatch_write_automaton`, by its contract: s is the sheet, b its labels, o is lent for the text, and the cell held old. The
-- words of a sheet are of 32 bits.
--   write_replied: with the code 0 the cell holds the length of a text at the front of the buffer, which is read to its end as the written part of the
--     pattern under its labels, with the same words; behind it nothing is changed
--   write_parsed: `ringmatch_parse_automaton` reads that text whole and refuses nothing; its outputs hold that pattern
--   write_spelt: it never refuses that text by 33
--   write_code_0, write_code_20, write_code_sheet, write_code_10, write_code_30, write_code_31, write_code_32: each code exactly by its condition, where
--     no earlier one's holds; write_code_sheet is 1 to 6
--   write_code: a code other than 0 is answered exactly where `write_answer` has it
--   write_kept: and then the cell and the buffer are as they were
-- What is proved of `ringmatch_parse_automaton`, by its contract:
--   parse_code: a code other than 0 and 20 is answered exactly where there is room and `reading_answer` has it
--   parse_code_33: 33 exactly where there is room and some accepting name of the text at the front is no state (document 02, M-101)
-- What is proved of `ringmatch_accepts_series`, by its contract (document 02, M-103): s is the sheet, w the series, and the cell held old.
--   series_reply_unfinished: with the mark 1 the reply for w and one more ring is that of `ringmatch_accepts_words` for w, whatever the ring
--   series_reply_whole: with the mark 0 it is that of `ringmatch_accepts_words` for w
--   series_reply_empty: for the empty series it is that of `ringmatch_accepts_words`, with the mark 0 as with 1
--   series_answer: with the code 0 the cell holds 0 or 1, and 1 exactly where a run accepts the whole rings
--   series_code_0, series_code_sheet, series_code_34: each code exactly by its condition, where no earlier one's holds; series_code_sheet is 1 to 6
--   series_kept: with another code than 0 the cell is as it was
use Prim.Native.Nat.{ℕ, ◌≤◌, ◌<◌}
use mathlib.Core.List.{List, [], ◌∷◌, ◌++◌}
use mathlib.Core.Logic.Iff
use mathlib.Core.Logic.{◌↔◌}
use mathlib.Core.Path.{◌≡◌, refl, sym, ◌∙◌, ap, subst}
use native.Mathlib.Omega.{arith}
use lib.ListN.{length, get_or, take}
use Rattle.automata.specs.Automaton.{Automaton, Accepts}
use Rattle.automata.specs.WellFormed.{last_symbol}
use Rattle.labels.specs.Labels.{labels_fault}
use Rattle.marked_series.specs.Series.{whole_rings, accepts_series_answer}
use Rattle.marked_series.proofs.Theorems.{series_unfinished, series_whole, series_empty, series_given, series_accepts, series_bit, series_some, series_fault, series_34}
use Rattle.output.specs.Left.{Room}
use Rattle.output.specs.Output.{Pattern, Outputs, read_pattern, room_first}
use Rattle.output.proofs.Left.{written_leaves, HasRoom, has_room, room_first_lem, room_lacks}
use Rattle.parser.specs.Parsed.{ReadLengths, parsed}
use Rattle.parser.specs.Pattern.{Reading, reading_answer, parse_answer}
use Rattle.parser.specs.Misspelt.{Misspelt}
use Rattle.parser.proofs.Outcomes.{answers_33, answers_given}
use Rattle.refusal.specs.Answer.{Answer, refused, given}
use Rattle.refusal.specs.Outcome.{Outcome, outcome}
use Rattle.refusal.specs.Reply.{Reply, reply}
use Rattle.sheets.specs.Fault.{fault}
use Rattle.sheets.specs.Sheet.{state_count, read}
use Rattle.sheets.proofs.Decisions.{given_not}
use Rattle.syntax.specs.Syntax.{Said, BeginsWith}
use Rattle.writer.specs.ReadBack.{ReadBack, TextLeft}
use Rattle.writer.specs.Refusals.{SomeEpsilon, SomeAccepting, Unfit}
use Rattle.writer.specs.Text.{text_size, write_answer, write_outcome}
use Rattle.writer.proofs.Theorems.{write_left, write_gives, write_refuses, write_unchanged, write_some, write_text, write_20, write_sheet, write_10, write_30, write_31, write_32}
use Rattle.ringmatch.specs.Calls.{accepts_words_reply, accepts_series_reply, parse_reply, write_reply}
use Rattle.ringmatch.specs.ReaderReply.{pattern_left, ReaderReply}
use Rattle.ringmatch.specs.Reply.{nothing_stored, reply_to_number, read_cells}
use Rattle.ringmatch.proofs.Codes.{reply_memory, reply_number, reply_given, reply_zero, reply_kept}

-- the reader's reply to a text that is read whole as the pattern Q
parsed_left : (t u v : List ℕ) (x y z n : ℕ) (Q : Pattern) (q : Reply ReadLengths Outputs) → q ≡ parse_reply t u v x y z → Room u v
    → reading_answer t ≡ given (record { pattern = Q; read = n }) → (q.code ≡ 0) × (q.cells.read ≡ n) × (pattern_left q ≡ Q)
unfolding parse_answer parsed
parsed_left t u v x y z n Q q call room h =
    let R : Reading = record { pattern = Q; read = n } in
    let k = call ∙ ap (λ a. reply (read_cells x y z) (parsed u v a)) (room_first_lem u v (reading_answer t) room ∙ h) in
    let l = written_leaves u v Q (answers_given t R h).writable room in
    (ap (λ r. r.code) k, ap (λ r. r.cells.read) k, ap pattern_left k ∙ both _ _ l.reads l.labelled)
  where
    both : (A : Automaton) (ls : List (List ℕ)) → A ≡ Q.automaton → ls ≡ Q.labels → record { automaton = A; labels = ls } ≡ Q
    both A ls e f = rw (e, f)

-- q is the reply of the pattern reader to the text t, where u and v are lent and the cells held x, y and z
module _ (t u v : List ℕ) (x y z : ℕ) (q : Reply ReadLengths Outputs) (call : q ≡ parse_reply t u v x y z) where
  parsed_number_lem : (m : ℕ) (a : Answer Reading) → ((parsed u v a).answer ≡ refused m) ↔ (a ≡ refused m)
  unfolding parsed
  parsed_number_lem m (refused n) = (λ e. let i : n ≡ m = cc in ap refused i, λ e. let i : n ≡ m = cc in ap refused i)
  parsed_number_lem m (given R) = (λ e. absurd (given_not _ m e), λ e. absurd (given_not R m e))

  behind_20 : (m : ℕ) → (m ≡ 20 → ⊥) → HasRoom u v → (room_first u v (reading_answer t) ≡ refused m) ↔ (Room u v × (reading_answer t ≡ refused m))
  behind_20 m other (HasRoom.room h) = let e = room_first_lem u v (reading_answer t) h in (λ i. (h, sym e ∙ i), λ i. e ∙ i.1)
  behind_20 m other (HasRoom.lacks n) = (
    λ i. absurd (let j : refused 20 ≡ refused m = sym (room_lacks u v (reading_answer t) n) ∙ i in let k : m ≡ 20 = cc in other k),
    λ i. absurd (n i.0),
  )

  pub parse_code : (m : ℕ) → (m ≡ 0 → ⊥) → (m ≡ 20 → ⊥) → (q.code ≡ m) ↔ (Room u v × (reading_answer t ≡ refused m))
  unfolding parse_answer
  parse_code m some other =
      Iff.trans (reply_number (read_cells x y z) (parsed u v (parse_answer t u v)) q call m some)
      (Iff.trans (parsed_number_lem m (parse_answer t u v)) (behind_20 m other (has_room u v)))

  pub parse_code_33 : (q.code ≡ 33) ↔ (Room u v × ((w : List ℕ) × (s : Said) × BeginsWith t w s × Misspelt s))
  parse_code_33 =
      let c = parse_code 33 (λ e. omega arith) (λ e. omega arith) in (λ e. ((c.0 e).0, (answers_33 t).0 (c.0 e).1), λ h. c.1 (h.0, (answers_33 t).1 h.1))

module _ (s b o : List ℕ) (old : ℕ) (r : Reply ℕ (List ℕ)) (call : r ≡ write_reply s b o old) where
  abbrev told : Outcome ℕ (List ℕ)
  told = write_outcome o (write_answer s b o)

  told_some : told.answer ≡ refused 0 → ⊥
  told_some e = write_some s b o ((write_refuses s b o told refl 0).0 e)

  pub write_replied : ((i : ℕ) → get_or s i 0 ≤ last_symbol) → r.code ≡ 0 → TextLeft s b o r.cells r.memory
  write_replied bits h =
      let e = reply_given old told r call told_some h in
      subst (TextLeft s b o r.cells) (sym (reply_memory old told r call)) (write_left s b o told refl bits r.cells e)

  pub write_parsed : ((i : ℕ) → get_or s i 0 ≤ last_symbol) → r.code ≡ 0 → (u v : List ℕ) (x y z : ℕ) (q : Reply ReadLengths Outputs) → Room u v
      → q ≡ parse_reply (take r.cells r.memory) u v x y z → ReaderReply s b r.cells q
  write_parsed bits h u v x y z q room e =
      let l = write_replied bits h in
      let (c, n, p) = parsed_left (take r.cells r.memory) u v x y z r.cells l.pattern q e room l.whole in
      record {
        code = c;
        whole = n;
        states = subst (ReadBack (read_pattern s b)) (sym p) l.states;
        words = subst (λ P. (w : List ℕ) → Accepts P.automaton w ↔ Accepts (read_pattern s b).automaton w) (sym p) l.words;
      }

  pub write_spelt : ((i : ℕ) → get_or s i 0 ≤ last_symbol) → r.code ≡ 0 → (u v : List ℕ) (x y z : ℕ) (q : Reply ReadLengths Outputs)
      → q ≡ parse_reply (take r.cells r.memory) u v x y z → q.code ≡ 33 → ⊥
  write_spelt bits h u v x y z q e c =
      let p = ((parse_code (take r.cells r.memory) u v x y z q e 33 (λ i. omega arith) (λ i. omega arith)).0 c).1 in
      given_not _ 33 (sym (write_replied bits h).whole ∙ p)

  pub write_code : (m : ℕ) → (m ≡ 0 → ⊥) → (r.code ≡ m) ↔ (write_answer s b o ≡ refused m)
  write_code m some =
      let p = reply_number old told r call m some in
      let q = write_refuses s b o told refl m in
      (λ h. q.0 (p.0 h), λ h. p.1 (q.1 h))

  pub write_code_0 : (r.code ≡ 0)
      ↔ ((text_size ≤ length o) × (fault s ≡ 0) × (labels_fault (state_count s) b ≡ 0)
      × (SomeEpsilon (read_pattern s b) → ⊥) × SomeAccepting (read_pattern s b) × (Unfit (read_pattern s b) → ⊥))
  write_code_0 = Iff.trans (reply_zero old told r call told_some) (Iff.trans (write_gives s b o told refl) (write_text s b o))

  pub write_code_20 : (r.code ≡ 20) ↔ (length o < text_size)
  write_code_20 = Iff.trans (write_code 20 (λ z. omega arith)) (write_20 s b o)

  pub write_code_sheet : (m : ℕ) → 1 ≤ m → m ≤ 6 → (r.code ≡ m) ↔ ((text_size ≤ length o) × (fault s ≡ m))
  write_code_sheet m i j = Iff.trans (write_code m (λ z. omega arith)) (write_sheet s b o m i j)

  pub write_code_10 : (r.code ≡ 10) ↔ ((text_size ≤ length o) × (fault s ≡ 0) × (labels_fault (state_count s) b ≡ 10))
  write_code_10 = Iff.trans (write_code 10 (λ z. omega arith)) (write_10 s b o)

  pub write_code_30 : (r.code ≡ 30) ↔ ((text_size ≤ length o) × (fault s ≡ 0) × (labels_fault (state_count s) b ≡ 0) × SomeEpsilon (read_pattern s b))
  write_code_30 = Iff.trans (write_code 30 (λ z. omega arith)) (write_30 s b o)

  pub write_code_31 : (r.code ≡ 31)
      ↔ ((text_size ≤ length o) × (fault s ≡ 0) × (labels_fault (state_count s) b ≡ 0) × (SomeEpsilon (read_pattern s b) → ⊥) × (SomeAccepting (read_pattern s b) → ⊥))
  write_code_31 = Iff.trans (write_code 31 (λ z. omega arith)) (write_31 s b o)

  pub write_code_32 : (r.code ≡ 32)
      ↔ ((text_size ≤ length o) × (fault s ≡ 0) × (labels_fault (state_count s) b ≡ 0) × (SomeEpsilon (read_pattern s b) → ⊥) × SomeAccepting (read_pattern s b) × Unfit (read_pattern s b))
  write_code_32 = Iff.trans (write_code 32 (λ z. omega arith)) (write_32 s b o)

  pub write_kept : (r.code ≡ 0 → ⊥) → (r.cells ≡ old) × (r.memory ≡ o)
  write_kept some =
      let e = (reply_number old told r call r.code some).0 refl in
      (reply_kept old told r call some, reply_memory old told r call ∙ write_unchanged s b o told refl r.code e)

-- q is the reply of `ringmatch_accepts_words` where the cell held the same
module _ (s : List ℕ) (old : ℕ) (r q : Reply ℕ (Unit {0})) where
  pub series_reply_unfinished : (w : List ℕ) (x : ℕ) → r ≡ accepts_series_reply s (w ++ x ∷ []) 1 old → q ≡ accepts_words_reply s w old → r ≡ q
  series_reply_unfinished w x call words = call ∙ ap (reply_to_number old) (series_unfinished s w x) ∙ sym words

  pub series_reply_whole : (w : List ℕ) → r ≡ accepts_series_reply s w 0 old → q ≡ accepts_words_reply s w old → r ≡ q
  series_reply_whole w call words = call ∙ ap (reply_to_number old) (series_whole s w) ∙ sym words

  pub series_reply_empty : (mark : ℕ) → mark ≤ 1 → r ≡ accepts_series_reply s [] mark old → q ≡ accepts_words_reply s [] old → r ≡ q
  series_reply_empty mark h call words = call ∙ ap (reply_to_number old) (series_empty s mark h) ∙ sym words

module _ (s w : List ℕ) (mark old : ℕ) (r : Reply ℕ (Unit {0})) (call : r ≡ accepts_series_reply s w mark old) where
  -- the outcome behind a reply with one number has the answer itself
  number_answer : (a : Answer ℕ) → (outcome (λ k. k) nothing_stored tt a).answer ≡ a
  number_answer (refused n) = refl
  number_answer (given k) = refl

  abbrev outcome_of : Outcome ℕ (Unit {0})
  outcome_of = outcome (λ k. k) nothing_stored tt (accepts_series_answer s w mark)

  is_answer_lem : outcome_of.answer ≡ accepts_series_answer s w mark
  is_answer_lem = number_answer (accepts_series_answer s w mark)

  some : outcome_of.answer ≡ refused 0 → ⊥
  some e = series_some s w mark (sym is_answer_lem ∙ e)

  series_code : (m : ℕ) → (m ≡ 0 → ⊥) → (r.code ≡ m) ↔ (accepts_series_answer s w mark ≡ refused m)
  series_code m n = let p = reply_number old outcome_of r call m n in (λ e. sym is_answer_lem ∙ p.0 e, λ e. p.1 (is_answer_lem ∙ e))

  pub series_answer : r.code ≡ 0 → (r.cells ≤ 1) × ((r.cells ≡ 1) ↔ Accepts (read s) (whole_rings mark w))
  series_answer e =
      let g : accepts_series_answer s w mark ≡ given r.cells = sym is_answer_lem ∙ reply_given old outcome_of r call some e in
      let b = series_bit s w mark r.cells g in
      let a = series_accepts s w mark r.cells g in
      (b, (λ h. a.0 (omega arith), λ h. let i = a.1 h in omega arith))

  pub series_code_0 : (r.code ≡ 0) ↔ ((fault s ≡ 0) × (mark ≤ 1))
  series_code_0 =
      let p = reply_zero old outcome_of r call some in
      let q = series_given s w mark in
      (λ e. let (k, h) = p.0 e in q.0 (k, sym is_answer_lem ∙ h), λ h. let (k, e) = q.1 h in p.1 (k, is_answer_lem ∙ e))

  pub series_code_sheet : (m : ℕ) → 1 ≤ m → m ≤ 6 → (r.code ≡ m) ↔ (fault s ≡ m)
  series_code_sheet m i j = Iff.trans (series_code m (λ z. omega arith)) (series_fault s w mark m i j)

  pub series_code_34 : (r.code ≡ 34) ↔ ((fault s ≡ 0) × (1 < mark))
  series_code_34 = Iff.trans (series_code 34 (λ z. omega arith)) (series_34 s w mark)

  pub series_kept : (r.code ≡ 0 → ⊥) → r.cells ≡ old
  series_kept = reply_kept old outcome_of r call
