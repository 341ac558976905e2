-- The reply of each C function: first its inputs, then what is lent for its outputs, then what the cells lent for numbers held.
use Rattle.std.specs.Prelude.{ℕ, List, ◌≡◌}
use Rattle.automata.specs.WellFormed.{last_symbol}
use Rattle.determinize.specs.Sheets.{determinize_answer}
use Rattle.emptiness.specs.Reachable.{reachable_answer}
use Rattle.epsilon.specs.Eliminate.{eliminate_answer}
use Rattle.equality.specs.declared.Verdict.{Verdict}
use Rattle.equality.specs.Equality.{equality_answer, Judged}
use Rattle.equivalence.specs.Equivalent.{equivalent_answer}
use Rattle.marked_series.specs.Series.{accepts_series_answer}
use Rattle.output.specs.Output.{Lengths, Outputs}
use Rattle.parser.specs.Parsed.{ReadLengths}
use Rattle.parser.specs.Pattern.{parse_answer}
use Rattle.product.specs.Product.{intersection_answer}
use Rattle.refusal.specs.Reply.{Reply}
use Rattle.subautomaton.specs.Answer.{subautomaton_answer}
use Rattle.nondeterminism.specs.Nondeterminism.{is_nfa_answer}
use Rattle.totality.specs.Answers.{totalize_answer, complement_answer}
use Rattle.words.specs.Acceptance.{accepts_words_answer, accepts_text_answer}
use Rattle.writer.specs.Text.{write_answer}
use Rattle.ringmatch.specs.Reply.{reply_to_number, reply_to_bool, reply_to_pattern, reply_to_reading, reply_to_text, VerdictCells, reply_to_verdict}

-- questions: old is what the cell for the answer held
abbrev pub accepts_words_reply : List ℕ → List ℕ → ℕ → Reply ℕ (Unit {0})
accepts_words_reply s w old = reply_to_number old (accepts_words_answer s w)

abbrev pub accepts_text_reply : List ℕ → List ℕ → ℕ → Reply ℕ (Unit {0})
accepts_text_reply s t old = reply_to_number old (accepts_text_answer s t)

abbrev pub accepts_series_reply : List ℕ → List ℕ → ℕ → ℕ → Reply ℕ (Unit {0})
accepts_series_reply s w mark old = reply_to_number old (accepts_series_answer s w mark)

abbrev pub is_nfa_reply : List ℕ → ℕ → Reply ℕ (Unit {0})
is_nfa_reply s old = reply_to_bool old (is_nfa_answer 0 last_symbol s)

abbrev pub reachable_reply : List ℕ → ℕ → Reply ℕ (Unit {0})
reachable_reply s old = reply_to_bool old (reachable_answer s)

abbrev pub equivalent_reply : List ℕ → List ℕ → ℕ → Reply ℕ (Unit {0})
equivalent_reply a b old = reply_to_bool old (equivalent_answer a b)

abbrev pub subautomaton_reply : List ℕ → List ℕ → List ℕ → List ℕ → ℕ → Reply ℕ (Unit {0})
subautomaton_reply a al b bl old = reply_to_bool old (subautomaton_answer a al b bl)

-- operations into the outputs o and l: w and n are what the cells for the lengths held
abbrev pub determinize_reply : List ℕ → List ℕ → List ℕ → ℕ → ℕ → Reply Lengths Outputs
determinize_reply s o l w n = reply_to_pattern o l w n (determinize_answer s o l)

abbrev pub totalize_reply : List ℕ → List ℕ → List ℕ → List ℕ → ℕ → ℕ → Reply Lengths Outputs
totalize_reply s b o l w n = reply_to_pattern o l w n (totalize_answer 0 last_symbol s b o l)

abbrev pub complement_reply : List ℕ → List ℕ → List ℕ → List ℕ → ℕ → ℕ → Reply Lengths Outputs
complement_reply s b o l w n = reply_to_pattern o l w n (complement_answer 0 last_symbol s b o l)

abbrev pub eliminate_reply : List ℕ → List ℕ → List ℕ → List ℕ → ℕ → ℕ → Reply Lengths Outputs
eliminate_reply s b o l w n = reply_to_pattern o l w n (eliminate_answer s b o l)

abbrev pub intersection_reply : List ℕ → List ℕ → List ℕ → List ℕ → ℕ → ℕ → Reply Lengths Outputs
intersection_reply s t o l w n = reply_to_pattern o l w n (intersection_answer s t o l)

-- the pattern reader: r is what the cell for the number of bytes read held
abbrev pub parse_reply : List ℕ → List ℕ → List ℕ → ℕ → ℕ → ℕ → Reply ReadLengths Outputs
parse_reply t o l r w n = reply_to_reading o l r w n (parse_answer t o l)

-- the text of the sheet s with the labels b into o: n is what the cell for its length held
abbrev pub write_reply : List ℕ → List ℕ → List ℕ → ℕ → Reply ℕ (List ℕ)
write_reply s b o n = reply_to_text o n (write_answer s b o)

-- r is a reply of exact equality of the sheets a and b, where word was lent for the difference word and the cells held same and number: it tells a
-- verdict of which all holds that exact equality promises
pub record EqualityReply (a b word : List ℕ) (same number : ℕ) (r : Reply VerdictCells (List ℕ)) : Type 0 where
  pub verdict : Verdict
  pub judged : Judged (equality_answer 0 last_symbol a b word) word r.memory verdict
  pub is : r ≡ reply_to_verdict same number verdict r.memory
