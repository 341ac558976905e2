-- The laws by which the C functions are proved: a reply passes the answer on.
use Prim.Native.Nat.{ℕ}
use mathlib.Core.Bool.{Bool}
use mathlib.Core.List.{List}
use mathlib.Core.Path.{◌≡◌, sym, ◌∙◌, ap}
use borrow.Author.Rules.{rules}
use Rattle.std.proofs.Common.{Result}
use Rattle.automata.specs.WellFormed.{last_symbol}
use Rattle.equality.specs.declared.Verdict.{Verdict}
use Rattle.equality.specs.declared.Verdict.TheVariants as verdict
use Rattle.equality.specs.Equality.{equality_answer, Judged}
use Rattle.output.specs.declared.Made.{Made}
use Rattle.output.specs.Made.{output_of}
use Rattle.output.specs.Output as output
use Rattle.output.specs.Output.{Outputs}
use Rattle.parser.specs.declared.Parsed.{Parsed}
use Rattle.parser.specs.Parsed.{ReadLengths, parsed_of}
use Rattle.refusal.specs.Answer.{Answer}
use Rattle.refusal.specs.Decision.{decision_of}
use Rattle.refusal.specs.declared.InputRefusal.{InputRefusal}
use Rattle.refusal.specs.declared.Refusal.{Refusal}
use Rattle.refusal.specs.Number.{number_of}
use Rattle.refusal.specs.Outcome.{Outcome}
use Rattle.refusal.specs.Reply.{reply}
use Rattle.words.specs.Acceptance.{acceptance_of}
use Rattle.writer.specs.Wrote.{wrote_of}
use Rattle.ringmatch.specs.Calls.{EqualityReply}
use Rattle.ringmatch.specs.Reply.{number_reply, reply_to_number, reply_to_bool, outputs_reply, read_cells, reading_reply, text_reply, verdict_reply, reply_to_verdict}

pub reply_passed : (code old new : ℕ) (r : Result ℕ InputRefusal) (a : Answer ℕ) → number_reply code new ≡ reply_to_number old (acceptance_of r) → acceptance_of r ≡ a → number_reply code new ≡ reply_to_number old a
reply_passed code old new r a e h = e ∙ ap (reply_to_number old) h

-- a reply with the outputs of an operation
pub made_passed : (code x y w b : ℕ) (r : Result Made Refusal) (o l : List ℕ) (a : Outcome output.Lengths Outputs) → ((o l : List ℕ) → outputs_reply code w b o l ≡ reply (record { words = x; bytes = y }) (output_of r o l))
    → output_of r o l ≡ a → outputs_reply code w b o l ≡ reply (record { words = x; bytes = y }) a
made_passed code x y w b r o l a e h = e o l ∙ ap (reply (record { words = x; bytes = y })) h

pub ruleset mades = (made_passed, rules)

pub ruleset replies = (reply_passed, rules)

-- the reply to a question
pub decision_passed : (code old new : ℕ) (r : Result Bool InputRefusal) (a : Answer Bool) → number_reply code new ≡ reply_to_bool old (decision_of r) → decision_of r ≡ a → number_reply code new ≡ reply_to_bool old a
decision_passed code old new r a e h = e ∙ ap (reply_to_bool old) h

pub ruleset decisions = (decision_passed, rules)

-- the reply of the pattern reader
pub parsed_passed : (code x y z n w b : ℕ) (r : Result Parsed Refusal) (o l : List ℕ) (a : Outcome ReadLengths Outputs) → ((o l : List ℕ) → reading_reply code n w b o l ≡ reply (read_cells x y z) (parsed_of r o l))
    → parsed_of r o l ≡ a → reading_reply code n w b o l ≡ reply (read_cells x y z) a
parsed_passed code x y z n w b r o l a e h = e o l ∙ ap (reply (read_cells x y z)) h

pub ruleset parses = (parsed_passed, rules)

pub wrote_passed : (code x n : ℕ) (r : Result ℕ Refusal) (o : List ℕ) (a : Outcome ℕ (List ℕ)) → ((o : List ℕ) → text_reply code n o ≡ reply x (wrote_of r o)) → wrote_of r o ≡ a → text_reply code n o ≡ reply x a
wrote_passed code x n r o a e h = e o ∙ ap (reply x) h

pub ruleset writes = (wrote_passed, rules)

-- the reply of exact equality
pub verdict_same : (s n joins : ℕ) (r : Verdict) → r ≡ verdict.Same joins → (o : List ℕ) → verdict_reply 0 1 joins o ≡ reply_to_verdict s n r o
verdict_same s n joins r e o = ap (λ v. reply_to_verdict s n v o) (sym e)

pub verdict_different : (s n m : ℕ) (r : Verdict) → r ≡ verdict.Different m → (o : List ℕ) → verdict_reply 0 0 m o ≡ reply_to_verdict s n r o
verdict_different s n m r e o = ap (λ v. reply_to_verdict s n v o) (sym e)

pub verdict_refused : (s n k : ℕ) (r : Verdict) (i : Refusal) → k ≡ number_of i → r ≡ verdict.Refused i → (o : List ℕ) → verdict_reply k s n o ≡ reply_to_verdict s n r o
verdict_refused s n k r i h e o = ap (λ x. verdict_reply x s n o) h ∙ ap (λ v. reply_to_verdict s n v o) (sym e)

pub verdict_passed : (a b o o' : List ℕ) (s n code s' n' : ℕ) (r : Verdict) → Judged (equality_answer 0 last_symbol a b o) o o' r → ((p : List ℕ) → verdict_reply code s' n' p ≡ reply_to_verdict s n r p)
    → EqualityReply a b o s n (verdict_reply code s' n' o')
verdict_passed a b o o' s n code s' n' r j e = record { verdict = r; judged = j; is = e o' }

pub ruleset verdicts = (verdict_same, verdict_different, verdict_refused, verdict_passed, rules)
