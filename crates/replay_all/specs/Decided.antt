-- Cases of inputs, of acceptance and of questions: the number of a fault, the answer for a word, or 1 for yes and 0 for no.
use Rattle.std.specs.Prelude.{ℕ, Bool, true, false, cond, List, eqb, length, get_or}
use Rattle.emptiness.specs.Reachable.{reachable_answer}
use Rattle.equivalence.specs.Equivalent.{equivalent_answer}
use Rattle.labels.specs.Labels.{labels_fault}
use Rattle.refusal.specs.Answer.{Answer, refused, given}
use Rattle.replay.specs.Cases.{list_at, is_last}
use Rattle.sheets.specs.Fault.{fault}
use Rattle.subautomaton.specs.Answer.{subautomaton_answer}
use Rattle.nondeterminism.specs.Nondeterminism.{is_nfa_answer}
use Rattle.words.specs.Acceptance.{accepts_words_answer, accepts_text_answer}
use Rattle.replay_all.specs.Parts.{behind_list, are_bytes}

-- the words of a sheet, then its fault's number or 0
unfoldable pub sheet_case : List ℕ → Bool
sheet_case s = is_last s (behind_list s 0) (fault (list_at s 0))

-- the number of states, the bytes of a label list, then its fault's number or 0
unfoldable pub labels_case : List ℕ → Bool
labels_case s =
    cond (eqb (length s) 0) false
    (cond (are_bytes 1024 (list_at s 1)) (is_last s (behind_list s 1) (labels_fault (get_or s 0 0) (list_at s 1))) false)

-- the accept word stands last, or 9 where the text is malformed; other refusals have no cases
unfoldable pub accepted : List ℕ → ℕ → Answer ℕ → Bool
accepted s at (given k) = is_last s at k
accepted s at (refused n) = cond (eqb n 9) (is_last s at 9) false

-- a sheet, a word, then the answer
unfoldable pub word_case : List ℕ → Bool
word_case s = accepted s (behind_list s (behind_list s 0)) (accepts_words_answer (list_at s 0) (list_at s (behind_list s 0)))

-- a sheet, a text, then the answer
unfoldable pub text_case : List ℕ → Bool
text_case s =
    cond (are_bytes 1024 (list_at s (behind_list s 0)))
    (accepted s (behind_list s (behind_list s 0)) (accepts_text_answer (list_at s 0) (list_at s (behind_list s 0))))
    false

-- 1 for yes or 0 for no stands last; refusals have no cases
unfoldable pub decided : List ℕ → ℕ → Answer Bool → Bool
decided s at (given true) = is_last s at 1
decided s at (given false) = is_last s at 0
decided s at (refused n) = false

-- a sheet, then whether it has an epsilon, an overlap or a hole
unfoldable pub nfa_case : List ℕ → Bool
nfa_case s = decided s (behind_list s 0) (is_nfa_answer 0 4294967295 (list_at s 0))

-- a sheet, then whether a state that accepts is reached
unfoldable pub nonempty_case : List ℕ → Bool
nonempty_case s = decided s (behind_list s 0) (reachable_answer (list_at s 0))

-- two sheets, then whether they are equivalent
unfoldable pub equivalent_case : List ℕ → Bool
equivalent_case s = decided s (behind_list s (behind_list s 0)) (equivalent_answer (list_at s 0) (list_at s (behind_list s 0)))

-- a sheet and its labels, another and its labels, then whether the first is a subautomaton of the second
unfoldable pub subautomaton_of : List ℕ → ℕ → ℕ → ℕ → Bool
subautomaton_of s second third fourth =
    cond (are_bytes 1024 (list_at s second))
    (cond (are_bytes 1024 (list_at s fourth))
    (decided s (behind_list s fourth) (subautomaton_answer (list_at s 0) (list_at s second) (list_at s third) (list_at s fourth)))
    false)
    false

-- the same, with the lists one behind the other
unfoldable pub subautomaton_case : List ℕ → Bool
subautomaton_case s = subautomaton_of s (behind_list s 0) (behind_list s (behind_list s 0)) (behind_list s (behind_list s (behind_list s 0)))
