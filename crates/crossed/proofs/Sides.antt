-- Determinizing a sheet, and the complement of what that gives: both calls answer 0, and what stands at the fronts of their outputs. Assumes nothing.
use Prim.Native.Nat.{ℕ}
use mathlib.Core.Bool.{false}
use mathlib.Core.List.{List}
use mathlib.Core.Logic.{◌↔◌}
use mathlib.Core.Path.{◌≡◌, sym, ◌∙◌, ap, ap₂, subst}
use native.Mathlib.Omega.{arith}
use Rattle.automata.specs.Automaton.{Automaton, Accepts, Word}
use Rattle.automata.specs.WellFormed.{WellFormed, Fits, last_symbol}
use Rattle.automata.specs.Deterministic.{Deterministic, Between}
use Rattle.determinize.specs.Determinize.{determinize}
use Rattle.determinize.specs.Sheets.{subset_pattern, determinize_answer}
use Rattle.determinize.proofs.Theorems.{determinize_deterministic, determinize_between, determinize_wellformed, determinize_fits}
use Rattle.labels.specs.Forms.{numbered_labels}
use Rattle.labels.specs.Labels.{labels_fault, read_labels, write_labels}
use Rattle.labels.proofs.Labels.{read_write, fault_write}
use Rattle.labels.proofs.Whole.{labels_numbered, length_numbered}
use Rattle.nondeterminism.specs.Nondeterminism.{is_nfa}
use Rattle.nondeterminism.proofs.Theorems.{nfa_deterministic_at, nfa_exact}
use Rattle.output.specs.Output.{Pattern, labels_first}
use Rattle.refusal.specs.Answer.{Answer, given}
use Rattle.sheets.specs.Checked.{sheet_first}
use Rattle.sheets.specs.Fault.{fault}
use Rattle.sheets.specs.Sheet.{state_count, read, write}
use Rattle.sheets.proofs.Accepted.{accepted}
use Rattle.sheets.proofs.Meaning.{read_well, read_write_sheet, write_accepted}
use Rattle.totality.specs.Answers.{limited, complement_pattern, complement_answer}
use Rattle.totality.specs.Totality.{flipped, complemented}
use Rattle.totality.proofs.Answers.{limited_given}
use Rattle.totality.proofs.Theorems.{complement_words}
use Rattle.totality.proofs.Totalized.{flipped_well}
use Rattle.crossed.specs.Calls.{sheet_of, labels_of}
use Rattle.crossed.specs.Demand.{Side, SideAnswers}
use Rattle.crossed.proofs.Fronts.{code_left, sheet_left, labels_left}

-- an accepted sheet s whose determinization is D
module _ (s : List ℕ) (f : fault s ≡ 0) (D : Automaton) (e : determinize 0 last_symbol (read s) ≡ given D) where
  well_read : WellFormed (read s)
  well_read = read_well s (accepted s f)

  pub well : WellFormed D
  well = determinize_wellformed 0 last_symbol (read s) well_read.states D e well_read

  pub deterministic : Deterministic 0 last_symbol D
  deterministic = determinize_deterministic 0 last_symbol (read s) well_read.states D e

  pub between : Between 0 last_symbol D
  between = determinize_between 0 last_symbol (read s) well_read.states D e

  fits : Fits D
  fits = determinize_fits 0 last_symbol (read s) well_read.states D e

  pub no_fault : fault (write D) ≡ 0
  no_fault = write_accepted D well fits

  pub read_back : read (write D) ≡ D
  read_back = read_write_sheet D well.accepts

  -- it is no nfa, so that its complement only flips acceptance
  no_nfa : is_nfa 0 last_symbol D ≡ false
  no_nfa = (nfa_exact 0 last_symbol D well (λ d m k. (omega arith, between.below d m))).1 deterministic

  complement_flips : complemented 0 last_symbol D ≡ flipped D
  unfolding complemented
  complement_flips = rw no_nfa

  pub flipped_wellformed : WellFormed (flipped D)
  flipped_wellformed = flipped_well D well

  pub flipped_fits : Fits (flipped D)
  unfolding flipped
  flipped_fits = record { few_states = fits.few_states; few_transitions_lem = fits.few_transitions_lem }

  -- the complement's words are the others
  pub other_words : (w : List ℕ) → Word 0 last_symbol w → Accepts (flipped D) w ↔ (Accepts D w → ⊥)
  other_words w v =
      rw (sym complement_flips)
      (complement_words 0 last_symbol D well (omega arith) deterministic.ranges (λ q h. ((nfa_deterministic_at 0 last_symbol D).0 no_nfa q h).no_overlap) w v)

  -- the patterns that the two calls give
  abbrev own : Pattern
  own = record { automaton = D; labels = numbered_labels D.size }

  abbrev other : Pattern
  other = record { automaton = flipped D; labels = numbered_labels D.size }

  determinize_answer_lem : sheet_first s (subset_pattern (determinize 0 last_symbol (read s))) ≡ given own
  unfolding sheet_first subset_pattern
  determinize_answer_lem = rw (f, e)

  labels_pass : labels_fault D.size (write_labels (numbered_labels D.size)) ≡ 0
  labels_pass = subst (λ n. labels_fault n (write_labels (numbered_labels D.size)) ≡ 0) (length_numbered D.size) (fault_write (numbered_labels D.size) (labels_numbered D.size fits.few_states))

  -- the answer of the complement behind 20
  abbrev complement_of : List ℕ → List ℕ → Answer Pattern
  complement_of s b = sheet_first s (labels_first (state_count s) b (limited (complement_pattern 0 last_symbol (read s) (read_labels b))))

  complement_answer_lem : complement_of (write D) (write_labels (numbered_labels D.size)) ≡ given other
  unfolding sheet_first labels_first complement_pattern flipped
  complement_answer_lem =
      rw (no_fault, read_back, labels_pass, read_write (numbered_labels D.size), complement_flips, no_nfa)
      (limited_given other fits.few_states fits.few_transitions_lem)

  -- the two calls, the second on what the first wrote
  module _ (x : Side s) where
    pub determinization_left : sheet_of x.determinization ≡ write D
    unfolding determinize_answer
    determinization_left = sheet_left x.determinization _ x.determinizes own determinize_answer_lem well fits

    names_left : labels_of x.determinization ≡ write_labels (numbered_labels D.size)
    unfolding determinize_answer
    names_left =
        labels_left x.determinization _ x.determinizes own determinize_answer_lem (labels_numbered D.size fits.few_states) (omega (arith, length_numbered D.size, fits.few_states))

    complement_given : complement_of (sheet_of x.determinization) (labels_of x.determinization) ≡ given other
    complement_given = ap₂ complement_of determinization_left names_left ∙ complement_answer_lem

    pub complement_left : sheet_of x.complement ≡ write (flipped D)
    unfolding complement_answer
    complement_left = sheet_left x.complement _ x.complements other complement_given flipped_wellformed flipped_fits

    pub side_answers : SideAnswers D x
    unfolding determinize_answer complement_answer
    side_answers = record {
      determinize_code = code_left x.determinization _ x.determinizes own determinize_answer_lem;
      determinization = ap read determinization_left ∙ read_back;
      complement_code = code_left x.complement _ x.complements other complement_given;
      complement = ap read complement_left ∙ read_write_sheet (flipped D) flipped_wellformed.accepts ∙ sym complement_flips;
    }
