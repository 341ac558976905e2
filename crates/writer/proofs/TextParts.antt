-- The text of a pattern by its parts: the heading, the transitions and the closing.
use Prim.Native.Nat.{ℕ, ◌+◌, ◌-◌, ◌≤◌, ◌<◌}
use mathlib.Core.List.{List, [], ◌∷◌, ◌++◌, flat_map, map, append_assoc}
use mathlib.Core.Path.{◌≡◌, refl, sym, ◌∙◌, ap, ap₂, subst}
use native.Mathlib.Omega.{arith}
use borrow.Author.Rules.{rules}
use lib.Dec.{ltb}
use lib.ListN.{length, get_or, take, drop, length-append, length-drop, length-map}
use Rattle.lists.specs.Lists.{◌∈◌}
use Rattle.lists.proofs.Lists.{length_filter, filter_out}
use Rattle.lists.proofs.Members.{at_in}
use Rattle.lists.proofs.Parts.{part_all}
use Rattle.automata.specs.Automaton.{Transition, accept_of}
use Rattle.automata.specs.Records.{read_records}
use Rattle.labels.specs.Labels.{label_count, read_labels}
use Rattle.labels.proofs.Labels.{count_read}
use Rattle.output.specs.Output.{Pattern, label_of, read_pattern}
use Rattle.sheets.specs.Sheet.{state_count, records_at, read}
use Rattle.sheets.specs.inner.Runs.{Named}
use Rattle.sheets.proofs.Meaning.{read_well}
use Rattle.syntax.specs.Syntax.{◌⨾◌}
use Rattle.writer.specs.Text.{written_states, accepting_states, blank, transition_text, more_names_text, names_text, pattern_text}
use Rattle.writer.specs.inner.Parts.{arrow_text, range_text, spaced_transition, spaced_transitions, heading_text, closing_text}
use Rattle.writer.proofs.Gathering.{written_few, written_in}
use Rattle.writer.specs.inner.Tables.{StatesBelow, TextTables, state_labels}

transition_text_lem : (P : Pattern) (e : Transition) → blank ⨾ transition_text P e ≡ spaced_transition P.labels e
unfolding transition_text spaced_transition arrow_text range_text
transition_text_lem P e =
    ap (λ (t : List ℕ). 32 ∷ t) (sym (append_assoc (label_of P e.from) (32 ∷ 45 ∷ 62 ∷ 32 ∷ label_of P e.to) (range_text e.first e.last)))

transitions_text : (P : Pattern) (es : List Transition) → flat_map (λ e. blank ⨾ transition_text P e) es ≡ spaced_transitions P.labels es
unfolding spaced_transitions flat_map
transitions_text P [] = refl
transitions_text P (e ∷ es) = ap₂ ◌++◌ (transition_text_lem P e) (transitions_text P es)

-- the whole text
pub parts : (P : Pattern) → pattern_text P ≡
    heading_text (label_of P P.automaton.start) ++ (spaced_transitions P.labels P.automaton.transitions ++ closing_text (names_text (map (label_of P) (accepting_states P.automaton))))
unfolding pattern_text heading_text closing_text
parts P =
    ap (λ (t : List ℕ). 97 ∷ 117 ∷ 116 ∷ 111 ∷ 109 ∷ 97 ∷ 116 ∷ 111 ∷ 110 ∷ 32 ∷ 80 ∷ 32 ∷ 123 ∷ 32 ∷ 105 ∷ 110 ∷ 105 ∷ 116 ∷ 32 ∷ t)
    (ap (λ (t : List ℕ). label_of P P.automaton.start ++ (59 ∷ t ++ closing_text (names_text (map (label_of P) (accepting_states P.automaton)))))
    (transitions_text P P.automaton.transitions)
    ∙ sym (append_assoc (label_of P P.automaton.start) (59 ∷ [])
    (spaced_transitions P.labels P.automaton.transitions ++ closing_text (names_text (map (label_of P) (accepting_states P.automaton))))))

-- names with a comma and a blank before the first too take two bytes more
names_more : (ns : List (List ℕ)) → 0 < length ns → length (more_names_text ns) ≡ length (names_text ns) + 2
unfolding names_text more_names_text flat_map
names_more [] h = absurd (omega arith)
names_more (a ∷ ns) h = omega arith

pub heading_length : (l : List ℕ) → length (heading_text l) ≡ 20 + length l
unfolding heading_text
heading_length l = omega (arith, length-append l (59 ∷ []))

pub closing_length : (l : List ℕ) → length (closing_text l) ≡ 15 + length l
unfolding closing_text
closing_length l = omega (arith, length-append l (59 ∷ 32 ∷ 125 ∷ 59 ∷ []))

labels_length : (b qs : List ℕ) → length (state_labels b qs) ≡ length qs
unfolding state_labels
labels_length b qs = length-map qs (λ q. get_or (read_labels b) q [])

module _ (s b qs : List ℕ) (r : TextTables s b qs) where
  pub ready_count : label_count b ≡ state_count s
  ready_count = count_read (state_count s) b r.labels

  pub ready_start : get_or s 1 0 < label_count b
  ready_start = omega (arith, ready_count, r.sheet.start)

  pub ready_bounded : Named (label_count b) (read_records (take (length s - records_at s) (drop (records_at s) s)))
  ready_bounded =
      subst (λ (l : List ℕ). Named (label_count b) (read_records l)) (sym (part_all (records_at s) s))
      (let w = (read_well s r.sheet).states in
      record { froms = λ e m. omega (arith, w.froms e m, ready_count); tos = λ e m. omega (arith, w.tos e m, ready_count) })

  pub ready_records : length (take (length s - records_at s) (drop (records_at s) s)) ≤ 10240
  ready_records = rw (part_all (records_at s) s) (omega (arith, length-drop (records_at s) s, r.sheet.whole, r.sheet.few_records))

  in_states : (q : ℕ) → q ∈ accepting_states (read s) → q < state_count s
  unfolding accepting_states
  in_states q m = written_in s q (filter_out _ q _ m).0

  pub ready_below : StatesBelow (label_count b) qs
  ready_below = record { at = λ i h. omega (arith, ready_count, in_states (get_or qs i 0) (subst (λ (l : List ℕ). get_or qs i 0 ∈ l) r.accepting (at_in qs i 0 h))) }

  few_states : length (accepting_states (read s)) ≤ state_count s
  unfolding accepting_states
  few_states = omega (arith, length_filter (λ q. ltb 0 (accept_of (read s) q)) (written_states (read s)), written_few s)

  pub ready_few : length qs ≤ 256
  ready_few = omega (arith, ap length r.accepting, few_states, r.sheet.few_states)

  -- the whole text by what the code holds
  pub ready_text : pattern_text (read_pattern s b) ≡
      heading_text (get_or (read_labels b) (get_or s 1 0) []) ++ (spaced_transitions (read_labels b) (read_records (take (length s - records_at s) (drop (records_at s) s))) ++
      closing_text (names_text (state_labels b qs)))
  unfolding state_labels
  ready_text =
      parts (read_pattern s b)
      ∙ ap₂ (λ (t a : List ℕ). heading_text (get_or (read_labels b) (get_or s 1 0) []) ++
      (spaced_transitions (read_labels b) (read_records t) ++ closing_text (names_text (map (λ q. get_or (read_labels b) q []) a))))
      (sym (part_all (records_at s) s)) (sym r.accepting)

  pub text_counted : (x y z : ℕ) → x ≡ length (get_or (read_labels b) (get_or s 1 0) [])
      → y ≡ length (spaced_transitions (read_labels b) (read_records (take (length s - records_at s) (drop (records_at s) s))))
      → z ≡ length (more_names_text (state_labels b qs)) → 33 + x + y + z ≡ length (pattern_text (read_pattern s b))
  text_counted x y z f g h =
      let n : length (state_labels b qs) ≡ length qs = labels_length b qs in
      let k = names_more (state_labels b qs) (omega (arith, r.some)) in
      let l = ap length ready_text in
      let m = length-append (heading_text (get_or (read_labels b) (get_or s 1 0) []))
      (spaced_transitions (read_labels b) (read_records (take (length s - records_at s) (drop (records_at s) s))) ++ closing_text (names_text (state_labels b qs))) in
      let o = length-append (spaced_transitions (read_labels b) (read_records (take (length s - records_at s) (drop (records_at s) s)))) (closing_text (names_text (state_labels b qs))) in
      omega (arith, heading_length (get_or (read_labels b) (get_or s 1 0) []), closing_length (names_text (state_labels b qs)))

pub ruleset ready_laws = (ready_start, ready_bounded, ready_records, ready_below, ready_few, text_counted, rules)
