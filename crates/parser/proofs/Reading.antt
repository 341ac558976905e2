-- Laws of the outputs: the sheet and the labels are written, and the refusals come in their order.
use Prim.Native.Nat.{ℕ, ◌-◌, ◌*◌, ◌/◌, ◌≤◌, ◌<◌}
use mathlib.Core.Bool.{Bool, true, false, cond, not, ◌||◌}
use mathlib.Core.List.{List, [], ◌∷◌, ◌++◌, map}
use mathlib.Core.Logic.{⊎_elim}
use mathlib.Core.Path.{◌≡◌, refl, sym, ◌∙◌, ap}
use native.Mathlib.Omega.{arith}
use borrow.Author.Rules.{rules}
use borrow.Author.Tests.{le-ltb, lt-ltb, not-true, not-false}
use lib.Dec.{ltb}
use Rattle.std.proofs.Common.{Option, Some, None, Ok, Err}
use lib.ListN.{length, take, drop, length-map, length-take, length-drop}
use Rattle.grammar.specs.Grammar.{ReadResult, TextParts, next_names}
use Rattle.grammar.specs.Places.{spelled}
use Rattle.grammar.specs.inner.Parts.{opening, closing, told_from}
use Rattle.grammar.specs.inner.Pieces.{name_of, accepting_of}
use Rattle.grammar.specs.inner.Places.{Spelt, Laid}
use Rattle.grammar.specs.declared.tokens.Cursor.{Cursor}
use Rattle.grammar.specs.declared.tokens.TextSpan.{TextSpan}
use Rattle.grammar.specs.declared.text.Layout.{Layout}
use Rattle.grammar.proofs.Parts.{opens_nothing, opens_found, start_spelt, closes_nothing, closes_found, first_spelt}
use Rattle.stores.specs.Written.{Written}
use Rattle.stores.proofs.Written.{written_append}
use Rattle.automata.specs.Automaton.{Transition}
use Rattle.automata.specs.Records.{write_records}
use Rattle.automata.proofs.Records.{length_write}
use Rattle.labels.specs.Labels.{write_labels, same_label}
use Rattle.lists.specs.Lists.{all}
use Rattle.output.proofs.Answers.{room_lacking, room_enough, room_words, room_bytes}
use Rattle.output.proofs.Collecting.{records_count}
use Rattle.output.proofs.Halves.{in_order_length}
use Rattle.output.specs.declared.gathering.Filled.{Filled}
use Rattle.output.specs.inner.Ordered.{records_in}
use Rattle.output.specs.inner.Gathering.{Held, Gathered, Collected, Settled}
use Rattle.output.specs.Output.{Pattern, Outputs, states_first, transitions_first}
use Rattle.refusal.specs.Answer.{Answer, refused, given}
use Rattle.refusal.specs.Number.{number_of}
use Rattle.refusal.specs.declared.Refusal.{Refusal}
use Rattle.refusal.specs.Outcome.{Outcome}
use Rattle.refusal.specs.declared.InputRefusal.TheVariants.{Grammar, AcceptingName}
use Rattle.refusal.specs.declared.StateRefusal.TheVariants.{OutputLength, Transitions}
use Rattle.refusal.specs.declared.Refusal.TheVariants.{Input, State}
use Rattle.search.specs.Search.{meet}
use Rattle.sheets.specs.Sheet.{write}
use Rattle.syntax.specs.Spelled.{spell}
use Rattle.name_table.proofs.Finding.{names_count}
use Rattle.parser.specs.inner.Accepts.{mark_all}
use Rattle.parser.specs.inner.Arrows.{Fitting, ArrowsRead, all_names}
use Rattle.parser.specs.inner.Memory.{Zeros}
use Rattle.parser.specs.inner.Names.{SpeltTable, names_in}
use Rattle.parser.specs.Parsed.{ReadLengths, parsed, parsed_of}
use Rattle.parser.specs.inner.Records.{Recorded}
use Rattle.parser.specs.Pattern.{names_of, states_of, transition_of_move, accept_word, automaton_of, pattern_of, Reading}
use Rattle.parser.specs.Pattern.{few_transitions, within_limits, is_among, accepts_first, meant, meaning, reading_answer, parse_answer}
use Rattle.parser.specs.inner.Places.{said_at, moves_at, transitions_at, pattern_at}
use Rattle.parser.specs.declared.arrows.Arrows.{Arrows}
use Rattle.parser.proofs.ReadInvariant.{below_or}
use Rattle.parser.proofs.Marking.{words_inside, words_counted, words_marked}
use Rattle.parser.proofs.Tables.{added_table, added_names, added_full}

-- the parts of a sheet, one behind the other
pub sheet_written : (l m n o q ws rs : List ℕ) (i j k r x : ℕ) → Written l 0 (1 ∷ 0 ∷ length ws ∷ []) m i → Written m i ws n j
    → Written n j (x ∷ []) o k → Written o k rs q r → Written l 0 (1 ∷ 0 ∷ length ws ∷ (ws ++ x ∷ rs)) q r
sheet_written l m n o q ws rs i j k r x a b c d =
    written_append l m q (1 ∷ 0 ∷ length ws ∷ []) (ws ++ x ∷ rs) 0 i r a (written_append m n q ws (x ∷ rs) i j r b (written_append n o q (x ∷ []) rs j k r c d))

-- the sheet and the labels at the fronts of the outputs
parsed_given : (o l o' l' : List ℕ) (n w k : ℕ) (P : Pattern) → Written o 0 (write P.automaton) o' w → Written l 0 (write_labels P.labels) l' k → parsed_of (Ok (record { read = n; words = w; bytes = k })) o' l' ≡ parsed o l (given (record { pattern = P; read = n }))
unfolding parsed
parsed_given o l o' l' n w k P p q =
    let a : w ≡ length (write P.automaton) = omega (arith, p.behind) in
    let b : k ≡ length (write_labels P.labels) = omega (arith, q.behind) in
    rw (p.stored, a, q.stored, b)

module _ (t : List ℕ) (l : Layout) (b : List ℕ) (i : ℕ) (k : SpeltTable t b i) where
  -- the accept words
  pub accepts_marked : (us ws : List ℕ) → Zeros 256 us → ws ≡ mark_all t (names_in t b i) us (l.first ∷ (next_names t l.more.at).items)
      → take i ws ≡ map (accept_word (said_at t l).accepts) (names_in t b i)
  unfolding spell
  accepts_marked us ws z h = words_marked t b i k us ws _ z h

  pub pattern_written : (ws rs o o' n n' : List ℕ) (c w j : ℕ) → ws ≡ map (accept_word (said_at t l).accepts) (names_in t b i)
      → Recorded rs (transitions_at t l (names_in t b i)) → Written o 0 (1 ∷ 0 ∷ length ws ∷ (ws ++ length rs / 5 ∷ rs)) o' w
      → Written n 0 (write_labels (names_in t b i)) n' j
      → parsed_of (Ok (record { read = c; words = w; bytes = j })) o' n' ≡ parsed o n (given (record { pattern = pattern_at t l (names_in t b i); read = c }))
  unfolding automaton_of spell
  pattern_written ws rs o o' n n' c w j x g p q =
      let es = transitions_at t l (names_in t b i) in
      let y : length (map (accept_word (said_at t l).accepts) (names_in t b i)) ≡ length (names_in t b i) = length-map (names_in t b i) (accept_word (said_at t l).accepts) in
      let z : length (write_records es) / 5 ≡ length es = omega (arith, length_write es) in
      parsed_given o n o' n' c w j (pattern_at t l (names_in t b i)) (rw (x, g.words, y, z) at p) q

  -- there are as many words as names
  pub words_few : (ws : List ℕ) → ws ≡ map (accept_word (said_at t l).accepts) (names_in t b i) → length ws ≤ 256
  words_few ws x = omega (arith, ap length x, length-map (names_in t b i) (accept_word (said_at t l).accepts), names_count t b i, k.few)

  -- an accepting name is no state, or all are
  module _ (r : Bool) (e : r ≡ all (is_among (names_in t b i)) (map (spelled t) (l.first ∷ (next_names t l.more.at).items))) where
    pub over_33 : not r ≡ true → (o n : List ℕ) (a : Answer Reading) → parsed_of (Err (Input AcceptingName)) o n ≡ parsed o n (accepts_first (said_at t l).accepts (names_in t b i) a)
    unfolding parsed accepts_first spell
    over_33 h o n a = sym (rw (sym e ∙ not-true r h))

    pub within_33 : not r ≡ false → (o n : List ℕ) (a : Answer Reading) (y : Outcome ReadLengths Outputs) → y ≡ parsed o n a
        → y ≡ parsed o n (accepts_first (said_at t l).accepts (names_in t b i) a)
    unfolding accepts_first spell
    within_33 h o n a y q = q ∙ sym (rw (sym e ∙ not-false r h))

pub gathered_held : (buf : List ℕ) (sorted end : ℕ) (es : List Transition) → Gathered buf sorted end es → Held buf sorted end
gathered_held buf sorted end es g = g.held

-- 22, or the pattern
module _ (t : List ℕ) (l : Layout) (ls : List (List ℕ)) (old : List ℕ) (f : Filled) (g : Gathered old f.sorted f.end (map (transition_of_move ls) (moves_at t l.arrows.at)))
    (buf : List ℕ) (end : ℕ) (s : Settled old f.sorted f.end buf end) where
  a : Collected buf end (map (transition_of_move ls) (moves_at t l.arrows.at))
  a = s.all _ g

  -- where the memory is not the largest, no more transitions are gathered than it is for
  many : Fitting old f → length buf ≡ length old → length buf / 9 * 8 < end → 2048 < length (transitions_at t l ls)
  many u z h =
      ⊎_elim (λ (k : length buf < 11520). let m = u.short (omega arith) in absurd (crowded (omega (arith, g.held.memory.some)) m)) (λ (k : 11520 ≤ length buf). omega (arith, a.over h)) (below_or (length buf) 11520)
    where
      crowded : f.end < length old → f.end ≤ length old / 9 * 8 → ⊥
      crowded r k =
          let x = in_order_length (records_in old 0 f.end) in
          omega (arith, a.over h, z, ap length (g.same r), records_count old f.sorted f.end (g.held.room r))

  pub over_22 : Fitting old f → length buf ≡ length old → length buf / 9 * 8 < end → (o n : List ℕ) (c : ℕ)
      → parsed_of (Err (State Transitions)) o n ≡ parsed o n (few_transitions (pattern_at t l ls) c)
  unfolding parsed few_transitions transitions_first automaton_of spell
  over_22 u z h o n c = sym (rw (lt-ltb 2048 (length (transitions_at t l ls)) (many u z h)))

  module _ (h : end ≤ length buf / 9 * 8) where
    pub few_22 : Recorded (take (end - 0) (drop 0 buf)) (transitions_at t l ls)
    few_22 = record { words = (a.listed h).words; few = simp (length-take, length-drop) (omega (arith, a.memory.most)) }

    pub within_22 : (o n : List ℕ) (c : ℕ) (x : Outcome ReadLengths Outputs) → x ≡ parsed o n (given (record { pattern = pattern_at t l ls; read = c })) → x ≡ parsed o n (few_transitions (pattern_at t l ls) c)
    unfolding few_transitions transitions_first automaton_of spell
    within_22 o n c x q = q ∙ sym (rw (le-ltb 2048 (length (transitions_at t l ls)) (omega (arith, (a.listed h).behind, a.memory.most))))

-- the refusal of a text with over 256 states
module _ (t : List ℕ) (l : Layout) (r : Bool)
    (e : r ≡ all (is_among (all_names t l.arrows.at (spelled t l.initial ∷ []))) (map (spelled t) (l.first ∷ (next_names t l.more.at).items))) where
  asked : all (is_among (states_of (said_at t l))) (said_at t l).accepts ≡ r
  unfolding states_of all_names spell
  asked = sym e

  pub states_21 : r ≡ true → ◌≡◌ {A = ℕ} 21 (cond (all (is_among (states_of (said_at t l))) (said_at t l).accepts) 21 33)
  states_21 h = sym (rw (asked ∙ h))

  pub states_33 : r ≡ false → ◌≡◌ {A = ℕ} 33 (cond (all (is_among (states_of (said_at t l))) (said_at t l).accepts) 21 33)
  states_33 h = sym (rw (asked ∙ h))

-- 8, 21, or what follows: the initial state is x, the transitions go on from arrows, r is what was read of them and q what closes the text
module _ (t : List ℕ) (x : TextSpan) (arrows : Cursor) (b buf : List ℕ) (r : Arrows) (a : ArrowsRead t arrows.at (spelled t x ∷ []) b buf r)
    (q : Option (TextSpan × Cursor × Cursor)) (told : accepting_of t q ≡ closing t r.behind.at) where
  pub open_8 : q ≡ None → (o n : List ℕ) → parsed_of (Err (Input Grammar)) o n ≡ parsed o n (meaning t (told_from t x arrows.at))
  unfolding parsed
  open_8 e o n = sym (ap (λ (f : ReadResult TextParts). parsed o n (meaning t f)) (closes_nothing t x arrows r.behind.at a.behind q told e))

  module _ (first : TextSpan) (more c : Cursor) (e : q ≡ Some (first, more, c)) where
    abbrev l : Layout
    l = record { initial = x; arrows = arrows; first = first; more = more }

    closed : meaning t (told_from t x arrows.at) ≡ meant (said_at t l) c.at
    closed = ap (meaning t) (closes_found t x arrows r.behind.at a.behind q told first more c e)

    pub laid : Spelt t x → Laid t (record { initial = x; arrows = arrows; first = first; more = more })
    laid s = record { initial_spelt = s; first_spelt = first_spelt t x arrows r.behind.at a.behind q told first more c e }

    said_states : states_of (said_at t l) ≡ meet same_label (names_of (moves_at t arrows.at)) (spelled t x ∷ [])
    unfolding states_of spell
    said_states = refl

    many_states : r.added ≡ None → meant (said_at t l) c.at ≡ refused (cond (all (is_among (states_of (said_at t l))) (said_at t l).accepts) 21 33)
    unfolding meant accepts_first within_limits states_first pattern_of automaton_of
    many_states f =
        rw (lt-ltb 256 (length (states_of (said_at t l))) (omega (arith, ap length said_states, added_full _ _ b r.added a.names f)))
        (either (all (is_among (states_of (said_at t l))) (said_at t l).accepts))
      where
        either : (u : Bool) → ◌≡◌ {A = Answer Reading} (cond u (refused 21) (refused 33)) (refused (cond u 21 33))
        either true = refl
        either false = refl

    pub over_21 : r.added ≡ None → (v : Refusal) → number_of v ≡ cond (all (is_among (states_of (said_at t l))) (said_at t l).accepts) 21 33
        → (o n : List ℕ) → parsed_of (Err v) o n ≡ parsed o n (meaning t (told_from t x arrows.at))
    unfolding parsed
    over_21 f v e o n = ap (λ (k : ℕ). parsed o n (refused k)) e ∙ sym (ap (parsed o n) (closed ∙ many_states f))

    module _ (i : ℕ) (f : r.added ≡ Some i) where
      names_states : names_in t b i ≡ states_of (said_at t l)
      names_states = added_names _ _ b r.added a.names i f ∙ sym said_states

      pub states_table : SpeltTable t b i
      states_table = added_table _ _ b r.added a.names i f

      pub states_gathered : Gathered buf r.filled.sorted r.filled.end (map (transition_of_move (names_in t b i)) (moves_at t arrows.at))
      states_gathered = a.gathered i f

      pub states_fitting : Fitting buf r.filled
      states_fitting = a.fitting i f

      pub within_21 : (o n : List ℕ) (y : Outcome ReadLengths Outputs)
          → y ≡ parsed o n (accepts_first (said_at t l).accepts (names_in t b i) (few_transitions (pattern_at t l (names_in t b i)) c.at))
          → y ≡ parsed o n (meaning t (told_from t x arrows.at))
      unfolding meant within_limits states_first pattern_of automaton_of
      within_21 o n y z =
          let m : length (states_of (said_at t l)) ≤ 256 = omega (arith, ap length names_states, names_count t b i, states_table.few) in
          z ∙ ap (λ (ls : List (List ℕ)). parsed o n (accepts_first (said_at t l).accepts ls (few_transitions (pattern_at t l ls) c.at))) names_states
          ∙ sym (ap (parsed o n) closed ∙ rw (le-ltb 256 (length (states_of (said_at t l))) m))

-- 20, 8, or what follows
module _ (t o n : List ℕ) (f : Bool) (room : f ≡ (ltb (length o) 10500 || ltb (length n) 16642)) where
  pub over_20 : f ≡ true → parsed_of (Err (State OutputLength)) o n ≡ parsed o n (parse_answer t o n)
  unfolding parsed parse_answer
  over_20 h = sym (ap (parsed o n) (room_lacking o n (reading_answer t) f room h))

  module _ (h : f ≡ false) (p : Option (TextSpan × Cursor)) (told : name_of p ≡ opening t) where
    pub outside_8 : p ≡ None → parsed_of (Err (Input Grammar)) o n ≡ parsed o n (parse_answer t o n)
    unfolding parsed reading_answer parse_answer
    outside_8 e = sym (ap (parsed o n) (room_enough o n (reading_answer t) f room h ∙ ap (meaning t) (opens_nothing t p told e)))

    pub text_read : (x : TextSpan) (c : Cursor) → p ≡ Some (x, c) → (y : Outcome ReadLengths Outputs) → y ≡ parsed o n (meaning t (told_from t x c.at)) → y ≡ parsed o n (parse_answer t o n)
    unfolding reading_answer parse_answer
    text_read x c e y q = q ∙ sym (ap (parsed o n) (room_enough o n (reading_answer t) f room h ∙ ap (meaning t) (opens_found t p told x c e)))

pub ruleset recorded_laws = (over_33, within_33, accepts_marked, words_inside, words_counted, over_22, few_22, within_22, gathered_held, rules)

pub ruleset closed_laws = (open_8, laid, over_21, states_table, states_gathered, states_fitting, within_21, rules)

pub ruleset text_laws = (over_20, outside_8, start_spelt, text_read, room_words, room_bytes, rules)
