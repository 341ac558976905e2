-- What is proved of `parse_automaton`.
-- What a text means that says s, where `states_of s` are the labels and the place of a label is the number of its state:
-- parse_start: the start is state 0, and its label is the initial name;
-- parse_size: there is a state for each label;
-- parse_states: the labels are the initial name and the names in transitions;
-- parse_labels_distinct: no label stands twice;
-- parse_numbered: states number by appearance;
-- parse_transitions: a transition is there exactly where the text says it between the states that it names;
-- parse_accept: a state accepts exactly where its label is among the accepting names.
-- The call, by its contract:
-- parse_left: the bytes that were read are a text of the rules, and the outputs hold what it means;
-- parse_read: nothing is refused exactly where there is room, a text stands at the front whose accepting names are states, and it is within the limits;
-- parse_20, parse_8, parse_33, parse_21, parse_22: each number exactly by its condition;
-- parse_refused: a refusal leaves everything as it was;
-- parse_dropping: without an accepting name that is no state, the answer is that of a reader which drops such names, as the original's does.
use Prim.Native.Nat.{ℕ, ◌≤◌, ◌<◌}
use mathlib.Core.Bool.{Bool, true, false, cond}
use mathlib.Core.List.Memᴰ
use mathlib.Core.List.{List, [], ◌∷◌, map}
use mathlib.Core.Logic.{◌↔◌, ◌⊎◌, inl, inr, ⊎_elim}
use mathlib.Core.Path.{◌≡◌, refl, sym, ◌∙◌, ap, subst}
use native.Mathlib.Omega.{arith}
use lib.ListN.{length, get_or, take}
use Rattle.std.proofs.Common.{Result, Ok}
use Rattle.automata.specs.Automaton.{Transition}
use Rattle.automata.specs.Ordered.{in_order}
use Rattle.automata.proofs.Ordered.{in_order_in}
use Rattle.grammar.specs.Grammar.{ReadResult, nothing, found, TextParts, whole_text}
use Rattle.labels.specs.Labels.{same_label}
use Rattle.lists.specs.Lists.{◌∈◌, any, Distinct}
use Rattle.lists.proofs.Index.{same_decides}
use Rattle.lists.proofs.Lists.{any_in, any_out, map_at}
use Rattle.lists.proofs.Members.{map_in}
use Rattle.output.specs.Left.{Room, Leaves, Unchanged}
use Rattle.output.specs.Made.{output_of}
use Rattle.output.specs.Output.{Pattern, outputs, room_first}
use Rattle.output.proofs.Left.{call_given, call_20, call_number, call_refused, call_leaves, room_first_lem}
use Rattle.refusal.specs.Answer.{Answer, refused}
use Rattle.refusal.specs.declared.Refusal.{Refusal}
use Rattle.search.specs.Search.{index}
use Rattle.search.proofs.Tables.{extends_at, meet_extends}
use Rattle.syntax.specs.Syntax.{Move, Said, Text, BeginsWith}
use Rattle.syntax.specs.Spelled.{spell}
use Rattle.syntax.proofs.Theorems.{sound, front}
use Rattle.parser.specs.Misspelt.{Misspelt, dropping_answer}
use Rattle.parser.specs.Moves.{IsMove}
use Rattle.parser.specs.Parsed.{parsed, parsed_of, parsed_number}
use Rattle.parser.specs.Pattern.{both_names, names_of, states_of, transition_of_move, accept_word, automaton_of, pattern_of, Reading}
use Rattle.parser.specs.Pattern.{within_limits, accepts_first, meant, text_first, meaning, reading_answer, parse_answer}
use Rattle.parser.specs.declared.Parsed.{Parsed}
use Rattle.parser.proofs.Appearance.{meet_order}
use Rattle.parser.proofs.Call.{made_of, patterns_of, made_number_lem, made_call, only_refused, some_reading, bytes_read}
use Rattle.parser.proofs.Outcomes.{answers_8, answers_20, answers_21, answers_22, answers_33, answers_given, answers_some}
use Rattle.parser.proofs.Said.{start_in, names_in, states_out, some_state, states_distinct, origin, is_move, move_is, spelt_in}

module _ (s : Said) where
  -- the start is state 0, and its label is the initial name
  pub parse_start : ((automaton_of s (states_of s)).start ≡ 0) × (0 < length (states_of s)) × (get_or (states_of s) 0 [] ≡ s.start)
  unfolding automaton_of states_of
  parse_start = (refl, some_state s, extends_at (meet_extends same_label (names_of s.moves) (s.start ∷ [])) [] 0 (omega arith))

  -- there is a state for each label
  pub parse_size : (automaton_of s (states_of s)).size ≡ length (states_of s)
  unfolding automaton_of
  parse_size = refl

  -- the labels are the initial name and the names in transitions
  pub parse_states : (x : List ℕ) → (x ∈ states_of s) ↔ ((x ≡ s.start) ⊎ ((m : Move) × m ∈ s.moves × ((x ≡ m.from) ⊎ (x ≡ m.to))))
  parse_states x = (
    λ i. ⊎_elim inl (λ k. inr (k.0, k.1, which k.0 k.2)) (states_out s x i),
    ⊎_elim (λ (e : x ≡ s.start). rw e (start_in s)) (λ k. names_in s k.0 k.1 x (one k.0 k.2)),
  )
    where
      which : (m : Move) → x ∈ both_names m → (x ≡ m.from) ⊎ (x ≡ m.to)
      which m (Memᴰ.head q) = inl q
      which m (Memᴰ.tail i) = inr (Memᴰ.eq_of_singleton i)

      one : (m : Move) → (x ≡ m.from) ⊎ (x ≡ m.to) → x ∈ both_names m
      one m = ⊎_elim (λ e. Memᴰ.head e) (λ e. Memᴰ.tail (Memᴰ.head e))

  -- no label stands twice
  pub parse_labels_distinct : Distinct (states_of s)
  parse_labels_distinct = states_distinct s

  -- of two names the one that appears first in the text, the initial one before all, has the lower number
  pub parse_numbered : (x y : List ℕ) → (index same_label x (states_of s) < index same_label y (states_of s))
      ↔ (index same_label x (s.start ∷ names_of s.moves) < index same_label y (s.start ∷ names_of s.moves))
  unfolding states_of
  parse_numbered = meet_order same_label same_decides (names_of s.moves) (s.start ∷ [])

  -- a transition is there exactly where the text says it between the states that it names
  pub parse_transitions : (e : Transition) → (e ∈ (automaton_of s (states_of s)).transitions) ↔ ((m : Move) × m ∈ s.moves × IsMove (states_of s) e m)
  unfolding automaton_of
  parse_transitions e = (
    λ i. let o = origin s e i in (o.0, o.1, subst (λ (d : Transition). IsMove (states_of s) d o.0) (sym o.2) (is_move s o.0 o.1)),
    λ h. subst (λ (d : Transition). d ∈ in_order (map (transition_of_move (states_of s)) s.moves)) (move_is s e h.0 h.2)
        (in_order_in (map_in (transition_of_move (states_of s)) h.1)),
  )

  -- a state accepts exactly where its label is among the accepting names
  pub parse_accept : (q : ℕ) → q < length (states_of s) → (0 < get_or (automaton_of s (states_of s)).accept q 0) ↔ (get_or (states_of s) q [] ∈ s.accepts)
  unfolding automaton_of accept_word
  parse_accept q h = rw (map_at (accept_word s.accepts) (states_of s) q [] 0 h) (out (any (same_label x) s.accepts) refl, λ i. into i)
    where
      x : List ℕ
      x = get_or (states_of s) q []

      out : (b : Bool) → any (same_label x) s.accepts ≡ b → 0 < cond b 1 0 → x ∈ s.accepts
      out true e k = let y = any_out (same_label x) s.accepts e in subst (λ (z : List ℕ). z ∈ s.accepts) (sym (same_decides.same_eq x y.0 y.2)) y.1
      out false e k = absurd (omega arith)

      into : x ∈ s.accepts → 0 < cond (any (same_label x) s.accepts) 1 0
      into i = rw (any_in (same_label x) i (same_decides.same_self x)) (omega arith)

-- the contract of a call: r is its answer, o and l are the outputs before it, o' and l' after it
module _ (t o l o' l' : List ℕ) (r : Result Parsed Refusal) (call : parsed_of r o' l' ≡ parsed o l (parse_answer t o l)) where
  as_made : output_of (made_of r) o' l' ≡ outputs o l (room_first o l (patterns_of (reading_answer t)))
  unfolding parse_answer
  as_made = made_call o l o' l' r (reading_answer t) call

  -- a number other than 20 is answered exactly where there is room and `reading_answer` gives it
  by_number : (k : ℕ) → (k ≡ 0 → ⊥) → (k ≡ 20 → ⊥) → (parsed_number r ≡ k) ↔ (Room o l × (reading_answer t ≡ refused k))
  by_number k some other =
      let c = call_number o l o' l' (made_of r) (patterns_of (reading_answer t)) as_made k some other in
      (λ e. let h = c.0 (made_number_lem r ∙ e) in (h.0, only_refused k (reading_answer t) h.1), λ h. sym (made_number_lem r) ∙ c.1 (h.0, ap patterns_of h.1))

  -- the bytes that were read are a text, its accepting names are states, and the outputs hold what it means: at the front of one the sheet of its
  -- automaton, at the front of the other the labels of its states, and behind them nothing is changed
  pub parse_left : (n w b : ℕ) → r ≡ Ok (record { read = n; words = w; bytes = b })
      → (s : Said) × (n ≤ length t) × Text (take n t) s × (Misspelt s → ⊥) × Leaves o l o' l' w b (automaton_of s (states_of s)) (states_of s)
  unfolding pattern_of parse_answer
  parse_left n w b e =
      let g = (call_given o l o' l' (made_of r) (patterns_of (reading_answer t)) as_made).0 (made_number_lem r ∙ ap parsed_number e) in
      let R = some_reading (reading_answer t) g.1.0 g.1.1 in
      let i = answers_given t R.0 R.1 in
      let c : n ≡ R.0.read = bytes_read o l o' l' n w b R.0 (ap (λ (p : Result Parsed Refusal). parsed_of p o' l') (sym e) ∙ call ∙ ap (parsed o l) (room_first_lem o l (reading_answer t) g.0 ∙ R.1)) in
      let v = call_leaves o l o' l' (made_of r) (patterns_of (reading_answer t)) as_made w b (ap made_of e) R.0.pattern (ap patterns_of R.1) i.writable in (
        i.said,
        subst (λ k. k ≤ length t) (sym c) i.inside,
        subst (λ k. Text (take k t) i.said) (sym c) i.text,
        i.spelt,
        subst (λ (P : Pattern). Leaves o l o' l' w b P.automaton P.labels) i.is v,
      )

  -- nothing is refused exactly where there is room and a text within the limits stands at the front, whose accepting names are states
  pub parse_read : (parsed_number r ≡ 0)
      ↔ (Room o l × ((u : List ℕ) × (s : Said) × BeginsWith t u s × (Misspelt s → ⊥) × (length (states_of s) ≤ 256) × (length (automaton_of s (states_of s)).transitions ≤ 2048)))
  parse_read =
      let c = call_given o l o' l' (made_of r) (patterns_of (reading_answer t)) as_made in (
        λ e. let g = c.0 (made_number_lem r ∙ e) in
            let R = some_reading (reading_answer t) g.1.0 g.1.1 in
            let i = answers_given t R.0 R.1 in
            (g.0, (_, i.said, front t R.0.read i.text, i.spelt, i.few_states, i.few_transitions_lem)),
        λ h. let R = answers_some t h.1.2 h.1.3 h.1.4 h.1.5 in sym (made_number_lem r) ∙ c.1 (h.0, (R.0.pattern, ap patterns_of R.1)),
      )

  -- 20 exactly where an output is shorter than its fixed size
  pub parse_20 : (parsed_number r ≡ 20) ↔ (Room o l → ⊥)
  parse_20 =
      let c = call_20 o l o' l' (made_of r) (patterns_of (reading_answer t)) as_made (λ e. answers_20 t (only_refused 20 (reading_answer t) e)) in
      (λ e. c.0 (made_number_lem r ∙ e), λ n. sym (made_number_lem r) ∙ c.1 n)

  -- 8 exactly where there is room, and no text stands at the front
  pub parse_8 : (parsed_number r ≡ 8) ↔ (Room o l × ((u : List ℕ) (s : Said) → BeginsWith t u s → ⊥))
  parse_8 = let c = by_number 8 (λ e. omega arith) (λ e. omega arith) in (λ e. ((c.0 e).0, (answers_8 t).0 (c.0 e).1), λ h. c.1 (h.0, (answers_8 t).1 h.1))

  -- 33 exactly where there is room, and some accepting name of the text at the front is no state
  pub parse_33 : (parsed_number r ≡ 33) ↔ (Room o l × ((u : List ℕ) × (s : Said) × BeginsWith t u s × Misspelt s))
  parse_33 = let c = by_number 33 (λ e. omega arith) (λ e. omega arith) in (λ e. ((c.0 e).0, (answers_33 t).0 (c.0 e).1), λ h. c.1 (h.0, (answers_33 t).1 h.1))

  -- 21 exactly where there is room, and the text at the front has over 256 states, among them those of its accepting names
  pub parse_21 : (parsed_number r ≡ 21) ↔ (Room o l × ((u : List ℕ) × (s : Said) × BeginsWith t u s × (Misspelt s → ⊥) × (256 < length (states_of s))))
  parse_21 = let c = by_number 21 (λ e. omega arith) (λ e. omega arith) in (λ e. ((c.0 e).0, (answers_21 t).0 (c.0 e).1), λ h. c.1 (h.0, (answers_21 t).1 h.1))

  -- 22 exactly where there is room, and the text at the front has at most 256 states, among them those of its accepting names, and over 2,048 transitions
  pub parse_22 : (parsed_number r ≡ 22)
      ↔ (Room o l × ((u : List ℕ) × (s : Said) × BeginsWith t u s × (Misspelt s → ⊥) × (length (states_of s) ≤ 256) × (2048 < length (automaton_of s (states_of s)).transitions)))
  parse_22 = let c = by_number 22 (λ e. omega arith) (λ e. omega arith) in (λ e. ((c.0 e).0, (answers_22 t).0 (c.0 e).1), λ h. c.1 (h.0, (answers_22 t).1 h.1))

  -- a refusal leaves everything as it was
  pub parse_refused : (parsed_number r ≡ 0 → ⊥) → Unchanged o l o' l'
  parse_refused n = call_refused o l o' l' (made_of r) (patterns_of (reading_answer t)) as_made (λ e. n (sym (made_number_lem r) ∙ e))

  -- where no accepting name of a text at the front is no state, the call is one that drops such names
  pub parse_dropping : ((u : List ℕ) (s : Said) → BeginsWith t u s → Misspelt s → ⊥) → parsed_of r o' l' ≡ parsed o l (dropping_answer t o l)
  unfolding parse_answer reading_answer dropping_answer meant accepts_first
  parse_dropping n = call ∙ ap (λ (a : Answer Reading). parsed o l (room_first o l a)) (go (whole_text t) refl)
    where
      go : (f : ReadResult TextParts) → whole_text t ≡ f → meaning t f ≡ text_first f (λ g k. within_limits (spell t g) k)
      go nothing e = refl
      go (found g k) e = rw (spelt_in (spell t g) (n _ _ (front t k (sound t g k e).1)))
