-- The text of a pattern is one of the grammar, and says what the pattern has.
use Prim.Native.Nat.{ℕ, ◌+◌, ◌≤◌, ◌<◌, ◌%◌}
use mathlib.Core.Bool.{Bool, true}
use mathlib.Core.List.Memᴰ
use mathlib.Core.List.{List, [], ◌∷◌, ◌++◌, map, flat_map, append_assoc}
use mathlib.Core.Path.{◌≡◌, refl, subst}
use native.Mathlib.Omega.{arith}
use borrow.Author.Tests.{ltb-true, le-leb}
use lib.Dec.{leb}
use Rattle.lists.specs.Lists.{◌∈◌, all}
use Rattle.lists.proofs.Tests.{and_parts, and_both}
use Rattle.automata.specs.Automaton.{Transition}
use Rattle.decimal.specs.Decimal.{digits, is_digit}
use Rattle.decimal.proofs.Decimal.{by_digits, digits_one, digits_more, value_digits, length_some}
use Rattle.grammar.specs.Bytes.{is_space, is_letter, is_name_byte}
use Rattle.grammar.specs.Words.{right_brace, semicolon}
use Rattle.output.specs.Output.{Pattern, label_of}
use Rattle.syntax.specs.Syntax
use Rattle.syntax.specs.Syntax.{◌⨾◌, Each, Gap, Space, Name, Number, Move, Said, TransitionsText, MoreNames, Text}
use Rattle.writer.specs.Text.{accepting_states, blank, pattern_name, transition_text, more_names_text, names_text, pattern_text, is_name}

each : (f : ℕ → Bool) (u : List ℕ) → all f u ≡ true → Each f u
unfolding all
each f [] h = Each.none
each f (b ∷ u) h = let p = and_parts (f b) (all f u) h in Each.more p.0 (each f u p.1)

-- a label that passes the test is a name
pub name_of : (l : List ℕ) → is_name l ≡ true → Name l
unfolding is_name
name_of [] h = absurd (let z : ◌≡◌ {A = ℕ} 0 1 = cc in omega arith)
name_of (b ∷ u) h =
    let p = and_parts (is_letter b) _ h in
    let q = and_parts (all is_name_byte u) _ p.1 in
    Name.named p.0 (each is_name_byte u q.0) (ltb-true _ _ q.1)

each_append : {f : ℕ → Bool} {u v : List ℕ} → Each f u → Each f v → Each f (u ++ v)
each_append Each.none k = k
each_append (Each.more e h) k = Each.more e (each_append h k)

digit : (n : ℕ) → n < 10 → is_digit (48 + n) ≡ true
unfolding is_digit
digit n h = and_both (leb 48 (48 + n)) (leb (48 + n) 57) (le-leb 48 (48 + n) (omega arith)) (le-leb (48 + n) 57 (omega arith))

each_digit : (n : ℕ) → Each is_digit (digits n)
each_digit = by_digits (λ n. Each is_digit (digits n)) (λ n h. rw (digits_one n h) (Each.more (digit n h) Each.none))
    (λ n h k. rw (digits_more n h) (each_append k (Each.more (digit (n % 10) (omega arith)) Each.none)))

-- the digits of a number up to the greatest say it
pub number_of : (n : ℕ) → n ≤ 4294967295 → Number (digits n) n
number_of n h = subst (Number (digits n)) (value_digits n) (Number.digits (each_digit n) (omega (arith, length_some n)) (omega (arith, value_digits n)))

gap : Gap blank
unfolding is_space
gap = Each.more refl Each.none

space : Space blank
space = Space.spaces gap (omega arith)

-- a transition by the names of its states
abbrev pub move_of : Pattern → Transition → Move
move_of P e = record { from = label_of P e.from; to = label_of P e.to; first = e.first; last = e.last }

-- what the text says
abbrev pub said_of : Pattern → Said
said_of P = record {
  start = label_of P P.automaton.start;
  moves = map (move_of P) P.automaton.transitions;
  accepts = map (label_of P) (accepting_states P.automaton);
}

-- what has to hold of a transition
pub record WritableTransition (P : Pattern) (e : Transition) : Type 0 where
  pub from : Name (label_of P e.from)
  pub to : Name (label_of P e.to)
  pub full : e.first ≤ e.last
  pub small : e.last ≤ 4294967295

transition_text_lem : (P : Pattern) (e : Transition) → WritableTransition P e → Syntax.TransitionText (transition_text P e) (move_of P e)
unfolding transition_text
transition_text_lem P e w =
    Syntax.TransitionText.moves w.from gap gap w.to gap Each.none (number_of e.first (omega (arith, w.full, w.small))) Each.none gap (number_of e.last w.small) w.full

transitions_text : (P : Pattern) (es : List Transition) → ((e : Transition) → e ∈ es → WritableTransition P e)
    → TransitionsText (flat_map (λ e. blank ⨾ transition_text P e) es) (map (move_of P) es)
unfolding flat_map
transitions_text P [] h = TransitionsText.none
transitions_text P (e ∷ es) h =
    TransitionsText.more {s = blank} {u = transition_text P e} {v = flat_map (λ e. blank ⨾ transition_text P e) es} gap (transition_text_lem P e (h e (Memᴰ.head refl)))
    (transitions_text P es (λ d m. h d (Memᴰ.tail m)))

more_names : (ns : List (List ℕ)) → ((a : List ℕ) → a ∈ ns → Name a) → MoreNames (more_names_text ns) ns
unfolding more_names_text flat_map
more_names [] h = MoreNames.none
more_names (a ∷ ns) h = MoreNames.more Each.none gap (h a (Memᴰ.head refl)) (more_names ns (λ b m. h b (Memᴰ.tail m)))

pattern_name_lem : Name pattern_name
unfolding is_letter
pattern_name_lem = Name.named refl Each.none (omega arith)

module _ (P : Pattern) (start : Name (label_of P P.automaton.start)) (ranges : (e : Transition) → e ∈ P.automaton.transitions → WritableTransition P e) where
  pub by_names : (b : List ℕ) (ns : List (List ℕ)) → map (label_of P) (accepting_states P.automaton) ≡ b ∷ ns → ((a : List ℕ) → a ∈ (b ∷ ns) → Name a)
      → Text (pattern_text P) (said_of P)
  unfolding pattern_text names_text
  by_names b ns e h =
      rw (e, append_assoc b (more_names_text ns) (semicolon ⨾ blank ⨾ right_brace ⨾ semicolon))
      (Text.says space pattern_name_lem gap gap space start (transitions_text P P.automaton.transitions ranges) gap space (h b (Memᴰ.head refl))
      (more_names ns (λ a m. h a (Memᴰ.tail m))) gap)
