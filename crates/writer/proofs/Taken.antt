-- The text that is given for a pattern is taken by the reader, whole, and read as the written part of the pattern.
use Prim.Native.Nat.{ℕ, ◌≤◌}
use mathlib.Core.Bool.{false, true≢false}
use mathlib.Core.List.Memᴰ
use mathlib.Core.List.{List, [], ◌∷◌, map, append-nil}
use mathlib.Core.Logic.{inl, inr, ⊎_elim}
use mathlib.Core.Path.{◌≡◌, refl, sym, ◌∙◌, ap, subst}
use native.Mathlib.Omega.{arith}
use borrow.Author.Tests.{eqb-true, eqb-false}
use lib.Dec.{eqb}
use lib.ListN.{length, length-map}
use Rattle.lists.specs.Lists.{◌∈◌}
use Rattle.lists.proofs.Members.{map_in, map_out}
use Rattle.lists.proofs.Tests.{test}
use Rattle.automata.specs.Automaton.{Transition, InBounds}
use Rattle.output.specs.Output.{Pattern, label_of}
use Rattle.output.proofs.Halves.{in_order_length}
use Rattle.parser.specs.Misspelt.{Misspelt}
use Rattle.parser.specs.Pattern.{states_of, transition_of_move, automaton_of, pattern_of, meant, meaning, reading_answer}
use Rattle.parser.proofs.Said.{Limits, no_state, many_states, many_transitions, few, limits}
use Rattle.refusal.specs.Answer.{given}
use Rattle.syntax.specs.Syntax.{Name, Said, Text}
use Rattle.syntax.proofs.Theorems.{complete}
use Rattle.writer.specs.Text.{accepting_states, pattern_text, is_name}
use Rattle.writer.specs.ReadBack.{OfSheet, WrittenState, ReadBack}
use Rattle.writer.specs.Refusals.{SomeEpsilon, SomeAccepting, Unfit}
use Rattle.writer.proofs.Conditions.{name_is}
use Rattle.writer.proofs.Derived.{WritableTransition, name_of, move_of, said_of, by_names}
use Rattle.writer.proofs.Reading.{accepting_in, accepting_out, accepts_spelt, few_names, read_back}
use Rattle.writer.proofs.Words.{start_written, from_written, to_written}

-- a text within the limits whose accepting names are states is read to its end
text_read : (t : List ℕ) (s : Said) → Text t s → (Misspelt s → ⊥) → length (states_of s) ≤ 256 → length (automaton_of s (states_of s)).transitions ≤ 2048
    → reading_answer t ≡ given (record { pattern = pattern_of s; read = length t })
unfolding reading_answer
text_read t s x n m k =
    let (g, e, f) = complete (record { text = x; rest = []; whole = sym (append-nil t) }) in
    ap (meaning t) e ∙ ap (λ r. meant r (length t)) f ∙ within (limits s (length t))
  where
    within : Limits s (length t) → meant s (length t) ≡ given (record { pattern = pattern_of s; read = length t })
    within (no_state h q) = absurd (n h)
    within (many_states o a q) = absurd (omega arith)
    within (many_transitions o a b q) = absurd (omega arith)
    within (few o a b q) = q

module _ (P : Pattern) (fit : Unfit P → ⊥) where
  written_name : (q : ℕ) → WrittenState P q → Name (label_of P q)
  written_name q w =
      ⊎_elim (λ t. name_of (label_of P q) t) (λ (t : is_name (label_of P q) ≡ false). absurd (fit (inr (inl (q, w, λ n. true≢false (sym (name_is n) ∙ t))))))
      (test (is_name (label_of P q)))

  written_different : (p q : ℕ) → WrittenState P p → WrittenState P q → label_of P p ≡ label_of P q → p ≡ q
  written_different p q v w e = ⊎_elim (λ t. eqb-true p q t) (λ (t : eqb p q ≡ false). absurd (fit (inl (p, q, v, w, eqb-false p q t, e)))) (test (eqb p q))

-- no more transitions are read than P has
few_moves : (P : Pattern) → length (automaton_of (said_of P) (states_of (said_of P))).transitions ≤ length P.automaton.transitions
unfolding automaton_of
few_moves P =
    let ms = map (move_of P) P.automaton.transitions in
    let f = transition_of_move (states_of (said_of P)) in
    omega (arith, in_order_length (map f ms), length-map ms f, length-map P.automaton.transitions (move_of P))

module _ (P : Pattern) (ok : OfSheet P.automaton) (plain : SomeEpsilon P → ⊥) (accepts : SomeAccepting P) (fit : Unfit P → ⊥) where
  bounds : InBounds P.automaton
  bounds = ok.well.states

  writable : (e : Transition) → e ∈ P.automaton.transitions → WritableTransition P e
  writable e m = record {
    from = written_name P fit e.from (from_written P bounds e m);
    to = written_name P fit e.to (to_written P bounds e m);
    full = (ok.well.sound e m).full;
    small = ok.symbols e m;
  }

  accepting_name : (x : List ℕ) → x ∈ map (label_of P) (accepting_states P.automaton) → Name x
  accepting_name x m = let (q, i, e) = map_out (label_of P) (accepting_states P.automaton) x m in rw e (written_name P fit q (accepting_out P q i).0)

  derived : Text (pattern_text P) (said_of P)
  derived = go (map (label_of P) (accepting_states P.automaton)) refl
    where
      go : (ns : List (List ℕ)) → map (label_of P) (accepting_states P.automaton) ≡ ns → Text (pattern_text P) (said_of P)
      go [] e = let (q, w, h) = accepts in absurd (Memᴰ.not-nil (subst (λ l. label_of P q ∈ l) e (map_in (label_of P) (accepting_in P q w h))))
      go (a ∷ ns) e = by_names P (written_name P fit P.automaton.start (start_written P bounds)) writable a ns e (λ x m. accepting_name x (subst (λ l. x ∈ l) (sym e) m))

  pub taken : reading_answer (pattern_text P) ≡ given (record { pattern = pattern_of (said_of P); read = length (pattern_text P) })
  taken =
      text_read (pattern_text P) (said_of P) derived (accepts_spelt P) (omega (arith, few_names P bounds, ok.fits.few_states)) (omega (arith, few_moves P, ok.fits.few_transitions_lem))

  pub taken_back : ReadBack P (pattern_of (said_of P))
  taken_back = read_back P (record {
    states = bounds;
    ranges = λ e m. let n : e.kind ≡ 0 → ⊥ = λ k. plain (e, m, k) in omega (arith, (ok.well.sound e m).known);
    different = written_different P fit;
  })
