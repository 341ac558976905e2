-- The pattern that is read from what the text of P says is the written part of P under its labels.
use Prim.Native.Nat.{ℕ, ◌≤◌, ◌<◌}
use mathlib.Core.Bool.{true}
use mathlib.Core.List.Memᴰ
use mathlib.Core.List.{List, [], ◌∷◌, map, flat_map}
use mathlib.Core.Logic.{◌↔◌, ◌⊎◌, inl, inr, ⊎_elim}
use mathlib.Core.Path.{◌≡◌, refl, sym, ◌∙◌, ap, subst}
use native.Mathlib.Omega.{arith}
use borrow.Author.Tests.{eq-eqb, eqb-true, lt-ltb, ltb-true}
use lib.Dec.{eqb, ltb}
use lib.ListN.{length, get_or, length-map}
use Rattle.lists.specs.Lists.{◌∈◌}
use Rattle.lists.specs.Index.{index}
use Rattle.lists.proofs.Index.{same_decides, same_yes, index_lt, index_at, index_place}
use Rattle.lists.proofs.Lists.{any_out, filter_in, filter_out}
use Rattle.lists.proofs.Members.{map_in, map_out, at_in, distinct_length}
use Rattle.lists.proofs.Tests.{or_cases, true_same}
use Rattle.automata.specs.Automaton.{Transition, InBounds, EpsilonFree, accept_of, states}
use Rattle.automata.specs.Ordered.{in_order}
use Rattle.automata.proofs.Ordered.{in_order_in}
use Rattle.automata.proofs.States.{states_in, states_out, length_states}
use Rattle.labels.specs.Labels.{same_label}
use Rattle.output.specs.Output.{Pattern, label_of}
use Rattle.parser.specs.Misspelt.{Misspelt}
use Rattle.parser.specs.Pattern.{names_of, states_of, transition_of_move, automaton_of, pattern_of}
use Rattle.parser.proofs.Said.{origin}
use Rattle.parser.proofs.Theorems.{parse_start, parse_states, parse_labels_distinct, parse_numbered, parse_accept}
use Rattle.writer.specs.Text.{is_written, written_states, accepting_states}
use Rattle.writer.specs.ReadBack.{WrittenState, renumbered, appearing, ReadBack}
use Rattle.writer.proofs.Derived.{move_of, said_of}
use Rattle.writer.proofs.Words.{start_written, from_written, to_written}

module _ (P : Pattern) where
  -- a written state is the start, or a transition names it
  pub written_cases : (q : ℕ) → is_written P.automaton q ≡ true → (q ≡ P.automaton.start) ⊎ ((e : Transition) × e ∈ P.automaton.transitions × ((q ≡ e.from) ⊎ (q ≡ e.to)))
  unfolding is_written
  written_cases q h =
      ⊎_elim (λ k. inl (eqb-true q P.automaton.start k))
      (λ k.
      let o = any_out _ P.automaton.transitions k in
      inr (o.0, o.1, ⊎_elim (λ i. inl (sym (eqb-true _ q i))) (λ i. inr (sym (eqb-true _ q i))) (or_cases (eqb o.0.from q) (eqb o.0.to q) o.2)))
      (or_cases (eqb q P.automaton.start) _ h)

  -- the written states that accept
  pub accepting_in : (q : ℕ) → WrittenState P q → 0 < accept_of P.automaton q → q ∈ accepting_states P.automaton
  unfolding accepting_states written_states
  accepting_in q w h = filter_in _ (filter_in (is_written P.automaton) (states_in P.automaton.size q w.0) w.1) (lt-ltb 0 (accept_of P.automaton q) h)

  pub accepting_out : (q : ℕ) → q ∈ accepting_states P.automaton → WrittenState P q × (0 < accept_of P.automaton q)
  unfolding accepting_states written_states
  accepting_out q m =
      let o = filter_out (λ q. ltb 0 (accept_of P.automaton q)) q _ m in
      let i = filter_out (is_written P.automaton) q (states P.automaton.size) o.0 in
      ((states_out P.automaton.size q i.0, i.1), ltb-true 0 (accept_of P.automaton q) o.1)

  -- the names that the text gives to states, in order of appearance
  abbrev names : List (List ℕ)
  names = states_of (said_of P)

  -- the place of a state's label among them
  abbrev number : ℕ → ℕ
  number q = index same_label (label_of P q) names

  -- the label of a written state is one of them
  written_named : (q : ℕ) → WrittenState P q → label_of P q ∈ names
  written_named q w =
      (parse_states (said_of P) (label_of P q)).1
      (⊎_elim (λ e. inl (ap (label_of P) e))
      (λ (d, m, k). inr (move_of P d, map_in (move_of P) m, ⊎_elim (λ e. inl (ap (label_of P) e)) (λ e. inr (ap (label_of P) e)) k))
      (written_cases q w.1))

  -- and so is every accepting name
  pub accepts_spelt : Misspelt (said_of P) → ⊥
  accepts_spelt (a, i, n) = let (q, j, e) = map_out (label_of P) (accepting_states P.automaton) a i in n (rw e (written_named q (accepting_out q j).0))

  -- the names in order of appearance are the labels of the states in that order
  moves_named : (es : List Transition) → names_of (map (move_of P) es) ≡ map (label_of P) (flat_map (λ e. e.from ∷ e.to ∷ []) es)
  unfolding names_of flat_map
  moves_named [] = refl
  moves_named (e ∷ es) = ap (λ r. label_of P e.from ∷ label_of P e.to ∷ r) (moves_named es)

  -- the place of a label among those of some states is that of its state, if no other of them has it
  label_place_lem : (q : ℕ) (xs : List ℕ) → ((x : ℕ) → x ∈ xs → label_of P q ≡ label_of P x → q ≡ x) → index same_label (label_of P q) (map (label_of P) xs) ≡ index eqb q xs
  unfolding index
  label_place_lem q [] h = refl
  label_place_lem q (x ∷ xs) h =
      rw (
        true_same (same_label (label_of P q) (label_of P x)) (eqb q x) (λ t. eq-eqb q x (h x (Memᴰ.head refl) (same_decides.same_eq _ _ t)))
            (λ t. same_yes same_label same_decides _ _ (ap (label_of P) (eqb-true q x t))),
        label_place_lem q xs (λ y m. h y (Memᴰ.tail m)),
      )

  module _ (ok : InBounds P.automaton) where
    -- the states that records name, and with the start those that the text names, are written
    ends_written : (es : List Transition) → ((e : Transition) → e ∈ es → e ∈ P.automaton.transitions) → (x : ℕ) → x ∈ flat_map (λ e. e.from ∷ e.to ∷ []) es
        → WrittenState P x
    unfolding flat_map
    ends_written [] h x m = elim m [ ]
    ends_written (e ∷ es) h x (Memᴰ.head z) = rw z (from_written P ok e (h e (Memᴰ.head refl)))
    ends_written (e ∷ es) h x (Memᴰ.tail (Memᴰ.head z)) = rw z (to_written P ok e (h e (Memᴰ.head refl)))
    ends_written (e ∷ es) h x (Memᴰ.tail (Memᴰ.tail m)) = ends_written es (λ d i. h d (Memᴰ.tail i)) x m

    pub appearing_written : (x : ℕ) → x ∈ appearing P.automaton → WrittenState P x
    appearing_written x (Memᴰ.head z) = rw z (start_written P ok)
    appearing_written x (Memᴰ.tail m) = ends_written P.automaton.transitions (λ e i. i) x m

    -- and they are labels of written states
    named_written : (x : List ℕ) → x ∈ names → (q : ℕ) × WrittenState P q × (x ≡ label_of P q)
    named_written x m =
        ⊎_elim (λ e. (P.automaton.start, start_written P ok, e))
        (λ (v, i, k).
        let (d, j, e) = map_out (move_of P) P.automaton.transitions v i in
        ⊎_elim (λ f. (d.from, from_written P ok d j, f ∙ ap (λ x. x.from) e)) (λ f. (d.to, to_written P ok d j, f ∙ ap (λ x. x.to) e)) k)
        ((parse_states (said_of P) x).0 m)

    -- there are no more of them than states
    pub few_names : length names ≤ P.automaton.size
    few_names =
        let n = distinct_length names (map (label_of P) (states P.automaton.size)) (parse_labels_distinct (said_of P))
        (λ x m. let (q, w, e) = named_written x m in rw e (map_in (label_of P) (states_in P.automaton.size q w.0))) in
        omega (arith, length-map (states P.automaton.size) (label_of P), length_states P.automaton.size)

-- what a text can say: no transition is an epsilon, and written states have different labels
pub record Expressible (P : Pattern) : Type 0 where
  pub states : InBounds P.automaton
  pub ranges : EpsilonFree P.automaton
  pub different : (p q : ℕ) → WrittenState P p → WrittenState P q → label_of P p ≡ label_of P q → p ≡ q

module _ (P : Pattern) (ok : Expressible P) where
  -- a transition between the numbers of its states, by their names or directly
  moved : (d : Transition) → d ∈ P.automaton.transitions → transition_of_move (names P) (move_of P d) ≡ renumbered (number P) d
  moved d m = let k = ok.ranges d m in rw k

  pub read_back : ReadBack P (pattern_of (said_of P))
  unfolding pattern_of automaton_of
  read_back = record {
    number = number P;
    inside = inside;
    one = λ p q v w e. ok.different p q v w (sym (label p v) ∙ ap (λ i. get_or (names P) i []) e ∙ label q w);
    all = λ r h. let (q, w, e) = named_written P ok.states (get_or (names P) r []) (at_in (names P) r [] h) in (q, w, ap (λ x. index same_label x (names P)) (sym e) ∙ place r h);
    appearance = λ p q v w. subst (λ i. (number P p < number P q) ↔ (i < index eqb q order)) (ordered p v)
        (subst (λ j. (number P p < number P q) ↔ (index same_label (label_of P p) told_order < j)) (ordered q w) (parse_numbered (said_of P) (label_of P p) (label_of P q)));
    labels = label;
    start = sym (ap (λ x. index same_label x (names P)) (sym (parse_start (said_of P)).2) ∙ place 0 (parse_start (said_of P)).1);
    accepting = λ q w. let a = parse_accept (said_of P) (number P q) (inside q w) in
        (λ h. told q w (subst Accepting (label q w) (a.0 h)), λ h. a.1 (subst Accepting (sym (label q w)) (map_in (label_of P) (accepting_in P q w h))));
    transitions = λ e. (
      λ m.
          let (v, i, k) = origin (said_of P) e m in
          let (d, j, f) = map_out (move_of P) P.automaton.transitions v i in
          (d, j, k ∙ ap (transition_of_move (names P)) f ∙ moved d j),
      λ (d, j, k). subst (λ (x : Transition). x ∈ in_order (map (transition_of_move (names P)) (said_of P).moves)) (moved d j ∙ sym k)
          (in_order_in (map_in (transition_of_move (names P)) (map_in (move_of P) j))),
    );
  }
    where
      inside : (q : ℕ) → WrittenState P q → number P q < length (names P)
      inside q w = index_lt same_label same_decides (label_of P q) (written_named P q w)

      label : (q : ℕ) → WrittenState P q → get_or (names P) (number P q) [] ≡ label_of P q
      label q w = index_at same_label same_decides [] (label_of P q) (names P) (written_named P q w)

      -- the order of the states in the text, and that of their names
      order : List ℕ
      order = appearing P.automaton

      told_order : List (List ℕ)
      told_order = (said_of P).start ∷ names_of (said_of P).moves

      ordered : (q : ℕ) → WrittenState P q → index same_label (label_of P q) told_order ≡ index eqb q order
      ordered q w =
          ap (λ r. index same_label (label_of P q) (label_of P P.automaton.start ∷ r)) (moves_named P P.automaton.transitions)
          ∙ label_place_lem P q order (λ x m e. ok.different q x w (appearing_written P ok.states x m) e)

      place : (r : ℕ) → r < length (names P) → index same_label (get_or (names P) r []) (names P) ≡ r
      place r h = index_place same_label same_decides [] (parse_labels_distinct (said_of P)) r h

      Accepting : List ℕ → Type 0
      Accepting x = x ∈ (said_of P).accepts

      -- a written state whose label is among the accepting names accepts
      told : (q : ℕ) → WrittenState P q → label_of P q ∈ (said_of P).accepts → 0 < accept_of P.automaton q
      told q w m =
          let (p, i, e) = map_out (label_of P) (accepting_states P.automaton) (label_of P q) m in
          let (v, h) = accepting_out P p i in
          rw (ok.different q p w v e) h
