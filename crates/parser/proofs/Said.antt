-- Laws of what a text says and means: its names are labels, the names of its states are all different, and its automaton is well-formed.
use Prim.Native.Nat.{ℕ, zero, suc, ◌≤◌, ◌<◌}
use mathlib.Core.Bool.{Bool, true, false, cond, true≢false}
use mathlib.Core.List.Memᴰ
use mathlib.Core.List.{List, [], ◌∷◌, map}
use mathlib.Core.Logic.{◌⊎◌, inl, inr, ⊎_elim}
use mathlib.Core.Path.{◌≡◌, refl, sym, ◌∙◌, subst}
use native.Mathlib.Omega.{arith}
use borrow.Author.Tests.{ltb-true, ltb-false}
use lib.Dec.{ltb}
use lib.ListN.{length, get_or, length-map}
use Rattle.lists.specs.Lists.{◌∈◌, any, all, Distinct}
use Rattle.lists.specs.Lists as lists
use Rattle.lists.proofs.Every.{all_out, all_not, flat_in, flat_out}
use Rattle.lists.proofs.Index.{index_lt, index_at, index_place, same_decides}
use Rattle.lists.proofs.Lists.{any_in, any_out}
use Rattle.lists.proofs.Members.{map_out}
use Rattle.lists.proofs.Tests.{test}
use Rattle.automata.specs.Automaton.{Transition}
use Rattle.automata.specs.WellFormed.{Sound, WellFormed}
use Rattle.automata.proofs.Ordered.{in_order_out, in_order_ascending}
use Rattle.labels.specs.Labels.{Label, AllLabels, none, more, same_label}
use Rattle.output.specs.Output.{states_first, transitions_first}
use Rattle.output.proofs.Left.{Writable}
use Rattle.refusal.specs.Answer.{refused, given}
use Rattle.search.specs.Search.{Graph, index}
use Rattle.search.proofs.Reached as search
use Rattle.search.proofs.Tables.{extends_in, extends_length, meet_extends, meet_in, meet_out, meet_good}
use Rattle.syntax.specs.Syntax as syntax
use Rattle.syntax.specs.Syntax.{Name, named, Move, Said, Text, says}
use Rattle.parser.specs.Moves.{IsMove}
use Rattle.parser.specs.Pattern.{both_names, names_of, states_of, transition_of_move, accept_word, automaton_of, pattern_of, few_transitions, within_limits, is_among, accepts_first, meant}
use Rattle.parser.specs.Misspelt.{Misspelt}

-- a name is a label
name_label : {x : List ℕ} → Name x → Label x
name_label (named h e k) = record { some = omega arith; short = omega arith }

-- the names of the states of a move are labels, and its range is not empty
pub record IsDrawn (m : Move) : Type 0 where
  pub from_label : Label m.from
  pub to_label : Label m.to
  pub full : m.first ≤ m.last

all_drawn : {u : List ℕ} {ms : List Move} → syntax.TransitionsText u ms → (m : Move) → m ∈ ms → IsDrawn m
all_drawn syntax.TransitionsText.none m i = elim i [ ]
all_drawn (syntax.TransitionsText.more g (syntax.moves a g₁ g₂ b g₃ g₄ v g₅ g₆ w h) r) m (Memᴰ.head q) =
    subst IsDrawn (sym q) (record { from_label = name_label a; to_label = name_label b; full = h })
all_drawn (syntax.TransitionsText.more g e r) m (Memᴰ.tail i) = all_drawn r m i

-- what a text says: its names are labels, and its ranges are not empty
pub record Sayable (s : Said) : Type 0 where
  pub start_label : Label s.start
  pub drawn : (m : Move) → m ∈ s.moves → IsDrawn m

pub text_sayable : {u : List ℕ} {s : Said} → Text u s → Sayable s
text_sayable (says g₁ x g₂ g₃ g₄ a ts g₅ g₆ b bs g₇) = record { start_label = name_label a; drawn = all_drawn ts }

-- names each of which is a label
labels_of_lem : (ls : List (List ℕ)) → ((l : List ℕ) → l ∈ ls → Label l) → AllLabels ls
labels_of_lem [] h = none
labels_of_lem (l ∷ ls) h = more (h l (Memᴰ.head refl)) (labels_of_lem ls (λ k m. h k (Memᴰ.tail m)))

module _ (s : Said) where
  -- the names of the states are the initial one and those of the transitions
  pub start_in : s.start ∈ states_of s
  unfolding states_of
  start_in = extends_in (meet_extends same_label (names_of s.moves) (s.start ∷ [])) s.start (Memᴰ.head refl)

  pub names_in : (m : Move) → m ∈ s.moves → (x : List ℕ) → x ∈ both_names m → x ∈ states_of s
  unfolding states_of names_of
  names_in m i x k = meet_in same_label same_decides (names_of s.moves) (s.start ∷ []) x (flat_in both_names i k)

  pub states_out : (x : List ℕ) → x ∈ states_of s → (x ≡ s.start) ⊎ ((m : Move) × m ∈ s.moves × x ∈ both_names m)
  unfolding states_of names_of
  states_out x i = ⊎_elim (λ k. inl (Memᴰ.eq_of_singleton k)) (λ k. inr (flat_out both_names x s.moves k)) (meet_out same_label (names_of s.moves) (s.start ∷ []) x i)

  pub some_state : 0 < length (states_of s)
  unfolding states_of
  some_state = extends_length (meet_extends same_label (names_of s.moves) (s.start ∷ []))

  -- they are met one after the other, each once
  pub states_distinct : Distinct (states_of s)
  unfolding states_of
  states_distinct = (meet_good G same_decides (names_of s.moves) (s.start ∷ []) good (λ x i. search.step search.start i)).distinct
    where
      G : Graph (List ℕ)
      G = record { same = same_label; next = λ _. names_of s.moves; start = s.start }

      good : search.ReachedElements G (s.start ∷ [])
      good = record {
        distinct = lists.Distinct.more {x = s.start} {l = []} (λ i. elim i [ ]) lists.Distinct.none;
        reached = λ x i. subst (search.Reached G) (sym (Memᴰ.eq_of_singleton i)) search.start;
      }

  -- the text's transitions as those of the automaton, and back: a label's place is found by the label
  pub is_move : (m : Move) → m ∈ s.moves → IsMove (states_of s) (transition_of_move (states_of s) m) m
  is_move m i =
      let from_in = names_in m i m.from (Memᴰ.head refl) in
      let to_in = names_in m i m.to (Memᴰ.tail (Memᴰ.head refl)) in
      record {
        from_state = index_lt same_label same_decides m.from from_in;
        from_name = index_at same_label same_decides [] m.from (states_of s) from_in;
        to_state_lem = index_lt same_label same_decides m.to to_in;
        to_name = index_at same_label same_decides [] m.to (states_of s) to_in;
        kind = refl;
        first = refl;
        last = refl;
      }

  pub move_is : (e : Transition) (m : Move) → IsMove (states_of s) e m → transition_of_move (states_of s) m ≡ e
  move_is e m k =
      let f : index same_label m.from (states_of s) ≡ e.from = rw (← k.from_name) (index_place same_label same_decides [] states_distinct e.from k.from_state) in
      let g : index same_label m.to (states_of s) ≡ e.to = rw (← k.to_name) (index_place same_label same_decides [] states_distinct e.to k.to_state_lem) in
      let a = k.kind in
      let b = k.first in
      let c = k.last in
      sym (rw (← f, ← g, a, b, c))

  -- a transition comes from one that the text says
  pub origin : (e : Transition) → e ∈ (automaton_of s (states_of s)).transitions → (m : Move) × m ∈ s.moves × (e ≡ transition_of_move (states_of s) m)
  unfolding automaton_of
  origin e i = map_out (transition_of_move (states_of s)) s.moves e (in_order_out e _ i)

  number_below : (m : Move) → m ∈ s.moves → (x : List ℕ) → x ∈ both_names m → index same_label x (states_of s) < length (states_of s)
  number_below m i x k = index_lt same_label same_decides x (names_in m i x k)

  accept_low : (xs : List (List ℕ)) (q : ℕ) → get_or (map (accept_word s.accepts) xs) q 0 ≤ 1
  unfolding accept_word
  accept_low [] q = omega arith
  accept_low (x ∷ xs) zero = go (any (same_label x) s.accepts)
    where
      go : (c : Bool) → cond c 1 0 ≤ 1
      go true = omega arith
      go false = omega arith
  accept_low (x ∷ xs) (suc q) = accept_low xs q

  module _ (ok : Sayable s) where
    labels_states : AllLabels (states_of s)
    labels_states =
        labels_of_lem (states_of s) λ l i.
        ⊎_elim (λ (e : l ≡ s.start). subst Label (sym e) ok.start_label) (λ k. both k.0 (ok.drawn k.0 k.1) l k.2) (states_out l i)
      where
        both : (m : Move) → IsDrawn m → (l : List ℕ) → l ∈ both_names m → Label l
        both m d l (Memᴰ.head q) = subst Label (sym q) d.from_label
        both m d l (Memᴰ.tail i) = subst Label (sym (Memᴰ.eq_of_singleton i)) d.to_label

    said_well : WellFormed (automaton_of s (states_of s))
    unfolding automaton_of
    said_well = record {
      states = record {
        starts = some_state;
        froms = λ e i. let o = origin e i in subst (λ (d : Transition). d.from < length (states_of s)) (sym o.2) (number_below o.0 o.1 _ (Memᴰ.head refl));
        tos = λ e i. let o = origin e i in subst (λ (d : Transition). d.to < length (states_of s)) (sym o.2) (number_below o.0 o.1 _ (Memᴰ.tail (Memᴰ.head refl)));
      };
      accepts = length-map (states_of s) (accept_word s.accepts);
      accept_words_lem = accept_low (states_of s);
      sound = λ e i. let o = origin e i in
          subst Sound (sym o.2) (record { known = omega arith; full = (ok.drawn o.0 o.1).full; blank = λ z. absurd (omega arith) });
      ascends = in_order_ascending (map (transition_of_move (states_of s)) s.moves);
    }

    -- the pattern can be written where it is within the limits
    pub said_writable : length (states_of s) ≤ 256 → length (automaton_of s (states_of s)).transitions ≤ 2048 → Writable (pattern_of s)
    unfolding pattern_of automaton_of
    said_writable a b = record { well = said_well; fits = record { few_states = a; few_transitions_lem = b }; labels = labels_states; each = refl }

-- every accepting name is a state, or one is not
module _ (s : Said) where
  misspelt_out : all (is_among (states_of s)) s.accepts ≡ false → Misspelt s
  misspelt_out e = let (a, i, n) = all_not (is_among (states_of s)) s.accepts e in (a, i, λ m. true≢false (sym (any_in (same_label a) m (same_decides.same_self a)) ∙ n))

  spelt_out : all (is_among (states_of s)) s.accepts ≡ true → Misspelt s → ⊥
  spelt_out e (a, i, n) =
      let (y, m, t) = any_out (same_label a) (states_of s) (all_out (is_among (states_of s)) i e) in
      n (subst (λ (z : List ℕ). z ∈ states_of s) (sym (same_decides.same_eq a y t)) m)

  pub spelt_in : (Misspelt s → ⊥) → all (is_among (states_of s)) s.accepts ≡ true
  spelt_in n = ⊎_elim (λ t. t) (λ (t : all (is_among (states_of s)) s.accepts ≡ false). absurd (n (misspelt_out t))) (test (all (is_among (states_of s)) s.accepts))

-- the refusals of what a text means, in their order
module _ (s : Said) (n : ℕ) where
  pub data Limits : Type 0 where
    no_state : Misspelt s → meant s n ≡ refused 33 → Limits
    many_states : (Misspelt s → ⊥) → 256 < length (states_of s) → meant s n ≡ refused 21 → Limits
    many_transitions : (Misspelt s → ⊥) → length (states_of s) ≤ 256 → 2048 < length (automaton_of s (states_of s)).transitions → meant s n ≡ refused 22 → Limits
    few : (Misspelt s → ⊥) → length (states_of s) ≤ 256 → length (automaton_of s (states_of s)).transitions ≤ 2048
        → meant s n ≡ given (record { pattern = pattern_of s; read = n }) → Limits

  pub limits : Limits
  unfolding meant accepts_first within_limits states_first few_transitions transitions_first pattern_of automaton_of
  limits =
      go (all (is_among (states_of s)) s.accepts) (ltb 256 (length (states_of s))) (ltb 2048 (length (automaton_of s (states_of s)).transitions)) refl refl refl
    where
      go : (b c d : Bool) → all (is_among (states_of s)) s.accepts ≡ b → ltb 256 (length (states_of s)) ≡ c
          → ltb 2048 (length (automaton_of s (states_of s)).transitions) ≡ d → Limits
      go false c d o p q = no_state (misspelt_out s o) (rw o)
      go true true d o p q = many_states (spelt_out s o) (ltb-true _ _ p) (rw (o, p))
      go true false true o p q = many_transitions (spelt_out s o) (ltb-false _ _ p) (ltb-true _ _ q) (rw (o, p, q))
      go true false false o p q = few (spelt_out s o) (ltb-false _ _ p) (ltb-false _ _ q) (rw (o, p, q))
