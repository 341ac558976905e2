-- Laws of writing the parts of the text, in the shape of what the functions that write ask. At each place there is room for what is left.
use Prim.Native.Nat.{ℕ, ◌+◌, ◌-◌, ◌/◌, ◌≤◌, ◌<◌}
use mathlib.Core.List.{List, [], ◌∷◌, ◌++◌, map}
use mathlib.Core.Path.{◌≡◌, sym, ◌∙◌, ap, subst}
use native.Mathlib.Omega.{arith}
use borrow.Author.Rules.{rules}
use lib.ListN.{length, get_or, take, drop, length-append, length-drop}
use lib.Seq.{get_or-drop}
use Rattle.lists.proofs.Parts.{part_all}
use Rattle.automata.specs.Automaton.{Transition}
use Rattle.automata.specs.Records.{read_records}
use Rattle.automata.specs.inner.Records.{record_at}
use Rattle.decimal.specs.Decimal.{digits}
use Rattle.labels.specs.Labels.{read_labels}
use Rattle.output.specs.Output.{read_pattern}
use Rattle.sheets.specs.Sheet.{records_at}
use Rattle.stores.specs.Written.{Written}
use Rattle.stores.proofs.Left.{Left, left_start, left_length, left_done, left_next}
use Rattle.stores.proofs.Written.{written_append, written_length}
use Rattle.sheets.proofs.Named.{chunk_from, chunk_to}
use Rattle.automata.specs.inner.Chunks.{records_of}
use Rattle.automata.proofs.Chunks.{records_are}
use Rattle.std.specs.Simd.{first_chunks}
use Rattle.writer.specs.Text.{names_text, more_names_text, pattern_text}
use Rattle.writer.specs.inner.Parts.{arrow_text, range_text, spaced_transition, spaced_transitions, heading_text, closing_text}
use Rattle.writer.specs.inner.Tables.{StatesBelow, TextTables, state_labels}
use Rattle.writer.proofs.Counting.{transitions_split, transitions_none, names_split, names_none}
use Rattle.writer.proofs.Gathering.{state_below}
use Rattle.writer.proofs.TextParts.{heading_length, closing_length, ready_text}

-- ` p -> q`
module _ (ls : List (List ℕ)) (p q at : ℕ) (o : List ℕ) (h : at + length (arrow_text ls p q) ≤ length o) where
  arrow_length : length (arrow_text ls p q) ≡ 5 + length (get_or ls p []) + length (get_or ls q [])
  unfolding arrow_text
  arrow_length = simp length-append (omega arith)

  pub arrow_blank : at < length o
  arrow_blank = omega (arith, arrow_length)

  module _ (m : List ℕ) (i : ℕ) (w : Written o at (32 ∷ []) m i) where
    pub arrow_from : i + length (get_or ls p []) ≤ length m
    arrow_from = omega (arith, arrow_length, w.behind, written_length o m _ at i w)

    module _ (n : List ℕ) (j : ℕ) (x : Written m i (get_or ls p []) n j) where
      pub arrow_sign_lem : (b : ℕ) → b ≤ 4 → j + b ≤ length n
      arrow_sign_lem b few = omega (arith, arrow_length, w.behind, written_length o m _ at i w, x.behind, written_length m n _ i j x)

      module _ (k : List ℕ) (l : ℕ) (y : Written n j (32 ∷ 45 ∷ 62 ∷ 32 ∷ []) k l) where
        pub arrow_to : l + length (get_or ls q []) ≤ length k
        arrow_to = omega (arith, arrow_length, w.behind, written_length o m _ at i w, x.behind, written_length m n _ i j x, y.behind, written_length n k _ j l y)

        pub arrow_put : (z : List ℕ) (end : ℕ) → Written k l (get_or ls q []) z end → Written o at (arrow_text ls p q) z end
        unfolding arrow_text
        arrow_put z end v =
            written_append o m z (32 ∷ []) _ at i end w
            (written_append m n z (get_or ls p []) (32 ∷ 45 ∷ 62 ∷ 32 ∷ get_or ls q []) i j end x (written_append n k z (32 ∷ 45 ∷ 62 ∷ 32 ∷ []) (get_or ls q []) j l end y v))

pub ruleset arrow_laws = (arrow_blank, arrow_from, arrow_sign_lem, arrow_to, arrow_put, rules)

-- ` [x, y];`
module _ (x y at : ℕ) (o : List ℕ) (h : at + length (range_text x y) + 10 ≤ length o) where
  range_length : length (range_text x y) ≡ 6 + length (digits x) + length (digits y)
  unfolding range_text
  range_length = simp length-append (omega arith)

  pub range_bracket : at + 2 ≤ length o
  range_bracket = omega (arith, range_length)

  module _ (m : List ℕ) (i : ℕ) (w : Written o at (32 ∷ 91 ∷ []) m i) where
    pub range_first : i + 10 ≤ length m
    range_first = omega (arith, range_length, w.behind, written_length o m _ at i w)

    module _ (n : List ℕ) (j : ℕ) (v : Written m i (digits x) n j) where
      pub range_comma : j + 2 ≤ length n
      range_comma = omega (arith, range_length, w.behind, written_length o m _ at i w, v.behind, written_length m n _ i j v)

      module _ (k : List ℕ) (l : ℕ) (u : Written n j (44 ∷ 32 ∷ []) k l) where
        pub range_last : l + 10 ≤ length k
        range_last = omega (arith, range_length, w.behind, written_length o m _ at i w, v.behind, written_length m n _ i j v, u.behind, written_length n k _ j l u)

        module _ (s : List ℕ) (a : ℕ) (t : Written k l (digits y) s a) where
          pub range_end : a + 2 ≤ length s
          range_end =
              omega (arith, range_length, w.behind, written_length o m _ at i w, v.behind, written_length m n _ i j v, u.behind, written_length n k _ j l u, t.behind, written_length k s _ l a t)

          pub range_put : (z : List ℕ) (end : ℕ) → Written s a (93 ∷ 59 ∷ []) z end → Written o at (range_text x y) z end
          unfolding range_text
          range_put z end b =
              written_append o m z (32 ∷ 91 ∷ []) (digits x ++ (44 ∷ 32 ∷ digits y ++ 93 ∷ 59 ∷ [])) at i end w
              (written_append m n z (digits x) (44 ∷ 32 ∷ digits y ++ 93 ∷ 59 ∷ []) i j end v
              (written_append n k z (44 ∷ 32 ∷ []) (digits y ++ 93 ∷ 59 ∷ []) j l end u (written_append k s z (digits y) (93 ∷ 59 ∷ []) l a end t b)))

pub ruleset range_laws = (range_bracket, range_first, range_comma, range_last, range_end, range_put, rules)

-- a transition
module _ (ls : List (List ℕ)) (e : Transition) (at : ℕ) (o : List ℕ) (h : at + length (spaced_transition ls e) + 10 ≤ length o) where
  transition_length : length (spaced_transition ls e) ≡ length (arrow_text ls e.from e.to) + length (range_text e.first e.last)
  unfolding spaced_transition
  transition_length = length-append (arrow_text ls e.from e.to) (range_text e.first e.last)

  pub transition_arrow : at + length (arrow_text ls e.from e.to) ≤ length o
  transition_arrow = omega (arith, transition_length)

  module _ (m : List ℕ) (i : ℕ) (w : Written o at (arrow_text ls e.from e.to) m i) where
    pub transition_range : i + length (range_text e.first e.last) + 10 ≤ length m
    transition_range = omega (arith, transition_length, w.behind, written_length o m _ at i w)

    pub transition_put : (z : List ℕ) (end : ℕ) → Written m i (range_text e.first e.last) z end → Written o at (spaced_transition ls e) z end
    unfolding spaced_transition
    transition_put z end v = written_append o m z (arrow_text ls e.from e.to) (range_text e.first e.last) at i end w v

-- some transitions, of which those from the record i on are left
pub record TransitionsToPut (ls : List (List ℕ)) (t : List ℕ) (rs : List (List ℕ)) (at : ℕ) (o₀ o : List ℕ) (end i : ℕ) : Type 0 where
  pub left : Left o₀ at (spaced_transitions ls (read_records t)) o end (spaced_transitions ls (records_of (drop i rs)))

pub transitions_put_begin : (ls : List (List ℕ)) (t : List ℕ) (rs : List (List ℕ)) (at : ℕ) (o : List ℕ) → rs ≡ first_chunks 5 (length t / 5) t → TransitionsToPut ls t rs at o o at 0
transitions_put_begin ls t rs at o e = record { left = rw (records_are t rs e) (left_start o at _) }

module _ (ls : List (List ℕ)) (t : List ℕ) (rs : List (List ℕ)) (at : ℕ) (o₀ o : List ℕ) (end i : ℕ) (g : TransitionsToPut ls t rs at o₀ o end i) where
  put_length : length o ≡ length o₀
  put_length = left_length o₀ at (spaced_transitions ls (read_records t)) o end _ g.left

  pub transitions_put_room : at + length (spaced_transitions ls (read_records t)) + 10 ≤ length o₀ → i < length rs → end + length (spaced_transition ls (record_at (get_or rs i []) 0)) + 10 ≤ length o
  transitions_put_room h k =
      omega (
        arith,
        g.left.behind,
        put_length,
        ap length (transitions_split ls rs i k),
        length-append (spaced_transition ls (record_at (get_or rs i []) 0)) (spaced_transitions ls (records_of (drop (i + 1) rs))),
      )

  pub transitions_put_next : i < length rs → (o' : List ℕ) (end' : ℕ) → Written o end (spaced_transition ls (record_at (get_or rs i []) 0)) o' end' → TransitionsToPut ls t rs at o₀ o' end' (i + 1)
  transitions_put_next k o' end' w = record { left = left_next o₀ at (spaced_transitions ls (read_records t)) o end _ g.left _ _ (transitions_split ls rs i k) o' end' w }

  pub transitions_put_done : length rs ≤ i → Written o₀ at (spaced_transitions ls (read_records t)) o end
  transitions_put_done k = left_done o₀ at (spaced_transitions ls (read_records t)) o end _ g.left (transitions_none ls rs i k)

pub ruleset transitions_put_laws = (chunk_from, chunk_to, transitions_put_begin, transitions_put_room, transitions_put_next, transitions_put_done, rules)

-- names, each behind a comma and a blank, of which those from the place i on are left
pub record NamesToPut (b qs : List ℕ) (at : ℕ) (o₀ o : List ℕ) (end i : ℕ) : Type 0 where
  pub left : Left o₀ at (more_names_text (state_labels b qs)) o end (more_names_text (state_labels b (drop i qs)))

module _ (b qs : List ℕ) (at : ℕ) (o₀ o : List ℕ) (end i : ℕ) (g : NamesToPut b qs at o₀ o end i) where
  pub names_put_length : length o ≡ length o₀
  names_put_length = left_length o₀ at (more_names_text (state_labels b qs)) o end _ g.left

  pub names_put_done : length qs ≤ i → Written o₀ at (more_names_text (state_labels b qs)) o end
  names_put_done k = left_done o₀ at (more_names_text (state_labels b qs)) o end _ g.left (names_none b qs i k)

  module _ (k : i < length qs) where
    room : at + length (more_names_text (state_labels b qs)) ≤ length o₀ → end + 2 + length (get_or (read_labels b) (get_or qs i 0) []) ≤ length o
    room h =
        omega (arith, g.left.behind, names_put_length, ap length (names_split b qs i k), length-append (get_or (read_labels b) (get_or qs i 0) []) (more_names_text (state_labels b (drop (i + 1) qs))))

    pub names_put_comma : at + length (more_names_text (state_labels b qs)) ≤ length o₀ → end + 2 ≤ length o
    names_put_comma h = omega (arith, room h)

    module _ (m : List ℕ) (j : ℕ) (w : Written o end (44 ∷ 32 ∷ []) m j) where
      pub names_put_room : at + length (more_names_text (state_labels b qs)) ≤ length o₀ → j + length (get_or (read_labels b) (get_or qs i 0) []) ≤ length m
      names_put_room h = omega (arith, room h, w.behind, written_length o m _ end j w)

      pub names_put_next : (o' : List ℕ) (end' : ℕ) → Written m j (get_or (read_labels b) (get_or qs i 0) []) o' end' → NamesToPut b qs at o₀ o' end' (i + 1)
      names_put_next o' end' v =
          record {
            left =
                left_next o₀ at (more_names_text (state_labels b qs)) o end _ g.left (44 ∷ 32 ∷ get_or (read_labels b) (get_or qs i 0) []) _ (names_split b qs i k) o' end'
                (written_append o m o' (44 ∷ 32 ∷ []) (get_or (read_labels b) (get_or qs i 0) []) end j end' w v);
          }

pub ruleset names_put_laws = (state_below, names_put_comma, names_put_room, names_put_next, names_put_done, rules)

-- names, a comma and a blank between them
names_front : (b qs : List ℕ) → 0 < length qs → names_text (state_labels b qs) ≡ get_or (read_labels b) (get_or qs 0 0) [] ++ more_names_text (state_labels b (take (length qs - 1) (drop 1 qs)))
unfolding names_text state_labels
names_front b [] h = absurd (omega arith)
names_front b (q ∷ qs) h = ap (λ (l : List ℕ). get_or (read_labels b) q [] ++ more_names_text (map (λ q. get_or (read_labels b) q []) l)) (sym (part_all 1 (q ∷ qs)))

module _ (n : ℕ) (qs : List ℕ) (d : StatesBelow n qs) where
  pub below_rest : StatesBelow n (take (length qs - 1) (drop 1 qs))
  below_rest =
      subst (StatesBelow n) (sym (part_all 1 qs)) (record { at = λ i h. subst (λ (x : ℕ). x < n) (sym (get_or-drop 1 qs i 0)) (d.at (1 + i) (omega (arith, h, length-drop 1 qs))) })

module _ (b qs o : List ℕ) (at : ℕ) (s : 0 < length qs) (h : at + length (names_text (state_labels b qs)) ≤ length o) where
  front_length : length (names_text (state_labels b qs)) ≡ length (get_or (read_labels b) (get_or qs 0 0) []) + length (more_names_text (state_labels b (take (length qs - 1) (drop 1 qs))))
  front_length = ap length (names_front b qs s) ∙ length-append (get_or (read_labels b) (get_or qs 0 0) []) (more_names_text (state_labels b (take (length qs - 1) (drop 1 qs))))

  pub front_room : at + length (get_or (read_labels b) (get_or qs 0 0) []) ≤ length o
  front_room = omega (arith, front_length)

  module _ (m : List ℕ) (i : ℕ) (w : Written o at (get_or (read_labels b) (get_or qs 0 0) []) m i) where
    pub rest_room : i + length (more_names_text (state_labels b (take (length qs - 1) (drop 1 qs)))) ≤ length m
    rest_room = omega (arith, front_length, w.behind, written_length o m _ at i w)

    pub rest_put : (z : List ℕ) (end : ℕ) → Written m i (more_names_text (state_labels b (take (length qs - 1) (drop 1 qs)))) z end → Written o at (names_text (state_labels b qs)) z end
    rest_put z end v = rw (names_front b qs s) (written_append o m z _ _ at i end w v)

pub ruleset front_laws = (state_below, below_rest, front_room, rest_room, rest_put, rules)

-- the heading
module _ (o p : List ℕ) (h : length (heading_text p) ≤ length o) where
  pub heading_words : 0 + 19 ≤ length o
  heading_words = omega (arith, heading_length p)

  module _ (m : List ℕ) (i : ℕ)
      (w : Written o 0 (97 ∷ 117 ∷ 116 ∷ 111 ∷ 109 ∷ 97 ∷ 116 ∷ 111 ∷ 110 ∷ 32 ∷ 80 ∷ 32 ∷ 123 ∷ 32 ∷ 105 ∷ 110 ∷ 105 ∷ 116 ∷ 32 ∷ []) m i) where
    pub heading_name : i + length p ≤ length m
    heading_name = omega (arith, heading_length p, w.behind, written_length o m _ 0 i w)

    module _ (n : List ℕ) (j : ℕ) (x : Written m i p n j) where
      pub heading_end : j < length n
      heading_end = omega (arith, heading_length p, w.behind, written_length o m _ 0 i w, x.behind, written_length m n _ i j x)

      pub heading_put : (z : List ℕ) (end : ℕ) → Written n j (59 ∷ []) z end → Written o 0 (heading_text p) z end
      unfolding heading_text
      heading_put z end v = written_append o m z _ (p ++ 59 ∷ []) 0 i end w (written_append m n z p (59 ∷ []) i j end x v)

pub ruleset heading_laws = (heading_words, heading_name, heading_end, heading_put, rules)

-- the closing
module _ (o names : List ℕ) (at : ℕ) (h : at + length (closing_text names) ≤ length o) where
  pub closing_word : at + 11 ≤ length o
  closing_word = omega (arith, closing_length names)

  module _ (m : List ℕ) (i : ℕ) (w : Written o at (32 ∷ 97 ∷ 99 ∷ 99 ∷ 101 ∷ 112 ∷ 116 ∷ 105 ∷ 110 ∷ 103 ∷ 32 ∷ []) m i) where
    pub closing_names : i + length names ≤ length m
    closing_names = omega (arith, closing_length names, w.behind, written_length o m _ at i w)

    module _ (n : List ℕ) (j : ℕ) (x : Written m i names n j) where
      pub closing_end : j + 4 ≤ length n
      closing_end = omega (arith, closing_length names, w.behind, written_length o m _ at i w, x.behind, written_length m n _ i j x)

      pub closing_put : (z : List ℕ) (end : ℕ) → Written n j (59 ∷ 32 ∷ 125 ∷ 59 ∷ []) z end → Written o at (closing_text names) z end
      unfolding closing_text
      closing_put z end v = written_append o m z _ (names ++ 59 ∷ 32 ∷ 125 ∷ 59 ∷ []) at i end w (written_append m n z names (59 ∷ 32 ∷ 125 ∷ 59 ∷ []) i j end x v)

pub ruleset closing_laws = (closing_word, closing_names, closing_end, closing_put, rules)

-- the whole text; the closing is longer than the ten bytes of room behind the transitions
module _ (s b qs o : List ℕ) (r : TextTables s b qs) (h : length (pattern_text (read_pattern s b)) ≤ length o) where
  abbrev heading : List ℕ
  heading = heading_text (get_or (read_labels b) (get_or s 1 0) [])

  abbrev transitions : List ℕ
  transitions = spaced_transitions (read_labels b) (read_records (take (length s - records_at s) (drop (records_at s) s)))

  abbrev closing : List ℕ
  closing = closing_text (names_text (state_labels b qs))

  text_length : length (pattern_text (read_pattern s b)) ≡ length heading + (length transitions + length closing)
  text_length = ap length (ready_text s b qs r) ∙ length-append heading (transitions ++ closing) ∙ ap (λ (n : ℕ). length heading + n) (length-append transitions closing)

  pub text_heading : length (heading_text (get_or (read_labels b) (get_or s 1 0) [])) ≤ length o
  text_heading = omega (arith, text_length)

  module _ (m : List ℕ) (i : ℕ) (w : Written o 0 (heading_text (get_or (read_labels b) (get_or s 1 0) [])) m i) where
    pub text_transitions : i + length (spaced_transitions (read_labels b) (read_records (take (length s - records_at s) (drop (records_at s) s)))) + 10 ≤ length m
    text_transitions = omega (arith, text_length, closing_length (names_text (state_labels b qs)), w.behind, written_length o m _ 0 i w)

    module _ (n : List ℕ) (j : ℕ) (x : Written m i (spaced_transitions (read_labels b) (read_records (take (length s - records_at s) (drop (records_at s) s)))) n j) where
      pub text_closing : j + length (closing_text (names_text (state_labels b qs))) ≤ length n
      text_closing = omega (arith, text_length, w.behind, written_length o m _ 0 i w, x.behind, written_length m n _ i j x)

      pub text_put : (z : List ℕ) (end : ℕ) → Written n j (closing_text (names_text (state_labels b qs))) z end → Written o 0 (pattern_text (read_pattern s b)) z end
      text_put z end v = rw (ready_text s b qs r) (written_append o m z heading (transitions ++ closing) 0 i end w (written_append m n z transitions closing i j end x v))
