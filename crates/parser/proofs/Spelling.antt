-- Laws of the accepting names: whether all are states, by the table of the states or by tables of accepting names.
use Prim.Native.Nat.{ℕ, ◌+◌, ◌≤◌, ◌<◌}
use mathlib.Core.Bool.{Bool, true, false, cond, not, ◌&&◌, ◌||◌, and-true, and_assoc, or-false}
use mathlib.Core.List.{List, [], ◌∷◌, map, flat_map}
use mathlib.Core.Path.{◌≡◌, refl, sym, ◌∙◌, ap, ap₂}
use native.Mathlib.Omega.{arith}
use borrow.Author.Rules.{rules}
use borrow.Author.Tests.{eq-eqb, ne_eqb, not-true, not-false}
use lib.Dec.{eqb}
use lib.ListN.{length, get_or, take, drop, drop_of_length-le}
use Rattle.grammar.specs.Grammar.{Items, space, transition, transitions, next_name, next_names}
use Rattle.grammar.specs.Places.{spelled}
use Rattle.grammar.specs.inner.Pieces.{arrow_of, name_of}
use Rattle.grammar.specs.declared.pieces.Arrow.{Arrow}
use Rattle.grammar.specs.declared.tokens.Cursor.{Cursor}
use Rattle.grammar.specs.declared.tokens.TextSpan.{TextSpan}
use Rattle.grammar.proofs.Many.{arrows_ended, arrows_more, arrows_less, arrow_drawn, names_ended, names_more, names_less, name_spelt}
use Rattle.labels.specs.Labels.{same_label}
use Rattle.lists.specs.Lists.{any, all, tabulate}
use Rattle.lists.proofs.Every.{all_ext}
use Rattle.lists.proofs.Index.{same_decides}
use Rattle.lists.proofs.Parts.{drop_at}
use Rattle.search.specs.Search.{add, meet}
use Rattle.std.proofs.Common.{Option, Some, None}
use Rattle.name_table.proofs.Finding.{names_count}
use Rattle.search.proofs.Tables.{add_length, meet_all, meet_any}
use Rattle.syntax.specs.Spelled.{spell_move}
use Rattle.parser.specs.Pattern.{names_of, accept_word, is_among}
use Rattle.parser.specs.inner.Accepts.{mark_one, mark_all, names_from, both_spans, spans_from}
use Rattle.parser.specs.inner.Arrows.{all_names}
use Rattle.parser.specs.inner.Memory.{Zeros}
use Rattle.parser.specs.inner.Names.{SpeltTable, names_in, SpeltAddition}
use Rattle.parser.specs.inner.Places.{moves_at}
use Rattle.parser.proofs.Marking.{words_inside, words_marked, marks_ended}
use Rattle.parser.proofs.Entering.{from_drawn, to_drawn}
use Rattle.parser.proofs.Memory.{zeros}
use Rattle.parser.proofs.Tables.{table_none, added_table, added_names, added_full}

-- f did not hold of a name up to the place, and so not of all
pub names_lost : (t : List ℕ) (f : List ℕ → Bool) (at : ℕ) (k total : Bool) → (k && all f (names_from t at)) ≡ total → k ≡ false → (next : ℕ)
    → (k && all f (names_from t next)) ≡ total
names_lost t f at k total i h next = ap (λ b. b && all f (names_from t next)) h ∙ ap (λ b. b && all f (names_from t at)) (sym h) ∙ i

-- k tells whether f holds of the names up to the place, total whether it holds of all, and p is what is read there
module _ (t : List ℕ) (f : List ℕ → Bool) (at : ℕ) (p : Option (TextSpan × Cursor)) (told : name_of p ≡ next_name t at) (k total : Bool) (i : (k && all f (names_from t at)) ≡ total) where
  pub names_done : p ≡ None → k ≡ total
  unfolding all
  names_done h = sym (and-true k) ∙ sym (ap (λ (m : Items TextSpan). k && all f (map (spelled t) m.items)) (names_ended t at p told h)) ∙ i

  module _ (x : TextSpan) (next : Cursor) (h : p ≡ Some (x, next)) where
    names_step : ((k && f (spelled t x)) && all f (names_from t next.at)) ≡ total
    unfolding all
    names_step =
        and_assoc k (f (spelled t x)) (all f (names_from t next.at))
        ∙ sym (ap (λ (m : Items TextSpan). k && all f (map (spelled t) m.items)) (names_more t at p told x next h)) ∙ i

    pub names_kept : k ≡ true → (r : Bool) → r ≡ f (spelled t x) → (r && all f (names_from t next.at)) ≡ total
    names_kept e r q = ap (λ b. b && all f (names_from t next.at)) (q ∙ sym (ap (λ b. b && f (spelled t x)) e)) ∙ names_step

-- the first name and the others
module _ (t : List ℕ) (f : List ℕ → Bool) (x : TextSpan) (at : ℕ) (r : Bool) (e : r ≡ f (spelled t x)) where
  pub first_not : r ≡ false → r ≡ all f (map (spelled t) (x ∷ (next_names t at).items))
  unfolding all
  first_not h = h ∙ ap (λ b. b && all f (names_from t at)) (sym h ∙ e)

  pub first_is : r ≡ true → (o : Bool) → o ≡ all f (names_from t at) → o ≡ all f (map (spelled t) (x ∷ (next_names t at).items))
  unfolding all
  first_is h o q = q ∙ ap (λ b. b && all f (names_from t at)) (sym h ∙ e)

pub ruleset known_laws = (names_done, names_kept, marks_ended, names_less, name_spelt, rules)

-- the accept words are all 1 where all names are accepted
accept_ones : (zs ls : List (List ℕ)) → all (λ w. eqb w 1) (map (accept_word zs) ls) ≡ all (is_among zs) ls
unfolding all accept_word
accept_ones zs [] = refl
accept_ones zs (l ∷ ls) = ap₂ ◌&&◌ (one (is_among zs l)) (accept_ones zs ls)
  where
    one : (b : Bool) → eqb (cond b 1 0) 1 ≡ b
    one true = refl
    one false = refl

-- the words ws are marked up to the place, and p is what is read there
module _ (t : List ℕ) (at : ℕ) (p : Option (Arrow × Cursor)) (told : arrow_of p ≡ transition t (space t at)) (ls : List (List ℕ)) (ws ends : List ℕ)
    (i : mark_all t ls ws (spans_from t at) ≡ ends) where
  pub states_ended : p ≡ None → ws ≡ ends
  unfolding mark_all spans_from flat_map
  states_ended h = sym (sym i ∙ ap (λ (m : Items Arrow). mark_all t ls ws (flat_map both_spans m.items)) (arrows_ended t at p told h))

  pub states_next : (e : Arrow) (next : Cursor) → p ≡ Some (e, next) → (m n : List ℕ) → m ≡ mark_one t ls ws e.from → n ≡ mark_one t ls m e.to
      → mark_all t ls n (spans_from t next.at) ≡ ends
  unfolding mark_all spans_from flat_map
  states_next e next h m n q r =
      sym (sym i ∙ ap (λ (k : Items Arrow). mark_all t ls ws (flat_map both_spans k.items)) (arrows_more t at p told e next h)
      ∙ ap (λ (v : List ℕ). mark_all t ls (mark_one t ls v e.to) (spans_from t next.at)) (sym q) ∙ ap (λ (v : List ℕ). mark_all t ls v (spans_from t next.at)) (sym r))

pub ruleset states_laws = (states_ended, arrows_less, arrow_drawn, from_drawn, to_drawn, rules)

-- the names at these places are those of the transitions
spans_names : (t : List ℕ) (es : List Arrow) → map (spelled t) (flat_map both_spans es) ≡ names_of (map (spell_move t) es)
unfolding names_of flat_map
spans_names t [] = refl
spans_names t (e ∷ es) = ap (λ (ns : List (List ℕ)). spelled t e.from ∷ spelled t e.to ∷ ns) (spans_names t es)

-- an accepting name among the states, as they are met or as they stand in the text
among_all : (t : List ℕ) (x : TextSpan) (at : ℕ) (l : List ℕ) → is_among (map (spelled t) (x ∷ spans_from t at)) l ≡ is_among (all_names t at (spelled t x ∷ [])) l
unfolding all_names spans_from any
among_all t x at l =
    ap (λ (ns : List (List ℕ)). any (same_label l) (spelled t x ∷ ns)) (spans_names t (transitions t at).items)
    ∙ sym (meet_any same_label same_decides (same_label l) (names_of (moves_at t at)) (spelled t x ∷ [])
    ∙ ap (λ b. b || any (same_label l) (names_of (moves_at t at))) (or-false (same_label l (spelled t x))))

-- the words of a table's names are marked by the states' names
module _ (t b : List ℕ) (n : ℕ) (k : SpeltTable t b n) (x : TextSpan) (at : ℕ) (us vs ws : List ℕ) (z : Zeros 256 us) (q : vs ≡ mark_one t (names_in t b n) us x)
    (r : ws ≡ mark_all t (names_in t b n) vs (spans_from t at)) where
  marked : mark_all t (names_in t b n) vs (spans_from t at) ≡ mark_all t (names_in t b n) us (x ∷ spans_from t at)
  unfolding mark_all
  marked = ap (λ (v : List ℕ). mark_all t (names_in t b n) v (spans_from t at)) q

  pub table_states : (a : Bool) → a ≡ all (λ w. eqb w 1) (take n ws) → a ≡ all (is_among (all_names t at (spelled t x ∷ []))) (names_in t b n)
  table_states a e =
      e ∙ ap (all (λ w. eqb w 1)) (words_marked t b n k us ws (x ∷ spans_from t at) z (r ∙ marked))
      ∙ accept_ones (map (spelled t) (x ∷ spans_from t at)) (names_in t b n)
      ∙ all_ext _ _ (names_in t b n) (λ l m. among_all t x at l)

pub ruleset table_laws = (table_states, words_inside, zeros, rules)

-- one more name in the table b
module _ (t b : List ℕ) (k : ℕ) (y : TextSpan) (u : List ℕ) (a : Option ℕ) (g : SpeltAddition t (add same_label (spelled t y) (names_in t b k)) u a) where
  -- fewer than 256 names leave room for one more
  added_room : k < 256 → a ≡ None → ⊥
  added_room l e = omega (arith, added_full t _ u a g e, add_length same_label (spelled t y) (names_in t b k), names_count t b k)

  added_count : (m : ℕ) → a ≡ Some m → m ≤ k + 1
  added_count m e =
      omega (arith, ap length (added_names t _ u a g m e), names_count t u m, add_length same_label (spelled t y) (names_in t b k), names_count t b k)

  added_all : (m : ℕ) → a ≡ Some m → (f : List ℕ → Bool) → all f (names_in t u m) ≡ (all f (names_in t b k) && f (spelled t y))
  unfolding meet all
  added_all m e f =
      ap (all f) (added_names t _ u a g m e) ∙ meet_all same_label same_decides f (spelled t y ∷ []) (names_in t b k)
      ∙ ap (λ c. all f (names_in t b k) && c) (and-true (f (spelled t y)))

-- the table begins with the first name
module _ (t b : List ℕ) (x : TextSpan) (u : List ℕ) (a : Option ℕ) (g : SpeltAddition t (add same_label (spelled t x) (names_in t b 0)) u a) where
  pub begun_room : a ≡ None → (v : Bool) → false ≡ v
  begun_room e v = absurd (added_room t b 0 x u a g (omega arith) e)

  module _ (m : ℕ) (e : a ≡ Some m) where
    pub begun_few : m < 256
    begun_few = omega (arith, added_count t b 0 x u a g m e)

    pub begun_all : (f : List ℕ → Bool) (at : ℕ) (r : Bool) → r ≡ (all f (names_in t u m) && all f (names_from t at))
        → r ≡ all f (map (spelled t) (x ∷ (next_names t at).items))
    unfolding names_in tabulate all
    begun_all f at r q = q ∙ ap (λ c. c && all f (names_from t at)) (added_all t b 0 x u a g m e f)

pub ruleset begun_laws = (table_none, zeros, rules)

-- the names of the table b and those from the place on decide, and p is what is read there
module _ (t : List ℕ) (f : List ℕ → Bool) (at : ℕ) (p : Option (TextSpan × Cursor)) (told : name_of p ≡ next_name t at) (b : List ℕ) (k : ℕ) (total : Bool)
    (i : (all f (names_in t b k) && all f (names_from t at)) ≡ total) where
  pub rest_ended : p ≡ None → (r : Bool) → r ≡ all f (names_in t b k) → r ≡ total
  rest_ended h r e = e ∙ names_done t f at p told (all f (names_in t b k)) total i h

  module _ (y : TextSpan) (next : Cursor) (h : p ≡ Some (y, next)) (u : List ℕ) (a : Option ℕ)
      (g : SpeltAddition t (add same_label (spelled t y) (names_in t b k)) u a) where
    pub rest_room : k < 256 → a ≡ None → false ≡ total
    rest_room l e = absurd (added_room t b k y u a g l e)

    module _ (m : ℕ) (e : a ≡ Some m) where
      pub rest_added : (all f (names_in t u m) && all f (names_from t next.at)) ≡ total
      rest_added =
          ap (λ c. c && all f (names_from t next.at)) (added_all t b k y u a g m e f) ∙ names_step t f at p told (all f (names_in t b k)) total i y next h

      -- the names of a full table are asked, and it begins anew
      module _ (r : Bool) (q : r ≡ all f (names_in t u m)) where
        pub rest_not : not r ≡ true → false ≡ total
        rest_not n = ap (λ c. c && all f (names_from t next.at)) (sym (not-true r n) ∙ q) ∙ rest_added

        pub rest_anew : not r ≡ false → (all f (names_in t u 0) && all f (names_from t next.at)) ≡ total
        unfolding names_in tabulate all
        rest_anew n = ap (λ c. c && all f (names_from t next.at)) (sym (not-false r n) ∙ q) ∙ rest_added

pub ruleset rest_laws = (rest_ended, names_less, name_spelt, table_none, added_table, rules)
