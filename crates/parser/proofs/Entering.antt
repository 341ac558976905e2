-- Laws of the names and the record of one transition: a name keeps its number when others are added behind it.
use Prim.Native.Nat.{ℕ, ◌≤◌, ◌<◌}
use mathlib.Core.List.Memᴰ
use mathlib.Core.List.{List, [], ◌∷◌, ◌++◌}
use mathlib.Core.Path.{◌≡◌, refl, sym, ◌∙◌, ap, subst}
use native.Mathlib.Omega.{arith}
use borrow.Author.Rules.{rules}
use lib.ListN.{length}
use Rattle.automata.specs.Automaton.{Transition}
use Rattle.grammar.specs.Places.{spelled}
use Rattle.grammar.specs.inner.Places.{Drawn, Spelt}
use Rattle.grammar.specs.declared.tokens.TextSpan.{TextSpan}
use Rattle.grammar.specs.declared.pieces.Arrow.{Arrow}
use Rattle.labels.specs.Labels.{same_label}
use Rattle.lists.specs.Lists.{◌∈◌}
use Rattle.lists.proofs.Index.{index_le, index_lt, index_before, index_behind, same_decides}
use Rattle.std.proofs.Common.{Option, Some, None}
use Rattle.output.specs.declared.gathering.Filled.{Filled}
use Rattle.output.specs.inner.Gathering.{Open, Held, Gathered}
use Rattle.output.specs.inner.Ordered.{records_in}
use Rattle.search.specs.Search.{index, add, meet}
use Rattle.search.proofs.Tables.{extends_length, meet_extends, meet_in, add_known, add_new}
use Rattle.syntax.specs.Syntax.{Move}
use Rattle.syntax.specs.Spelled.{spell_move}
use Rattle.name_table.proofs.Finding.{names_count}
use Rattle.parser.specs.Pattern.{both_names, transition_of_move}
use Rattle.parser.specs.inner.Arrows.{Entered, Entering, Noting, ArrowNoted}
use Rattle.parser.specs.inner.Names.{SpeltTable, names_in, SpeltAddition}
use Rattle.parser.specs.declared.arrows.Entry.{Entry}
use Rattle.parser.proofs.Tables.{added_table, added_names, added_full}

-- the number of a name among names to which others are added
number_stays : (x : List ℕ) (xs T : List (List ℕ)) → x ∈ T → index same_label x (meet same_label xs T) ≡ index same_label x T
number_stays x xs T m = let p = meet_extends same_label xs T in ap (index same_label x) p.is ∙ index_before same_label x T p.rest (index_lt same_label same_decides x m)

-- and a transition between them
pub transition_stays : (m : Move) (xs T : List (List ℕ)) → m.from ∈ T → m.to ∈ T → transition_of_move T m ≡ transition_of_move (meet same_label xs T) m
transition_stays m xs T p q = rw (number_stays m.from xs T p, number_stays m.to xs T q)

added_in : (x : List ℕ) (T : List (List ℕ)) → x ∈ add same_label x T
unfolding meet
added_in x T = meet_in same_label same_decides (x ∷ []) T x (Memᴰ.head refl)

-- a name that is added behind the others has their count for its number
added_number : (x : List ℕ) (T : List (List ℕ)) → length T ≤ index same_label x T → index same_label x T ≡ index same_label x (add same_label x T)
added_number x T h =
    let e : index same_label x T ≡ length T = omega (arith, index_le same_label x T) in
    e ∙ sym (ap (index same_label x) (add_new same_label x T h) ∙ index_behind same_label x x T h ∙ rw (same_decides.same_self x))

-- a name whose number was sought
module _ (text t : List ℕ) (n : ℕ) (k : SpeltTable text t n) (x : TextSpan) (i : ℕ) (e : i ≡ index same_label (spelled text x) (names_in text t n)) where
  pub enter_known : i < n → Entered text (spelled text x) (names_in text t n) t i n
  enter_known h =
      let q = add_known same_label (spelled text x) (names_in text t n) (omega (arith, e, names_count text t n)) in
      record { table = k; names = sym q; number = e ∙ ap (index same_label (spelled text x)) (sym q) }

  module _ (m : List ℕ) (r : Option ℕ) (a : SpeltAddition text (add same_label (spelled text x) (names_in text t n)) m r) where
    pub enter_full : r ≡ None → 256 < length (add same_label (spelled text x) (names_in text t n))
    enter_full q = added_full _ _ m r a q

    pub enter_new : n ≤ i → (u : ℕ) → r ≡ Some u → Entered text (spelled text x) (names_in text t n) m i u
    enter_new h u q =
        record {
          table = added_table _ _ m r a u q;
          names = added_names _ _ m r a u q;
          number = e ∙ added_number (spelled text x) (names_in text t n) (omega (arith, e, names_count text t n));
        }

pub ruleset enter_laws = (enter_known, enter_full, enter_new, rules)

-- what the answer of `enter` says
module _ (text x : List ℕ) (ls : List (List ℕ)) (t : List ℕ) (r : Option Entry) (a : Entering text x ls t r) where
  pub entry_at : (i : Entry) → r ≡ Some i → Entered text x ls t i.number i.count
  entry_at i e = subst (Entering text x ls t) e a

  pub entry_none : r ≡ None → 256 < length (add same_label x ls)
  entry_none e = subst (Entering text x ls t) e a

  pub entry_table : (i : Entry) → r ≡ Some i → SpeltTable text t i.count
  entry_table i e = (entry_at i e).table

-- the record is put, unless there are too many
module _ (buf : List ℕ) (f : Filled) where
  pub note_room : Held buf f.sorted f.end → f.end < length buf → Open buf f.sorted f.end
  note_room h l = h.room l

  module _ (e : Transition) where
    pub note_over : Held buf f.sorted f.end → length buf ≤ f.end → Noting buf f e buf f
    note_over h l = record { long = refl; held = h; more = λ k. absurd (omega arith); over = λ k. l }

    pub note_more : f.end < length buf → (m : List ℕ) (g : Filled) → length m ≡ length buf → Gathered m g.sorted g.end (records_in buf 0 f.end ++ e ∷ []) → Noting buf f e m g
    note_more l m g z h = record { long = z; held = h.held; more = λ k. h; over = λ k. absurd (omega arith) }

pub ruleset note_laws = (note_room, note_over, note_more, rules)

-- the names of a transition, one after the other: r is the answer for the first
module _ (text : List ℕ) (e : Arrow) (ls : List (List ℕ)) (t : List ℕ) (r : Option Entry) (a : Entering text (spelled text e.from) ls t r) where
  pub first_full : r ≡ None → 256 < length (meet same_label (both_names (spell_move text e)) ls)
  unfolding meet
  first_full q = omega (arith, entry_none _ _ _ _ r a q, extends_length (meet_extends same_label (spelled text e.to ∷ []) (add same_label (spelled text e.from) ls)))

  module _ (from : Entry) (q : r ≡ Some from) (u : List ℕ) (s : Option Entry) (b : Entering text (spelled text e.to) (names_in text t from.count) u s) where
    one : Entered text (spelled text e.from) ls t from.number from.count
    one = entry_at _ _ _ _ r a from q

    both : add same_label (spelled text e.to) (names_in text t from.count) ≡ meet same_label (both_names (spell_move text e)) ls
    unfolding meet
    both = ap (add same_label (spelled text e.to)) one.names

    pub second_full : s ≡ None → 256 < length (meet same_label (both_names (spell_move text e)) ls)
    second_full p = omega (arith, entry_none _ _ _ _ s b p, ap length both)

    module _ (to : Entry) (p : s ≡ Some to) where
      two : Entered text (spelled text e.to) (names_in text t from.count) u to.number to.count
      two = entry_at _ _ _ _ s b to p

      all : names_in text u to.count ≡ meet same_label (both_names (spell_move text e)) ls
      all = two.names ∙ both

      from_number : from.number ≡ index same_label (spelled text e.from) (names_in text u to.count)
      unfolding meet
      from_number =
          one.number
          ∙ sym (ap (index same_label (spelled text e.from)) all
          ∙ number_stays (spelled text e.from) (spelled text e.to ∷ []) (add same_label (spelled text e.from) ls) (added_in (spelled text e.from) ls))

      to_number : to.number ≡ index same_label (spelled text e.to) (names_in text u to.count)
      to_number = two.number ∙ ap (index same_label (spelled text e.to)) (sym two.names)

      pub both_noted : (old : List ℕ) (f : Filled) (new : List ℕ) (g : Filled) → Noting old f (record { from = from.number; kind = 1; first = e.first; last = e.last; to = to.number }) new g
          → ArrowNoted text (spell_move text e) ls u old f new to.count g
      both_noted old f new g h = record { table = two.table; names = all; noting = rw (← from_number, ← to_number) h }

pub from_drawn : (text : List ℕ) (e : Arrow) → Drawn text e → Spelt text e.from
from_drawn text e d = d.from_spelt

pub to_drawn : (text : List ℕ) (e : Arrow) → Drawn text e → Spelt text e.to
to_drawn text e d = d.to_spelt

pub ruleset both_laws = (first_full, second_full, both_noted, entry_table, from_drawn, to_drawn, rules)
