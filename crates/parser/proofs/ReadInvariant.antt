-- Laws of the loop that reads the transitions once: with what is left, the names of the table and the records in memory are those of the whole.
use Prim.Native.Nat.{ℕ, ◌-◌, ◌*◌, ◌/◌, ◌≤◌, ◌<◌}
use mathlib.Core.List.Memᴰ
use mathlib.Core.List.{List, [], ◌∷◌, ◌++◌, map, flat_map}
use mathlib.Core.Logic.{◌⊎◌, inl, inr, ⊎_elim}
use mathlib.Core.Path.{◌≡◌, refl, sym, ◌∙◌, ap, subst}
use native.Mathlib.Omega.{arith}
use borrow.Author.Rules.{rules}
use borrow.Author.Tests.{ltb-true, ltb-false}
use lib.Dec.{ltb}
use lib.ListN.{length, take, drop, replicate, length-append, length-replicate}
use lib.Seq.{sets-eq, take_at, length-take-le}
use Rattle.automata.specs.Automaton.{Transition}
use Rattle.automata.specs.Records.{read_records}
use Rattle.grammar.specs.Grammar.{space, transition, transitions, Items}
use Rattle.grammar.specs.Places.{spelled}
use Rattle.grammar.specs.inner.Pieces.{arrow_of}
use Rattle.grammar.specs.declared.tokens.Cursor.{Cursor}
use Rattle.grammar.specs.declared.tokens.TextSpan.{TextSpan}
use Rattle.grammar.specs.declared.pieces.Arrow.{Arrow}
use Rattle.grammar.proofs.Many.{arrows_ended, arrows_more, arrows_less, arrow_drawn}
use Rattle.labels.specs.Labels.{same_label}
use Rattle.lists.specs.Lists.{◌∈◌, tabulate}
use Rattle.lists.proofs.Index.{same_decides}
use Rattle.lists.proofs.Tests.{test}
use Rattle.std.proofs.Common.{Option, Some, None}
use Rattle.stores.specs.Written.{Written}
use Rattle.stores.proofs.Written.{written_length}
use Rattle.output.proofs.Halves.{in_order_length}
use Rattle.output.specs.declared.gathering.Filled.{Filled}
use Rattle.output.specs.inner.Gathering.{Memory, Open, Held, Gathered, Rest}
use Rattle.output.specs.inner.Ordered.{records_in}
use Rattle.output.proofs.Collecting.{records_count, large_memory, rest_none, rest_end, rest_next, rest_over}
use Rattle.search.specs.Search.{index, add, meet}
use Rattle.search.proofs.Tables.{extends_length, meet_append, meet_extends, meet_in}
use Rattle.syntax.specs.Syntax.{Move}
use Rattle.syntax.specs.Spelled.{spell_move}
use Rattle.parser.specs.Pattern.{both_names, names_of, transition_of_move}
use Rattle.parser.specs.inner.Arrows.{Noting, ArrowNoted, ArrowNoting, all_names, numbered_transitions, ReadInvariant, Fitting, ArrowsRead, StoppedAt, Beginning, Continuing}
use Rattle.parser.specs.inner.Names.{SpeltTable, names_in, SpeltAddition, kept, full}
use Rattle.parser.specs.inner.Places.{moves_at}
use Rattle.parser.specs.declared.arrows.Arrows.{Arrows}
use Rattle.parser.specs.declared.arrows.Begun.{Begun}
use Rattle.parser.specs.declared.arrows.Begun.TheVariants.{Ended, Stopped}
use Rattle.parser.specs.declared.arrows.Stop.{Stop}
use Rattle.parser.specs.declared.arrows.Noted.{Noted}
use Rattle.parser.proofs.Entering.{transition_stays}
use Rattle.parser.proofs.Tables.{table_none, added_table, added_names, added_full}

pub below_or : (a b : ℕ) → (a < b) ⊎ (b ≤ a)
below_or a b = ⊎_elim (λ t. inl (ltb-true a b t)) (λ t. inr (ltb-false a b t)) (test (ltb a b))

-- a record more in a memory that is not filled to the end of its eighth ninth
note_few : (old new : List ℕ) (f g : Filled) (e : Transition) → Held old f.sorted f.end → f.end < length old / 9 * 8 → Noting old f e new g → g.end < length new
note_few old new f g e h l n = ⊎_elim (λ (k : g.end < length new). k) (λ (k : length new ≤ g.end). absurd (crowded k)) (below_or g.end (length new))
  where
    o : Open old f.sorted f.end
    o = h.room (omega arith)

    crowded : length new ≤ g.end → ⊥
    crowded k =
        let x = (n.more (omega arith)).over k in
        let y = in_order_length (records_in old 0 f.end ++ e ∷ []) in
        let w : length old / 9 ≡ length old / 45 * 5 = omega (arith, o.packed.memory.nines) in
        let z : f.end / 5 < length old / 45 * 8 = omega (arith, o.packed.whole) in
        let v : length new / 9 * 8 / 5 ≡ length old / 45 * 8 = omega (arith, n.long) in
        omega (arith, length-append (records_in old 0 f.end) (e ∷ []), records_count old f.sorted f.end o)

pub going_begin : (text t buf : List ℕ) (at n : ℕ) → SpeltTable text t n → Memory buf → ReadInvariant text at (names_in text t n) t buf at n (record { sorted = 0; end = 0 })
going_begin text t buf at n k h =
    let r = rest_none buf h (numbered_transitions text at (all_names text at (names_in text t n))) in
    record { table = k; place = refl; names = refl; held = record { memory = h; room = λ l. r.room }; left = λ l. r; over = λ l. absurd (omega (arith, h.some)) }

-- what the answer of `note_arrow` says
module _ (text : List ℕ) (m : Move) (ls : List (List ℕ)) (t old : List ℕ) (f : Filled) (new : List ℕ) (r : Option Noted) (a : ArrowNoting text m ls t old f new r) where
  noted_at : (g : Noted) → r ≡ Some g → ArrowNoted text m ls t old f new g.count g.filled
  noted_at g e = subst (ArrowNoting text m ls t old f new) e a

  noted_full : r ≡ None → 256 < length (meet same_label (both_names m) ls)
  noted_full e = subst (ArrowNoting text m ls t old f new) e a

module _ (text : List ℕ) (start : ℕ) (ls : List (List ℕ)) (t buf : List ℕ) (at n : ℕ) (f : Filled) (g : ReadInvariant text start ls t buf at n f) where
  pub going_table : SpeltTable text t n
  going_table = g.table

  pub going_held : Held buf f.sorted f.end
  going_held = g.held

  -- p is what is read at the place
  module _ (p : Option (Arrow × Cursor)) (told : arrow_of p ≡ transition text (space text at)) where
    module _ (h : p ≡ None) where
      ended : transitions text at ≡ record { items = []; behind = at }
      ended = arrows_ended text at p told h

      ended_names : names_in text t n ≡ all_names text start ls
      unfolding all_names meet names_of flat_map
      ended_names = sym (sym g.names ∙ ap (λ (i : Items Arrow). meet same_label (names_of (map (spell_move text) i.items)) (names_in text t n)) ended)

      ended_gathered : Gathered buf f.sorted f.end (numbered_transitions text start (all_names text start ls))
      unfolding numbered_transitions
      ended_gathered =
          ⊎_elim
          (λ (l : f.end < length buf).
          rest_end buf f.sorted f.end _
          (subst (λ (i : Items Arrow). Rest buf f.sorted f.end (map (transition_of_move (all_names text start ls)) (map (spell_move text) i.items)) (numbered_transitions text start (all_names text start ls))) ended (g.left l)))
          (λ (l : length buf ≤ f.end). record { held = g.held; same = λ k. absurd (omega arith); over = λ k. g.over k })
          (below_or f.end (length buf))

      pub going_ended : Fitting buf f → ArrowsRead text start ls t buf (record { behind = record { at = at }; added = Some n; filled = f })
      unfolding all_names numbered_transitions
      going_ended u =
          record {
            behind = sym (ap (λ (i : Items Arrow). i.behind) ended) ∙ g.place;
            names = kept g.table ended_names;
            gathered = λ k e.
                let q : n ≡ k = cc in
                subst (λ (v : ℕ). Gathered buf f.sorted f.end (map (transition_of_move (names_in text t v)) (moves_at text start))) q (rw ended_names ended_gathered);
            fitting = λ k e. u;
          }

    module _ (e : Arrow) (next : Cursor) (h : p ≡ Some (e, next)) (m new : List ℕ) (r : Option Noted)
        (a : ArrowNoting text (spell_move text e) (names_in text t n) m buf f new r) where
      moved : transitions text at ≡ record { items = e ∷ (transitions text next.at).items; behind = (transitions text next.at).behind }
      moved = arrows_more text at p told e next h

      moved_names : all_names text start ls ≡ all_names text next.at (meet same_label (both_names (spell_move text e)) (names_in text t n))
      unfolding all_names names_of flat_map
      moved_names =
          sym g.names ∙ ap (λ (i : Items Arrow). meet same_label (names_of (map (spell_move text) i.items)) (names_in text t n)) moved
          ∙ meet_append same_label (both_names (spell_move text e)) (names_of (moves_at text next.at)) (names_in text t n)

      moved_place : (transitions text next.at).behind ≡ (transitions text start).behind
      moved_place = sym (ap (λ (i : Items Arrow). i.behind) moved) ∙ g.place

      pub going_full : r ≡ None → (c : Cursor) → c.at ≡ (transitions text next.at).behind → ArrowsRead text start ls m new (record { behind = c; added = None; filled = f })
      unfolding all_names
      going_full q c b =
          let l = noted_full _ _ _ _ _ _ _ r a q in
          let x = extends_length (meet_extends same_label (names_of (moves_at text next.at)) (meet same_label (both_names (spell_move text e)) (names_in text t n))) in
          record {
            behind = b ∙ moved_place;
            names = full (omega (arith, ap length moved_names));
            gathered = λ k z. let y : ◌≡◌ {A = ℕ} 0 1 = cc in absurd (omega arith);
            fitting = λ k z. let y : ◌≡◌ {A = ℕ} 0 1 = cc in absurd (omega arith);
          }

      module _ (d : Noted) (q : r ≡ Some d) where
        noted : ArrowNoted text (spell_move text e) (names_in text t n) m buf f new d.count d.filled
        noted = noted_at _ _ _ _ _ _ _ r a d q

        next_names_lem : all_names text next.at (names_in text m d.count) ≡ all_names text start ls
        next_names_lem = ap (all_names text next.at) noted.names ∙ sym moved_names

        -- the record is that between the final numbers
        abbrev e' : Transition
        e' = transition_of_move (all_names text start ls) (spell_move text e)

        final : transition_of_move (names_in text m d.count) (spell_move text e) ≡ e'
        unfolding all_names
        final =
            transition_stays (spell_move text e) (names_of (moves_at text next.at)) (names_in text m d.count)
            (subst (λ (T : List (List ℕ)). spelled text e.from ∈ T) (sym noted.names) (meet_in same_label same_decides (both_names (spell_move text e)) (names_in text t n) _ (Memᴰ.head refl)))
            (subst (λ (T : List (List ℕ)). spelled text e.to ∈ T) (sym noted.names) (meet_in same_label same_decides (both_names (spell_move text e)) (names_in text t n) _ (Memᴰ.tail (Memᴰ.head refl))))
            ∙ ap (λ (T : List (List ℕ)). transition_of_move T (spell_move text e)) next_names_lem

        parts : f.end < length buf
            → Rest buf f.sorted f.end ((e' ∷ []) ++ numbered_transitions text next.at (all_names text start ls)) (numbered_transitions text start (all_names text start ls))
        unfolding numbered_transitions
        parts l =
            subst (λ (i : Items Arrow). Rest buf f.sorted f.end (map (transition_of_move (all_names text start ls)) (map (spell_move text) i.items)) (numbered_transitions text start (all_names text start ls))) moved
            (g.left l)

        put : f.end < length buf → Gathered new d.filled.sorted d.filled.end (records_in buf 0 f.end ++ e' ∷ [])
        put l = subst (λ (x : Transition). Gathered new d.filled.sorted d.filled.end (records_in buf 0 f.end ++ x ∷ [])) final (noted.noting.more l)

        low : d.filled.end < length new → f.end < length buf
        low l = ⊎_elim (λ (o : f.end < length buf). o) (λ (o : length buf ≤ f.end). absurd (omega (arith, noted.noting.over o))) (below_or f.end (length buf))

        pub going_next : ReadInvariant text start ls m new next.at d.count d.filled
        going_next =
            record {
              table = noted.table;
              place = moved_place;
              names = next_names_lem;
              held = noted.noting.held;
              left = λ l. let o = low l in rest_next buf f.sorted f.end _ (e' ∷ []) _ (parts o) new d.filled.sorted d.filled.end (put o) l;
              over = λ l.
                  ⊎_elim (λ (o : f.end < length buf). (rest_over buf f.sorted f.end _ (e' ∷ []) _ (parts o) new d.filled.sorted d.filled.end (put o) l).over l)
                  (λ (o : length buf ≤ f.end). let z = g.over o in omega (arith, noted.noting.long)) (below_or f.end (length buf));
            }

        pub going_room : f.end < length buf / 9 * 8 → d.filled.end < length new
        going_room l = note_few buf new f d.filled _ g.held l noted.noting

  pub going_stopped : f.end < length buf → StoppedAt text start ls t buf (record { cursor = record { at = at }; count = n; filled = f })
  going_stopped l = record { going = g; room = l }

pub room_begin : (buf : List ℕ) → Memory buf → 0 < length buf
room_begin buf h = omega (arith, h.some)

pub eighths_fitting : (buf : List ℕ) (f : Filled) → f.end < length buf / 9 * 8 → Fitting buf f
eighths_fitting buf f l = record { short = λ k. omega arith }

pub ruleset going_laws = (going_begin, going_table, going_held, going_ended, going_full, going_next, going_room, going_stopped, room_begin, eighths_fitting, arrows_less, arrow_drawn, rules)

-- whatever was read with t₀ and buf₀ up to the place at₀ is read up to the place at
pub record ReadOnInvariant (text t₀ buf₀ : List ℕ) (at₀ n₀ : ℕ) (f₀ : Filled) (t buf : List ℕ) (at n : ℕ) (f : Filled) : Type 0 where
  pub table : SpeltTable text t n
  pub held : Held buf f.sorted f.end
  pub large : length buf ≡ 11520
  pub all : (start : ℕ) (ls : List (List ℕ)) → ReadInvariant text start ls t₀ buf₀ at₀ n₀ f₀ → ReadInvariant text start ls t buf at n f

pub carry_begin : (text t buf : List ℕ) (at n : ℕ) (f : Filled) → SpeltTable text t n → Held buf f.sorted f.end → length buf ≡ 11520 → ReadOnInvariant text t buf at n f t buf at n f
carry_begin text t buf at n f k h l = record { table = k; held = h; large = l; all = λ start ls g. g }

module _ (text t₀ buf₀ : List ℕ) (at₀ n₀ : ℕ) (f₀ : Filled) (t buf : List ℕ) (at n : ℕ) (f : Filled) (g : ReadOnInvariant text t₀ buf₀ at₀ n₀ f₀ t buf at n f) where
  pub carry_table : SpeltTable text t n
  carry_table = g.table

  pub carry_held : Held buf f.sorted f.end
  carry_held = g.held

  module _ (p : Option (Arrow × Cursor)) (told : arrow_of p ≡ transition text (space text at)) where
    pub carry_ended : p ≡ None → Continuing text t₀ buf₀ at₀ n₀ f₀ t buf (record { behind = record { at = at }; added = Some n; filled = f })
    carry_ended h = record { all = λ start ls i. going_ended text start ls t buf at n f (g.all start ls i) p told h (record { short = λ k. absurd (omega (arith, g.large)) }) }

    module _ (e : Arrow) (next : Cursor) (h : p ≡ Some (e, next)) (m new : List ℕ) (r : Option Noted)
        (a : ArrowNoting text (spell_move text e) (names_in text t n) m buf f new r) where
      pub carry_full : r ≡ None → (c : Cursor) → c.at ≡ (transitions text next.at).behind → Continuing text t₀ buf₀ at₀ n₀ f₀ m new (record { behind = c; added = None; filled = f })
      carry_full q c b = record { all = λ start ls i. going_full text start ls t buf at n f (g.all start ls i) p told e next h m new r a q c b }

      pub carry_next : (d : Noted) → r ≡ Some d → ReadOnInvariant text t₀ buf₀ at₀ n₀ f₀ m new next.at d.count d.filled
      carry_next d q =
          let k = noted_at _ _ _ _ _ _ _ r a d q in
          record {
            table = k.table;
            held = k.noting.held;
            large = k.noting.long ∙ g.large;
            all = λ start ls i. going_next text start ls t buf at n f (g.all start ls i) p told e next h m new r a d q;
          }

pub ruleset carry_laws = (carry_begin, carry_table, carry_held, carry_ended, carry_full, carry_next, arrows_less, arrow_drawn, rules)

-- the records are copied to the front of a larger memory
module _ (small : List ℕ) (f : Filled) (o : Open small f.sorted f.end) (big m : List ℕ) (r : ℕ) (k : Memory big) (q : length small ≤ length big)
    (w : Written big 0 (take (f.end - 0) (drop 0 small)) m r) where
  copied_long : length m ≡ length big
  copied_long = written_length big m _ 0 r w

  copied_words : take (f.end - 0) (drop 0 m) ≡ take (f.end - 0) (drop 0 small)
  copied_words =
      let n : length (take (f.end - 0) (drop 0 small)) ≡ f.end - 0 = length-take-le (f.end - 0) (drop 0 small) (omega (arith, o.packed.inside)) in
      ap (λ (l : List ℕ). take (f.end - 0) l) (w.stored ∙ sets-eq (take (f.end - 0) (drop 0 small)) big 0 (omega (arith, o.packed.inside))) ∙ take_at (take (f.end - 0) (drop 0 small)) _ (f.end - 0) n

  copied : records_in m 0 f.end ≡ records_in small 0 f.end
  unfolding records_in
  copied = ap read_records copied_words

  copied_memory : Memory m
  copied_memory = record { nines = omega (arith, k.nines, copied_long); some = omega (arith, k.some, copied_long); most = omega (arith, k.most, copied_long) }

  copied_open : Open m 0 f.end
  copied_open =
      record {
        packed = record {
          memory = copied_memory;
          order = (rest_none m copied_memory []).room.packed.order;
          front = omega arith;
          inside = omega (arith, o.packed.inside, copied_long);
          whole = o.packed.whole;
        };
        few = omega (arith, o.few, copied_long);
      }

  pub moved_held : Held m 0 f.end
  moved_held = record { memory = copied_memory; room = λ l. copied_open }

  pub moved_going : (text : List ℕ) (start : ℕ) (ls : List (List ℕ)) (t : List ℕ) (at n : ℕ) → ReadInvariant text start ls t small at n f → ReadInvariant text start ls t m at n (record { sorted = 0; end = f.end })
  moved_going text start ls t at n g =
      record {
        table = g.table;
        place = g.place;
        names = g.names;
        held = moved_held;
        left = λ l. record { room = copied_open; left = rw copied (g.left o.few).left };
        over = λ l. absurd (omega (arith, copied_open.few));
      }

-- the reading goes on with the largest memory
module _ (text : List ℕ) (at : ℕ) (ls : List (List ℕ)) (t small : List ℕ) (s : Stop) (a : StoppedAt text at ls t small s) (m : List ℕ) (r : ℕ)
    (w : Written (replicate {A = ℕ} 11520 0) 0 (take (s.filled.end - 0) (drop 0 small)) m r) where
  abbrev big : List ℕ
  big = replicate {A = ℕ} 11520 0

  opened : Open small s.filled.sorted s.filled.end
  opened = a.going.held.room a.room

  smaller : length small ≤ length big
  smaller = omega (arith, opened.packed.memory.most, length-replicate {A = ℕ} 11520 0)

  pub more_table : SpeltTable text t s.count
  more_table = a.going.table

  pub more_held : Held m 0 s.filled.end
  more_held = moved_held small s.filled opened big m r large_memory smaller w

  pub more_long : length m ≡ 11520
  more_long = written_length big m _ 0 r w ∙ length-replicate {A = ℕ} 11520 0

  pub more_read : (u new : List ℕ) (q : Arrows) → Continuing text t m s.cursor.at s.count (record { sorted = 0; end = s.filled.end }) u new q → ArrowsRead text at ls u new q
  more_read u new q c = c.all at ls (moved_going small s.filled opened big m r large_memory smaller w text at ls t s.cursor.at s.count a.going)

-- what the answer of `read_states` says
module _ (text : List ℕ) (at : ℕ) (ls : List (List ℕ)) (t buf : List ℕ) (r : Begun) (a : Beginning text at ls t buf r) where
  pub begun_ended : (x : Arrows) → r ≡ Ended x → ArrowsRead text at ls t buf x
  begun_ended x e = subst (Beginning text at ls t buf) e a

  pub begun_stopped : (s : Stop) → r ≡ Stopped s → StoppedAt text at ls t buf s
  begun_stopped s e = subst (Beginning text at ls t buf) e a

-- the name of the initial state in an empty table
module _ (text b m : List ℕ) (x : TextSpan) (r : Option ℕ) (a : SpeltAddition text (add same_label (spelled text x) (names_in text b 0)) m r) where
  one_name : add same_label (spelled text x) (names_in text b 0) ≡ spelled text x ∷ []
  unfolding add names_in tabulate index
  one_name = refl

  pub start_full : r ≡ None → (at : ℕ) (buf : List ℕ) (q : Begun) → Beginning text at (spelled text x ∷ []) m buf q
  start_full e at buf q = let h = added_full _ _ m r a e in absurd (omega (arith, ap length one_name))

  pub start_kept : (n : ℕ) → r ≡ Some n → (at : ℕ) (o buf : List ℕ) (q : Begun) → Beginning text at (names_in text m n) o buf q → Beginning text at (spelled text x ∷ []) o buf q
  start_kept n e at o buf q h = subst (λ (ls : List (List ℕ)). Beginning text at ls o buf q) (added_names _ _ m r a n e ∙ one_name) h

pub ruleset start_laws = (table_none, start_full, start_kept, added_table, rules)
