-- The ranges of each closure, gathered for themselves and then moved to their state: the laws by which the states are passed.
use Prim.Native.Nat.{ℕ, ◌+◌, ◌-◌, ◌*◌, ◌/◌, ◌≤◌, ◌<◌}
use mathlib.Core.Bool.{Bool, true}
use mathlib.Core.List.Memᴰ
use mathlib.Core.List.{List, [], ◌++◌, map, flat_map}
use mathlib.Core.Logic.{⊎_elim}
use mathlib.Core.Path.{◌≡◌, refl, sym, ◌∙◌, ap, subst}
use native.Mathlib.Omega.{arith}
use borrow.Author.Rules.{rules}
use lib.Dec.{eqb}
use lib.ListN.{length, take, drop, replicate, length-map}
use Rattle.lists.specs.Index.{same}
use Rattle.lists.specs.Lists.{◌∈◌, none}
use Rattle.lists.proofs.Every.{flat_in, flat_out}
use Rattle.lists.proofs.Index.{same_equal}
use Rattle.lists.proofs.Lists.{filter_in, filter_out}
use Rattle.lists.proofs.Members.{map_in, map_out, distinct_map, distinct_length, ascending_distinct}
use Rattle.automata.specs.Automaton.{Transition, Automaton, states, leaving, ranges_of}
use Rattle.automata.specs.Ordered.{in_order}
use Rattle.automata.specs.Records.{read_records, write_records}
use Rattle.automata.proofs.Ordered.{lex_irreflexive, in_order_in, in_order_out, in_order_ascending, in_order_ext}
use Rattle.automata.proofs.Records.{read_write}
use Rattle.automata.proofs.States.{states_at, states_end}
use Rattle.output.specs.inner.Gathering.{Memory, Open, Gathered, Rest, Collected, Settled}
use Rattle.output.specs.inner.Ordered.{records_in}
use Rattle.output.proofs.Collecting.{rest_none, rest_end, rest_next, rest_over, collect_all, same_memory}
use Rattle.sets.specs.Sets.{Set}
use Rattle.sets.specs.inner.BitSet.{set_at}
use Rattle.sets.specs.inner.Members.{Canon}
use Rattle.sets.specs.inner.Words.{put_at}
use Rattle.sets.proofs.BitSet.{fresh_at}
use Rattle.sheets.specs.Sheet.{state_count, read}
use Rattle.words.specs.inner.Gather.{Tables}
use Rattle.words.specs.Simulation.{closure}
use Rattle.epsilon.specs.Eliminate.{leaving_from, moved_to, ranges_from, closure_ranges}
use Rattle.epsilon.proofs.Gathering.{row_inside, row_entry, row_closure, row_canon, tables_closures}

-- the ranges of a set as those of state 0 are, moved to p, those of p
module _ (A : Automaton) (p : ℕ) (S : Set) where
  moved_there : (z : Transition) → z ∈ moved_to p (in_order (ranges_from A 0 S)) → z ∈ ranges_from A p S
  unfolding moved_to ranges_from ranges_of
  moved_there z m =
      let r = map_out (leaving_from p) _ z m in
      let k = filter_out _ r.0 (in_order (ranges_from A 0 S)) r.1 in
      let f = flat_out (λ q. moved_to 0 (leaving A q)) r.0 S (in_order_out r.0 _ k.0) in
      let d = map_out (leaving_from 0) (ranges_of (leaving A f.0)) r.0 f.2 in
      flat_in (λ q. moved_to p (leaving A q)) f.1
      (subst (λ (y : Transition). y ∈ moved_to p (leaving A f.0)) (sym (r.2 ∙ ap (leaving_from p) d.2)) (map_in (leaving_from p) {l = ranges_of (leaving A f.0)} d.1))

  moved_back : (z : Transition) → z ∈ ranges_from A p S → z ∈ moved_to p (in_order (ranges_from A 0 S))
  unfolding moved_to ranges_from ranges_of
  moved_back z m =
      let f = flat_out (λ q. moved_to p (leaving A q)) z S m in
      let d = map_out (leaving_from p) (ranges_of (leaving A f.0)) z f.2 in
      let k = filter_out _ d.0 (leaving A f.0) d.1 in
      subst (λ (y : Transition). y ∈ moved_to p (in_order (ranges_from A 0 S))) (sym d.2)
      (map_in (leaving_from p) (filter_in _ (in_order_in (flat_in (λ q. moved_to 0 (leaving A q)) f.1 (map_in (leaving_from 0) d.1))) k.1))

  -- and as many
  from_zero : (x : Transition) → x ∈ in_order (ranges_from A 0 S) → leaving_from 0 x ≡ x
  unfolding ranges_from moved_to
  from_zero x m =
      let f = flat_out (λ q. moved_to 0 (leaving A q)) x S (in_order_out x _ m) in
      let a = map_out (leaving_from 0) (ranges_of (leaving A f.0)) x f.2 in
      ap (leaving_from 0) a.2 ∙ sym a.2

  range_kind : (x : Transition) → x ∈ in_order (ranges_from A 0 S) → eqb x.kind 1 ≡ true
  unfolding ranges_from moved_to ranges_of
  range_kind x m =
      let f = flat_out (λ q. moved_to 0 (leaving A q)) x S (in_order_out x _ m) in
      let a = map_out (leaving_from 0) (ranges_of (leaving A f.0)) x f.2 in
      ap (λ (e : Transition). eqb e.kind 1) a.2 ∙ (filter_out _ a.0 (leaving A f.0) a.1).1

  all_moved : (z : Transition) → z ∈ map (leaving_from p) (in_order (ranges_from A 0 S)) → z ∈ moved_to p (in_order (ranges_from A 0 S))
  unfolding moved_to ranges_of
  all_moved z m =
      let r = map_out (leaving_from p) (in_order (ranges_from A 0 S)) z m in
      subst (λ (y : Transition). y ∈ moved_to p (in_order (ranges_from A 0 S))) (sym r.2) (map_in (leaving_from p) (filter_in _ r.1 (range_kind r.0 r.1)))

  moved_few : (es : List Transition) → ((z : Transition) → z ∈ ranges_from A p S → z ∈ es) → length (in_order (ranges_from A 0 S)) ≤ length es
  moved_few es h =
      let ds : List Transition = in_order (ranges_from A 0 S) in
      let d = distinct_map (leaving_from p) (λ x y m n e. sym (from_zero x m) ∙ ap (leaving_from 0) e ∙ from_zero y n) (ascending_distinct (λ x b. lex_irreflexive b) (in_order_ascending (ranges_from A 0 S))) in
      let g = distinct_length (map (leaving_from p) ds) es d (λ z m. h z (moved_there z (all_moved z m))) in
      simp length-map at g

-- the same transitions, in another order or another number of times
gathered_as : (m : List ℕ) (sorted end : ℕ) (xs ys : List Transition) → ((z : Transition) → (z ∈ xs → z ∈ ys) × (z ∈ ys → z ∈ xs)) → Gathered m sorted end xs → Gathered m sorted end ys
gathered_as m sorted end xs ys f g =
    let e : in_order xs ≡ in_order ys = in_order_ext xs ys f in
    record { held = g.held; same = λ h. g.same h ∙ e; over = λ h. subst (λ (l : List Transition). length m / 9 * 8 / 5 < length l) e (g.over h) }

-- the part of a closure: that of the closure before it, or gathered anew
module _ (s starts c : List ℕ) (t : Tables s starts c) (p : ℕ) (l : p < state_count s) where
  pub part_inside : 4 * p + 4 ≤ length c
  part_inside = row_inside s c (tables_closures s starts c t) p l

  module _ (v : List ℕ) (b : Bool) (e : b ≡ same (set_at v 0) (set_at c (4 * p))) (h : b ≡ true) where
    pub part_set : set_at v 0 ≡ closure (read s) p
    part_set = same_equal (set_at v 0) (set_at c (4 * p)) (sym e ∙ h) ∙ row_entry s c (tables_closures s starts c t) p l

    pub part_kept : (m : List ℕ) (end : ℕ) → Collected m end (ranges_from (read s) 0 (set_at v 0)) → Collected m end (ranges_from (read s) 0 (closure (read s) p))
    part_kept m end g = subst (λ (S : Set). Collected m end (ranges_from (read s) 0 S)) part_set g

  module _ (old v : List ℕ) (e : v ≡ put_at old 0 c (4 * p)) (o : 4 ≤ length old) where
    pub part_canon : Canon (state_count s) (set_at v 0)
    part_canon = row_canon s c (tables_closures s starts c t) p l old v e o

    pub part_row : set_at v 0 ≡ closure (read s) p
    part_row = row_closure s c (tables_closures s starts c t) p l old v e o

    pub part_new : (m : List ℕ) (sorted end : ℕ) → Gathered m sorted end (ranges_from (read s) 0 (set_at v 0)) → (n : List ℕ) (r : ℕ)
        → Settled m sorted end n r → Collected n r (ranges_from (read s) 0 (closure (read s) p))
    part_new m sorted end g n r k = subst (λ (S : Set). Collected n r (ranges_from (read s) 0 S)) part_row (collect_all m sorted end _ g n r k)

-- all states, one after the other
module _ (s : List ℕ) where
  pub all_begins : (buf : List ℕ) → Memory buf → Rest buf 0 0 (flat_map (closure_ranges (read s)) (drop 0 (states (state_count s)))) (flat_map (closure_ranges (read s)) (states (state_count s)))
  all_begins buf h = rest_none buf h _

  pub part_begins : (buf part : List ℕ) → Memory buf → length part ≡ length buf → Collected part 0 (ranges_from (read s) 0 (set_at (replicate 4 0) 0))
  unfolding ranges_from flat_map in_order write_records
  part_begins buf part h e =
      let z : set_at (replicate 4 0) 0 ≡ [] = fresh_at 4 0 in
      let m : Memory part = same_memory buf part e h in
      subst (λ (S : Set). Collected part 0 (ranges_from (read s) 0 S)) (sym z)
      (record { memory = m; listed = λ i. record { ascends = none; behind = refl; inside = omega arith; words = refl }; over = λ i. absurd (omega arith) })

  pub part_again : (v part : List ℕ) (k p : ℕ) → set_at v 0 ≡ closure (read s) p → Collected part k (ranges_from (read s) 0 (closure (read s) p)) → Collected part k (ranges_from (read s) 0 (set_at v 0))
  part_again v part k p e g = subst (λ (S : Set). Collected part k (ranges_from (read s) 0 S)) (sym e) g

  module _ (buf : List ℕ) (sorted end p : ℕ) (es : List Transition) (l : Rest buf sorted end (flat_map (closure_ranges (read s)) (drop p (states (state_count s)))) es) where
    pub all_room : Open buf sorted end
    all_room = l.room

    pub all_ended : state_count s ≤ p → Gathered buf sorted end es
    unfolding flat_map
    all_ended h = rest_end buf sorted end es (subst (λ (x : List ℕ). Rest buf sorted end (flat_map (closure_ranges (read s)) x) es) (states_end (state_count s) p h) l)

    module _ (h : p < state_count s) (part : List ℕ) (k : ℕ) (g : Collected part k (ranges_from (read s) 0 (closure (read s) p))) where
      all_split : Rest buf sorted end (closure_ranges (read s) p ++ flat_map (closure_ranges (read s)) (drop (p + 1) (states (state_count s)))) es
      unfolding flat_map
      all_split = subst (λ (x : List ℕ). Rest buf sorted end (flat_map (closure_ranges (read s)) x) es) (states_at (state_count s) p h) l

      pub part_over : length part / 9 * 8 < k → length part ≡ length buf → Gathered buf 0 (length buf) es
      unfolding closure_ranges
      part_over o e =
          let a : length (in_order (ranges_from (read s) 0 (closure (read s) p))) ≤ length (in_order es) =
          moved_few (read s) p (closure (read s) p) (in_order es)
          (λ z m. subst (λ (x : List Transition). z ∈ x) all_split.left (in_order_in (Memᴰ.append_right (records_in buf 0 end) (Memᴰ.append_left _ m)))) in
          let b = g.over o in
          let c : length buf / 9 * 8 / 5 < length (in_order es) = subst (λ (n : ℕ). n / 9 * 8 / 5 < length (in_order es)) e (omega arith) in
          record { held = record { memory = l.room.packed.memory; room = λ i. absurd (omega arith) }; same = λ i. absurd (omega arith); over = λ i. c }

      module _ (j : k ≤ length part / 9 * 8) (m : List ℕ) (ahead next : ℕ) (q : Gathered m ahead next (records_in buf 0 end ++ moved_to p (read_records (take (k - 0) (drop 0 part))))) where
        added : Gathered m ahead next (records_in buf 0 end ++ closure_ranges (read s) p)
        unfolding closure_ranges
        added =
            let w : read_records (take (k - 0) (drop 0 part)) ≡ in_order (ranges_from (read s) 0 (closure (read s) p)) = ap read_records (g.listed j).words ∙ read_write _ in
            gathered_as m ahead next _ _
            (λ z. (
              λ n. ⊎_elim (λ i. Memᴰ.append_left _ i) (λ i. Memᴰ.append_right (records_in buf 0 end) (moved_there (read s) p (closure (read s) p) z i)) (Memᴰ.append_cases (records_in buf 0 end) n),
              λ n. ⊎_elim (λ i. Memᴰ.append_left _ i) (λ i. Memᴰ.append_right (records_in buf 0 end) (moved_back (read s) p (closure (read s) p) z i)) (Memᴰ.append_cases (records_in buf 0 end) n),
            ))
            (subst (λ (x : List Transition). Gathered m ahead next (records_in buf 0 end ++ moved_to p x)) w q)

        pub all_over : length m ≤ next → Gathered m ahead next es
        all_over = rest_over buf sorted end es _ _ all_split m ahead next added

        pub all_next : next < length m → Rest m ahead next (flat_map (closure_ranges (read s)) (drop (p + 1) (states (state_count s)))) es
        all_next = rest_next buf sorted end es _ _ all_split m ahead next added

pub ruleset all_laws = (all_begins, part_begins, all_room, all_ended, rules)
