-- Gathering the transitions of the pairs: the laws by which these loops are proved.
use Rattle.std.proofs.Common.{ℕ, suc, ◌+◌, ◌-◌, ◌/◌, ◌%◌, ◌≤◌, ◌<◌, None, Some, List, [], ◌∷◌, ◌++◌, map, ◌≡◌, sym, ◌∙◌, ap, ap₂, subst, add-one, arith, rules, get_or, length, take, drop, drop_of_length-le, drop-cons}
use mathlib.Core.List.{map-append}
use Rattle.lists.proofs.Parts.{part_all}
use Rattle.automata.specs.Automaton.{Transition, Automaton, leaving}
use Rattle.automata.specs.Records.{read_records, write_records}
use Rattle.automata.specs.inner.Chunks.{records_of}
use Rattle.automata.specs.inner.Records.{record_at}
use Rattle.automata.proofs.Chunks.{records_next, records_done}
use Rattle.automata.proofs.Records.{read_write}
use Rattle.output.specs.inner.Gathering.{Memory, Open, Gathered, Rest}
use Rattle.output.specs.inner.Ordered.{records_in}
use Rattle.output.proofs.Collecting.{gathered_same, rest_none, rest_end, rest_next, rest_over}
use Rattle.ranges.specs.Span.{intersect_ranges}
use Rattle.sheets.specs.Sheet.{read}
use Rattle.automata.specs.Pairs.{Pair}
use Rattle.product.specs.Product.{joint_of, joints_of, joints_from, transition_of_joint, transitions_from, place_in}
use Rattle.product.specs.inner.Tables.{pair_of, table_of, Queued, RunTo, not_ended, links}
use Rattle.product.proofs.Joints.{joints_none_left, joints_none_right, joints_left, joints_right, joints_other_left, joints_other_right, joints_two}
use Rattle.sheets.proofs.Named.{ready_run}
use Rattle.product.proofs.Records.{run_to, run_rest, joints_left_behind, joints_left_passed, ready_left, ready_right}
use Rattle.product.proofs.Queueing.{length_table, entry_at, queued_room}

-- two records d and e
module _ (buf : List ℕ) (sorted end : ℕ) (k : Open buf sorted end) (T : List Pair) (i : ℕ) (d e : List ℕ) where
  none_added : joints_of (record_at d 0 ∷ []) (record_at e 0 ∷ []) ≡ [] → Gathered buf sorted end (records_in buf 0 end ++ links T i (record_at d 0 ∷ []) (record_at e 0 ∷ []))
  unfolding links
  none_added h = rw h (gathered_same buf sorted end k)

  pub joint_other_left : (get_or d 1 0 ≡ 1 → ⊥) → Gathered buf sorted end (records_in buf 0 end ++ links T i (record_at d 0 ∷ []) (record_at e 0 ∷ []))
  joint_other_left h = none_added (joints_other_left (record_at d 0) (record_at e 0 ∷ []) h)

  pub joint_other_right : (get_or e 1 0 ≡ 1 → ⊥) → Gathered buf sorted end (records_in buf 0 end ++ links T i (record_at d 0 ∷ []) (record_at e 0 ∷ []))
  joint_other_right h = none_added (joints_other_right (record_at d 0) (record_at e 0) h)

  module _ (hd : get_or d 1 0 ≡ 1) (he : get_or e 1 0 ≡ 1) where
    pub joint_apart : None ≡ intersect_ranges (record { first = get_or d 2 0; last = get_or d 3 0 }) (record { first = get_or e 2 0; last = get_or e 3 0 })
        → Gathered buf sorted end (records_in buf 0 end ++ links T i (record_at d 0 ∷ []) (record_at e 0 ∷ []))
    unfolding joint_of
    joint_apart h =
        none_added (joints_two (record_at d 0) (record_at e 0) hd he ∙ ap (λ o. joint_of o (record { left = get_or d 4 0; right = get_or e 4 0 })) (sym h))

    pub joint_put : (a b : ℕ) → Some (record { first = a; last = b }) ≡ intersect_ranges (record { first = get_or d 2 0; last = get_or d 3 0 }) (record { first = get_or e 2 0; last = get_or e 3 0 })
        → (to : ℕ) → to ≡ place_in T (record { left = get_or d 4 0; right = get_or e 4 0 }) → (m : List ℕ) (ahead next : ℕ)
        → Gathered m ahead next (records_in buf 0 end ++ record { from = i; kind = 1; first = a; last = b; to = to } ∷ []) → Gathered m ahead next (records_in buf 0 end ++ links T i (record_at d 0 ∷ []) (record_at e 0 ∷ []))
    unfolding links joint_of transition_of_joint
    joint_put a b h to q m ahead next g =
        let j : joints_of (record_at d 0 ∷ []) (record_at e 0 ∷ []) ≡ record { span = record { first = a; last = b }; to = record { left = get_or d 4 0; right = get_or e 4 0 } } ∷ [] =
        joints_two (record_at d 0) (record_at e 0) hd he ∙ ap (λ o. joint_of o (record { left = get_or d 4 0; right = get_or e 4 0 })) (sym h) in
        rw (j, ← q) g

pub ruleset joint_laws = (joint_other_left, joint_other_right, joint_apart, joint_put, rules)

module _ (T : List Pair) (i : ℕ) where
  links_none : (ds es : List Transition) → joints_of ds es ≡ [] → links T i ds es ≡ []
  unfolding links
  links_none ds es h = rw h

  links_none_left : (es : List Transition) → links T i [] es ≡ []
  links_none_left es = links_none [] es (joints_none_left es)

  links_none_right : (ds : List Transition) → links T i ds [] ≡ []
  links_none_right ds = links_none ds [] (joints_none_right ds)

  links_left : (d : Transition) (ds es : List Transition) → links T i (d ∷ ds) es ≡ links T i (d ∷ []) es ++ links T i ds es
  unfolding links
  links_left d ds es = ap (map (transition_of_joint (place_in T) i)) (joints_left d ds es) ∙ map-append (transition_of_joint (place_in T) i) (joints_of (d ∷ []) es) (joints_of ds es)

  links_right : (d e : Transition) (es : List Transition) → links T i (d ∷ []) (e ∷ es) ≡ links T i (d ∷ []) (e ∷ []) ++ links T i (d ∷ []) es
  unfolding links
  links_right d e es = ap (map (transition_of_joint (place_in T) i)) (joints_right d e es) ∙ map-append (transition_of_joint (place_in T) i) (joints_of (d ∷ []) (e ∷ [])) (joints_of (d ∷ []) es)

-- a record with those of a run, which are left from an index on
module _ (buf : List ℕ) (sorted end : ℕ) (T : List Pair) (i : ℕ) (d : List ℕ) (rs : List (List ℕ)) (j : ℕ) (es : List Transition)
    (l : Rest buf sorted end (links T i (record_at d 0 ∷ []) (records_of (drop j rs))) es) where
  none_left : links T i (record_at d 0 ∷ []) (records_of (drop j rs)) ≡ [] → Gathered buf sorted end es
  none_left h = rest_end buf sorted end es (subst (λ (x : List Transition). Rest buf sorted end x es) h l)

  pub run_ended : length rs ≤ j → Gathered buf sorted end es
  run_ended h = none_left (ap (links T i (record_at d 0 ∷ [])) (records_done rs j h) ∙ links_none_right T i (record_at d 0 ∷ []))

  module _ (h : j < length rs) where
    pub run_behind : RunTo 256 (records_of (drop j rs)) → get_or d 3 0 < get_or (get_or rs j []) 2 0 → Gathered buf sorted end es
    run_behind r p = none_left (links_none T i (record_at d 0 ∷ []) (records_of (drop j rs)) (joints_left_behind 256 d rs j r h p))

    module _ (m : List ℕ) (ahead next : ℕ) (s : Gathered m ahead next (records_in buf 0 end ++ links T i (record_at d 0 ∷ []) (record_at (get_or rs j []) 0 ∷ []))) where
      run_parts : Rest buf sorted end (links T i (record_at d 0 ∷ []) (record_at (get_or rs j []) 0 ∷ []) ++ links T i (record_at d 0 ∷ []) (records_of (drop (j + 1) rs))) es
      run_parts =
          subst (λ (x : List Transition). Rest buf sorted end x es)
          (ap (links T i (record_at d 0 ∷ [])) (records_next rs j h) ∙ links_right T i (record_at d 0) (record_at (get_or rs j []) 0) (records_of (drop (j + 1) rs))) l

      pub run_over : length m ≤ next → Gathered m ahead next es
      run_over o = rest_over buf sorted end es _ _ run_parts m ahead next s o

      pub run_next : next < length m → Rest m ahead next (links T i (record_at d 0 ∷ []) (records_of (drop (j + 1) rs))) es
      run_next o = rest_next buf sorted end es _ _ run_parts m ahead next s o

pub ruleset run_laws = (run_ended, run_behind, run_to, run_rest, rules)

-- the records of two runs, of which those of the first are left from an index on, and of the second those that the first may still meet
module _ (buf : List ℕ) (sorted end : ℕ) (T : List Pair) (i : ℕ) (second : List ℕ) (from : ℕ) (rs : List (List ℕ)) (j : ℕ) (es : List Transition)
    (l : Rest buf sorted end (links T i (records_of (drop j rs)) (read_records (drop from second))) es) where
  pub runs_ended : length rs ≤ j → Gathered buf sorted end es
  runs_ended h =
      rest_end buf sorted end es
      (subst (λ (x : List Transition). Rest buf sorted end x es) (ap (λ x. links T i x (read_records (drop from second))) (records_done rs j h) ∙ links_none_left T i (read_records (drop from second))) l)

  module _ (q : ℕ) (r : RunTo q (records_of (drop j rs))) (h : j < length rs) (past : ℕ)
      (p : read_records (drop past second) ≡ not_ended (get_or (get_or rs j []) 2 0) (read_records (drop from second))) where
    passed : links T i (records_of (drop j rs)) (read_records (drop from second)) ≡ links T i (records_of (drop j rs)) (read_records (drop past second))
    unfolding links
    passed = ap (map (transition_of_joint (place_in T) i)) (joints_left_passed q rs j r h (read_records (drop from second)) ∙ ap (joints_of (records_of (drop j rs))) (sym p))

    -- all records of the second run ended before
    pub runs_spent : length second ≤ past → Gathered buf sorted end es
    unfolding read_records
    runs_spent s =
        rest_end buf sorted end es
        (subst (λ (x : List Transition). Rest buf sorted end x es)
        (passed ∙ ap (λ x. links T i (records_of (drop j rs)) (read_records x)) (drop_of_length-le second s) ∙ links_none_right T i (records_of (drop j rs))) l)

    module _ (m : List ℕ) (ahead next : ℕ)
        (s : Gathered m ahead next (records_in buf 0 end ++ links T i (record_at (get_or rs j []) 0 ∷ []) (read_records (take (length second - past) (drop past second))))) where
      runs_parts : Rest buf sorted end
          (links T i (record_at (get_or rs j []) 0 ∷ []) (read_records (take (length second - past) (drop past second))) ++ links T i (records_of (drop (j + 1) rs)) (read_records (drop past second))) es
      runs_parts =
          subst (λ (x : List Transition). Rest buf sorted end x es)
          (passed ∙ ap (λ x. links T i x (read_records (drop past second))) (records_next rs j h)
          ∙ links_left T i (record_at (get_or rs j []) 0) (records_of (drop (j + 1) rs)) (read_records (drop past second))
          ∙ ap (λ x. links T i (record_at (get_or rs j []) 0 ∷ []) (read_records x) ++ links T i (records_of (drop (j + 1) rs)) (read_records (drop past second))) (sym (part_all past second))) l

      pub runs_over : length m ≤ next → Gathered m ahead next es
      runs_over o = rest_over buf sorted end es _ _ runs_parts m ahead next s o

      pub runs_next : next < length m → Rest m ahead next (links T i (records_of (drop (j + 1) rs)) (read_records (drop past second))) es
      runs_next o = rest_next buf sorted end es _ _ runs_parts m ahead next s o

pub ruleset runs_laws = (runs_ended, run_to, run_rest, rules)

-- the transitions of a pair
pub pair_links : (a b : List ℕ) (c : ℕ) (first second : List ℕ) → first ≡ write_records (leaving (read a) (c / 256)) → second ≡ write_records (leaving (read b) (c % 256))
    → (T : List Pair) (i : ℕ) (old : List Transition) (buf : List ℕ) (sorted end : ℕ) → Gathered buf sorted end (old ++ links T i (read_records first) (read_records second))
    → Gathered buf sorted end (old ++ map (transition_of_joint (place_in T) i) (joints_from (read a) (read b) (pair_of c)))
unfolding links joints_from
pair_links a b c first second e f T i old buf sorted end s =
    subst (λ (x : List Transition). Gathered buf sorted end (old ++ x))
    (ap₂ (λ x y. links T i x y) (ap read_records e ∙ read_write (leaving (read a) (c / 256))) (ap read_records f ∙ read_write (leaving (read b) (c % 256)))) s

pub ruleset pair_laws = (ready_run, ready_left, ready_right, pair_links, rules)

-- the transitions of the pairs from i on are left
pub pairs_begin : (A B : Automaton) (buf : List ℕ) (T : List Pair) → Memory buf → Rest buf 0 0 (transitions_from (place_in T) A B 0 (drop 0 T)) (transitions_from (place_in T) A B 0 T)
pairs_begin A B buf T h = rest_none buf h _

module _ (A B : Automaton) (buf : List ℕ) (sorted end : ℕ) (words t : List ℕ) (n i : ℕ) (es : List Transition)
    (l : Rest buf sorted end (transitions_from (place_in (table_of words n)) A B i (drop i (table_of words n))) es) (k : Queued words t n) where
  count : length (table_of words n) ≡ n
  count = length_table words n (queued_room words t n k)

  pub pairs_ended : n ≤ i → Gathered buf sorted end es
  unfolding transitions_from
  pairs_ended h =
      rest_end buf sorted end es
      (subst (λ (x : List Transition). Rest buf sorted end x es) (ap (transitions_from (place_in (table_of words n)) A B i) (drop_of_length-le (table_of words n) {i = i} (omega (arith, count)))) l)

  module _ (h : i < n) (m : List ℕ) (ahead next : ℕ)
      (s : Gathered m ahead next (records_in buf 0 end ++ map (transition_of_joint (place_in (table_of words n)) i) (joints_from A B (pair_of (get_or words i 0))))) where
    pairs_parts : Rest buf sorted end (map (transition_of_joint (place_in (table_of words n)) i) (joints_from A B (pair_of (get_or words i 0))) ++ transitions_from (place_in (table_of words n)) A B (suc i) (drop (suc i) (table_of words n))) es
    unfolding transitions_from
    pairs_parts =
        let d : Pair = pair_of (get_or words i 0) in
        subst (λ (x : List Transition). Rest buf sorted end x es)
        (ap (transitions_from (place_in (table_of words n)) A B i) (drop-cons (table_of words n) i d (omega (arith, count)))
        ∙ ap (λ p. map (transition_of_joint (place_in (table_of words n)) i) (joints_from A B p) ++ transitions_from (place_in (table_of words n)) A B (suc i) (drop (suc i) (table_of words n)))
        (entry_at words n i d (queued_room words t n k) h)) l

    pub pairs_over : length m ≤ next → Gathered m ahead next es
    pairs_over o = rest_over buf sorted end es _ _ pairs_parts m ahead next s o

    pub pairs_next : next < length m → Rest m ahead next (transitions_from (place_in (table_of words n)) A B (i + 1) (drop (i + 1) (table_of words n))) es
    pairs_next o = rw (add-one i) (rest_next buf sorted end es _ _ pairs_parts m ahead next s o)

pub ruleset pairs_laws = (pairs_begin, pairs_ended, rules)
