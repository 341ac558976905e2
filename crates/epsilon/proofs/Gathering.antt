-- Gathering transitions: the laws by which the loops are proved.
use Prim.Native.Nat.{ℕ, ◌+◌, ◌*◌, ◌/◌, ◌≤◌, ◌<◌}
use mathlib.Core.Bool.{Bool, true, false, cond}
use mathlib.Core.List.{List, [], ◌∷◌, ◌++◌, map, flat_map}
use mathlib.Core.Path.{◌≡◌, refl, sym, ◌∙◌, ap, subst}
use native.Mathlib.Omega.{arith}
use borrow.Author.Rules.{rules}
use borrow.Author.Tests.{eq-eqb, ne_eqb}
use lib.Dec.{eqb}
use lib.ListN.{length, get_or, drop}
use Rattle.std.specs.Simd.{first_chunks}
use Rattle.lists.specs.Lists.{filter}
use Rattle.automata.specs.Automaton.{Transition, leaving, ranges_of}
use Rattle.automata.specs.Records.{read_records, write_records}
use Rattle.automata.specs.inner.Records.{record_at}
use Rattle.automata.specs.inner.Chunks.{records_of}
use Rattle.automata.proofs.Chunks.{records_are, records_next, records_done}
use Rattle.automata.proofs.Records.{read_write}
use Rattle.output.specs.inner.Gathering.{Memory, Open, Gathered, Rest}
use Rattle.output.specs.inner.Ordered.{records_in}
use Rattle.output.proofs.Collecting.{gathered_same, rest_none, rest_begin, rest_end, rest_next, rest_over}
use Rattle.sets.specs.Sets.{Set}
use Rattle.sets.specs.inner.Members.{Canon, members_from, next_member}
use Rattle.sets.specs.inner.BitSet.{set_at}
use Rattle.sets.specs.inner.Words.{put_at}
use Rattle.sets.proofs.BitSet.{at_canon, entry_at}
use Rattle.sets.proofs.Members.{visit_start, visit_has, visit_next, from_end}
use Rattle.sets.proofs.Sets.{has_below}
use Rattle.sets.proofs.Stores.{put_same}
use Rattle.sheets.specs.inner.Accepted.{Accepted}
use Rattle.sheets.specs.inner.Runs.{RunAt, Indexed}
use Rattle.sheets.specs.Sheet.{state_count, read}
use Rattle.sheets.proofs.Meaning.{read_well}
use Rattle.sheets.proofs.Runs.{run_at}
use Rattle.words.specs.inner.Gather.{Tables}
use Rattle.words.specs.Simulation.{closure}
use Rattle.words.proofs.Closures.{closure_canon}
use Rattle.words.proofs.Visiting.{member_here, member_later}
use Rattle.epsilon.specs.Eliminate.{leaving_from, moved_to, ranges_from}
use Rattle.epsilon.specs.inner.Tables.{ClosuresOf}

-- one record
module _ (buf : List ℕ) (sorted end p : ℕ) (r : Open buf sorted end) (e : Transition) where
  moved_one : e.kind ≡ 1 → moved_to p (e ∷ []) ≡ leaving_from p e ∷ []
  unfolding moved_to ranges_of filter
  moved_one h = rw (eq-eqb e.kind 1 h)

  moved_none : (e.kind ≡ 1 → ⊥) → moved_to p (e ∷ []) ≡ []
  unfolding moved_to ranges_of filter
  moved_none h = rw (ne_eqb e.kind 1 h)

  pub range_other : (e.kind ≡ 1 → ⊥) → Gathered buf sorted end (records_in buf 0 end ++ moved_to p (e ∷ []))
  range_other h = rw (moved_none h) (gathered_same buf sorted end r)

  pub range_put : e.kind ≡ 1 → (m : List ℕ) (ahead next : ℕ) → Gathered m ahead next (records_in buf 0 end ++ leaving_from p e ∷ []) → Gathered m ahead next (records_in buf 0 end ++ moved_to p (e ∷ []))
  range_put h m ahead next g = rw (moved_one h) g

pub ruleset range_laws = (range_other, range_put, rules)

-- a run, record by record
moved_cons : (p : ℕ) (e : Transition) (es : List Transition) → moved_to p (e ∷ es) ≡ moved_to p (e ∷ []) ++ moved_to p es
unfolding moved_to ranges_of filter
moved_cons p e es = go (eqb e.kind 1)
  where
    go : (b : Bool)
        → map (leaving_from p) (cond b (e ∷ filter (λ d. eqb d.kind 1) es) (filter (λ d. eqb d.kind 1) es)) ≡ map (leaving_from p) (cond b (e ∷ []) []) ++ map (leaving_from p) (filter (λ d. eqb d.kind 1) es)
    go true = refl
    go false = refl

pub run_begins : (buf run : List ℕ) (rs : List (List ℕ)) (sorted end p : ℕ) → rs ≡ first_chunks 5 (length run / 5) run → Open buf sorted end
    → Rest buf sorted end (moved_to p (records_of rs)) (records_in buf 0 end ++ moved_to p (read_records run))
run_begins buf run rs sorted end p e r = rw (records_are run rs e) (rest_begin buf sorted end _ r)

module _ (buf : List ℕ) (rs : List (List ℕ)) (sorted end p i : ℕ) (es : List Transition) (l : Rest buf sorted end (moved_to p (records_of (drop i rs))) es) where
  pub run_ended : length rs ≤ i → Gathered buf sorted end es
  unfolding moved_to ranges_of filter
  run_ended h = rest_end buf sorted end es (subst (λ (x : List Transition). Rest buf sorted end x es) (ap (moved_to p) (records_done rs i h)) l)

  pub run_room : Open buf sorted end
  run_room = l.room

  module _ (h : i < length rs) (m : List ℕ) (ahead next : ℕ) (s : Gathered m ahead next (records_in buf 0 end ++ moved_to p (record_at (get_or rs i []) 0 ∷ []))) where
    split : Rest buf sorted end (moved_to p (record_at (get_or rs i []) 0 ∷ []) ++ moved_to p (records_of (drop (i + 1) rs))) es
    split = subst (λ (x : List Transition). Rest buf sorted end x es) (ap (moved_to p) (records_next rs i h) ∙ moved_cons p (record_at (get_or rs i []) 0) _) l

    pub run_next : next < length m → Rest m ahead next (moved_to p (records_of (drop (i + 1) rs))) es
    run_next = rest_next buf sorted end es _ _ split m ahead next s

    pub run_over : length m ≤ next → Gathered m ahead next es
    run_over = rest_over buf sorted end es _ _ split m ahead next s

pub ruleset run_laws = (run_begins, run_room, run_ended, run_next, run_over, rules)

-- a closure; v is the row of p in the table of closures
module _ (s c : List ℕ) (t : ClosuresOf s c) (p : ℕ) (l : p < state_count s) where
  pub row_inside : 4 * p + 4 ≤ length c
  row_inside = omega (arith, t.long)

  pub row_entry : set_at c (4 * p) ≡ closure (read s) p
  unfolding closure
  row_entry = sym (entry_at c (state_count s) p l) ∙ ap (λ R. get_or R p []) t.closed

  module _ (old v : List ℕ) (e : v ≡ put_at old 0 c (4 * p)) (o : 4 ≤ length old) where
    pub row_closure : set_at v 0 ≡ closure (read s) p
    row_closure = ap (λ x. set_at x 0) e ∙ put_same old 0 c (4 * p) o ∙ row_entry

    pub row_canon : Canon (state_count s) (set_at v 0)
    row_canon = subst (Canon (state_count s)) (sym row_closure) (closure_canon (read s) (read_well s t.accepted).states p l)

pub tables_closures : (s starts c : List ℕ) → Tables s starts c → ClosuresOf s c
tables_closures s starts c t = record { accepted = t.accepted; long = t.long; closed = t.closed }

-- a set, member by member
pub set_run : (s starts v : List ℕ) → Accepted s → Indexed s starts → Canon (state_count s) (set_at v 0) → (q : ℕ) → q ≡ next_member (set_at v 0) q → q < 256 → RunAt s starts q
set_run s starts v a x n q h b = run_at s a starts q x (has_below (state_count s) (set_at v 0) n q (visit_has (set_at v 0) (at_canon v 0) q h b))

pub set_begins : (s v : List ℕ) (p : ℕ) (buf : List ℕ) → Memory buf → (q : ℕ) → q ≡ next_member (set_at v 0) 0
    → Rest buf 0 0 (ranges_from (read s) p (members_from q (set_at v 0))) (ranges_from (read s) p (set_at v 0))
set_begins s v p buf h q e =
    subst (λ (S : Set). Rest buf 0 0 (ranges_from (read s) p S) (ranges_from (read s) p (set_at v 0))) (sym (visit_start (set_at v 0) (at_canon v 0) q e)) (rest_none buf h (ranges_from (read s) p (set_at v 0)))

module _ (s v : List ℕ) (p : ℕ) (buf : List ℕ) (sorted end q : ℕ) (es : List Transition) (l : Rest buf sorted end (ranges_from (read s) p (members_from q (set_at v 0))) es) where
  pub set_ended : 256 ≤ q → Gathered buf sorted end es
  unfolding ranges_from flat_map
  set_ended h = rest_end buf sorted end es (subst (λ (S : Set). Rest buf sorted end (ranges_from (read s) p S) es) (from_end (set_at v 0) (at_canon v 0) q h) l)

  pub set_room : Open buf sorted end
  set_room = l.room

  module _ (h : q ≡ next_member (set_at v 0) q) (b : q < 256) (run : List ℕ) (e : run ≡ write_records (leaving (read s) q)) (m : List ℕ) (ahead next : ℕ)
      (k : Gathered m ahead next (records_in buf 0 end ++ moved_to p (read_records run))) where
    run_split : (x : ℕ) → x ≡ next_member (set_at v 0) (q + 1) → Rest buf sorted end (moved_to p (leaving (read s) q) ++ ranges_from (read s) p (members_from x (set_at v 0))) es
    unfolding ranges_from flat_map
    run_split x i = subst (λ (S : Set). Rest buf sorted end (ranges_from (read s) p S) es) (visit_next (set_at v 0) (at_canon v 0) q x h b i) l

    run_added : Gathered m ahead next (records_in buf 0 end ++ moved_to p (leaving (read s) q))
    run_added = subst (λ (x : List Transition). Gathered m ahead next (records_in buf 0 end ++ moved_to p x)) (ap read_records e ∙ read_write (leaving (read s) q)) k

    pub set_over : length m ≤ next → Gathered m ahead next es
    set_over = rest_over buf sorted end es _ _ (run_split _ refl) m ahead next run_added

    pub set_next : (x : ℕ) → x ≡ next_member (set_at v 0) (q + 1) → next < length m → Rest m ahead next (ranges_from (read s) p (members_from x (set_at v 0))) es
    set_next x i = rest_next buf sorted end es _ _ (run_split x i) m ahead next run_added

pub ruleset set_laws = (set_run, set_begins, set_ended, set_room, set_over, set_next, member_here, member_later, rules)
