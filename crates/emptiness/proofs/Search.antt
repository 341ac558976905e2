-- The search: the laws by which it is proved that it finds a reachable state that accepts, if there is one.
use Prim.Native.Nat.{ℕ, suc, ◌+◌, ◌-◌, ◌*◌, ◌≤◌, ◌<◌}
use mathlib.Core.Bool.{true, false}
use mathlib.Core.List.Memᴰ
use mathlib.Core.List.{List, [], ◌∷◌}
use mathlib.Core.Logic.{◌⊎◌, inl, inr, ⊎_elim}
use mathlib.Core.Path.{◌≡◌, refl, sym, ◌∙◌, ap, subst}
use native.Mathlib.Nat.{eq-or-lt_of_le}
use native.Mathlib.Omega.{arith}
use borrow.Author.Rules.{rules}
use borrow.Author.Tests.{eq-eqb, eqb-true, leb-true, leb-false}
use lib.Dec.{eqb, leb}
use lib.ListN.{length, get_or, take, drop, set, length-set, length-take}
use lib.Seq.{get_or-take, take-add, drop_at, length-take-le}
use Rattle.lists.specs.Lists.{◌∈◌}
use Rattle.lists.proofs.Lists.{filter_in, filter_out, length_filter}
use Rattle.lists.proofs.Tests.{test}
use Rattle.automata.specs.Automaton.{Transition, Automaton, InBounds, leaving}
use Rattle.automata.specs.Records.{read_records, write_records}
use Rattle.automata.specs.inner.Records.{record_at}
use Rattle.automata.proofs.Records.{read_write, records_at_lem}
use Rattle.sheets.specs.inner.Accepted.{Accepted}
use Rattle.sheets.specs.inner.Runs.{Named, RunAt}
use Rattle.sheets.specs.Sheet.{state_count, read}
use Rattle.sheets.proofs.Meaning.{read_well}
use Rattle.sheets.proofs.Named.{run_named, named_target, named_next}
use Rattle.sheets.proofs.Runs.{run_at}
use Rattle.emptiness.specs.inner.Marks.{Marked, Unmarked, unmet, StackRoom, Pushed, Done, Searched, UnmarkedSearch}
use Rattle.emptiness.specs.Reachable.{Path, stay, follow, has_reachable_accepting}
use Rattle.emptiness.proofs.Marks.{mark_here, mark_out, mark_old, unmet_less}
use Rattle.emptiness.proofs.Targets.{target_is, target_none}
use Rattle.emptiness.proofs.Theorems.{accepting_paths}

-- one more transition behind a path, and where paths lead
pub path_more : {A : Automaton} {p q : ℕ} → Path A p q → (e : Transition) → e ∈ A.transitions → e.from ≡ q → Path A p e.to
path_more stay e m f = follow e m f stay
path_more (follow d n g r) e m f = follow d n g (path_more r e m f)

path_bound : {A : Automaton} {p q : ℕ} → InBounds A → p < A.size → Path A p q → q < A.size
path_bound ok l stay = l
path_bound ok l (follow e m f r) = path_bound ok (ok.tos e m) r

-- where each state that was met is done, no reachable state accepts
pub done_rejects : (A : Automaton) (ok : InBounds A) (marks : List ℕ) → Marked marks A.start → ((x : ℕ) → Marked marks x → Done A marks x) → has_reachable_accepting A ≡ false
done_rejects A ok marks m all =
    ⊎_elim (λ b. let r = (accepting_paths A ok).0 b in absurd (no r.0 r.1 r.2)) (λ b. b) (test (has_reachable_accepting A))
  where
    closed : {p x : ℕ} → Marked marks p → Path A p x → Marked marks x
    closed m stay = m
    closed {p} m (follow d i f r) = closed ((all p m).followed d i f) r

    no : (x : ℕ) → Path A A.start x → 0 < get_or A.accept x 0 → ⊥
    no x r l = let z = (all x (closed m r)).rejects in omega arith

-- what is done stays so when more states are met
done_more : {A : Automaton} {marks after : List ℕ} {x : ℕ} → ((q : ℕ) → Marked marks q → Marked after q) → Done A marks x → Done A after x
done_more f d = record { rejects = d.rejects; followed = λ e m h. f e.to (d.followed e m h) }

-- a state whose transitions were followed: the search ends, or goes on with the last state on the stack
module _ (A : Automaton) (ok : InBounds A) (marks stack : List ℕ) (top q : ℕ) (t : Searched A marks stack top q) (d : Done A marks q) where
  end_rejects : top ≡ 0 → false ≡ has_reachable_accepting A
  end_rejects z = sym (done_rejects A ok marks t.started all)
    where
      all : (x : ℕ) → Marked marks x → Done A marks x
      all x m = ⊎_elim (λ c. subst (Done A marks) (sym c) d) (⊎_elim (λ r. let l = r.1 in absurd (omega arith)) (λ o. o)) (t.others x m)

  back_searched : (top ≡ 0 → ⊥) → Searched A marks stack (top - 1) (get_or stack (top - 1) 0)
  back_searched z =
      record {
        room = record { wide = t.room.wide; long = t.room.long; enough = omega (arith, t.room.enough) };
        started = t.started;
        here = t.entered (top - 1) (omega (arith, z));
        entered = λ j l. t.entered j (omega arith);
        paths = t.paths;
        others = λ x m.
            ⊎_elim (λ c. inr (inr (subst (Done A marks) (sym c) d)))
            (⊎_elim
            (λ r. ⊎_elim (λ (c : r.0 ≡ top - 1). inl (sym r.2 ∙ ap (λ (i : ℕ). get_or stack i 0) c)) (λ (c : r.0 < top - 1). inr (inl (r.0, c, r.2))) (eq-or-lt_of_le (before r.1)))
            (λ o. inr (inr o)))
            (t.others x m);
      }
    where
      before : {j : ℕ} → j < top → j ≤ top - 1
      before l = omega arith

-- targets were put on the stack, and the search is at the state x, which is q or the only one that was marked before; in the second case q is done
module _ (A : Automaton) (marks stack : List ℕ) (top q : ℕ) (t : Searched A marks stack top q) (more : List ℕ) (x : ℕ) (es : List Transition) (after put : List ℕ) (end : ℕ)
    (p : Pushed more stack top es [] after put end) (kept : (y : ℕ) → Marked marks y → Marked more y) (new : (y : ℕ) → Marked more y → (y ≡ x) ⊎ Marked marks y)
    (here : Marked more x) (way : Path A A.start x) (ways : (e : Transition) → e ∈ es → Path A A.start e.to) (left : (q ≡ x) ⊎ Done A after q) where
  pushed_old : (y : ℕ) → Marked marks y → Marked after y
  pushed_old y m = p.old y (kept y m)

  pushed_searched : Searched A after put end x
  pushed_searched =
      record {
        room = p.room;
        started = pushed_old _ t.started;
        here = p.old x here;
        entered = λ j l.
            ⊎_elim (λ c. p.entered j (leb-true top j c) l) (λ c. let b = leb-false top j c in rw (p.keeps j b) (pushed_old _ (t.entered j b))) (test (leb top j));
        paths = λ y m.
            ⊎_elim (λ c. ⊎_elim (λ o. subst (Path A A.start) (sym o) way) (t.paths y) (new y c))
            (λ r. let d = p.sources r.0 r.1 r.2 in subst (Path A A.start) (sym d.2 ∙ r.3) (ways d.0 d.1))
            (p.stacked y m);
        others = λ y m.
            ⊎_elim
            (λ c.
            ⊎_elim inl
            (λ o.
            ⊎_elim (λ b. ⊎_elim (λ k. inl (b ∙ k)) (λ d. inr (inr (subst (Done A after) (sym b) d))) left)
            (⊎_elim (λ r. inr (inl (r.0, further r.1, p.keeps r.0 r.1 ∙ r.2))) (λ d. inr (inr (done_more pushed_old d))))
            (t.others y o))
            (new y c))
            (λ r. inr (inl (r.0, r.2, r.3))) (p.stacked y m);
      }
    where
      further : {j : ℕ} → j < top → j < end
      further l = omega (arith, p.grows)

-- the sheet up to where the records of q end
abbrev up_to : List ℕ → List ℕ → ℕ → List ℕ
up_to s starts q = take (get_or starts (q + 1) 0 - 0) (drop 0 s)

-- a turn of the search, at the state q
module _ (s starts targets old line : List ℕ) (r : UnmarkedSearch s starts targets old line) (marks stack : List ℕ) (top q : ℕ)
    (t : Searched (read s) marks stack top q) where
  ok : InBounds (read s)
  ok = (read_well s r.accepted).states

  way : Path (read s) (get_or s 1 0) q
  way = t.paths q t.here

  pub state_bound : q < state_count s
  state_bound = path_bound ok ok.starts way

  pub state_few : q < 256
  state_few = omega (arith, state_bound, r.accepted.few_states)

  -- a state that accepts is found
  pub state_accepts : (w : ℕ) → w ≡ get_or (read s).accept q 0 → 0 < w → true ≡ has_reachable_accepting (read s)
  state_accepts w e h = sym ((accepting_paths (read s) ok).1 (q, way, omega (arith, e)))

  -- its records are the last of those before the place where they end
  runs : RunAt s starts q
  runs = run_at s r.accepted starts q r.indexed state_bound

  pub run_known : q + 1 < length starts
  run_known = runs.known

  pub run_ordered : get_or starts q 0 ≤ get_or starts (q + 1) 0
  run_ordered = runs.ordered

  pub run_within : get_or starts (q + 1) 0 ≤ length s
  run_within = runs.within

  pub run_few : get_or starts (q + 1) 0 ≤ 10500
  run_few = omega (arith, runs.within, r.accepted.whole, r.accepted.few_states, r.accepted.few_records)

  run_records : drop (get_or starts q 0) (up_to s starts q) ≡ write_records (leaving (read s) q)
  run_records =
      let z : get_or starts (q + 1) 0 - 0 ≡ get_or starts q 0 + (get_or starts (q + 1) 0 - get_or starts q 0) = omega (arith, runs.ordered) in
      ap (λ (n : ℕ). drop (get_or starts q 0) (take n s)) z ∙ ap (drop (get_or starts q 0)) (take-add (get_or starts q 0) (get_or starts (q + 1) 0 - get_or starts q 0) s)
      ∙ drop_at (take (get_or starts q 0) s) (take (get_or starts (q + 1) 0 - get_or starts q 0) (drop (get_or starts q 0) s)) (get_or starts q 0) (length-take-le (get_or starts q 0) s (omega (arith, runs.ordered, runs.within))) ∙ runs.words

  run_named_all : Named 256 (read_records (drop (get_or starts q 0) (up_to s starts q)))
  run_named_all = run_named s r.accepted q _ run_records

  run_in : (d : Transition) → d ∈ (read s).transitions → d.from ≡ q → d ∈ read_records (drop (get_or starts q 0) (up_to s starts q))
  unfolding leaving
  run_in d i f = rw (ap read_records run_records ∙ read_write (leaving (read s) q)) (filter_in _ i (eq-eqb d.from q f))

  run_out : (d : Transition) → d ∈ read_records (drop (get_or starts q 0) (up_to s starts q)) → Path (read s) (get_or s 1 0) d.to
  unfolding leaving
  run_out d i =
      let o = filter_out _ d (read s).transitions (rw (ap read_records run_records ∙ read_write (leaving (read s) q)) at i) in
      path_more way d o.0 (eqb-true _ _ o.1)

  -- all its targets that were not met are put on the stack
  pub all_asked : (get_or starts q 0 ≤ length (up_to s starts q)) × Named 256 (read_records (drop (get_or starts q 0) (up_to s starts q))) × StackRoom marks stack top
  all_asked = (
    simp length-take (omega (arith, runs.ordered, runs.within)),
    run_named_all,
    t.room,
  )

  module _ (w : ℕ) (we : w ≡ get_or (read s).accept q 0) (wz : w ≤ 0) (after put : List ℕ) (end : ℕ)
      (p : Pushed marks stack top (read_records (drop (get_or starts q 0) (up_to s starts q))) [] after put end) where
    all_done : Done (read s) after q
    all_done = record { rejects = omega (arith, we); followed = λ d i f. ⊎_elim (λ m. m) (λ m. elim m [ ]) (p.targets d (run_in d i f)) }

    all_searched : Searched (read s) after put end q
    all_searched = pushed_searched (read s) marks stack top q t marks q _ after put end p (λ y m. m) (λ y m. inr m) t.here way run_out (inl refl)

    pub search_end : end ≡ 0 → false ≡ has_reachable_accepting (read s)
    search_end = end_rejects (read s) ok after put end q all_searched all_done

    pub search_back : (end ≡ 0 → ⊥) → Searched (read s) after put (end - 1) (get_or put (end - 1) 0)
    search_back = back_searched (read s) ok after put end q all_searched all_done

    pub back_less : (end ≡ 0 → ⊥) → 2 * unmet after + (end - 1) < 2 * unmet marks + top
    back_less z = omega (arith, z, p.total, p.grows)

    pub back_place : (end ≡ 0 → ⊥) → end - 1 < length put
    back_place z = omega (arith, z, p.room.enough, p.room.long)

  -- its first target: that of the first of its records, if there is one, and else the state itself, which was met
  first_here : 5 ≤ get_or starts (q + 1) 0 - get_or starts q 0
      → (5 ≤ length (up_to s starts q) - get_or starts q 0) × (get_or targets q 0 ≡ get_or (up_to s starts q) (get_or starts q 0 + 4) 0)
  first_here h = (
    simp length-take (omega (arith, runs.ordered, runs.within)),
    r.first.at q state_bound ∙ sym (target_is s starts q runs h) ∙ sym (get_or-take (get_or starts (q + 1) 0 - 0) s (get_or starts q 0 + 4) 0 (omega (arith, runs.ordered))),
  )

  first_none : get_or starts (q + 1) 0 - get_or starts q 0 < 5 → get_or targets q 0 ≡ q
  first_none h = r.first.at q state_bound ∙ sym (target_none s starts q runs h)

  pub first_bound : get_or targets q 0 < 256
  first_bound =
      ⊎_elim (λ c. let z = first_here (leb-true 5 _ c) in rw z.1 (named_target _ (get_or starts q 0) run_named_all z.0))
      (λ c. rw (first_none (leb-false 5 _ c)) state_few)
      (test (leb 5 (get_or starts (q + 1) 0 - get_or starts q 0)))

  -- it was not met, and is followed next
  module _ (z : get_or marks (get_or targets q 0) 0 ≡ 0) where
    first_record : (5 ≤ length (up_to s starts q) - get_or starts q 0) × (get_or targets q 0 ≡ get_or (up_to s starts q) (get_or starts q 0 + 4) 0)
    first_record =
        ⊎_elim (λ c. first_here (leb-true 5 _ c))
        (λ c. let m = t.here in let o = rw (first_none (leb-false 5 _ c)) at z in absurd (omega arith))
        (test (leb 5 (get_or starts (q + 1) 0 - get_or starts q 0)))

    first_inside : get_or targets q 0 < length marks
    first_inside = omega (arith, t.room.wide, first_bound)

    first_fewer : suc (unmet (set marks (get_or targets q 0) 1)) ≡ unmet marks
    first_fewer = unmet_less marks (get_or targets q 0) first_inside z

    pub first_asked : (get_or starts q 0 + 5 ≤ length (up_to s starts q)) × Named 256 (read_records (drop (get_or starts q 0 + 5) (up_to s starts q))) × StackRoom (set marks (get_or targets q 0) 1) stack top
    first_asked = (
      omega (arith, first_record.0),
      named_next (up_to s starts q) (get_or starts q 0) run_named_all first_record.0,
      record { wide = length-set marks _ 1 ∙ t.room.wide; long = t.room.long; enough = omega (arith, t.room.enough, first_fewer) },
    )

    all_records : read_records (drop (get_or starts q 0) (up_to s starts q)) ≡ record_at (up_to s starts q) (get_or starts q 0) ∷ read_records (drop (get_or starts q 0 + 5) (up_to s starts q))
    all_records = records_at_lem (up_to s starts q) (get_or starts q 0) first_record.0

    module _ (w : ℕ) (we : w ≡ get_or (read s).accept q 0) (wz : w ≤ 0) (after put : List ℕ) (end : ℕ)
        (p : Pushed (set marks (get_or targets q 0) 1) stack top (read_records (drop (get_or starts q 0 + 5) (up_to s starts q))) [] after put end) where
      pub first_less : 2 * unmet after + end < 2 * unmet marks + top
      first_less = omega (arith, p.total, p.grows, first_fewer)

      first_done : Done (read s) after q
      first_done = record { rejects = omega (arith, we); followed = λ d i f. one d (rw all_records at (run_in d i f)) }
        where
          one : (d : Transition) → d ∈ (record_at (up_to s starts q) (get_or starts q 0) ∷ read_records (drop (get_or starts q 0 + 5) (up_to s starts q))) → Marked after d.to
          one d (Memᴰ.head c) = subst (λ (x : Transition). Marked after x.to) (sym c) (rw first_record.1 at (p.old _ (mark_here marks _ first_inside)))
          one d (Memᴰ.tail i) = ⊎_elim (λ m. m) (λ m. elim m [ ]) (p.targets d i)

      pub search_first : Searched (read s) after put end (get_or targets q 0)
      search_first =
          pushed_searched (read s) marks stack top q t (set marks (get_or targets q 0) 1) (get_or targets q 0) _ after put end p (mark_old marks _ first_inside)
          (mark_out marks _ first_inside) (mark_here marks _ first_inside) (rw first_record.1 (run_out (record_at (up_to s starts q) (get_or starts q 0)) (rw all_records (Memᴰ.head refl))))
          (λ e m. run_out e (rw all_records (Memᴰ.tail m))) (inr first_done)

-- the start alone is met
module _ (s : List ℕ) (a : Accepted s) (marks : List ℕ) (u : Unmarked marks) where
  pub start_inside : get_or s 1 0 < length marks
  start_inside = omega (arith, a.start, a.few_states, u.wide)

  pub start_only : (x : ℕ) → Marked (set marks (get_or s 1 0) 1) x → x ≡ get_or s 1 0
  start_only x m = ⊎_elim (λ c. c) (λ c. let z = u.nothing x in absurd (omega arith)) (mark_out marks (get_or s 1 0) start_inside x m)

-- the search begins with it
pub search_begin : (s starts targets marks stack : List ℕ) → UnmarkedSearch s starts targets marks stack → Searched (read s) (set marks (get_or s 1 0) 1) stack 0 (get_or s 1 0)
search_begin s starts targets marks stack r =
    let here = mark_here marks (get_or s 1 0) (start_inside s r.accepted marks r.unmarked) in
    record {
      room = record { wide = length-set marks _ 1 ∙ r.unmarked.wide; long = r.long; enough = omega (arith, few) };
      started = here;
      here = here;
      entered = λ j l. absurd (omega arith);
      paths = λ x m. subst (Path (read s) (get_or s 1 0)) (sym (only x m)) stay;
      others = λ x m. inl (only x m);
    }
  where
    few : unmet (set marks (get_or s 1 0) 1) ≤ 256
    few = unfold unmet in omega (arith, length_filter (λ x. eqb x 0) (set marks (get_or s 1 0) 1), length-set marks (get_or s 1 0) 1, r.unmarked.wide)

    only : (x : ℕ) → Marked (set marks (get_or s 1 0) 1) x → x ≡ get_or s 1 0
    only = start_only s r.accepted marks r.unmarked

pub ruleset search_laws = (run_known, run_within, state_bound, state_accepts, start_inside, search_begin, rules)
