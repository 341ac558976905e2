-- The records of every state with its holes: a state's can be merged, how many there are, and the laws of the loop that writes them.
use Prim.Native.Nat.{ℕ, zero, suc, ◌+◌, ◌*◌, ◌≤◌, ◌<◌}
use mathlib.Core.Bool.{true, false, false≢true}
use mathlib.Core.List.Memᴰ
use mathlib.Core.List.{List, [], ◌∷◌, ◌++◌, map, flat_map, append-nil}
use mathlib.Core.Logic.{◌⊎◌, inl, inr, ⊎_elim}
use mathlib.Core.Path.{◌≡◌, refl, sym, ◌∙◌, ap, subst}
use native.Mathlib.Nat.{eq-or-lt_of_le}
use native.Mathlib.Omega.{arith}
use borrow.Author.Rules.{rules}
use borrow.Author.Tests.{ltb-true, ltb-false, eqb-true, eqb-false, ne_eqb, lt-ltb, le-ltb}
use lib.Dec.{ltb, eqb}
use lib.ListN.{length, take, drop, length-append, take-append-drop}
use Rattle.lists.specs.Lists.{◌∈◌, filter, tabulate, Ascending, none, more}
use Rattle.stores.specs.Written.{Written}
use Rattle.lists.proofs.Tests.{test}
use Rattle.lists.proofs.Lists.{filter_all, filter_none, tabulate_end}
use Rattle.lists.proofs.Members.{ascending_filter}
use Rattle.automata.specs.Automaton.{Transition, Automaton, leaving, states}
use Rattle.automata.specs.Ordered.{in_order}
use Rattle.automata.specs.Records.{read_records, write_records}
use Rattle.automata.specs.WellFormed.{here, later, Before, WellFormed}
use Rattle.automata.proofs.Leaving.{leaves, leaving_range}
use Rattle.automata.proofs.Ordered.{in_order_same}
use Rattle.automata.proofs.Records.{read_write, length_write, write_append}
use Rattle.nondeterminism.specs.Nondeterminism.{holes_of, holes_in}
use Rattle.nondeterminism.specs.inner.Holes.{HolesInputs}
use Rattle.nondeterminism.proofs.Holes.{state_holes}
use Rattle.nondeterminism.proofs.States.{run_records, run_sorted, run_room, state_run}
use Rattle.ranges.specs.Missing.{SpansApart}
use Rattle.ranges.specs.Span.{Span}
use Rattle.ranges.proofs.Held.{held}
use Rattle.sheets.specs.Sheet.{state_count, read}
use Rattle.sheets.proofs.Meaning.{read_well}
use Rattle.totality.specs.inner.Merging.{leading, Mergeable, Fillable}
use Rattle.totality.specs.Totality.{hole_to, filled, filled_in, totalized}
use Rattle.stores.proofs.Left.{Left, left_start, left_done, left_room, left_next}
use Rattle.totality.proofs.Merging.{merge_hole, drop_records, less_holes}
use Rattle.automata.proofs.States.{states_at, states_end}

-- the transitions of one state
module _ (A : Automaton) (w : WellFormed A) (q lower upper sink : ℕ) where
  holes_ascend : {hs : List Span} → Ascending SpansApart hs → ((h : Span) → h ∈ hs → h.first ≤ h.last) → Ascending Before (map (hole_to sink q) hs)
  holes_ascend none f = none
  holes_ascend (more {x = s} {l = hs} g a) f =
      more
      (λ y m.
      let (h, k, e) = Memᴰ.of_map (hole_to sink q) hs m in
      let l : s.first < h.first = omega (arith, g h k, f s (Memᴰ.head refl)) in
      subst (Before (hole_to sink q s)) e (later refl (later refl (here l))))
      (holes_ascend a (λ h m. f h (Memᴰ.tail m)))

  -- the holes of a state can be merged with its transitions
  pub state_mergeable : Mergeable sink q (leaving A q) (holes_of lower upper (leaving A q))
  state_mergeable =
      record {
        records = unfold leaving in ascending_filter (λ e. eqb e.from q) w.ascends;
        holes = holes_ascend (state_holes A w q lower upper).ascends (state_holes A w q lower upper).full;
        later = λ e h m n l. hole_first e h m l (range_kind e m l);
        sooner = λ e h m n l. ⊎_elim (λ k. epsilon_first_lem e h m k) (λ k. range_first e h m k (first_below e h m n l k)) (kinds e m);
      }
    where
      kinds : (e : Transition) → e ∈ leaving A q → (e.kind ≡ 0) ⊎ (e.kind ≡ 1)
      kinds e m =
          let k = (w.sound e (leaves A q e m).0).known in
          ⊎_elim (λ c. inr c) (λ (c : e.kind < 1). inl (omega arith)) (eq-or-lt_of_le k)

      range_kind : (e : Transition) → e ∈ leaving A q → {x : ℕ} → x < e.first → e.kind ≡ 1
      range_kind e m l = ⊎_elim (λ k. absurd (omega (arith, ((w.sound e (leaves A q e m).0).blank k).0))) (λ k. k) (kinds e m)

      hole_first : (e : Transition) (h : Span) → e ∈ leaving A q → h.first < e.first → e.kind ≡ 1 → Before (hole_to sink q h) e
      hole_first e h m l k = later (sym (leaves A q e m).1) (later (sym k) (here l))

      epsilon_first_lem : (e : Transition) (h : Span) → e ∈ leaving A q → e.kind ≡ 0 → Before e (hole_to sink q h)
      epsilon_first_lem e h m k = let l : e.kind < 1 = omega arith in later (leaves A q e m).1 (here l)

      first_below : (e : Transition) (h : Span) → e ∈ leaving A q → h ∈ holes_of lower upper (leaving A q) → e.first ≤ h.first → e.kind ≡ 1 → e.first < h.first
      first_below e h m n l k =
          let free = (((state_holes A w q lower upper).exact h.first).0 (h, n, record { above = omega arith; below = (state_holes A w q lower upper).full h n })).2 in
          ⊎_elim
          (λ (c : e.first ≡ h.first).
          absurd (false≢true (sym (free e (leaving_range A q e m k)) ∙ held h.first e (omega arith) (let f = (w.sound e (leaves A q e m).0).full in omega arith))))
          (λ c. c) (eq-or-lt_of_le l)

      range_first : (e : Transition) (h : Span) → e ∈ leaving A q → e.kind ≡ 1 → e.first < h.first → Before e (hole_to sink q h)
      range_first e h m k l = later (leaves A q e m).1 (later k (here l))

-- merging loses nothing
pub length_merged : (sink q : ℕ) (es : List Transition) (hs : List Span) → Mergeable sink q es hs → length (in_order (es ++ map (hole_to sink q) hs)) ≡ length es + length hs
length_merged sink q es [] m = ap length (ap in_order (append-nil es) ∙ in_order_same es m.records) ∙ omega arith
length_merged sink q es (h ∷ hs) m =
    let n = leading h.first es in
    let rest = in_order (drop n es ++ map (hole_to sink q) hs) in
    let ih : length rest ≡ length (drop n es) + length hs = length_merged sink q (drop n es) hs (drop_records sink q n es (less_holes sink q m)) in
    omega
    (arith, ih, ap length (merge_hole sink q es h hs m), length-append (take n es) (hole_to sink q h ∷ rest), ap length (take-append-drop n es), length-append (take n es) (drop n es))

flat_map_end : {X : Type 0} (f : ℕ → List X) (qs : List ℕ) (q : ℕ) → length (flat_map f (qs ++ q ∷ [])) ≡ length (flat_map f qs) + length (f q)
unfolding flat_map
flat_map_end f [] q = ap length (append-nil (f q)) ∙ omega arith
flat_map_end f (p ∷ qs) q = omega (arith, length-append (f p) (flat_map f (qs ++ q ∷ [])), length-append (f p) (flat_map f qs), flat_map_end f qs q)

-- one state more
kept_more : (n : ℕ) (ts : List Transition) → length (filter (λ e. ltb e.from (suc n)) ts) ≡ length (filter (λ e. ltb e.from n) ts) + length (filter (λ e. eqb e.from n) ts)
unfolding filter
kept_more n [] = refl
kept_more n (e ∷ ts) =
    let ih : length (filter (λ e. ltb e.from (suc n)) ts) ≡ length (filter (λ e. ltb e.from n) ts) + length (filter (λ e. eqb e.from n) ts) = kept_more n ts in
    ⊎_elim
    (λ (t : ltb e.from n ≡ true).
    let l : e.from < n = ltb-true _ _ t in
    rw (t, lt-ltb e.from (suc n) (omega arith), ne_eqb e.from n (λ c. omega arith)) (omega arith))
    (λ (t : ltb e.from n ≡ false).
    let l : n ≤ e.from = ltb-false _ _ t in
    ⊎_elim
    (λ (u : eqb e.from n ≡ true). let c : e.from ≡ n = eqb-true _ _ u in rw (t, u, lt-ltb e.from (suc n) (omega arith)) (omega arith))
    (λ (u : eqb e.from n ≡ false). let c = eqb-false _ _ u in rw (t, u, le-ltb e.from (suc n) (let d : suc n ≤ e.from = ⊎_elim (λ k. absurd (c (sym k))) (λ k. k) (eq-or-lt_of_le l) in d)) (omega arith))
    (test (eqb e.from n)))
    (test (ltb e.from n))

module _ (lower upper : ℕ) (A : Automaton) (w : WellFormed A) where
  length_filled : (sink q : ℕ) → length (filled lower upper sink q (leaving A q)) ≡ length (leaving A q) + length (holes_of lower upper (leaving A q))
  unfolding filled
  length_filled sink q = length_merged sink q (leaving A q) (holes_of lower upper (leaving A q)) (state_mergeable A w q lower upper sink)

  -- of the states below n
  length_below : (n : ℕ) → length (filled_in lower upper A (states n)) ≡ length (filter (λ e. ltb e.from n) A.transitions) + length (holes_in lower upper A (states n))
  unfolding filled_in holes_in states tabulate flat_map leaving
  length_below zero = sym (ap (λ l. length l + 0) (filter_none (λ e. ltb e.from 0) A.transitions (λ e m. le-ltb e.from 0 (omega arith))))
  length_below (suc n) =
      omega (
        arith,
        length_below n,
        ap (λ l. length (filled_in lower upper A l)) (tabulate_end n (λ q. q)),
        ap (λ l. length (holes_in lower upper A l)) (tabulate_end n (λ q. q)),
        flat_map_end (λ q. filled lower upper A.size q (leaving A q)) (states n) n,
        flat_map_end (λ q. holes_of lower upper (leaving A q)) (states n) n,
        length_filled A.size n,
        kept_more n A.transitions,
      )

  -- the records kept and the holes
  pub length_all : length (filled_in lower upper A (states A.size)) ≡ length A.transitions + length (holes_in lower upper A (states A.size))
  length_all = length_below A.size ∙ ap (λ l. length l + length (holes_in lower upper A (states A.size))) (filter_all (λ e. ltb e.from A.size) A.transitions (λ e m. lt-ltb e.from A.size (w.states.froms e m)))

  -- and the sink's loop
  pub length_totalized : length (totalized lower upper A).transitions ≡ length A.transitions + length (holes_in lower upper A (states A.size)) + 1
  unfolding totalized
  length_totalized = length-append (filled_in lower upper A (states A.size)) _ ∙ ap (λ n. n + 1) length_all

-- the run of a state of a sheet
module _ (s starts holes : List ℕ) (r : HolesInputs s starts holes) (q : ℕ) (run : List ℕ) (e : run ≡ write_records (leaving (read s) q)) (lower upper : ℕ) where
  pub run_fillable : (h : List ℕ) → length h ≡ length holes → Fillable lower upper (state_count s) q run h
  run_fillable h l =
      record {
        sorted = run_sorted s starts holes r q run e;
        mergeable = rw (run_records s starts holes r q run e) (state_mergeable (read s) (read_well s r.accepted) q lower upper (state_count s));
        whole = ap length e ∙ length_write (leaving (read s) q) ∙ ap (λ l. 5 * length l) (sym (run_records s starts holes r q run e));
        room = run_room s starts holes r q run e h l;
      }

-- the states from q on are left to write
module _ (o₀ : List ℕ) (at : ℕ) (all o : List ℕ) (end lower upper : ℕ) (s : List ℕ) (q : ℕ)
    (l : Left o₀ at all o end (write_records (filled_in lower upper (read s) (drop q (states (state_count s)))))) where
  pub rows_done : state_count s ≤ q → Written o₀ at all o end
  unfolding filled_in flat_map write_records
  rows_done h = left_done o₀ at all o end _ l (rw (states_end (state_count s) q h))

  module _ (h : q < state_count s) (run : List ℕ) (e : run ≡ write_records (leaving (read s) q)) where
    rows_at : write_records (filled_in lower upper (read s) (drop q (states (state_count s)))) ≡ write_records (filled lower upper (state_count s) q (read_records run)) ++ write_records (filled_in lower upper (read s) (drop (q + 1) (states (state_count s))))
    unfolding filled_in flat_map
    rows_at =
        rw (states_at (state_count s) q h, e, read_write (leaving (read s) q))
        (write_append (filled lower upper (state_count s) q (leaving (read s) q)) (filled_in lower upper (read s) (drop (q + 1) (states (state_count s)))))

    pub rows_room : at + length all ≤ length o₀ → end + length (write_records (filled lower upper (state_count s) q (read_records run))) ≤ length o
    rows_room r = left_room o₀ at all o end _ l (write_records (filled lower upper (state_count s) q (read_records run))) _ rows_at r

    pub rows_next : (o' : List ℕ) (end' : ℕ) → Written o end (write_records (filled lower upper (state_count s) q (read_records run))) o' end'
        → Left o₀ at all o' end' (write_records (filled_in lower upper (read s) (drop (q + 1) (states (state_count s)))))
    rows_next o' end' v = left_next o₀ at all o end _ l (write_records (filled lower upper (state_count s) q (read_records run))) _ rows_at o' end' v

pub ruleset rows_laws = (left_start, rows_done, rows_room, rows_next, run_fillable, state_run, rules)
