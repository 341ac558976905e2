-- The records of a run: where they lead, and in which order they start.
use Prim.Native.Nat.{ℕ, suc, ◌+◌, ◌-◌, ◌*◌, ◌/◌, ◌≤◌, ◌<◌}
use mathlib.Core.Bool.{Bool, true, false, cond}
use mathlib.Core.List.Memᴰ
use mathlib.Core.List.{List, [], ◌∷◌}
use mathlib.Core.Logic.{⊎_elim}
use mathlib.Core.Path.{◌≡◌, refl, sym, ◌∙◌, ap, subst}
use native.Mathlib.Nat.{le_refl}
use native.Mathlib.Omega.{arith}
use lib.ListN.{length, get_or, take, drop}
use Rattle.std.specs.List.{prefix_len}
use Rattle.std.specs.Simd.{first_chunks}
use Rattle.std.proofs.lemmas.List.{drop-drop, length-drop, drop-map}
use Rattle.std.proofs.lemmas.List.Sums.{prefix_len-le-length}
use Rattle.lists.specs.Lists.{◌∈◌}
use Rattle.lists.proofs.Parts.{part_all}
use Rattle.lists.proofs.Members.{ascending_first, ascending_rest}
use Rattle.automata.specs.Automaton.{Transition, Automaton, leaving}
use Rattle.automata.specs.Records.{read_records, write_records}
use Rattle.automata.specs.inner.Chunks.{records_of}
use Rattle.automata.specs.inner.Records.{record_at}
use Rattle.automata.proofs.Chunks.{records_are, records_next}
use Rattle.automata.specs.WellFormed.{WellFormed}
use Rattle.automata.proofs.Leaving.{leaves, leaving_rises}
use Rattle.automata.proofs.Records.{read_write, read_drop}
use Rattle.sheets.specs.Sheet.{state_count, read}
use Rattle.sheets.specs.inner.Runs.{IndexedSheet}
use Rattle.sheets.proofs.Meaning.{read_well}
use Rattle.product.specs.Product.{joints_of}
use Rattle.product.proofs.Joints.{joints_behind, joints_passed}
use Rattle.product.specs.inner.Tables.{RunTo, ends_before, not_ended}

-- all but the first
rest_to : (k : ℕ) {e : Transition} {es : List Transition} → RunTo k (e ∷ es) → RunTo k es
rest_to k r = record { tos = λ e m. r.tos e (Memᴰ.tail m); rises = ascending_rest r.rises }

-- the record at an index, and the records behind it
module _ (k : ℕ) (rs : List (List ℕ)) (i : ℕ) (n : RunTo k (records_of (drop i rs))) (h : i < length rs) where
  pub run_to : get_or (get_or rs i []) 4 0 < k
  run_to = (rw (records_next rs i h) at n).tos _ (Memᴰ.head refl)

  pub run_rest : RunTo k (records_of (drop (i + 1) rs))
  run_rest = rest_to k (rw (records_next rs i h) at n)

-- where k is told by the length of a table that is kept
pub run_left : (u v : List ℕ) (rs : List (List ℕ)) (i : ℕ) → length u ≡ length v → RunTo (length v / 256) (records_of (drop i rs)) → i < length rs
    → get_or (get_or rs i []) 4 0 < length u / 256
run_left u v rs i e n h = let z = run_to (length v / 256) rs i n h in omega arith

-- none of the records from an index on starts before the one there
pub starts_from : (k : ℕ) (rs : List (List ℕ)) (i : ℕ) → RunTo k (records_of (drop i rs)) → i < length rs → (d : Transition) → d ∈ records_of (drop i rs) → get_or (get_or rs i []) 2 0 ≤ d.first
starts_from k rs i n h d m =
    let r = rw (records_next rs i h) at n in
    ⊎_elim (λ (e : d ≡ record_at (get_or rs i []) 0). rw e (le_refl _)) (λ l. ascending_first r.rises d l) (Memᴰ.cases_cons (rw (records_next rs i h) at m))

-- where the record there starts behind the last symbol of d, no record from there on meets d
pub joints_left_behind : (k : ℕ) (d : List ℕ) (rs : List (List ℕ)) (i : ℕ) → RunTo k (records_of (drop i rs)) → i < length rs → get_or d 3 0 < get_or (get_or rs i []) 2 0
    → joints_of (record_at d 0 ∷ []) (records_of (drop i rs)) ≡ []
joints_left_behind k d rs i n h l = joints_behind (record_at d 0) (records_of (drop i rs)) (λ e m. let z = starts_from k rs i n h e m in omega arith)

-- the ranges from an index on give nothing with those records of es that end before the first of them starts
pub joints_left_passed : (k : ℕ) (rs : List (List ℕ)) (i : ℕ) → RunTo k (records_of (drop i rs)) → i < length rs → (es : List Transition)
    → joints_of (records_of (drop i rs)) es ≡ joints_of (records_of (drop i rs)) (not_ended (get_or (get_or rs i []) 2 0) es)
joints_left_passed k rs i n h es = joints_passed (get_or (get_or rs i []) 2 0) (records_of (drop i rs)) es (starts_from k rs i n h)

-- the records that are left when those at the front are passed over
pub passed_to : (k a : ℕ) (es : List Transition) → RunTo k es → RunTo k (not_ended a es)
unfolding not_ended
passed_to k a [] r = r
passed_to k a (e ∷ es) r = go (ends_before a e) (passed_to k a es (rest_to k r))
  where
    go : (b : Bool) → RunTo k (not_ended a es) → RunTo k (cond b (not_ended a es) (e ∷ es))
    go true s = s
    go false s = r

-- the records behind those at the front
records_drop : (n : ℕ) (rs : List (List ℕ)) → drop n (records_of rs) ≡ records_of (drop n rs)
unfolding records_of
records_drop n rs = drop-map (λ r. record_at r 0) n rs

-- the records at the front that are ended are passed over
passed_front : (a : ℕ) (rs : List (List ℕ)) → records_of (drop (prefix_len (λ r. ends_before a (record_at r 0)) rs) rs) ≡ not_ended a (records_of rs)
unfolding not_ended records_of
passed_front a [] = refl
passed_front a (r ∷ rs) = go (ends_before a (record_at r 0)) (passed_front a rs)
  where
    go : (b : Bool) → records_of (drop (prefix_len (λ r. ends_before a (record_at r 0)) rs) rs) ≡ not_ended a (records_of rs)
        → records_of (drop (cond b (1 + prefix_len (λ r. ends_before a (record_at r 0)) rs) 0) (r ∷ rs)) ≡ cond b (not_ended a (records_of rs)) (record_at r 0 ∷ records_of rs)
    go true h =
        let z : 1 + prefix_len (λ r. ends_before a (record_at r 0)) rs ≡ suc (prefix_len (λ r. ends_before a (record_at r 0)) rs) = omega arith in
        rw z h
    go false h = refl

module _ (run : List ℕ) (from a : ℕ) (rs : List (List ℕ)) (e : rs ≡ first_chunks 5 (length (take (length run - from) (drop from run)) / 5) (take (length run - from) (drop from run)))
    (n : ℕ) (m : n ≡ prefix_len (λ r. ends_before a (record_at r 0)) rs) where
  pub pass_within : from ≤ length run → length rs ≡ length (take (length run - from) (drop from run)) / 5 → from + 5 * n ≤ length run
  pass_within h l = omega (arith, m, prefix_len-le-length (λ r. ends_before a (record_at r 0)) rs, ap length (part_all from run), length-drop from run)

  pub pass_front : read_records (drop (from + 5 * n) run) ≡ not_ended a (read_records (drop from run))
  pass_front =
      let whole : records_of rs ≡ read_records (drop from run) = records_are _ rs e ∙ ap read_records (part_all from run) in
      ap read_records (sym (drop-drop (5 * n) from run)) ∙ read_drop n (drop from run) ∙ ap (drop n) (sym whole)
      ∙ records_drop n rs ∙ ap (λ k. records_of (drop k rs)) m ∙ passed_front a rs ∙ ap (not_ended a) whole

-- the part of a run that is left, as it is handed on
module _ (k : ℕ) (run : List ℕ) (from a next : ℕ) (h : next ≤ length run) (r : RunTo k (read_records (drop from run))) (e : read_records (drop next run) ≡ not_ended a (read_records (drop from run))) where
  pub left_to : RunTo k (read_records (drop next run))
  left_to = subst (RunTo k) (sym e) (passed_to k a (read_records (drop from run)) r)

  pub part_to : RunTo k (read_records (take (length run - next) (drop next run)))
  part_to = subst (λ l. RunTo k (read_records l)) (sym (part_all next run)) left_to

-- the transitions that leave a state
leaving_to : (A : Automaton) (q k : ℕ) → WellFormed A → A.size ≤ k → RunTo k (leaving A q)
leaving_to A q k w l = record { tos = λ e m. omega (arith, w.states.tos e (leaves A q e m).0); rises = leaving_rises A q w }

-- the run of a state of an accepted sheet
module _ (s starts : List ℕ) (r : IndexedSheet s starts) (q : ℕ) (run : List ℕ) (e : run ≡ write_records (leaving (read s) q)) where
  run_below : (k : ℕ) → state_count s ≤ k → RunTo k (read_records run)
  run_below k l = subst (RunTo k) (sym (ap read_records e ∙ read_write _)) (leaving_to (read s) q k (read_well s r.accepted) l)

  pub ready_right : RunTo 256 (read_records run)
  ready_right = run_below 256 (omega (arith, r.accepted.few_states))

  pub ready_left : (t : List ℕ) → 256 * state_count s ≤ length t → RunTo (length t / 256) (read_records run)
  ready_left t l = run_below (length t / 256) (omega arith)
