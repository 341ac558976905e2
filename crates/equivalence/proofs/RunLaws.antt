-- Two runs compared in one pass: the laws of the loop, in the words of the code. Assumes nothing.
use Rattle.std.specs.Bool.{then_some}
use Rattle.std.proofs.Common.{ℕ, ◌+◌, ◌≤◌, ◌<◌, Bool, true, false, List, [], ◌∷◌, ⊎_elim, ◌≡◌, refl, sym, ap, subst, ◌∙◌, arith, leb-true, leb-false, leb, ltb-true, ltb-false, ltb, length, get_or, drop}
use mathlib.Core.List.Memᴰ
use Rattle.lists.specs.Lists.{◌∈◌}
use Rattle.lists.proofs.Tests.{test}
use Rattle.automata.specs.Automaton.{Transition}
use Rattle.automata.specs.inner.Chunks.{records_of}
use Rattle.automata.specs.inner.Records.{record_at}
use Rattle.automata.proofs.Chunks.{records_next, records_done}
use Rattle.pairs.specs.inner.Pairs.{Pairs, ValidPairs, PairsKept, PairFits, PairJoined}
use Rattle.pairs.proofs.Laws.{pair_fits, kept_self, kept_chain}
use Rattle.equivalence.specs.Triggers.{SameTrigger, TriggersWithin, same_trigger}
use Rattle.equivalence.specs.inner.Rows.{leaders_behind, leaders, RowEnd}
use Rattle.equivalence.specs.inner.Walking.{Runs, ComparableRuns, NewPairsFrom, RunsAlike, RunsCompared, RunsAnswered}
use Rattle.equivalence.proofs.Triggers.{trigger_test, trigger_apart, trigger_chain}
use Rattle.equivalence.proofs.Rows.{leaders_rest, leaders_out, leaders_led}
use Rattle.equivalence.proofs.Zipped.{Zipped, whole, next, zipped_left, zipped_right, zipped_kept, zipped_matched, zipped_heads, zipped_left_over, zipped_right_over}

-- the rows of a run from a place on
abbrev rows_from : List (List ℕ) → ℕ → List Transition
rows_from rs at = leaders (records_of (drop at rs))

leaders_at : (rs : List (List ℕ)) (at : ℕ) → at < length rs → rows_from rs at ≡ record_at (get_or rs at []) 0 ∷ leaders_behind (record_at (get_or rs at []) 0) (records_of (drop (at + 1) rs))
unfolding leaders
leaders_at rs at h = ap leaders (records_next rs at h)

leaders_end : (rs : List (List ℕ)) (at : ℕ) → length rs ≤ at → rows_from rs at ≡ []
unfolding leaders
leaders_end rs at h = ap leaders (records_done rs at h)

row_rest : (rs : List (List ℕ)) (at r : ℕ) → RowEnd rs at r → rows_from rs r ≡ leaders_behind (record_at (get_or rs at []) 0) (records_of (drop (at + 1) rs))
row_rest rs at r e = ap leaders e.rest ∙ leaders_rest (record_at (get_or rs at []) 0) (records_of (drop (at + 1) rs))

-- triggers of all, and of the first of each row
within_leaders : {ds es : List Transition} → TriggersWithin ds es → TriggersWithin (leaders ds) (leaders es)
within_leaders {ds} {es} w d m = let (e, n, s) = w d (leaders_out ds d m) in let (l, k, t) = leaders_led es e n in (l, k, trigger_chain s t)

leaders_within : {ds es : List Transition} → TriggersWithin (leaders ds) (leaders es) → TriggersWithin ds es
leaders_within {ds} {es} w d m = let (l, n, s) = leaders_led ds d m in let (e, k, t) = w l n in (e, leaders_out es e k, trigger_chain s t)

-- the answer where a test says whether the triggers are equal
pub runs_answer : (n1 : ℕ) (ds es : List Transition) (v : Pairs) (r : ℕ → Pairs) (made : ℕ) (b : Bool) → RunsCompared n1 ds es v (r made) b → RunsAnswered n1 ds es v r (then_some b made)
runs_answer n1 ds es v r made true c = c
runs_answer n1 ds es v r made false c = (made, c)

-- ds and es are the records of ra and rb, whose rows before j and k have equal triggers, which are joined
pub record RunsInvariant (n1 : ℕ) (ds es : List Transition) (ra rb : List (List ℕ)) (v w : Pairs) (j k : ℕ) : Type 0 where
  pub runs : Runs n1 w.sets.n ds es
  pub valid : ValidPairs n1 w
  pub kept : PairsKept v w
  pub new_from : NewPairsFrom ds es v w
  pub left : Zipped n1 w (leaders ds) (leaders es) (rows_from ra j) (rows_from rb k)

pub runs_begin : (n1 : ℕ) (ds es : List Transition) (ra rb : List (List ℕ)) (w : Pairs) → records_of ra ≡ ds → records_of rb ≡ es → ComparableRuns n1 ds es w
    → RunsInvariant n1 ds es ra rb w w 0 0
runs_begin n1 ds es ra rb w a b c = record { runs = c.runs; valid = c.valid; kept = kept_self w; new_from = λ i h k. absurd (omega arith); left = rw (a, b) whole }

module _ (n1 : ℕ) (ds es : List Transition) (ra rb : List (List ℕ)) (v w : Pairs) (j k : ℕ) (c : RunsInvariant n1 ds es ra rb v w j k) where
  abbrev F : List Transition
  F = leaders ds

  abbrev G : List Transition
  G = leaders es

  -- the answer at the end
  answered : (b : Bool) → RunsAlike n1 ds es w b → RunsCompared n1 ds es v w b
  answered b s = record { valid = c.valid; kept = c.kept; new_from = c.new_from; answer = s }

  -- the second has no more triggers
  pub runs_short : j < length ra → length rb ≤ k → RunsCompared n1 ds es v w false
  runs_short h l =
      let z = subst (λ (x : List Transition). Zipped n1 w F G x []) (leaders_at ra j h) (subst (λ (x : List Transition). Zipped n1 w F G (rows_from ra j) x) (leaders_end rb k l) c.left) in
      answered false (λ there back. zipped_left_over c.runs.first c.runs.second z (within_leaders there))

  -- the first has no more
  pub runs_done : length ra ≤ j → RunsCompared n1 ds es v w (leb (length rb) k)
  runs_done h =
      let y = subst (λ (x : List Transition). Zipped n1 w F G x (rows_from rb k)) (leaders_end ra j h) c.left in
      ⊎_elim
      (λ (t : leb (length rb) k ≡ true).
      let z = subst (λ (x : List Transition). Zipped n1 w F G [] x) (leaders_end rb k (leb-true (length rb) k t)) y in
      let m = zipped_matched c.runs.first c.runs.second z (record { there = λ d i. elim i [ ]; back = λ d i. elim i [ ]; joined = λ d e i. elim i [ ] }) in
      rw t (answered true (leaders_within m.there, leaders_within m.back, m.joined)))
      (λ (t : leb (length rb) k ≡ false).
      let z = subst (λ (x : List Transition). Zipped n1 w F G [] x) (leaders_at rb k (leb-false (length rb) k t)) y in
      rw t (answered false (λ there back. zipped_right_over c.runs.first c.runs.second z (within_leaders back))))
      (test (leb (length rb) k))

  module _ (h : j < length ra) (l : k < length rb) where
    abbrev d : Transition
    d = record_at (get_or ra j []) 0

    abbrev e : Transition
    e = record_at (get_or rb k []) 0

    zipped : Zipped n1 w F G (d ∷ leaders_behind d (records_of (drop (j + 1) ra))) (e ∷ leaders_behind e (records_of (drop (k + 1) rb)))
    zipped = subst (λ (x : List Transition). Zipped n1 w F G x (e ∷ leaders_behind e (records_of (drop (k + 1) rb)))) (leaders_at ra j h) (subst (λ (x : List Transition). Zipped n1 w F G (rows_from ra j) x) (leaders_at rb k l) c.left)

    d_in : d ∈ F
    d_in = zipped_left zipped d (Memᴰ.head refl)

    e_in : e ∈ G
    e_in = zipped_right zipped e (Memᴰ.head refl)

    p_in : get_or (get_or ra j []) 4 0 < w.sets.n
    p_in = c.runs.first_in d (leaders_out ds d d_in)

    q_in : n1 + get_or (get_or rb k []) 4 0 < w.sets.n
    q_in = c.runs.second_in e (leaders_out es e e_in)

    pub runs_fit : PairFits n1 (get_or (get_or ra j []) 4 0) (get_or (get_or rb k []) 4 0) w
    runs_fit = pair_fits n1 (get_or (get_or ra j []) 4 0) (get_or (get_or rb k []) 4 0) w c.valid p_in q_in

    module _ (b : Bool) (is_b : b ≡ same_trigger d e) where
      -- the next triggers differ
      pub runs_apart : b ≡ false → RunsCompared n1 ds es v w false
      runs_apart f =
          answered false (λ there back. zipped_heads c.runs.first c.runs.second zipped (trigger_apart d e (sym is_b ∙ f)) (within_leaders there) (within_leaders back))

      -- they are equal, and their targets are joined
      module _ (f : b ≡ true) (r : Pairs) (o : PairJoined n1 (get_or (get_or ra j []) 4 0) (get_or (get_or rb k []) 4 0) w r) where
        same : SameTrigger d e
        same = trigger_test d e (sym is_b ∙ f)

        came : NewPairsFrom ds es v r
        came i m n =
            ⊎_elim
            (λ (t : ltb i w.made ≡ true).
            let u = ltb-true i w.made t in
            let x = c.new_from i m u in
            record { left = x.left; right = x.right; in_left = x.in_left; in_right = x.in_right; same = x.same; to_left = o.kept.one i u ∙ x.to_left; to_right = o.kept.two i u ∙ x.to_right })
            (λ (t : ltb i w.made ≡ false).
            let x = o.new i (ltb-false i w.made t) n in
            record { left = d; right = e; in_left = d_in; in_right = e_in; same = same; to_left = x.1; to_right = x.2 })
            (test (ltb i w.made))

        pub runs_next : (x y : ℕ) → RowEnd ra j x → RowEnd rb k y → RunsInvariant n1 ds es ra rb v r x y
        runs_next x y ex ey =
            let z = zipped_kept o.kept (λ a m. c.runs.first_in a (leaders_out ds a m)) (λ a m. c.runs.second_in a (leaders_out es a m)) zipped in
            let rest = next same o.joined z in
            record {
              runs = subst (λ (n : ℕ). Runs n1 n ds es) (sym o.kept.same_n) c.runs;
              valid = o.valid;
              kept = kept_chain c.kept o.kept;
              new_from = came;
              left = subst (λ (x : List Transition). Zipped n1 r F G x (rows_from rb y)) (sym (row_rest ra j x ex)) (subst (λ (x : List Transition). Zipped n1 r F G (leaders_behind d (records_of (drop (j + 1) ra))) x) (sym (row_rest rb k y ey)) rest);
            }
