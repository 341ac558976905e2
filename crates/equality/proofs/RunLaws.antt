-- The two runs of a pair compared side by side: what holds when the symbols of some records of each are done. Assumes nothing.
use Rattle.std.proofs.Common.{Option, Some, None, ℕ, ◌+◌, ◌*◌, ◌/◌, ◌≤◌, ◌<◌, ◌≡◌, refl, sym, ◌∙◌, ⊎_elim, List, [], zero, suc, ap, arith, below_more, length, get_or}
use Rattle.std.specs.Simd.{first_chunks}
use Rattle.automata.specs.Automaton.{accept_of}
use Rattle.automata.specs.inner.Records.{record_at}
use Rattle.automata.proofs.Chunks.{chunk_word}
use Rattle.sheets.specs.inner.Accepted.{Accepted}
use Rattle.sheets.specs.Sheet.{state_count, read}
use Rattle.sheets.proofs.Meaning.{read_well}
use Rattle.automata.specs.Successors.{successor}
use Rattle.pairs.specs.inner.Pairs.{Pairs, classes, one_at, two_at, PairFits, PairJoined}
use Rattle.pairs.proofs.Laws.{pair_fits}
use Rattle.equality.specs.inner.Walking.{StepFits, StepPut}
use Rattle.determinizations.specs.inner.Sheets.{two_of, DeterministicSheets}
use Rattle.equality.specs.inner.Code.{FirstOf, ComparableRecords, SuccessorsCompared}
use Rattle.equality.proofs.Forced.{Total, total_of}
use Rattle.equality.proofs.WalkedPairs.{room, one_more}
use Rattle.determinizations.proofs.Runs.{In, RunOf, up_to, run_of}

pub total : (a b : List ℕ) (lower upper : ℕ) → DeterministicSheets a b lower upper → Total (two_of a b lower upper)
total a b lower upper s = total_of (two_of a b lower upper) s.one (read_well a s.first).states s.two (read_well b s.second).states

-- the successors of pair i under x are in one class
abbrev Joined : List ℕ → List ℕ → Pairs → ℕ → ℕ → Type 0
Joined a b w i x = classes w (successor (read a) (one_at w i) x) ≡ classes w (state_count a + successor (read b) (two_at w i) x)

-- so they are under each symbol that record g of the run l holds
abbrev Done : List ℕ → List ℕ → ℕ → ℕ → Pairs → ℕ → List ℕ → ℕ → Type 0
Done a b lower upper w i l g = (x : ℕ) → lower ≤ x → x ≤ upper → In l g x → Joined a b w i x

-- rs are the records of l
abbrev pub Chunks : List ℕ → List (List ℕ) → Type 0
Chunks l rs = rs ≡ first_chunks 5 (length l / 5) l

-- the records before j of the first run are done, and those before k of the second
pub record RunsInvariant (a b : List ℕ) (lower upper : ℕ) (ra rb : List ℕ) (ca cb : List (List ℕ)) (n1 i j k : ℕ) (w : Pairs) (l : List ℕ) : Type 0 where
  pub runs : ComparableRecords a b lower upper ra rb n1 i w l
  pub chunks_a : Chunks ra ca
  pub chunks_b : Chunks rb cb
  pub done_a : (g : ℕ) → g < j → Done a b lower upper w i ra g
  pub done_b : (g : ℕ) → g < k → Done a b lower upper w i rb g

-- and so are the symbols that records j and k share
pub record RecordsCompared (a b : List ℕ) (lower upper : ℕ) (ra rb : List ℕ) (ca cb : List (List ℕ)) (n1 i j k : ℕ) (w : Pairs) (l : List ℕ) : Type 0 where
  pub before : RunsInvariant a b lower upper ra rb ca cb n1 i j k w l
  pub shared : (x : ℕ) → lower ≤ x → x ≤ upper → In ra j x → In rb k x → Joined a b w i x

-- how many records there are, and their words
chunks_long : (n : ℕ) (l : List ℕ) → length (first_chunks 5 n l) ≡ n
chunks_long zero l = refl
chunks_long (suc n) l = ap suc (chunks_long n _)

module _ (l : List ℕ) (rs : List (List ℕ)) (c : Chunks l rs) where
  count : length rs ≡ length l / 5
  count = rw c (chunks_long (length l / 5) l)

  word : (g m : ℕ) → g < length rs → m < 5 → get_or (get_or rs g []) m 0 ≡ get_or l (5 * g + m) 0
  word g m h k = let b : g < length l / 5 = omega (arith, count) in rw c (chunk_word (length l / 5) l g m b k)

module _ (a b : List ℕ) (lower upper : ℕ) (ra rb : List ℕ) (n1 i : ℕ) (w : Pairs) (l : List ℕ) (runs : ComparableRecords a b lower upper ra rb n1 i w l) where
  run_a : RunOf (read a) lower upper (one_at w i) ra
  run_a = run_of lower upper (read a) runs.sheets.one (read_well a runs.sheets.first) (one_at w i) (runs.walked.in_one i runs.i_in) ra runs.run_a

  run_b : RunOf (read b) lower upper (two_at w i) rb
  run_b = run_of lower upper (read b) runs.sheets.two (read_well b runs.sheets.second) (two_at w i) (runs.walked.in_two i runs.i_in) rb runs.run_b

  -- all symbols are done
  all_done : ((x : ℕ) → lower ≤ x → x ≤ upper → Joined a b w i x) → SuccessorsCompared (two_of a b lower upper) i w l None
  all_done h = (runs.walked, runs.i_in, below_more (λ (g : ℕ). (x : ℕ) → (lower ≤ x) × (x ≤ upper) → Joined a b w g x) i runs.closed (λ x s. h x s.0 s.1))

-- records j and k are compared: the one that ends first is done, since a record of the other run that holds one of its symbols was compared
-- with it too, or is done
module _ (a b : List ℕ) (lower upper : ℕ) (ra rb : List ℕ) (ca cb : List (List ℕ)) (n1 i j k : ℕ) (w : Pairs) (l : List ℕ) (m : RecordsCompared a b lower upper ra rb ca cb n1 i j k w l) (j-below : j < length ca) (k-below : k < length cb) where
  last_a : get_or (get_or ca j []) 3 0 ≡ get_or ra (5 * j + 3) 0
  last_a = word ra ca m.before.chunks_a j 3 j-below (omega arith)

  last_b : get_or (get_or cb k []) 3 0 ≡ get_or rb (5 * k + 3) 0
  last_b = word rb cb m.before.chunks_b k 3 k-below (omega arith)

  pub runs_next_a : get_or (get_or ca j []) 3 0 < get_or (get_or cb k []) 3 0 → RunsInvariant a b lower upper ra rb ca cb n1 i (j + 1) k w l
  runs_next_a h =
      let u = m.before in
      record {
        runs = u.runs;
        chunks_a = u.chunks_a;
        chunks_b = u.chunks_b;
        done_a = below_more (Done a b lower upper w i ra) j u.done_a
            (λ x above below p. ⊎_elim (λ f. u.done_b f.0 f.1 x above below f.2) (λ q. m.shared x above below p q) (up_to (run_b a b lower upper ra rb n1 i w l u.runs) k x above below (omega (arith, p.1, last_a, last_b))));
        done_b = u.done_b;
      }

  pub runs_next_b : get_or (get_or cb k []) 3 0 ≤ get_or (get_or ca j []) 3 0 → RunsInvariant a b lower upper ra rb ca cb n1 i j (k + 1) w l
  runs_next_b h =
      let u = m.before in
      record {
        runs = u.runs;
        chunks_a = u.chunks_a;
        chunks_b = u.chunks_b;
        done_a = u.done_a;
        done_b = below_more (Done a b lower upper w i rb) k u.done_b
            (λ x above below q. ⊎_elim (λ f. u.done_a f.0 f.1 x above below f.2) (λ p. m.shared x above below p q) (up_to (run_a a b lower upper ra rb n1 i w l u.runs) j x above below (omega (arith, q.1, last_a, last_b))));
      }

module _ (a b : List ℕ) (lower upper : ℕ) (ra rb : List ℕ) (ca cb : List (List ℕ)) (n1 i j k : ℕ) (w : Pairs) (l : List ℕ) (u : RunsInvariant a b lower upper ra rb ca cb n1 i j k w l) where
  runs : ComparableRecords a b lower upper ra rb n1 i w l
  runs = u.runs

  of_a : RunOf (read a) lower upper (one_at w i) ra
  of_a = run_a a b lower upper ra rb n1 i w l runs

  of_b : RunOf (read b) lower upper (two_at w i) rb
  of_b = run_b a b lower upper ra rb n1 i w l runs

  count_a : length ca ≡ length ra / 5
  count_a = count ra ca u.chunks_a

  count_b : length cb ≡ length rb / 5
  count_b = count rb cb u.chunks_b

  -- records of the runs
  a_in : j < length ca → j < of_a.count
  a_in h = omega (arith, of_a.whole, count_a)

  b_in : k < length cb → k < of_b.count
  b_in h = omega (arith, of_b.whole, count_b)

  to_a : j < length ca → get_or (get_or ca j []) 4 0 < state_count a
  to_a h = omega (arith, word ra ca u.chunks_a j 4 h (omega arith), of_a.inside j (a_in h))

  to_b : k < length cb → get_or (get_or cb k []) 4 0 < state_count b
  to_b h = omega (arith, word rb cb u.chunks_b k 4 h (omega arith), of_b.inside k (b_in h))

  -- one of the runs is through
  pub runs_end_a : length ca ≤ j → SuccessorsCompared (two_of a b lower upper) i w l None
  runs_end_a h = all_done a b lower upper ra rb n1 i w l runs (λ x above below. let f = of_a.full x above below in u.done_a f.0 (omega (arith, of_a.whole, count_a, f.1)) x above below f.2)

  pub runs_end_b : length cb ≤ k → SuccessorsCompared (two_of a b lower upper) i w l None
  runs_end_b h = all_done a b lower upper ra rb n1 i w l runs (λ x above below. let f = of_b.full x above below in u.done_b f.0 (omega (arith, of_b.whole, count_b, f.1)) x above below f.2)

  pub runs_accept_a : j < length ca → Accepted a × (get_or (get_or ca j []) 4 0 < state_count a)
  runs_accept_a h = (runs.sheets.first, to_a h)

  pub runs_accept_b : k < length cb → Accepted b × (get_or (get_or cb k []) 4 0 < state_count b)
  runs_accept_b h = (runs.sheets.second, to_b h)

  -- the answer of `first_common` on records j and k
  abbrev Answered : Option ℕ → Type 0
  Answered r = FirstOf (record_at (get_or ca j []) 0) (record_at (get_or cb k []) 0) lower upper r

  module _ (j-below : j < length ca) (k-below : k < length cb) where
    first_a : get_or (get_or ca j []) 2 0 ≡ get_or ra (5 * j + 2) 0
    first_a = word ra ca u.chunks_a j 2 j-below (omega arith)

    end_a : get_or (get_or ca j []) 3 0 ≡ get_or ra (5 * j + 3) 0
    end_a = word ra ca u.chunks_a j 3 j-below (omega arith)

    first_b : get_or (get_or cb k []) 2 0 ≡ get_or rb (5 * k + 2) 0
    first_b = word rb cb u.chunks_b k 2 k-below (omega arith)

    end_b : get_or (get_or cb k []) 3 0 ≡ get_or rb (5 * k + 3) 0
    end_b = word rb cb u.chunks_b k 3 k-below (omega arith)

    -- no symbol in common
    pub runs_skip : Answered None → RecordsCompared a b lower upper ra rb ca cb n1 i j k w l
    runs_skip none = record {
      before = u;
      shared = λ x above below p q. absurd (none x (record { above = above; below = below; first_one = omega (arith, first_a, p.0); last_one = omega (arith, end_a, p.1); first_two = omega (arith, first_b, q.0); last_two = omega (arith, end_b, q.1) }));
    }

    -- a common symbol x
    module _ (x : ℕ) (common : Answered (Some x)) where
      abbrev to_p : ℕ
      to_p = get_or (get_or ca j []) 4 0

      abbrev to_q : ℕ
      to_q = get_or (get_or cb k []) 4 0

      next_p : (y : ℕ) → lower ≤ y → y ≤ upper → In ra j y → successor (read a) (one_at w i) y ≡ to_p
      next_p y lower upper h = of_a.leads j y (a_in j-below) lower upper h.0 h.1 ∙ sym (word ra ca u.chunks_a j 4 j-below (omega arith))

      next_q : (y : ℕ) → lower ≤ y → y ≤ upper → In rb k y → successor (read b) (two_at w i) y ≡ to_q
      next_q y lower upper h = of_b.leads k y (b_in k-below) lower upper h.0 h.1 ∙ sym (word rb cb u.chunks_b k 4 k-below (omega arith))

      x_p : successor (read a) (one_at w i) x ≡ to_p
      x_p = next_p x common.above common.below (omega (arith, first_a, common.first_one), omega (arith, end_a, common.last_one))

      x_q : successor (read b) (two_at w i) x ≡ to_q
      x_q = next_q x common.above common.below (omega (arith, first_b, common.first_two), omega (arith, end_b, common.last_two))

      to_in_a : to_p < w.sets.n
      to_in_a = omega (arith, to_a j-below, runs.walked.is_n)

      to_in_b : state_count a + to_q < w.sets.n
      to_in_b = omega (arith, to_b k-below, runs.walked.is_n)

      pub runs_fit : PairFits n1 to_p to_q w
      runs_fit = rw runs.is_n1 (pair_fits (state_count a) to_p to_q w runs.walked.valid to_in_a to_in_b)

      pub runs_step_fits : StepFits l w.made i
      runs_step_fits = record {
        long = runs.walked.long;
        room = omega (arith, room (two_of a b lower upper) (total a b lower upper runs.sheets) w l runs.walked, runs.walked.is_n, runs.walked.valid.few);
        i_in = runs.i_in;
        shallow = runs.walked.shallow i runs.i_in;
      }

      module _ (m n : ℕ) (is_m : m ≡ accept_of (read a) to_p) (is_n : n ≡ accept_of (read b) to_q) where
        pub runs_differ : (m ≡ n → ⊥) → SuccessorsCompared (two_of a b lower upper) i w l (Some x)
        runs_differ d = (runs.walked, runs.i_in, common.above, common.below, rw (x_p, x_q) (λ s. d (is_m ∙ s ∙ sym is_n)))

        pub runs_joined : m ≡ n → (v : Pairs) → PairJoined n1 to_p to_q w v → (l' : List ℕ) → StepPut l l' w.made v.made i x → RecordsCompared a b lower upper ra rb ca cb n1 i j k v l'
        runs_joined e v o l' s =
            let t = total a b lower upper runs.sheets in
            let o' : PairJoined (state_count a) (successor (read a) (one_at w i) x) (successor (read b) (two_at w i) x) w v = rw (runs.is_n1, ← x_p, ← x_q) at o in
            let z = one_more (two_of a b lower upper) t w v l l' i x runs.walked runs.i_in (common.above, common.below) o' s (rw (x_p, x_q) (sym is_m ∙ e ∙ is_n)) in
            let kept : (g : ℕ) → g < w.made → (y : ℕ) → lower ≤ y → y ≤ upper → Joined a b w g y → Joined a b v g y =
            λ g h y lower upper c. rw (o.kept.one g h, o.kept.two g h)
            (o.kept.joins (successor (read a) (one_at w g) y) (state_count a + successor (read b) (two_at w g) y)
            (omega (arith, runs.walked.is_n, t.first.next_in (one_at w g) y (runs.walked.in_one g h) (lower, upper)))
            (omega (arith, runs.walked.is_n, t.second.next_in (two_at w g) y (runs.walked.in_two g h) (lower, upper))) c) in
            record {
              before = record {
                runs = record {
                  sheets = runs.sheets;
                  is_n1 = runs.is_n1;
                  run_a = rw (o.kept.one i runs.i_in) runs.run_a;
                  run_b = rw (o.kept.two i runs.i_in) runs.run_b;
                  walked = z;
                  i_in = omega (arith, o.kept.more, runs.i_in);
                  closed = λ g h y c. kept g (omega (arith, runs.i_in)) y c.0 c.1 (runs.closed g h y c);
                };
                chunks_a = u.chunks_a;
                chunks_b = u.chunks_b;
                done_a = λ g h y lower upper p. kept i runs.i_in y lower upper (u.done_a g h y lower upper p);
                done_b = λ g h y lower upper q. kept i runs.i_in y lower upper (u.done_b g h y lower upper q);
              };
              shared = λ y lower upper p q. rw (o.kept.one i runs.i_in, o.kept.two i runs.i_in, next_p y lower upper p, next_q y lower upper q) (rw (x_p, x_q) at o'.joined);
            }
