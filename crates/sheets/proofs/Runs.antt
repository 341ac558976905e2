-- The records of an accepted sheet that leave one state are a run, which the table of starts gives.
use Prim.Native.Nat.{ℕ, suc, ◌+◌, ◌-◌, ◌*◌, ◌≤◌, ◌<◌}
use mathlib.Core.Bool.{true, false, cond}
use mathlib.Core.List.{List}
use mathlib.Core.Logic.{⊎_elim}
use mathlib.Core.Path.{◌≡◌, refl, sym, ap, ap₂, ◌∙◌, subst}
use native.Mathlib.Numerals.{add-one}
use native.Mathlib.Omega.{arith}
use borrow.Author.Rules.{rules}
use borrow.Author.Tests.{lt-ltb, le-ltb, ltb-true, ltb-false}
use lib.Dec.{ltb}
use lib.ListN.{length, get_or, take, drop, set, length-drop, length-take}
use lib.Seq.{sets, length-sets, drop-drop}
use Rattle.lists.specs.Lists.{tabulate}
use Rattle.lists.proofs.Parts.{part_all, table_next, table_at}
use Rattle.lists.proofs.Tests.{test}
use Rattle.automata.specs.Automaton.{Transition, leaving}
use Rattle.automata.specs.Records.{read_records, write_records}
use Rattle.automata.proofs.Records.{read_drop, read_take, write_read, length_read}
use Rattle.sheets.specs.Sheet.{state_count, records_at, read}
use Rattle.sheets.specs.inner.Accepted.{record_count, Accepted}
use Rattle.sheets.specs.inner.Runs.{below, starts_of, starts_below, Rising, RunEnds, Indexed, RunAt}
use Rattle.sheets.proofs.Meaning.{read_well}
use Rattle.sheets.proofs.Below.{Greatest, rising, below_mono, below_length, leaving_run, ends_begin, greatest_begin, greatest_is, greatest_next}

module _ (s : List ℕ) (a : Accepted s) where
  ts : List Transition
  ts = (read s).transitions

  count : length ts ≡ record_count s
  unfolding ts
  count = length_read (record_count s) (drop (records_at s) s) (simp length-drop (omega (arith, a.whole)))

  up : Rising ts
  unfolding ts
  up = rising (read_well s a).ascends

  -- the words from record b up to record e are those of the transitions between
  between : (b e : ℕ) → b ≤ e → e ≤ record_count s
      → take (records_at s + 5 * e - (records_at s + 5 * b)) (drop (records_at s + 5 * b) s) ≡ write_records (take (e - b) (drop b ts))
  unfolding ts
  between b e l h =
      let r = drop (records_at s) s in
      let n : records_at s + 5 * e - (records_at s + 5 * b) ≡ 5 * (e - b) = omega arith in
      let w = take (5 * (e - b)) (drop (5 * b) r) in
      let long : length w ≡ 5 * (e - b) = simp (length-take, length-drop) (omega (arith, a.whole)) in
      ap₂ (λ k v. take k v) n (sym (drop-drop (5 * b) (records_at s) s)) ∙ sym (write_read (e - b) w long)
      ∙ ap write_records (read_take (e - b) (drop (5 * b) r) ∙ ap (take (e - b)) (read_drop b r))

  pub run_at : (starts : List ℕ) (q : ℕ) → Indexed s starts → q < state_count s → RunAt s starts q
  unfolding ts leaving
  run_at starts q i l =
      let b = i.at q (omega arith) in
      let e : get_or starts (q + 1) 0 ≡ records_at s + 5 * below (suc q) (read s).transitions = i.at (q + 1) (omega arith) ∙ ap (λ n. records_at s + 5 * below n (read s).transitions) (add-one q) in
      let m = below_mono q (read s).transitions in
      let n = below_length (suc q) (read s).transitions in
      let c : length (read s).transitions ≡ record_count s = count in
      record {
        known = let k = i.long in omega arith;
        ordered = omega arith;
        within = omega (arith, a.whole);
        words = ap₂ (λ (x y : ℕ). take (x - y) (drop y s)) e b ∙ between _ _ m (omega arith) ∙ ap write_records (sym (leaving_run q _ up));
      }

  -- the records as the code has them
  part : List ℕ
  part = take (length s - records_at s) (drop (records_at s) s)

  part_ts : read_records part ≡ ts
  unfolding part ts
  part_ts = ap read_records (part_all (records_at s) s)

  pub starts_rising : Rising (read_records (take (length s - records_at s) (drop (records_at s) s)))
  unfolding part
  starts_rising = subst Rising (sym part_ts) up

  pub starts_most : (q : ℕ) → below q (read_records (take (length s - records_at s) (drop (records_at s) s))) ≤ 2048
  unfolding part
  starts_most q = omega (arith, below_length q (read_records part), ap length part_ts ∙ count, a.few_records)

  pub starts_few : length (take (length s - records_at s) (drop (records_at s) s)) ≤ 10240
  starts_few = simp (length-take, length-drop) (omega (arith, a.whole, a.few_records))

-- the table so far, with the first record of q added
module _ (s : List ℕ) (old now : List ℕ) (q : ℕ) (e : now ≡ starts_below s old q) where
  pub starts_next : (k : ℕ) → k ≡ below q (read_records (take (length s - records_at s) (drop (records_at s) s))) → set now q (records_at s + 5 * k) ≡ starts_below s old (q + 1)
  unfolding starts_below
  starts_next k h =
      let g : ℕ → ℕ = λ p. records_at s + 5 * below p (read s).transitions in
      let n : records_at s + 5 * k ≡ g q = ap (λ x. records_at s + 5 * x) (h ∙ ap (λ l. below q (read_records l)) (part_all (records_at s) s)) in
      ap₂ (λ l x. set l q x) e n ∙ table_next old g q

  pub starts_ended : state_count s < q → q ≤ state_count s + 1 → now ≡ sets old 0 (starts_of s)
  unfolding starts_of starts_below
  starts_ended l h = let c : q ≡ suc (state_count s) = omega arith in e ∙ ap (λ i. sets old 0 (tabulate i (λ p. records_at s + 5 * below p (read s).transitions))) c

-- the greatest of three numbers, in either order of comparing
greatest_of : (k a b m x o : ℕ) → m ≡ cond (ltb k a) a k → x ≡ cond (ltb a b) b a → o ≡ cond (ltb k x) x k → o ≡ cond (ltb m b) b m
greatest_of k a b m x o i j l =
    ⊎_elim
    (λ (c : ltb k a ≡ true).
    let h = ltb-true k a c in
    let y : m ≡ a = i ∙ ap (λ t. cond t a k) c in
    ⊎_elim
    (λ (d : ltb a b ≡ true). let z : x ≡ b = j ∙ ap (λ t. cond t b a) d in let n = ltb-true a b d in rw (y, d) (l ∙ ap (λ t. cond (ltb k t) t k) z ∙ ap (λ t. cond t b k) (lt-ltb k b (omega arith))))
    (λ (d : ltb a b ≡ false). let z : x ≡ a = j ∙ ap (λ t. cond t b a) d in rw (y, d) (l ∙ ap (λ t. cond (ltb k t) t k) z ∙ ap (λ t. cond t a k) c)) (test (ltb a b)))
    (λ (c : ltb k a ≡ false).
    let h = ltb-false k a c in
    let y : m ≡ k = i ∙ ap (λ t. cond t a k) c in
    ⊎_elim
    (λ (d : ltb a b ≡ true). let z : x ≡ b = j ∙ ap (λ t. cond t b a) d in rw y (l ∙ ap (λ t. cond (ltb k t) t k) z))
    (λ (d : ltb a b ≡ false).
    let z : x ≡ a = j ∙ ap (λ t. cond t b a) d in
    let n = ltb-false a b d in
    rw (y, le-ltb k b (omega arith)) (l ∙ ap (λ t. cond (ltb k t) t k) z ∙ ap (λ t. cond t a k) c))
    (test (ltb a b)))
    (test (ltb k a))

-- the table with the first records of one state more, or of two
module _ (s : List ℕ) (a : Accepted s) (ends : List ℕ)
    (marked : RunEnds (take (length s - records_at s) (drop (records_at s) s)) ends (length (read_records (take (length s - records_at s) (drop (records_at s) s))))) (q k : ℕ)
    (g : Greatest (take (length s - records_at s) (drop (records_at s) s)) ends q k) (m : ℕ) (i : m ≡ cond (ltb k (get_or ends q 0)) (get_or ends q 0) k) where
  first_is : m ≡ below q (read_records (take (length s - records_at s) (drop (records_at s) s)))
  first_is = greatest_is _ ends (starts_rising s a) marked q k g m i

  pub starts_small : m ≤ 2048
  starts_small = omega (arith, first_is, starts_most s a q)

  pub starts_last : (old now : List ℕ) → now ≡ starts_below s old q → state_count s ≤ q → q ≤ state_count s → set now q (records_at s + 5 * m) ≡ sets old 0 (starts_of s)
  starts_last old now e l h = starts_ended s old _ (q + 1) (starts_next s old now q e m first_is) (omega arith) (omega arith)

  module _ (x : ℕ) (j : x ≡ cond (ltb (get_or ends q 0) (get_or ends (q + 1) 0)) (get_or ends (q + 1) 0) (get_or ends q 0)) (o : ℕ) (l : o ≡ cond (ltb k x) x k) where
    second : o ≡ cond (ltb m (get_or ends (q + 1) 0)) (get_or ends (q + 1) 0) m
    second = greatest_of k (get_or ends q 0) (get_or ends (q + 1) 0) m x o i j l

    between_states : Greatest (take (length s - records_at s) (drop (records_at s) s)) ends (q + 1) m
    between_states = greatest_next _ ends (starts_rising s a) marked q k g m i

    second_is : o ≡ below (q + 1) (read_records (take (length s - records_at s) (drop (records_at s) s)))
    second_is = greatest_is _ ends (starts_rising s a) marked (q + 1) m between_states o second

    two : q + 1 + 1 ≡ q + 2
    two = omega arith

    pub starts_small_too : o ≤ 2048
    starts_small_too = omega (arith, second_is, starts_most s a (q + 1))

    pub starts_two : (old now : List ℕ) → now ≡ starts_below s old q → set (set now q (records_at s + 5 * m)) (q + 1) (records_at s + 5 * o) ≡ starts_below s old (q + 2)
    starts_two old now e = starts_next s old _ (q + 1) (starts_next s old now q e m first_is) o second_is ∙ ap (starts_below s old) two

    pub greatest_two : Greatest (take (length s - records_at s) (drop (records_at s) s)) ends (q + 2) o
    greatest_two = subst (λ (n : ℕ). Greatest (take (length s - records_at s) (drop (records_at s) s)) ends n o) two (greatest_next _ ends (starts_rising s a) marked (q + 1) m between_states o second)

pub starts_none : (s old : List ℕ) → old ≡ starts_below s old 0
unfolding tabulate starts_below
starts_none s old = refl

pub starts_indexed : (s old now : List ℕ) → now ≡ sets old 0 (starts_of s) → state_count s < length old → Indexed s now
unfolding starts_of
starts_indexed s old now e h =
    record {
      long = omega (arith, ap length e ∙ length-sets old 0 (tabulate (suc (state_count s)) (λ p. records_at s + 5 * below p (read s).transitions)));
      at = λ q l. ap (λ x. get_or x q 0) e ∙ table_at old (λ p. records_at s + 5 * below p (read s).transitions) (suc (state_count s)) q (omega arith) (omega arith);
    }

pub ruleset starts_laws = (starts_none, starts_rising, starts_few, starts_ended, ends_begin, greatest_begin, rules)
