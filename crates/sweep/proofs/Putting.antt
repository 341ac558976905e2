-- The laws by which the events of a sheet are put down and put in order.
use Prim.Native.Nat.{ℕ, zero, suc, ◌+◌, ◌-◌, ◌*◌, ◌/◌, ◌≤◌, ◌<◌}
use mathlib.Core.Bool.{Bool, true, false, cond, not}
use mathlib.Core.List.{List, [], ◌∷◌, ◌++◌, map}
use mathlib.Core.Path.{◌≡◌, refl, sym, ◌∙◌, ap, ap₂, subst}
use native.Mathlib.Omega.{arith}
use borrow.Author.Rules.{rules}
use borrow.Author.Tests.{ne_eqb, not-true, not-false}
use lib.Dec.{eqb}
use lib.ListN.{length, get_or, take, drop, replicate, length-map, length-replicate}
use lib.Seq.{sets-eq, take-append_seam}
use Rattle.lists.specs.Lists.{◌∈◌}
use Rattle.stores.specs.Written.{Written}
use Rattle.lists.proofs.Lists.{map_at, map_ext}
use Rattle.stores.proofs.Left.{Left, left_start, left_done, left_room, left_next}
use Rattle.lists.proofs.Members.{at_in}
use Rattle.stores.proofs.Written.{written_none, written_length}
use Rattle.automata.specs.Automaton.{Transition}
use Rattle.automata.specs.Ordered.{in_order}
use Rattle.automata.specs.Records.{read_records, write_records}
use Rattle.automata.specs.inner.Records.{record_at}
use Rattle.automata.proofs.Ordered.{in_order_out}
use Rattle.std.specs.Simd.{first_chunks}
use Rattle.automata.specs.inner.Chunks.{records_of}
use Rattle.automata.proofs.Chunks.{records_are, records_next, records_done}
use Rattle.automata.proofs.Records.{read_write, length_write, write_append}
use Rattle.output.specs.inner.Ordered.{records_in}
use Rattle.output.specs.inner.Sorting.{Sorted}
use Rattle.output.proofs.Halves.{in_order_length, part_written}
use Rattle.output.proofs.Heads.{listed_in}
use Rattle.sheets.specs.Sheet.{records_at}
use Rattle.sheets.specs.inner.Accepted.{record_count, Accepted}
use Rattle.sweep.specs.inner.Events.{RangeAt, event, event_at, event_of, events_from, events, Timed}
use Rattle.sweep.proofs.Events.{number_opening, number_other, events_out, length_events}

-- `range_of` and `is_range`
module _ (s : List ℕ) (i o : ℕ) (f : o ≡ records_at s + 5 * i) where
  pub range_words : RangeAt s i (get_or s o 0) (get_or s (o + 2) 0) (get_or s (o + 3) 0) (get_or s (o + 4) 0)
  range_words =
      record {
        is_state = ap (λ o. get_or s o 0) f;
        is_first_lem = ap (λ o. get_or s (o + 2) 0) f;
        is_last = ap (λ o. get_or s (o + 3) 0) f;
        is_to = ap (λ o. get_or s (o + 4) 0) f;
      }

  pub range_kind : eqb (get_or s (o + 1) 0) 1 ≡ eqb (get_or s (records_at s + 5 * i + 1) 0) 1
  range_kind = ap (λ o. eqb (get_or s (o + 1) 0) 1) f

-- one record
module _ (k : ℕ) (s : List ℕ) (i : ℕ) (out : List ℕ) (at : ℕ) (b : Bool) (e : b ≡ eqb (get_or s (records_at s + 5 * i + 1) 0) 1) where
  pub event_not : not b ≡ true → Written out at (write_records (event_of k s i)) out at
  unfolding event_of write_records
  event_not n = rw (sym e ∙ not-true b n) (written_none out at)

  module _ (h : not b ≡ false) (q f l t : ℕ) (r : RangeAt s i q f l t) where
    words : write_records (event_of k s i) ≡ cond (eqb k 0) f l ∷ i ∷ q ∷ l ∷ t ∷ []
    unfolding event_of event_at event write_records
    words = rw (sym e ∙ not-false b h, r.is_state, r.is_first_lem, r.is_last, r.is_to)

    pub event_room : at + length (write_records (event_of k s i)) ≤ length out → at + 5 ≤ length out
    event_room g = omega (arith, ap length words)

    module _ (x : ℕ) (m : List ℕ) (y : ℕ) (w : Written out at (x ∷ i ∷ q ∷ l ∷ t ∷ []) m y) where
      pub event_opens : k ≡ 0 → x ≡ f → Written out at (write_records (event_of k s i)) m y
      event_opens z e = rw (words, z) (rw e at w)

      pub event_ends : (k ≡ 0 → ⊥) → x ≡ l → Written out at (write_records (event_of k s i)) m y
      event_ends z e = rw (words, ne_eqb k 0 z) (rw e at w)

pub ruleset event_laws = (event_not, event_room, event_opens, event_ends, number_opening, number_other, rules)

few : (k : ℕ) (s : List ℕ) → Accepted s → length (write_records (events k s)) ≤ 10240
unfolding events
few k s a = omega (arith, length_write (events_from k s (record_count s) 0), length_events k s (record_count s) 0, a.few_records)

-- the records from the number i on are left
module _ (k : ℕ) (s o₀ : List ℕ) where
  pub puts_begin : Left o₀ 0 (write_records (events k s)) o₀ 0 (write_records (events_from k s (record_count s - 0) 0))
  unfolding events
  puts_begin = let z : record_count s - 0 ≡ record_count s = omega arith in rw z (left_start o₀ 0 _)

  module _ (o : List ℕ) (end i : ℕ) (w : Left o₀ 0 (write_records (events k s)) o end (write_records (events_from k s (record_count s - i) i))) where
    pub puts_end : (c : ℕ) → c ≡ record_count s → c ≤ i → Written o₀ 0 (write_records (events k s)) o end
    unfolding events_from write_records
    puts_end c e h = let z : record_count s - i ≡ 0 = omega arith in left_done _ _ _ _ _ _ w (ap (λ m. write_records (events_from k s m i)) z)

    module _ (h : i < record_count s) where
      split : write_records (events_from k s (record_count s - i) i) ≡ write_records (event_of k s i) ++ write_records (events_from k s (record_count s - (i + 1)) (i + 1))
      unfolding events_from
      split =
          let z : record_count s - i ≡ suc (record_count s - (i + 1)) = omega arith in
          let y : suc i ≡ i + 1 = omega arith in
          ap (λ m. write_records (events_from k s m i)) z ∙ write_append (event_of k s i) _
          ∙ ap (λ j. write_records (event_of k s i) ++ write_records (events_from k s (record_count s - (i + 1)) j)) y

      pub puts_room : Accepted s → length o₀ ≡ 10240 → end + length (write_records (event_of k s i)) ≤ length o
      puts_room a l = left_room _ _ _ _ _ _ w (write_records (event_of k s i)) (write_records (events_from k s (record_count s - (i + 1)) (i + 1))) split (omega (arith, few k s a))

      pub puts_next : (o' : List ℕ) (e : ℕ) → Written o end (write_records (event_of k s i)) o' e
          → Left o₀ 0 (write_records (events k s)) o' e (write_records (events_from k s (record_count s - (i + 1)) (i + 1)))
      puts_next o' e v = left_next _ _ _ _ _ _ w _ _ split o' e v

pub ruleset puts_laws = (puts_begin, puts_end, puts_room, puts_next, rules)

-- the numbers of the records from an index on are left
abbrev numbers : List Transition → List ℕ
numbers es = map (λ v. v.kind) es

pub take_begin : (o₀ t : List ℕ) (rs : List (List ℕ)) → rs ≡ first_chunks 5 (length t / 5) t → Left o₀ 0 (map (λ v. v.kind) (read_records t)) o₀ 0 (map (λ v. v.kind) (records_of (drop 0 rs)))
take_begin o₀ t rs q = rw (records_are t rs q) (left_start o₀ 0 _)

module _ (o₀ : List ℕ) (es : List Transition) (rs : List (List ℕ)) (o : List ℕ) (end i : ℕ) (w : Left o₀ 0 (map (λ v. v.kind) es) o end (map (λ v. v.kind) (records_of (drop i rs)))) where
  pub take_end : length rs ≤ i → Written o₀ 0 (map (λ v. v.kind) es) o end
  take_end h = left_done _ _ _ _ _ _ w (ap numbers (records_done rs i h))

  module _ (h : i < length rs) where
    split_numbers : numbers (records_of (drop i rs)) ≡ (get_or (get_or rs i []) 1 0 ∷ []) ++ numbers (records_of (drop (i + 1) rs))
    split_numbers = ap numbers (records_next rs i h)

    pub take_room : length es ≤ length o₀ → end + 1 ≤ length o
    take_room l = left_room _ _ _ _ _ _ w (get_or (get_or rs i []) 1 0 ∷ []) (numbers (records_of (drop (i + 1) rs))) split_numbers (omega (arith, length-map es (λ v. v.kind)))

    pub take_next : (o' : List ℕ) (e : ℕ) → Written o end (get_or (get_or rs i []) 1 0 ∷ []) o' e
        → Left o₀ 0 (map (λ v. v.kind) es) o' e (map (λ v. v.kind) (records_of (drop (i + 1) rs)))
    take_next o' e v = left_next _ _ _ _ _ _ w _ _ split_numbers o' e v

pub ruleset take_laws = (take_begin, take_end, take_room, take_next, rules)

-- all of it
module _ (k : ℕ) (s : List ℕ) (a : Accepted s) (m : List ℕ) (end : ℕ) (w : Written (replicate 10240 0) 0 (write_records (events k s)) m end) where
  l : length {A = ℕ} (replicate 10240 0) ≡ 10240
  l = length-replicate {A = ℕ} 10240 0

  pub order_sort : 0 + 5 * (end / 5) ≤ length m
  order_sort = omega (arith, w.behind, written_length _ _ _ _ _ w, few k s a, l)

  pub order_scratch : (x : List ℕ) → length x ≡ 10240 → length m ≤ length x
  order_scratch x h = omega (arith, written_length _ _ _ _ _ w, l)

  whole : records_in m 0 (0 + 5 * (end / 5)) ≡ events k s
  unfolding records_in
  whole =
      let n : 0 + 5 * (end / 5) ≡ end = omega (arith, w.behind, length_write (events k s)) in
      rw n (ap read_records (part_written (replicate 10240 0) m (write_records (events k s)) 0 end w (omega (arith, few k s a, w.behind, l))) ∙ read_write _)

  module _ (n : List ℕ) (x : ℕ) (q : Sorted m 0 (end / 5) n x) where
    sorted : read_records (take (x - 0) (drop 0 n)) ≡ in_order (events k s)
    unfolding records_in
    sorted = listed_in n 0 x _ q.listed ∙ ap in_order whole

    pub order_inside : x ≤ length n
    order_inside = q.listed.inside

    few_sorted : length (in_order (events k s)) ≤ 2048
    unfolding events
    few_sorted = omega (arith, in_order_length (events_from k s (record_count s) 0), length_events k s (record_count s) 0, a.few_records)

    pub order_room : (ev : List ℕ) → length ev ≡ 2048 → length (read_records (take (x - 0) (drop 0 n))) ≤ length ev
    order_room ev h = rw sorted (omega (arith, few_sorted))

    -- the numbers of the events in order
    out : (v : Transition) → v ∈ in_order (events k s) → (v.kind < record_count s) × (event_at k s v.kind ≡ v)
    unfolding events event_at event
    out v i =
        let r = events_out k s (record_count s) 0 v (in_order_out v (events k s) i) in
        let z : v.kind ≡ r.0 = ap (λ y. y.kind) r.3 in
        (omega (arith, r.1), ap (event_at k s) z ∙ sym r.3)

    again : map (event_at k s) (numbers (in_order (events k s))) ≡ in_order (events k s)
    again = map_ext (event_at k s) (λ v. v.kind) (λ v. v) (in_order (events k s)) (λ v i. (out v i).1) ∙ map_self (in_order (events k s))
      where
        map_self : (l : List Transition) → map (λ v. v) l ≡ l
        map_self [] = refl
        map_self (v ∷ l) = ap (λ m. v ∷ m) (map_self l)

    pub order_timed : (ev u : List ℕ) (y : ℕ) → length ev ≡ 2048 → Written ev 0 (map (λ v. v.kind) (read_records (take (x - 0) (drop 0 n)))) u y → Timed k s u y
    order_timed ev u y h v =
        let ns = numbers (in_order (events k s)) in
        let w' : Written ev 0 ns u y = subst (λ es. Written ev 0 (numbers es) u y) sorted v in
        let c : length ns ≡ length (in_order (events k s)) = length-map (in_order (events k s)) (λ v. v.kind) in
        let b : y ≡ length ns = w'.behind ∙ omega arith in
        let t : take y u ≡ ns =
        ap (take y) (w'.stored ∙ sets-eq ns ev 0 (omega (arith, few_sorted))) ∙ ap (λ i. take i (ns ++ drop (0 + length ns) ev)) b ∙ take-append_seam ns (drop (0 + length ns) ev) in
        record {
          inside = omega (arith, written_length _ _ _ _ _ w', few_sorted);
          lined = rw t
              (record {
                ordered = again;
                numbers = record {
                  below = λ j i.
                      let d = at_in (in_order (events k s)) j (event 0 0 (record_at s 0)) (omega arith) in
                      omega (arith, map_at (λ v. v.kind) (in_order (events k s)) j (event 0 0 (record_at s 0)) 0 (omega arith), (out _ d).0);
                };
              });
        }

pub ruleset order_laws = (order_sort, order_scratch, order_inside, order_room, order_timed, rules)

-- for each number but 0 the events are the endings
module _ (k : ℕ) (n : k ≡ 0 → ⊥) (s : List ℕ) where
  ending_at : (i : ℕ) → event_at k s i ≡ event_at 1 s i
  unfolding event_at event
  ending_at i = rw (ne_eqb k 0 n) refl

  ending_of : (i : ℕ) → event_of k s i ≡ event_of 1 s i
  unfolding event_of
  ending_of i = ap (λ v. cond (eqb (get_or s (records_at s + 5 * i + 1) 0) 1) (v ∷ []) []) (ending_at i)

  endings_from : (m i : ℕ) → events_from k s m i ≡ events_from 1 s m i
  unfolding events_from
  endings_from zero i = refl
  endings_from (suc m) i = ap₂ ◌++◌ (ending_of i) (endings_from m (suc i))

  endings_at : (ev : List ℕ) → map (event_at k s) ev ≡ map (event_at 1 s) ev
  endings_at [] = refl
  endings_at (i ∷ ev) = ap₂ ◌∷◌ (ending_at i) (endings_at ev)

  pub ending_timed : (ev : List ℕ) (end : ℕ) → Timed 1 s ev end → Timed k s ev end
  unfolding events
  ending_timed ev end t =
      record {
        inside = t.inside;
        lined = record { ordered = endings_at (take end ev) ∙ t.lined.ordered ∙ ap in_order (sym (endings_from (record_count s) 0)); numbers = t.lined.numbers };
      }

pub opening_timed : (k : ℕ) → k ≡ 0 → (s ev : List ℕ) (end : ℕ) → Timed 0 s ev end → Timed k s ev end
opening_timed k e s ev end t = rw e t
