-- The answers of the product: the laws by which its public function and those below it are proved.
use Rattle.std.proofs.Common.{Result, Ok, Err}
use Prim.Native.Nat.{ℕ, ◌-◌, ◌*◌, ◌/◌, ◌≤◌, ◌<◌}
use mathlib.Core.Bool.{Bool, true, false, ◌||◌}
use mathlib.Core.List.{List, map}
use mathlib.Core.Path.{◌≡◌, refl, sym, ◌∙◌, ap, subst}
use native.Mathlib.Omega.{arith}
use borrow.Author.Tests.{lt-ltb, le-ltb}
use borrow.Author.Rules.{rules}
use lib.Dec.{ltb}
use lib.ListN.{length, take, replicate, length-replicate}
use lib.Seq.{sets, length-take-le}
use Rattle.lists.specs.Lists.{any, Distinct}
use Rattle.stores.specs.Written.{Written}
use Rattle.automata.specs.Automaton.{Automaton}
use Rattle.automata.specs.Pairs.{Pair}
use Rattle.automata.specs.Records.{write_records}
use Rattle.automata.proofs.Records.{length_write}
use Rattle.automata.specs.WellFormed.{most_states, most_transitions}
use Rattle.labels.specs.Labels.{write_labels}
use Rattle.output.specs.declared.Made.{Made}
use Rattle.refusal.specs.declared.Refusal.{Refusal}
use Rattle.output.specs.inner.Gathering.{Collected}
use Rattle.output.specs.Made.{output_of}
use Rattle.output.specs.Output.{outputs}
use Rattle.output.proofs.Answers.{made_given, made_refused, room_lacking, room_enough}
use Rattle.refusal.specs.declared.InputRefusal.{InputRefusal}
use Rattle.refusal.specs.declared.InputRefusal.TheVariants.{Epsilon}
use Rattle.refusal.specs.declared.Refusal.TheVariants.{Input, State}
use Rattle.refusal.specs.declared.StateRefusal.TheVariants.{OutputLength, States, Transitions}
use Rattle.refusal.specs.Answer.{refused}
use Rattle.search.specs.Search.{found, table}
use Rattle.sheets.specs.inner.Accepted.{Accepted}
use Rattle.sheets.specs.Checked.{checked_number, sheet_first}
use Rattle.sheets.specs.Fault.{fault}
use Rattle.sheets.specs.inner.Runs.{starts_of, IndexedSheet}
use Rattle.sheets.specs.Sheet.{state_count, read, write}
use Rattle.sheets.proofs.Checking.{sheet_passed, sheet_refused}
use Rattle.sheets.proofs.Runs.{starts_indexed}
use Rattle.product.specs.Product.{meeting_pairs, transitions_from, place_in, pair_accept, product_automaton, blocked_at, pair_label_of, product, intersection_answer}
use Rattle.product.specs.inner.Tables.{table_of, Queued, PairsBelow, found_in, sheet_words, Whole}
use Rattle.product.proofs.Answers.{answer_over, answer_blocked, answer_many, answer_given}
use Rattle.product.proofs.Queueing.{length_table}

-- what the code gathers are the transitions of the product
module _ (A B : Automaton) (words : List ℕ) (n : ℕ) where
  module _ (buf : List ℕ) (end : ℕ) (s : Collected buf end (transitions_from (place_in (table_of words n)) A B 0 (table_of words n))) where
    pub product_many : Whole A B (table_of words n) → length buf ≡ 11520 → 10240 < end → product A B ≡ refused 22
    product_many v l h = answer_many A B (table_of words n) v.all v.free (unfold product_automaton in let o = s.over (omega arith) in omega arith)

    module _ (h : end ≤ length buf / 9 * 8) where
      pub part_words : take end buf ≡ write_records (product_automaton A B (table_of words n)).transitions
      unfolding product_automaton
      part_words = let z : end - 0 ≡ end = omega arith in ap (λ e. take e buf) (sym z) ∙ (s.listed h).words

      pub part_count : end ≡ length (take end buf)
      part_count = sym (length-take-le end buf (omega arith))

      pub part_few : length (take end buf) ≤ 10240
      part_few = omega (arith, part_count, s.memory.most)

  -- the records of its transitions are known
  module _ (v : Whole A B (table_of words n)) (records : List ℕ) (e : records ≡ write_records (product_automaton A B (table_of words n)).transitions) (f : length records ≤ 10240) where
    count : length records ≡ 5 * length (product_automaton A B (table_of words n)).transitions
    count = ap length e ∙ length_write _

    sheet : n ≤ length words → sheet_words (map (pair_accept A B) (table_of words n)) n records ≡ write (product_automaton A B (table_of words n))
    unfolding product_automaton
    sheet l =
        let c : length records / 5 ≡ length (product_automaton A B (table_of words n)).transitions = omega (arith, count) in
        rw (c, e, length_table words n l)

    pub product_made : n ≤ length words → (out names out' names' : List ℕ) (x y : ℕ) → Written out 0 (sheet_words (map (pair_accept A B) (table_of words n)) n records) out' x
        → Written names 0 (write_labels (map pair_label_of (table_of words n))) names' y → output_of (Ok (record { words = x; bytes = y })) out' names' ≡ outputs out names (product A B)
    product_made l out names out' names' x y p q =
        let few : length (product_automaton A B (table_of words n)).transitions ≤ most_transitions = omega (arith, count) in
        made_given out names out' names' x y (record { automaton = product_automaton A B (table_of words n); labels = map pair_label_of (table_of words n) }) (subst (λ t. Written out 0 t out' x) (sheet l) p) q
        ∙ ap (outputs out names) (sym (answer_given A B (table_of words n) v.all v.free few))

-- the pairs of states of two accepted sheets
pub within_256 : (a b : List ℕ) → Accepted a → Accepted b → (T : List Pair) → PairsBelow (state_count a) (state_count b) T → PairsBelow 256 256 T
within_256 a b ra rb T w = record { states = λ p m. let h = w.states p m in (omega (arith, h.0, ra.few_states), omega (arith, h.1, rb.few_states)) }

-- the answer of a product of too many transitions, in the words of the code
pub made_many : (out names : List ℕ) (A B : Automaton) → product A B ≡ refused 22 → output_of (Err (State Transitions)) out names ≡ outputs out names (product A B)
made_many out names A B e = made_refused out names (State Transitions) (product A B) e

-- the queue before any pair
unmet : (n : ℕ) (t : List ℕ) → n ≡ 257 → length t ≤ 65536 → Queued (replicate n 0) t 0
unfolding table_of
unmet n t e l =
    record { room = length-replicate {A = ℕ} n 0 ∙ e; bytes = l; few = omega arith; distinct = Distinct.none; numbered = λ f i h. absurd (omega arith) }

pub fresh_queue : (t : List ℕ) → length t ≤ 65536 → Queued (replicate 257 0) t 0
fresh_queue t l = unmet 257 t refl l

-- a table of numbers with a byte for each pair's word
pub table_room : (s : List ℕ) (m : ℕ) → 256 * state_count s ≤ m → 256 * state_count s ≤ length {A = ℕ} (replicate m 0)
table_room s m l = omega (arith, length-replicate {A = ℕ} m 0)

pub fresh_table : (m : ℕ) → m ≤ 65536 → Queued (replicate 257 0) (replicate m 0) 0
fresh_table m l = fresh_queue (replicate m 0) (omega (arith, length-replicate {A = ℕ} m 0))

-- the answers of the search
module _ (A B : Automaton) (words : List ℕ) (n : ℕ) (e : found_in words n ≡ table (meeting_pairs A B) most_states) where
  pub found_over : (out names : List ℕ) → 256 < n → output_of (Err (State States)) out names ≡ outputs out names (product A B)
  unfolding found_in
  found_over out names h = made_refused out names (State States) (product A B) (answer_over A B (sym e ∙ rw (lt-ltb 256 n h)))

  module _ (h : n ≤ 256) (r : Bool) (o : r ≡ any (blocked_at A B) (table_of words n)) where
    found_all : table (meeting_pairs A B) most_states ≡ found (table_of words n)
    unfolding found_in
    found_all = sym e ∙ rw (le-ltb 256 n h)

    pub found_blocked : (out names : List ℕ) → r ≡ true → output_of (Err (Input Epsilon)) out names ≡ outputs out names (product A B)
    found_blocked out names t = made_refused out names (Input Epsilon) (product A B) (answer_blocked A B (table_of words n) found_all (sym o ∙ t))

    pub found_whole : r ≡ false → Whole A B (table_of words n)
    found_whole t = record { all = found_all; free = sym o ∙ t }

pub ruleset found_laws = (found_over, found_blocked)

-- a sheet and where its runs begin
pub runs_ready : (s old runs : List ℕ) → Accepted s → runs ≡ sets old 0 (starts_of s) → length old ≡ 257 → IndexedSheet s runs
runs_ready s old runs a e h = record { accepted = a; indexed = starts_indexed s old runs e (omega (arith, a.few_states)) }

-- the second sheet, the first, and the room for the outputs
module _ (a b : List ℕ) (out names : List ℕ) where
  module _ (r : Result (Unit {0}) InputRefusal) (e : checked_number r ≡ fault b) where
    pub second_passed : r ≡ Ok tt → (x : Result Made Refusal) (out' names' : List ℕ) → output_of x out' names' ≡ outputs out names (product (read a) (read b))
        → output_of x out' names' ≡ outputs out names (sheet_first b (product (read a) (read b)))
    second_passed h x out' names' p = p ∙ ap (outputs out names) (sym (sheet_passed b _ r e h))

    pub second_refused : (i : InputRefusal) → r ≡ Err i → output_of (Err (Input i)) out names ≡ outputs out names (sheet_first b (product (read a) (read b)))
    second_refused i h = made_refused out names (Input i) _ (sheet_refused b _ r e i h)

  pub no_room : (l : Bool) → l ≡ (ltb (length out) 10500 || ltb (length names) 16642) → l ≡ true
      → output_of (Err (State OutputLength)) out names ≡ outputs out names (intersection_answer a b out names)
  unfolding intersection_answer
  no_room l o h = made_refused out names (State OutputLength) _ (room_lacking out names _ l o h)

  module _ (l : Bool) (o : l ≡ (ltb (length out) 10500 || ltb (length names) 16642)) (f : l ≡ false) (r : Result (Unit {0}) InputRefusal) (e : checked_number r ≡ fault a) where
    pub first_passed : r ≡ Ok tt → (x : Result Made Refusal) (out' names' : List ℕ) → output_of x out' names' ≡ outputs out names (sheet_first b (product (read a) (read b)))
        → output_of x out' names' ≡ outputs out names (intersection_answer a b out names)
    unfolding intersection_answer
    first_passed h x out' names' p = p ∙ ap (outputs out names) (sym (room_enough out names _ l o f ∙ sheet_passed a _ r e h))

    pub first_refused : (i : InputRefusal) → r ≡ Err i → output_of (Err (Input i)) out names ≡ outputs out names (intersection_answer a b out names)
    unfolding intersection_answer
    first_refused i h = made_refused out names (Input i) _ (room_enough out names _ l o f ∙ sheet_refused a _ r e i h)

pub ruleset second_laws = (second_passed, second_refused, rules)

pub ruleset first_laws = (no_room, first_passed, first_refused, rules)
