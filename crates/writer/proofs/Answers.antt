-- The answers of the call, in the order in which refusals are sought.
use Prim.Native.Nat.{ℕ, ◌-◌, ◌≤◌, ◌<◌}
use mathlib.Core.Bool.{Bool, true, false, not, ◌&&◌, ◌||◌}
use mathlib.Core.List.{List, map}
use mathlib.Core.Path.{◌≡◌, refl, sym, ◌∙◌, ap, subst}
use native.Mathlib.Omega.{arith}
use borrow.Author.Rules.{rules}
use borrow.Author.Tests.{not-true, not-false, lt-ltb, le-ltb, eq-eqb, ne_eqb}
use lib.Dec.{ltb}
use lib.ListN.{length, get_or, take, drop}
use Rattle.std.specs.Prelude.{Result, Ok, Err}
use Rattle.lists.specs.Lists.{◌∈◌, all}
use Rattle.lists.proofs.Lists.{length_filter}
use Rattle.lists.proofs.Members.{at_in}
use Rattle.lists.proofs.Parts.{part_all}
use Rattle.automata.specs.Automaton.{accept_of, has_epsilon}
use Rattle.automata.specs.Records.{read_records}
use Rattle.labels.specs.Checked.{checked_number}
use Rattle.labels.specs.Labels.{label_count, labels_fault}
use Rattle.output.specs.Output.{label_of, read_pattern, labels_first}
use Rattle.output.proofs.Left.{front_written}
use Rattle.output.proofs.Answers.{labels_accepted, labels_passed, labels_refused}
use Rattle.parser.proofs.Memory.{zeros}
use Rattle.refusal.specs.Answer.{Answer, refused, given}
use Rattle.refusal.specs.Number.{number_of}
use Rattle.refusal.specs.declared.InputRefusal.{InputRefusal}
use Rattle.refusal.specs.declared.InputRefusal.TheVariants.{EpsilonRecord, NoAcceptingState, Names}
use Rattle.refusal.specs.declared.Refusal.{Refusal}
use Rattle.refusal.specs.declared.Refusal.TheVariants.{Input, State}
use Rattle.refusal.specs.declared.StateRefusal.TheVariants.{OutputLength}
use Rattle.sheets.specs.Fault.{fault}
use Rattle.sheets.specs.Sheet.{state_count, records_at, read}
use Rattle.sheets.specs.inner.Accepted.{Accepted}
use Rattle.sheets.proofs.Checking.{sheet_passed, sheet_refused}
use Rattle.stores.specs.Written.{Written}
use Rattle.stores.proofs.Written.{written_length}
use Rattle.writer.specs.Text.{written_states, accepting_states, pattern_text, is_name, has_twice, text_size, epsilon_first, accepting_first, names_first, pattern_answer, write_answer, write_outcome}
use Rattle.writer.specs.Wrote.{wrote_of}
use Rattle.writer.specs.inner.Parts.{are_names}
use Rattle.writer.specs.inner.Tables.{StatesBelow, TextTables, state_labels, accepting_among}
use Rattle.writer.proofs.Gathering.{written_few, written_in}
use Rattle.writer.proofs.TextParts.{ready_count}

-- a text at the front of the buffer, and a refusal that leaves the buffer as it was
wrote_text : (o o' t : List ℕ) (n : ℕ) → Written o 0 t o' n → wrote_of (Ok n) o' ≡ write_outcome o (given t)
unfolding write_outcome
wrote_text o o' t n w =
    let e : n ≡ length t = omega (arith, w.behind) in
    rw (w.stored, e)

wrote_refused : (o : List ℕ) (x : Refusal) (a : Answer (List ℕ)) → a ≡ refused (number_of x) → wrote_of (Err x) o ≡ write_outcome o a
unfolding write_outcome
wrote_refused o x a e = rw e

-- 32
bad : (t a l : Bool) → (not t && a) ≡ false → (t || (not a || l)) ≡ true
bad true a l h = refl
bad false true l h = absurd (let z : ◌≡◌ {A = ℕ} 0 1 = cc in omega arith)
bad false false l h = refl

good : (t a l : Bool) → (not t && a) ≡ true → (t || (not a || l)) ≡ l
good true a l h = absurd (let z : ◌≡◌ {A = ℕ} 0 1 = cc in omega arith)
good false true l h = refl
good false false l h = absurd (let z : ◌≡◌ {A = ℕ} 0 1 = cc in omega arith)

module _ (s b ws qs : List ℕ) (k : TextTables s b qs) (w : ws ≡ written_states (read s)) where
  pub names_below : StatesBelow (label_count b) ws
  names_below = record { at = λ i h. omega (arith, ready_count s b qs k, written_in s (get_or ws i 0) (subst (λ (l : List ℕ). get_or ws i 0 ∈ l) w (at_in ws i 0 h))) }

  pub names_few : length ws ≤ 256
  names_few = omega (arith, ap length w, written_few s, k.sheet.few_states)

  module _ (r : Bool) (e : r ≡ are_names (state_labels b ws)) where
    same : r ≡ (not (has_twice (map (label_of (read_pattern s b)) (written_states (read s)))) && all is_name (map (label_of (read_pattern s b)) (written_states (read s))))
    unfolding are_names state_labels
    same = e ∙ ap (λ (l : List ℕ). are_names (state_labels b l)) w

    pub names_refused : not r ≡ true → (o : List ℕ) → wrote_of (Err (Input Names)) o ≡ write_outcome o (names_first (read_pattern s b) (given (pattern_text (read_pattern s b))))
    unfolding names_first
    names_refused t o =
        let z = bad (has_twice (map (label_of (read_pattern s b)) (written_states (read s)))) _ (ltb text_size (length (pattern_text (read_pattern s b)))) (sym same ∙ not-true r t) in
        wrote_refused o (Input Names) _ (rw z)

    module _ (t : not r ≡ false) (n : ℕ) (f : n ≡ length (pattern_text (read_pattern s b))) where
      passed : (has_twice (map (label_of (read_pattern s b)) (written_states (read s))) ||
          (not (all is_name (map (label_of (read_pattern s b)) (written_states (read s)))) || ltb text_size (length (pattern_text (read_pattern s b)))))
          ≡ ltb text_size n
      passed =
          good (has_twice (map (label_of (read_pattern s b)) (written_states (read s)))) _ (ltb text_size (length (pattern_text (read_pattern s b)))) (sym same ∙ not-false r t)
          ∙ ap (ltb text_size) (sym f)

      pub long_refused : 65536 < n → (o : List ℕ) → wrote_of (Err (Input Names)) o ≡ write_outcome o (names_first (read_pattern s b) (given (pattern_text (read_pattern s b))))
      unfolding names_first
      long_refused h o = wrote_refused o (Input Names) _ (rw (passed ∙ lt-ltb text_size n h))

      pub text_fits : n ≤ 65536 → (o : List ℕ) → text_size ≤ length o → length (pattern_text (read_pattern s b)) ≤ length o
      text_fits h o l = omega (arith, f)

      pub names_given : n ≤ 65536 → (o o' : List ℕ) (x : ℕ) → Written o 0 (pattern_text (read_pattern s b)) o' x
          → wrote_of (Ok x) o' ≡ write_outcome o (names_first (read_pattern s b) (given (pattern_text (read_pattern s b))))
      unfolding names_first
      names_given h o o' x v = wrote_text o o' _ x v ∙ ap (write_outcome o) (sym (rw (passed ∙ le-ltb text_size n h)))

pub ruleset ready_write_laws = (names_below, names_few, names_refused, long_refused, text_fits, names_given, rules)

-- what stands at the front of a list after states were gathered there
module _ (l v m : List ℕ) (n : ℕ) (w : Written l 0 v m n) (h : length v ≤ length l) where
  front : take (n - 0) (drop 0 m) ≡ v
  front =
      let e : n - 0 ≡ length v = omega (arith, w.behind) in
      ap (λ (x : ℕ). take x m) e ∙ ap (take (length v)) w.stored ∙ front_written l v h

-- the written states, gathered in ws, and those that accept, gathered in qs
module _ (s l ws : List ℕ) (n : ℕ) (a : Accepted s) (w : Written l 0 (written_states (read s)) ws n) (h : length l ≡ 256) where
  pub gathered_end : n ≤ length ws
  gathered_end = omega (arith, h, written_length l ws _ 0 n w, w.behind, written_few s, a.few_states)

  pub gathered_states : take (n - 0) (drop 0 ws) ≡ written_states (read s)
  gathered_states = front l (written_states (read s)) ws n w (omega (arith, written_few s, a.few_states))

  pub gathered_below : StatesBelow (state_count s) (take (n - 0) (drop 0 ws))
  gathered_below = rw gathered_states (record { at = λ i k. written_in s _ (at_in (written_states (read s)) i 0 k) })

  pub gathered_few : length (take (n - 0) (drop 0 ws)) ≤ 256
  gathered_few = rw gathered_states (omega (arith, written_few s, a.few_states))

  module _ (m qs : List ℕ) (k : ℕ) (v : Written m 0 (accepting_among (read s) (take (n - 0) (drop 0 ws))) qs k) (g : length m ≡ 256) where
    among : accepting_among (read s) (take (n - 0) (drop 0 ws)) ≡ accepting_states (read s)
    unfolding accepting_among accepting_states
    among = ap (accepting_among (read s)) gathered_states

    count : k ≡ length (accepting_states (read s))
    count = omega (arith, v.behind, ap length among)

    accepting_few : length (accepting_states (read s)) ≤ length (written_states (read s))
    unfolding accepting_states
    accepting_few = length_filter (λ q. ltb 0 (accept_of (read s) q)) (written_states (read s))

    pub accepting_end : k ≤ length qs
    accepting_end = omega (arith, g, written_length m qs _ 0 k v, count, accepting_few, written_few s, a.few_states)

    accepting_states_lem : take (k - 0) (drop 0 qs) ≡ accepting_states (read s)
    accepting_states_lem = front m _ qs k v (omega (arith, ap length among, accepting_few, written_few s, a.few_states)) ∙ among

    pub none_accepting : (x : Answer (List ℕ)) → k ≡ 0 → (o : List ℕ) → wrote_of (Err (Input NoAcceptingState)) o ≡ write_outcome o (accepting_first (read s) x)
    unfolding accepting_first
    none_accepting x e o =
        let z : length (accepting_states (read s)) ≡ 0 = sym count ∙ e in
        wrote_refused o (Input NoAcceptingState) _ (rw (eq-eqb (length (accepting_states (read s))) 0 z))

    module _ (e : k ≡ 0 → ⊥) where
      pub some_accepting : (x : Answer (List ℕ)) (o o' : List ℕ) (r : Result ℕ Refusal) → wrote_of r o' ≡ write_outcome o x → wrote_of r o' ≡ write_outcome o (accepting_first (read s) x)
      unfolding accepting_first
      some_accepting x o o' r y = y ∙ ap (write_outcome o) (sym (rw (ne_eqb (length (accepting_states (read s))) 0 (λ z. e (count ∙ z)))))

      pub ready : (b : List ℕ) → labels_fault (state_count s) b ≡ 0 → TextTables s b (take (k - 0) (drop 0 qs))
      ready b f =
          record { sheet = a; labels = f; accepting = accepting_states_lem; some = let z : k ≡ 0 → ⊥ = e in omega (arith, count, ap length accepting_states_lem) }

pub ruleset marked_laws = (gathered_end, gathered_states, gathered_below, gathered_few, accepting_end, none_accepting, some_accepting, ready, rules)

-- 30
module _ (s b : List ℕ) (r : Bool) (e : r ≡ has_epsilon (read_records (take (length s - records_at s) (drop (records_at s) s)))) where
  same_records : r ≡ has_epsilon (read s).transitions
  same_records = e ∙ ap (λ (l : List ℕ). has_epsilon (read_records l)) (part_all (records_at s) s)

  pub epsilon_refused : r ≡ true → (o : List ℕ) → wrote_of (Err (Input EpsilonRecord)) o ≡ write_outcome o (pattern_answer (read_pattern s b))
  unfolding pattern_answer epsilon_first
  epsilon_refused t o = wrote_refused o (Input EpsilonRecord) _ (rw (sym same_records ∙ t))

  pub epsilon_passed : r ≡ false → (o o' : List ℕ) (x : Result ℕ Refusal)
      → wrote_of x o' ≡ write_outcome o (accepting_first (read s) (names_first (read_pattern s b) (given (pattern_text (read_pattern s b)))))
      → wrote_of x o' ≡ write_outcome o (pattern_answer (read_pattern s b))
  unfolding pattern_answer epsilon_first
  epsilon_passed t o o' x y = y ∙ ap (write_outcome o) (sym (rw (sym same_records ∙ t)))

pub ruleset pattern_laws = (zeros, epsilon_refused, epsilon_passed, rules)

-- 10
module _ (s b : List ℕ) (r : Result (Unit {0}) InputRefusal) (e : checked_number r ≡ labels_fault (state_count s) b) where
  pub labels_written : r ≡ Ok tt → (o o' : List ℕ) (x : Result ℕ Refusal) → wrote_of x o' ≡ write_outcome o (pattern_answer (read_pattern s b))
      → wrote_of x o' ≡ write_outcome o (labels_first (state_count s) b (pattern_answer (read_pattern s b)))
  labels_written h o o' x y = y ∙ ap (write_outcome o) (sym (labels_passed (state_count s) b _ r e h))

  pub labels_faulty : (i : InputRefusal) → r ≡ Err i → (o : List ℕ)
      → wrote_of (Err (Input i)) o ≡ write_outcome o (labels_first (state_count s) b (pattern_answer (read_pattern s b)))
  labels_faulty i h o = wrote_refused o (Input i) _ (labels_refused (state_count s) b _ r e i h)

pub ruleset labels_write_laws = (labels_accepted, labels_written, labels_faulty, rules)

-- 20, and the sheet's faults
module _ (s b o : List ℕ) where
  pub buffer_short : length o < 65536 → wrote_of (Err (State OutputLength)) o ≡ write_outcome o (write_answer s b o)
  unfolding write_answer
  buffer_short h = wrote_refused o (State OutputLength) _ (rw (lt-ltb (length o) text_size h))

  module _ (l : 65536 ≤ length o) (r : Result (Unit {0}) InputRefusal) (e : checked_number r ≡ fault s) where
    pub sheet_written : r ≡ Ok tt → (o' : List ℕ) (x : Result ℕ Refusal) → wrote_of x o' ≡ write_outcome o (labels_first (state_count s) b (pattern_answer (read_pattern s b)))
        → wrote_of x o' ≡ write_outcome o (write_answer s b o)
    unfolding write_answer
    sheet_written h o' x y = y ∙ ap (write_outcome o) (sym (rw (le-ltb (length o) text_size l) (sheet_passed s _ r e h)))

    pub sheet_faulty : (i : InputRefusal) → r ≡ Err i → wrote_of (Err (Input i)) o ≡ write_outcome o (write_answer s b o)
    unfolding write_answer
    sheet_faulty i h = wrote_refused o (Input i) _ (rw (le-ltb (length o) text_size l) (sheet_refused s _ r e i h))

pub ruleset sheet_write_laws = (buffer_short, sheet_written, sheet_faulty, rules)
