-- The laws by which `determinize_accepted` is proved: what the notes of a finished table stand for, and the answers.
use Rattle.std.proofs.Common.{◌≡◌, ℕ, suc, ◌+◌, ◌*◌, ◌<◌, ◌≤◌, Option, Some, None, List, [], ◌∷◌, ◌++◌, map, length, take, drop, sym, refl, ap, ◌∙◌, subst, ap₂, add-one, arith, length-take-le, Ok, Err}
use lib.ListN.{length-map}
use lib.Seq.{sets, sets-eq, take-append_seam}
use Rattle.stores.specs.Written.{Written}
use Rattle.stores.proofs.Written.{written_length}
use Rattle.automata.specs.Automaton.{Transition, Automaton, InBounds}
use Rattle.automata.specs.Records.{read_records, write_records}
use Rattle.automata.proofs.Records.{read_write, length_write}
use Rattle.sets.specs.Sets.{Set}
use Rattle.sets.specs.inner.BitSet.{entries}
use Rattle.sets.proofs.BitSet.{length_entries}
use Rattle.sheets.specs.inner.Accepted.{Accepted}
use Rattle.sheets.specs.Sheet.{state_count, read, write}
use Rattle.sheets.proofs.Meaning.{read_well}
use Rattle.words.specs.Simulation.{kind_of}
use Rattle.refusal.specs.declared.StateRefusal.TheVariants.{States, Transitions}
use Rattle.determinize.specs.declared.exploring.SetCounts.{SetCounts}
use Rattle.determinize.specs.Determinize.{sets_and_sink, subset_automaton, determinize}
use Rattle.determinize.specs.inner.Notes.{notes_from, noted_transition, Canonical, TableFinished, TableResult}
use Rattle.determinize.specs.inner.Attempts.{TableResultWithRoom}
use Rattle.determinize.specs.inner.Sheets.{noted_automaton, sheet_output, determinized_of}
use Rattle.determinize.proofs.Answers.{answer_over, answer_many, answer_given}
use Rattle.determinize.proofs.Notes.{noted_states}

take_sets : (l vs : List ℕ) → length vs ≤ length l → take (length vs) (sets l 0 vs) ≡ vs
take_sets l vs h = ap (take (length vs)) (sets-eq vs l 0 (omega arith)) ∙ take-append_seam vs (drop (0 + length vs) l)

-- a finished table and its notes stand for the automaton of the table
module _ (lower upper : ℕ) (A : Automaton) (ok : InBounds A) (before t r : List ℕ) (n m : ℕ) (f : TableFinished lower upper A before t r n m) where
  T : List Set
  T = entries t n

  all : List Transition
  all = notes_from lower upper A T 0 (sets_and_sink T)

  noted : Written before 0 (write_records all) r (5 * m)
  unfolding all T
  noted = f.noted

  count_all : m ≡ length all
  count_all = omega (arith, noted.behind, length_write all)

  finished_transitions : map (noted_transition (length T)) all ≡ (subset_automaton lower upper A T).transitions
  unfolding all T subset_automaton
  finished_transitions = noted_states lower upper A ok (entries t n) f.whole

  pub finished_count : m ≡ length (subset_automaton lower upper A (entries t n)).transitions
  unfolding T
  finished_count = count_all ∙ sym (length-map all (noted_transition (length T))) ∙ ap length finished_transitions

  notes_read : 5 * m ≤ length before → read_records (take (5 * m) r) ≡ all
  notes_read b =
      let l : 5 * m ≡ length (write_records all) = noted.behind ∙ omega arith in
      let k : take (5 * m) r ≡ write_records all =
      ap (take (5 * m)) noted.stored ∙ ap (λ i. take i (sets before 0 (write_records all))) l ∙ take_sets before (write_records all) (omega arith) in
      ap read_records k ∙ read_write all

  accept_words_lem : (S : List Set) → map (kind_of A) S ++ 0 ∷ [] ≡ map (kind_of A) (S ++ [] ∷ [])
  unfolding kind_of
  accept_words_lem [] = refl
  accept_words_lem (R ∷ S) = ap (λ l. kind_of A R ∷ l) (accept_words_lem S)

  pub finished_sheet : 5 * m ≤ length before → noted_automaton A (entries t n) (read_records (take (5 * m) r)) ≡ subset_automaton lower upper A (entries t n)
  unfolding noted_automaton subset_automaton T sets_and_sink
  finished_sheet b =
      ap₂ (λ x y. record { size = suc (length (entries t n)); start = 0; accept = x; transitions = y }) (accept_words_lem (entries t n))
      (ap (map (noted_transition (length (entries t n)))) (notes_read b) ∙ finished_transitions)

-- the answers of determinizing an accepted sheet
module _ (lower upper : ℕ) (s : List ℕ) (a : Accepted s) (t r : List ℕ) (x : Option SetCounts) (p : TableResultWithRoom lower upper (read s) t r x) where
  pub accepted_over : (o : List ℕ) → x ≡ None → determinized_of (Err States) o ≡ sheet_output o (determinize lower upper (read s))
  unfolding TableResult sheet_output
  accepted_over o e = sym (ap (sheet_output o) (answer_over lower upper (read s) (subst (TableResult lower upper (read s) p.before t r) e p.explored)))

  module _ (c : SetCounts) (e : x ≡ Some c) where
    finished : TableFinished lower upper (read s) p.before t r c.sets c.notes
    unfolding TableResult
    finished = subst (TableResult lower upper (read s) p.before t r) e p.explored

    ok : InBounds (read s)
    ok = (read_well s a).states

    pub accepted_few : c.sets < 256
    accepted_few = finished.few

    pub accepted_canonical : Canonical (state_count s) (entries t c.sets)
    accepted_canonical = finished.canonical

    -- the notes stand at the front: i is the number that the code compares with
    pub accepted_part : (i : ℕ) → c.notes ≤ i → i ≤ 2048 → 5 * c.notes ≡ length (take (5 * c.notes) r)
    accepted_part i g h = sym (length-take-le (5 * c.notes) r (omega (arith, p.room c e (omega arith), written_length p.before r _ 0 (5 * c.notes) finished.noted)))

    pub accepted_room : c.notes ≤ 2048 → length (take (5 * c.notes) r) ≤ 10240
    accepted_room h = omega (arith, accepted_part c.notes (omega arith) h)

    pub accepted_many : (o : List ℕ) (i : ℕ) → i < c.notes → 2048 ≤ i → determinized_of (Err Transitions) o ≡ sheet_output o (determinize lower upper (read s))
    unfolding sheet_output
    accepted_many o i g h =
        let k : 2048 < c.notes = omega arith in
        sym
        (ap (sheet_output o)
        (answer_many lower upper (read s) (entries t c.sets) finished.whole (subst (λ k. 2048 < k) (finished_count lower upper (read s) ok p.before t r c.sets c.notes finished) k)))

    pub accepted_given : c.notes ≤ 2048 → (o o' : List ℕ) (w : ℕ) → Written o 0 (write (noted_automaton (read s) (entries t c.sets) (read_records (take (5 * c.notes) r)))) o' w
        → determinized_of (Ok (record { words = w; states = c.sets + 1 })) o' ≡ sheet_output o (determinize lower upper (read s))
    unfolding sheet_output subset_automaton
    accepted_given h o o' w v =
        let D = subset_automaton lower upper (read s) (entries t c.sets) in
        let u : Written o 0 (write D) o' w = subst (λ E. Written o 0 (write E) o' w) (finished_sheet lower upper (read s) ok p.before t r c.sets c.notes finished (p.room c e h)) v in
        let z : w ≡ length (write D) = u.behind ∙ omega arith in
        let k : c.sets + 1 ≡ suc (length (entries t c.sets)) = add-one c.sets ∙ ap suc (sym (length_entries t c.sets)) in
        rw (u.stored, z, k)
        (sym (ap (sheet_output o) (answer_given lower upper (read s) (entries t c.sets) finished.whole (subst (λ k. k ≤ 2048) (finished_count lower upper (read s) ok p.before t r c.sets c.notes finished) h))))
