-- Sheets and automata: an accepted sheet reads as a well-formed automaton, and each of reading and writing undoes the other.
use Prim.Native.Nat.{ℕ, zero, suc, ◌+◌, ◌*◌, ◌≤◌, ◌<◌}
use mathlib.Core.Bool.{Bool, true, false, not, ◌&&◌, true≢false}
use mathlib.Core.List.Memᴰ
use mathlib.Core.List.{List, [], ◌∷◌, ◌++◌}
use mathlib.Core.Logic.{⊎_elim}
use mathlib.Core.Path.{◌≡◌, refl, sym, ap, ap₂, ◌∙◌, subst}
use native.Mathlib.Omega.{arith}
use borrow.Author.Tests.{ltb-false, leb-true, leb-false, eqb-true, le-ltb, le-leb, lt-leb, eq-eqb, ne_eqb}
use lib.Dec.{leb, ltb, eqb}
use lib.ListN.{length, get_or, take, drop, length-append, length-drop, length-take, take-append-drop}
use lib.Seq.{drop-cons, drop-drop, take_at, drop_at}
use Rattle.lists.specs.Lists.{◌∈◌, Ascending, none, more}
use Rattle.lists.proofs.Tests.{test, and_parts, and_both, or_false, cond_no, cond_yes}
use Rattle.automata.specs.Automaton.{Transition, Automaton}
use Rattle.automata.specs.Records.{words_of, read_records, write_records}
use Rattle.automata.specs.Ordered.{less}
use Rattle.automata.specs.WellFormed.{Before, Sound, WellFormed, Fits}
use Rattle.automata.proofs.Ordered.{less_lex, lex_less, lex_trans}
use Rattle.automata.proofs.Records.{read_write, write_read, length_write, length_read}
use Rattle.sheets.specs.Sheet.{state_count, records_at, read, write}
use Rattle.sheets.specs.inner.Accepted.{record_count, Accepted}
use Rattle.sheets.specs.Fault.{accept_words, or_else, is_bad, record_fault, records_fault, transitions_fault, states_fault, fault}

or_else_zero : (f g : ℕ) → or_else f g ≡ 0 → (f ≡ 0) × (g ≡ 0)
or_else_zero zero g e = (refl, e)
or_else_zero (suc f) g e = absurd (omega arith)

-- what a record that is not bad is
pub record ProperRecord (n : ℕ) (e : Transition) : Type 0 where
  pub from_in : e.from < n
  pub to_in : e.to < n
  pub sound : Sound e

blank_tests : (k x y : Bool) → k ≡ true → (k && not (x && y)) ≡ false → (x ≡ true) × (y ≡ true)
blank_tests true true true a b = (refl, refl)
blank_tests true true false a b = absurd (true≢false b)
blank_tests true false y a b = absurd (true≢false b)
blank_tests false x y a b = absurd (true≢false (sym a))

pub bad_not : (n : ℕ) (e : Transition) → is_bad n e ≡ false → ProperRecord n e
unfolding is_bad
bad_not n e h =
    let a = or_false _ (eqb e.kind 0 && not (eqb e.first 0 && eqb e.last 0)) h in
    let b = or_false _ (ltb e.last e.first) a.0 in
    let c = or_false _ (leb n e.to) b.0 in
    let d = or_false _ (leb n e.from) c.0 in
    let blank : (e.kind ≡ 0) → (e.first ≡ 0) × (e.last ≡ 0) =
    λ k. let t = blank_tests _ _ _ (eq-eqb _ _ k) a.1 in (eqb-true _ _ t.0, eqb-true _ _ t.1) in
    record {
      from_in = leb-false _ _ d.1;
      to_in = leb-false _ _ c.1;
      sound = record { known = ltb-false _ _ d.0; full = ltb-false _ _ b.1; blank = blank };
    }

pub good_not : (n : ℕ) (e : Transition) → ProperRecord n e → is_bad n e ≡ false
unfolding is_bad
good_not n e g =
    rw (le-ltb 1 e.kind g.sound.known, lt-leb n e.from g.from_in, lt-leb n e.to g.to_in, le-ltb e.last e.first g.sound.full)
    (⊎_elim
    (λ (t : eqb e.kind 0 ≡ true). let b = g.sound.blank (eqb-true _ _ t) in rw (t, eq-eqb e.first 0 b.0, eq-eqb e.last 0 b.1))
    (λ (t : eqb e.kind 0 ≡ false). rw t)
    (test (eqb e.kind 0)))

record_pass : (n : ℕ) (before : List ℕ) (e : Transition) → record_fault n before e ≡ 0 → ProperRecord n e × (less before (words_of e) ≡ true)
unfolding record_fault
record_pass n before e h =
    let p = cond_no (is_bad n e) 4 _ h in
    (bad_not n e p.0, (cond_yes (less before (words_of e)) 5 0 p.1).0)

-- records that pass are good, and ascend
records_good : (n : ℕ) (before : List ℕ) (es : List Transition) → records_fault n before es ≡ 0 → (e : Transition) → e ∈ es → ProperRecord n e
unfolding records_fault
records_good n before [] h e m = elim m [ ]
records_good n before (d ∷ es) h e (Memᴰ.head q) = subst (ProperRecord n) (sym q) (record_pass n before d (or_else_zero (record_fault n before d) _ h).0).0
records_good n before (d ∷ es) h e (Memᴰ.tail m) = records_good n (words_of d) es (or_else_zero (record_fault n before d) _ h).1 e m

records_ascend : (n : ℕ) (d : Transition) (es : List Transition) → records_fault n (words_of d) es ≡ 0 → ((e : Transition) → e ∈ es → Before d e) × Ascending Before es
unfolding records_fault
records_ascend n d [] h = (λ e m. elim m [ ], none)
records_ascend n d (e ∷ es) h =
    let z = or_else_zero (record_fault n (words_of d) e) _ h in
    let r = records_ascend n e es z.1 in
    let b : Before d e = less_lex _ _ refl (record_pass n (words_of d) e z.0).1 in
    (first b r.0, more r.0 r.1)
  where
    first : Before d e → ((y : Transition) → y ∈ es → Before e y) → (y : Transition) → y ∈ (e ∷ es) → Before d y
    first b f y (Memᴰ.head q) = subst (Before d) (sym q) b
    first b f y (Memᴰ.tail m) = lex_trans b (f y m)

all_ascend : (n : ℕ) (es : List Transition) → records_fault n [] es ≡ 0 → Ascending Before es
unfolding records_fault
all_ascend n [] h = none
all_ascend n (e ∷ es) h = let r = records_ascend n e es (or_else_zero (record_fault n [] e) _ h).1 in more r.0 r.1

-- and records that are good and ascend pass
records_pass : (n : ℕ) (before : List ℕ) (es : List Transition) → ((e : Transition) → e ∈ es → ProperRecord n e) → Ascending Before es
    → ((e : Transition) → e ∈ es → less before (words_of e) ≡ true) → records_fault n before es ≡ 0
unfolding records_fault record_fault
records_pass n before [] g a l = refl
records_pass n before (e ∷ es) g (more f a) l =
    rw (good_not n e (g e (Memᴰ.head refl)), l e (Memᴰ.head refl))
    (records_pass n (words_of e) es (λ d m. g d (Memᴰ.tail m)) a (λ d m. lex_less (f d m)))

accept_at : (xs : List ℕ) → accept_words xs ≡ true → (q : ℕ) → get_or xs q 0 ≤ 1
accept_at [] h q = omega arith
accept_at (x ∷ xs) h zero = leb-true _ _ (and_parts (leb x 1) _ h).0
accept_at (x ∷ xs) h (suc q) = accept_at xs (and_parts (leb x 1) _ h).1 q

accept_all : (xs : List ℕ) → ((q : ℕ) → get_or xs q 0 ≤ 1) → accept_words xs ≡ true
accept_all [] h = refl
accept_all (x ∷ xs) h = and_both _ _ (le-leb x 1 (h 0)) (accept_all xs (λ q. h (suc q)))

module _ (s : List ℕ) (a : Accepted s) where
  records_length : length (drop (records_at s) s) ≡ 5 * record_count s
  records_length = simp length-drop (omega (arith, a.whole))

  -- an accepted sheet reads as a well-formed automaton
  pub read_well : WellFormed (read s)
  read_well =
      let g = records_good (state_count s) [] _ a.records in
      record {
        states = record { starts = a.start; froms = λ e m. (g e m).from_in; tos = λ e m. (g e m).to_in };
        accepts = simp (length-take, length-drop) (omega (arith, a.whole));
        accept_words_lem = accept_at (take (state_count s) (drop 3 s)) a.accept_words_lem;
        sound = λ e m. (g e m).sound;
        ascends = all_ascend (state_count s) _ a.records;
      }

  pub read_fits : Fits (read s)
  read_fits = record { few_states = a.few_states; few_transitions_lem = rw (length_read (record_count s) (drop (records_at s) s) records_length) a.few_records }

  behind : drop (state_count s) (drop 3 s) ≡ record_count s ∷ drop (records_at s) s
  behind =
      let three : 3 + state_count s ≡ state_count s + 3 = omega arith in
      let four : suc (state_count s + 3) ≡ records_at s = omega arith in
      drop-drop (state_count s) 3 s ∙ ap (λ k. drop k s) three ∙ drop-cons s (state_count s + 3) 0 (omega (arith, a.whole)) ∙ ap (λ k. record_count s ∷ drop k s) four

  -- writing undoes reading
  pub write_read_sheet : write (read s) ≡ s
  write_read_sheet =
      ap₂ (λ m l. 1 ∷ get_or s 1 0 ∷ state_count s ∷ (take (state_count s) (drop 3 s) ++ (m ∷ l)))
      (length_read (record_count s) (drop (records_at s) s) records_length) (write_read (record_count s) (drop (records_at s) s) records_length)
      ∙ ap (λ l. 1 ∷ get_or s 1 0 ∷ state_count s ∷ (take (state_count s) (drop 3 s) ++ l)) (sym behind)
      ∙ ap (λ l. 1 ∷ get_or s 1 0 ∷ state_count s ∷ l) (take-append-drop (state_count s) (drop 3 s))
      ∙ front s (omega (arith, a.whole)) a.one_start
    where
      front : (s : List ℕ) → 3 ≤ length s → get_or s 0 0 ≡ 1 → 1 ∷ get_or s 1 0 ∷ state_count s ∷ drop 3 s ≡ s
      front [] l h = absurd (omega arith)
      front (x ∷ []) l h = absurd (omega arith)
      front (x ∷ y ∷ []) l h = absurd (omega arith)
      front (x ∷ y ∷ z ∷ s) l h = ap (λ k. k ∷ y ∷ z ∷ s) (sym h)

module _ (A : Automaton) (h : length A.accept ≡ A.size) where
  accept_front : take A.size (A.accept ++ (length A.transitions ∷ write_records A.transitions)) ≡ A.accept
  accept_front = take_at A.accept _ A.size h

  accept_behind : drop A.size (A.accept ++ (length A.transitions ∷ write_records A.transitions)) ≡ length A.transitions ∷ write_records A.transitions
  accept_behind = drop_at A.accept _ A.size h

  -- reading undoes writing
  pub read_write_sheet : read (write A) ≡ A
  read_write_sheet =
      let four : A.size + 4 ≡ suc (suc (suc (A.size + 1))) = omega arith in
      ap₂ (λ x y. record { size = A.size; start = A.start; accept = x; transitions = y }) accept_front
      (ap (λ k. read_records (drop k (write A))) four ∙ ap read_records (sym (drop-drop 1 A.size _) ∙ ap (drop 1) accept_behind) ∙ read_write A.transitions)

-- a well-formed automaton within the limits is written as an accepted sheet
pub write_accepted : (A : Automaton) → WellFormed A → Fits A → fault (write A) ≡ 0
unfolding fault states_fault transitions_fault
write_accepted A w f =
    let size = A.size in
    let ts = A.transitions in
    let some = w.states.starts in
    let long = length-append A.accept (length ts ∷ write_records ts) in
    let pass = records_pass size [] ts (λ e m. record { from_in = w.states.froms e m; to_in = w.states.tos e m; sound = w.sound e m }) w.ascends (λ e m. refl) in
    rw (
      ne_eqb size 0 (λ z. omega arith),
      le-ltb 256 size f.few_states,
      le-ltb (length (A.accept ++ (length ts ∷ write_records ts))) size (omega (arith, long, w.accepts)),
      lt-leb size A.start some,
      accept_front A w.accepts,
      accept_all A.accept w.accept_words_lem,
      accept_behind A w.accepts,
      le-ltb 2048 (length ts) f.few_transitions_lem,
      eq-eqb (length (write_records ts)) (5 * length ts) (length_write ts),
      read_write ts,
    )
    pass

-- the sheet of an automaton within the limits fits an output of 10,500 words
pub write_room : (A : Automaton) → length A.accept ≡ A.size → Fits A → length (write A) ≤ 10500
write_room A h f =
    omega (
      arith,
      length-append A.accept (length A.transitions ∷ write_records A.transitions),
      length_write A.transitions,
      f.few_states,
      f.few_transitions_lem,
    )
