-- What is proved of emptiness:
--   reachable_call: true is answered exactly when a path from the start leads to a state that accepts
--   empty_call: false is answered exactly when no word is accepted
--   empty_call_symbols: the same of words of u32 symbols, for a sheet of u32 words
--   refused_call: a refusal is answered exactly when it is the sheet's fault
--   reachable_paths, accepting_paths: the reachable states are those that paths lead to
--   empty_exact, empty_symbols, empty_sheet: an automaton whose ranges are not empty accepts no word exactly when no reachable state accepts
--   reachable_refused: the answer of the definition is the sheet's fault, where it has one
use Prim.Native.Nat.{ℕ, zero, suc, ◌+◌, ◌≤◌, ◌<◌}
use mathlib.Core.Bool.{Bool, true, false, cond, true≢false}
use mathlib.Core.List.{List, [], ◌∷◌}
use mathlib.Core.Logic.{◌↔◌, ⊎_elim}
use mathlib.Core.Path.{◌≡◌, refl, sym, ◌∙◌, ap}
use native.Mathlib.Nat.{le_refl}
use native.Mathlib.Omega.{arith}
use borrow.Author.Tests.{ltb-true, lt-ltb, eqb-false, ne_eqb}
use lib.Dec.{eqb}
use lib.ListN.{get_or, drop}
use lib.Seq.{get_or-drop}
use Rattle.std.specs.Prelude.{Result, Ok, Err}
use Rattle.lists.specs.Lists.{◌∈◌}
use Rattle.lists.proofs.Lists.{any_in, any_out}
use Rattle.lists.proofs.Tests.{test}
use Rattle.automata.specs.Automaton.{Transition, Automaton, Run, Accepts, Word, none, more, InBounds}
use Rattle.automata.specs.Automaton as runs
use Rattle.automata.specs.WellFormed.{WellFormed, last_symbol}
use Rattle.automata.proofs.Records.{records_most}
use Rattle.refusal.specs.Answer.{refused, given}
use Rattle.refusal.specs.Decision.{decision_of}
use Rattle.refusal.specs.Number.{input_number}
use Rattle.refusal.specs.declared.InputRefusal.{InputRefusal}
use Rattle.sets.proofs.Sets.{mem_has, has_mem}
use Rattle.sheets.specs.Checked.{sheet_first}
use Rattle.sheets.specs.Fault.{fault}
use Rattle.sheets.specs.Sheet.{records_at, read}
use Rattle.sheets.proofs.Accepted.{accepted}
use Rattle.sheets.proofs.Decisions.{number_some, call_is, call_refused, given_not}
use Rattle.sheets.proofs.Meaning.{read_well}
use Rattle.sheets.proofs.Numbers.{sheet_given, sheet_fault}
use Rattle.emptiness.specs.Reachable.{Path, stay, follow, reachable, has_reachable_accepting, reachable_answer}
use Rattle.emptiness.proofs.Paths.{reachable_path}

-- the reachable states are those that paths from the start lead to
module _ (A : Automaton) (ok : InBounds A) where
  pub reachable_paths : (q : ℕ) → (q ∈ reachable A) ↔ Path A A.start q
  reachable_paths q = let r = reachable_path A ok q in (λ m. r.0 (mem_has m), λ p. has_mem q _ (r.1 p))

  pub accepting_paths : (has_reachable_accepting A ≡ true) ↔ ((q : ℕ) × Path A A.start q × (0 < get_or A.accept q 0))
  unfolding has_reachable_accepting
  accepting_paths = (
    λ h. let r = any_out _ (reachable A) h in (r.0, (reachable_paths r.0).0 r.1, ltb-true 0 _ r.2),
    λ r. any_in _ ((reachable_paths r.0).1 r.1) (lt-ltb 0 _ r.2),
  )

-- a run is a path
run_path : {A : Automaton} {p q : ℕ} {w : List ℕ} → Run A p w q → Path A p q
run_path runs.stay = stay
run_path (runs.skip e m f k r) = follow e m f (run_path r)
run_path (runs.read e m f k l u r) = follow e m f (run_path r)

module _ (A : Automaton) (w : WellFormed A) where
  -- a word that a path reads
  record Reads (p q : ℕ) : Type 0 where
    pub word : List ℕ
    pub run : Run A p word q
    pub symbols : (upper : ℕ) → ((e : Transition) → e ∈ A.transitions → e.last ≤ upper) → Word 0 upper word

  -- a path reads the first symbols of its ranges
  path_reads : {p q : ℕ} → Path A p q → Reads p q
  path_reads stay = record { word = []; run = runs.stay; symbols = λ upper t. none }
  path_reads {p} {q} (follow e m f r) = go e.kind refl (path_reads r)
    where
      go : (k : ℕ) → e.kind ≡ k → Reads e.to q → Reads p q
      go zero h s = record { word = s.word; run = runs.skip e m f h s.run; symbols = s.symbols }
      go (suc k) h s =
          let one : e.kind ≡ 1 = omega (arith, (w.sound e m).known) in
          let full : e.first ≤ e.last = (w.sound e m).full in
          record {
            word = e.first ∷ s.word;
            run = runs.read e m f one (le_refl e.first) full s.run;
            symbols = λ upper t. more {a = e.first} (omega arith) (omega (arith, t e m)) (s.symbols upper t);
          }

  some_word : has_reachable_accepting A ≡ true → (r : ℕ) × Reads A.start r × (0 < get_or A.accept r 0)
  some_word t = let r = (accepting_paths A w.states).0 t in (r.0, path_reads r.1, r.2)

  no_word : has_reachable_accepting A ≡ false → (v : List ℕ) → Accepts A v → ⊥
  no_word h v a = true≢false (sym ((accepting_paths A w.states).1 (a.0, run_path a.1, a.2)) ∙ h)

  -- no word is accepted exactly when no reachable state accepts
  pub empty_exact : (has_reachable_accepting A ≡ false) ↔ ((v : List ℕ) → Accepts A v → ⊥)
  empty_exact = (
    no_word,
    λ n. ⊎_elim (λ t. let r = some_word t in absurd (n r.1.word (r.0, r.1.run, r.2))) (λ t. t) (test (has_reachable_accepting A)),
  )

  -- and the same of words of symbols up to one that no range exceeds
  pub empty_symbols : (upper : ℕ) → ((e : Transition) → e ∈ A.transitions → e.last ≤ upper) → (has_reachable_accepting A ≡ false) ↔ ((v : List ℕ) → Word 0 upper v → Accepts A v → ⊥)
  empty_symbols upper t = (
    λ h v o. no_word h v,
    λ n. ⊎_elim (λ c. let r = some_word c in absurd (n r.1.word (r.1.symbols upper t) (r.0, r.1.run, r.2))) (λ c. c) (test (has_reachable_accepting A)),
  )

-- a sheet of u32 words: it is empty exactly when no word of u32 symbols is accepted
pub empty_sheet : (s : List ℕ) → fault s ≡ 0 → ((i : ℕ) → get_or s i 0 ≤ last_symbol) → (reachable_answer s ≡ given false) ↔ ((v : List ℕ) → Word 0 last_symbol v → Accepts (read s) v → ⊥)
unfolding reachable_answer sheet_first
empty_sheet s f b =
    let r = empty_symbols (read s) (read_well s (accepted s f)) last_symbol (records_most last_symbol (drop (records_at s) s) (λ i. rw (get_or-drop (records_at s) s i 0) (b (records_at s + i)))) in
    (λ h. r.0 (out (rw f at h)), λ n. rw f (ap given (r.1 n)))
  where
    out : given (has_reachable_accepting (read s)) ≡ given false → has_reachable_accepting (read s) ≡ false
    out h = cc

-- a faulty sheet is answered with its fault, and any other with a truth
pub reachable_refused : (s : List ℕ) (n : ℕ) → (reachable_answer s ≡ refused n) ↔ ((n ≡ fault s) × (fault s ≡ 0 → ⊥))
unfolding reachable_answer sheet_first
reachable_refused s n = (λ e. there (eqb (fault s) 0) refl e, λ h. rw (ne_eqb (fault s) 0 h.1) (ap refused (sym h.0)))
  where
    there : (b : Bool) → eqb (fault s) 0 ≡ b → cond b (given (has_reachable_accepting (read s))) (refused (fault s)) ≡ refused n → (n ≡ fault s) × (fault s ≡ 0 → ⊥)
    there true t e = let z : ◌≡◌ {A = ℕ} 0 1 = cc in absurd (omega arith)
    there false t e = (cc, eqb-false _ _ t)

-- the contract of the call: r is its answer for the sheet s
module _ (s : List ℕ) (r : Result Bool InputRefusal) (call : decision_of r ≡ reachable_answer s) where
  answered : (x : Bool) → (r ≡ Ok x) ↔ ((fault s ≡ 0) × (has_reachable_accepting (read s) ≡ x))
  unfolding reachable_answer
  answered x =
      let k = call_is r (reachable_answer s) call x in
      let g = sheet_given s (given (has_reachable_accepting (read s))) x in
      (λ e. let (f, h) = g.0 (k.0 e) in (f, cc), λ (f, e). k.1 (g.1 (f, ap given e)))

  -- true exactly when the sheet has no fault and a path from the start leads to a state that accepts
  pub reachable_call : (r ≡ Ok true) ↔ ((fault s ≡ 0) × ((q : ℕ) × Path (read s) (read s).start q × (0 < get_or (read s).accept q 0)))
  reachable_call =
      let a = answered true in
      (λ e. let (f, h) = a.0 e in (f, (paths f).0 h), λ (f, h). a.1 (f, (paths f).1 h))
    where
      paths : fault s ≡ 0 → (has_reachable_accepting (read s) ≡ true) ↔ ((q : ℕ) × Path (read s) (read s).start q × (0 < get_or (read s).accept q 0))
      paths f = accepting_paths (read s) (read_well s (accepted s f)).states

  -- false exactly when the sheet has no fault and no word is accepted
  pub empty_call : (r ≡ Ok false) ↔ ((fault s ≡ 0) × ((v : List ℕ) → Accepts (read s) v → ⊥))
  empty_call =
      let a = answered false in
      (λ e. let (f, h) = a.0 e in (f, (empty f).0 h), λ (f, h). a.1 (f, (empty f).1 h))
    where
      empty : fault s ≡ 0 → (has_reachable_accepting (read s) ≡ false) ↔ ((v : List ℕ) → Accepts (read s) v → ⊥)
      empty f = empty_exact (read s) (read_well s (accepted s f))

  -- the same of words of u32 symbols, for a sheet of u32 words
  pub empty_call_symbols : ((i : ℕ) → get_or s i 0 ≤ last_symbol) → (r ≡ Ok false) ↔ ((fault s ≡ 0) × ((v : List ℕ) → Word 0 last_symbol v → Accepts (read s) v → ⊥))
  empty_call_symbols b =
      let k = call_is r (reachable_answer s) call false in
      (λ e. let f = ((answered false).0 e).0 in (f, (empty_sheet s f b).0 (k.0 e)), λ (f, h). k.1 ((empty_sheet s f b).1 h))

  -- a refusal exactly when it is the sheet's fault
  pub refused_call : (i : InputRefusal) → (r ≡ Err i) ↔ (fault s ≡ input_number i)
  unfolding reachable_answer
  refused_call i =
      let k = call_refused r (reachable_answer s) call i in
      let g = sheet_fault s (given (has_reachable_accepting (read s))) (input_number i) (number_some i) (given_not _ _) in
      (λ e. g.0 (k.0 e), λ e. k.1 (g.1 e))
