-- From the contract of a call with two outputs to what it leaves in them: the laws by which each operation's theorem about its call is proved.
use Rattle.std.proofs.Common.{Result, Ok, Err, ap₂}
use Prim.Native.Nat.{ℕ, ◌+◌, ◌≤◌, ◌<◌}
use mathlib.Core.Bool.{Bool, true, false, cond}
use mathlib.Core.List.{List}
use mathlib.Core.Logic.{◌↔◌}
use mathlib.Core.Path.{◌≡◌, refl, sym, ◌∙◌, ap, subst}
use native.Mathlib.Omega.{arith}
use borrow.Author.Tests.{le-ltb, ltb-true, ltb-false}
use lib.Dec.{ltb}
use lib.ListN.{length, take, drop}
use lib.Seq.{sets, sets-eq, take_at, drop_at}
use Rattle.automata.specs.WellFormed.{WellFormed, Fits}
use Rattle.labels.specs.Labels.{AllLabels, labels_fault, labels_ok, read_labels, write_labels}
use Rattle.labels.proofs.Labels.{read_write, fault_write, size_write}
use Rattle.refusal.specs.Answer.{Answer, refused, given}
use Rattle.refusal.specs.Number.{number_of}
use Rattle.refusal.specs.declared.Refusal.{Refusal}
use Rattle.refusal.specs.declared.Refusal.TheVariants.{Input, State}
use Rattle.refusal.specs.declared.StateRefusal.TheVariants.{OutputLength, States, Transitions, Element, JoinSets}
use Rattle.sheets.specs.Checked.{sheet_first}
use Rattle.sheets.specs.Fault.{fault}
use Rattle.sheets.specs.Sheet.{read, write}
use Rattle.sheets.proofs.Checking.{refused_some}
use Rattle.sheets.proofs.Meaning.{read_write_sheet, write_accepted, write_room}
use Rattle.sheets.proofs.Numbers.{sheet_given, sheet_number, sheet_fault}
use Rattle.output.specs.declared.Made.{Made}
use Rattle.output.specs.Left.{made_number, Room, Leaves, Unchanged}
use Rattle.output.specs.Made.{output_of}
use Rattle.output.specs.Output
use Rattle.output.specs.Output.{Pattern, outputs, room_first, labels_first}

-- a run written at the front: it is the front afterwards, and nothing behind it changed
module _ (o vs : List ℕ) (h : length vs ≤ length o) where
  pub front_written : take (length vs) (sets o 0 vs) ≡ vs
  front_written = ap (take (length vs)) (sets-eq vs o 0 (omega arith)) ∙ take_at vs (drop (0 + length vs) o) (length vs) refl

  pub behind_written : drop (length vs) (sets o 0 vs) ≡ drop (length vs) o
  behind_written =
      let z : 0 + length vs ≡ length vs = omega arith in
      ap (drop (length vs)) (sets-eq vs o 0 (omega arith)) ∙ drop_at vs (drop (0 + length vs) o) (length vs) refl ∙ ap (λ n. drop n o) z

-- a pattern that can be written: a well-formed automaton that fits, and a label for each state
pub record Writable (P : Pattern) : Type 0 where
  pub well : WellFormed P.automaton
  pub fits : Fits P.automaton
  pub labels : AllLabels P.labels
  pub each : length P.labels ≡ P.automaton.size

-- such a pattern, written at the fronts of outputs of the fixed sizes
pub written_leaves : (o l : List ℕ) (P : Pattern) → Writable P → Room o l
    → Leaves o l (sets o 0 (write P.automaton)) (sets l 0 (write_labels P.labels)) (length (write P.automaton)) (length (write_labels P.labels)) P.automaton P.labels
written_leaves o l P ok room =
    let m : length (write P.automaton) ≤ length o = omega (arith, room.words, write_room P.automaton ok.well.accepts ok.fits) in
    let n : length (write_labels P.labels) ≤ length l = omega (arith, room.bytes, size_write P.labels ok.labels (omega (arith, ok.each, ok.fits.few_states))) in
    let f = front_written o (write P.automaton) m in
    let g = front_written l (write_labels P.labels) n in
    record {
      words = ap length f;
      accepted = ap fault f ∙ write_accepted P.automaton ok.well ok.fits;
      reads = ap read f ∙ read_write_sheet P.automaton ok.well.accepts;
      behind = behind_written o (write P.automaton) m;
      bytes = ap length g;
      labels_accepted = ap (labels_fault P.automaton.size) g ∙ subst (λ k. labels_fault k (write_labels P.labels) ≡ 0) ok.each (fault_write P.labels ok.labels);
      labelled = ap read_labels g ∙ read_write P.labels;
      labels_behind = behind_written l (write_labels P.labels) n;
    }

-- a refusal's number is not 0
pub number_some : (r : Refusal) → number_of r ≡ 0 → ⊥
number_some (Input i) h = refused_some i h
number_some (State OutputLength) h = omega arith
number_some (State States) h = omega arith
number_some (State Transitions) h = omega arith
number_some (State Element) h = omega arith
number_some (State JoinSets) h = omega arith

-- an answer behind 20
module _ {X : Type 0} (o l : List ℕ) (a : Answer X) where
  pub room_first_lem : Room o l → room_first o l a ≡ a
  unfolding room_first
  room_first_lem r = rw (le-ltb (length o) 10500 r.words, le-ltb (length l) 16642 r.bytes)

  pub room_lacks : (Room o l → ⊥) → room_first o l a ≡ refused 20
  unfolding room_first
  room_lacks n = go (ltb (length o) 10500) refl (ltb (length l) 16642) refl
    where
      go : (b : Bool) → ltb (length o) 10500 ≡ b → (c : Bool) → ltb (length l) 16642 ≡ c → cond b (refused 20) (cond c (refused 20) a) ≡ refused 20
      go true h c k = refl
      go false h true k = refl
      go false h false k = absurd (n (record { words = ltb-false _ _ h; bytes = ltb-false _ _ k }))

-- whether there is room is decided
pub data HasRoom (o l : List ℕ) : Type 0 where
  room : Room o l → HasRoom o l
  lacks : (Room o l → ⊥) → HasRoom o l

pub has_room : (o l : List ℕ) → HasRoom o l
has_room o l = go (ltb (length o) 10500) refl (ltb (length l) 16642) refl
  where
    go : (b : Bool) → ltb (length o) 10500 ≡ b → (c : Bool) → ltb (length l) 16642 ≡ c → HasRoom o l
    go true h c k = lacks (λ r. omega (arith, r.words, ltb-true (length o) 10500 h))
    go false h true k = lacks (λ r. omega (arith, r.bytes, ltb-true (length l) 16642 k))
    go false h false k = room (record { words = ltb-false _ _ h; bytes = ltb-false _ _ k })

-- an answer behind the labels' fault
module _ {X : Type 0} (n : ℕ) (b : List ℕ) (a : Answer X) where
  pub labels_first_lem : labels_fault n b ≡ 0 → labels_first n b a ≡ a
  unfolding labels_first
  labels_first_lem f = rw f

  pub labels_given : (x : X) → (labels_first n b a ≡ given x) ↔ ((labels_fault n b ≡ 0) × (a ≡ given x))
  unfolding labels_first labels_fault
  labels_given x = (out (labels_ok n b) refl, into (labels_ok n b) refl)
    where
      out : (c : Bool) → labels_ok n b ≡ c → labels_first n b a ≡ given x → (labels_fault n b ≡ 0) × (a ≡ given x)
      out true h e = (rw h, rw h at e)
      out false h e = let f : refused 10 ≡ given x = rw h at e in let z : ◌≡◌ {A = ℕ} 0 1 = cc in absurd (omega arith)

      into : (c : Bool) → labels_ok n b ≡ c → (labels_fault n b ≡ 0) × (a ≡ given x) → labels_first n b a ≡ given x
      into true h (f, e) = rw (h, e)
      into false h (f, e) = let g = rw h at f in absurd (omega (arith, g))

  -- a number other than 10 is the answer's, where the labels are accepted
  pub labels_number : (m : ℕ) → (m ≡ 10 → ⊥) → (labels_first n b a ≡ refused m) ↔ ((labels_fault n b ≡ 0) × (a ≡ refused m))
  unfolding labels_first labels_fault
  labels_number m k = (out (labels_ok n b) refl, into (labels_ok n b) refl)
    where
      out : (c : Bool) → labels_ok n b ≡ c → labels_first n b a ≡ refused m → (labels_fault n b ≡ 0) × (a ≡ refused m)
      out true h e = (rw h, rw h at e)
      out false h e = let f : refused 10 ≡ refused m = rw h at e in let z : m ≡ 10 = cc in absurd (k z)

      into : (c : Bool) → labels_ok n b ≡ c → (labels_fault n b ≡ 0) × (a ≡ refused m) → labels_first n b a ≡ refused m
      into true h (f, e) = rw (h, e)
      into false h (f, e) = let g = rw h at f in absurd (omega (arith, g))

-- the contract of a call: r is its answer, o and l are the outputs before it, o' and l' after it, and a is the answer behind 20
module _ (o l o' l' : List ℕ) (r : Result Made Refusal) (a : Answer Pattern) (call : output_of r o' l' ≡ outputs o l (room_first o l a)) where
  -- what the contract says, by cases
  data Case : Type 0 where
    without_room : (Room o l → ⊥) → made_number r ≡ 20 → Unchanged o l o' l' → Case
    with_refusal : Room o l → (n : ℕ) → a ≡ refused n → made_number r ≡ n → (n ≡ 0 → ⊥) → Unchanged o l o' l' → Case
    with_pattern : Room o l → (P : Pattern) → a ≡ given P → r ≡ Ok (record { words = length (write P.automaton); bytes = length (write_labels P.labels) })
        → o' ≡ sets o 0 (write P.automaton) → l' ≡ sets l 0 (write_labels P.labels) → Case

  refusal : (r : Result Made Refusal) (n : ℕ) → output_of r o' l' ≡ outputs o l (refused n) → (made_number r ≡ n) × (n ≡ 0 → ⊥) × Unchanged o l o' l'
  unfolding outputs
  refusal (Ok m) n e = let q = ap (λ z. z.answer) e in cc
  refusal (Err x) n e =
      let q : ◌≡◌ {A = Answer Output.Lengths} (refused (number_of x)) (refused n) = ap (λ z. z.answer) e in
      let i : number_of x ≡ n = cc in
      (i, λ z. number_some x (i ∙ z), record { words = ap (λ z. z.memory.sheet) e; bytes = ap (λ z. z.memory.labels) e })

  pattern : (r : Result Made Refusal) (P : Pattern) → output_of r o' l' ≡ outputs o l (given P)
      → (r ≡ Ok (record { words = length (write P.automaton); bytes = length (write_labels P.labels) })) × (o' ≡ sets o 0 (write P.automaton)) × (l' ≡ sets l 0 (write_labels P.labels))
  unfolding outputs
  pattern (Ok m) P e =
      let q = ap (λ z. z.answer) e in
      let k : ◌≡◌ {A = Output.Lengths} (record { words = m.words; bytes = m.bytes }) (record { words = length (write P.automaton); bytes = length (write_labels P.labels) }) = cc in
      let i : m.words ≡ length (write P.automaton) = ap (λ (z : Output.Lengths). z.words) k in
      let j : m.bytes ≡ length (write_labels P.labels) = ap (λ (z : Output.Lengths). z.bytes) k in
      (ap₂ (λ x y. Ok (record { words = x; bytes = y })) i j, ap (λ z. z.memory.sheet) e, ap (λ z. z.memory.labels) e)
  pattern (Err x) P e = let q = ap (λ z. z.answer) e in cc

  case : Case
  case = by_room (has_room o l)
    where
      by_answer : Room o l → (b : Answer Pattern) → a ≡ b → Case
      by_answer h (refused n) e = let k = refusal r n (call ∙ ap (outputs o l) (room_first_lem o l a h ∙ e)) in with_refusal h n e k.0 k.1 k.2
      by_answer h (given P) e = let k = pattern r P (call ∙ ap (outputs o l) (room_first_lem o l a h ∙ e)) in with_pattern h P e k.0 k.1 k.2

      by_room : HasRoom o l → Case
      by_room (room h) = by_answer h a refl
      by_room (lacks n) = let k = refusal r 20 (call ∙ ap (outputs o l) (room_lacks o l a n)) in without_room n k.0 k.2

  -- nothing is refused exactly where there is room and a pattern is given
  pub call_given : (made_number r ≡ 0) ↔ (Room o l × ((P : Pattern) × (a ≡ given P)))
  call_given = (out case, into case)
    where
      out : Case → made_number r ≡ 0 → Room o l × ((P : Pattern) × (a ≡ given P))
      out (without_room n k u) z = absurd (omega arith)
      out (with_refusal h n e k s u) z = absurd (s (sym k ∙ z))
      out (with_pattern h P e k i j) z = (h, (P, e))

      into : Case → Room o l × ((P : Pattern) × (a ≡ given P)) → made_number r ≡ 0
      into (without_room n k u) g = absurd (n g.0)
      into (with_refusal h n e k s u) g = let z : ◌≡◌ {A = ℕ} 0 1 = cc in absurd (omega arith)
      into (with_pattern h P e k i j) g = ap made_number k

  -- 20 is answered exactly where an output is too short, if no other refusal is 20
  pub call_20 : (a ≡ refused 20 → ⊥) → (made_number r ≡ 20) ↔ (Room o l → ⊥)
  call_20 other = (out case, into case)
    where
      out : Case → made_number r ≡ 20 → Room o l → ⊥
      out (without_room n k u) z = n
      out (with_refusal h n e k s u) z = absurd (other (e ∙ ap refused (sym k ∙ z)))
      out (with_pattern h P e k i j) z = let y = ap made_number k in absurd (omega arith)

      into : Case → (Room o l → ⊥) → made_number r ≡ 20
      into (without_room n k u) g = k
      into (with_refusal h n e k s u) g = absurd (g h)
      into (with_pattern h P e k i j) g = absurd (g h)

  -- any other number is answered exactly where there is room and the answer has it
  pub call_number : (n : ℕ) → (n ≡ 0 → ⊥) → (n ≡ 20 → ⊥) → (made_number r ≡ n) ↔ (Room o l × (a ≡ refused n))
  call_number n some other = (out case, into case)
    where
      out : Case → made_number r ≡ n → Room o l × (a ≡ refused n)
      out (without_room m k u) z = absurd (other (sym z ∙ k))
      out (with_refusal h m e k s u) z = (h, e ∙ ap refused (sym k ∙ z))
      out (with_pattern h P e k i j) z = absurd (some (sym z ∙ ap made_number k))

      into : Case → Room o l × (a ≡ refused n) → made_number r ≡ n
      into (without_room m k u) g = absurd (m g.0)
      into (with_refusal h m e k s u) g = let q : refused m ≡ refused n = sym e ∙ g.1 in let i : m ≡ n = cc in k ∙ i
      into (with_pattern h P e k i j) g = let z : ◌≡◌ {A = ℕ} 0 1 = cc in absurd (omega arith)

  -- a refusal leaves everything as it was
  pub call_refused : (made_number r ≡ 0 → ⊥) → Unchanged o l o' l'
  call_refused s = go case
    where
      go : Case → Unchanged o l o' l'
      go (without_room n k u) = u
      go (with_refusal h n e k z u) = u
      go (with_pattern h P e k i j) = absurd (s (ap made_number k))

  -- lengths are answered with the pattern in the outputs
  module _ (w b : ℕ) (lengths : r ≡ Ok (record { words = w; bytes = b })) where
    pub call_pattern : (P : Pattern) × (a ≡ given P)
    call_pattern = (call_given.0 (ap made_number lengths)).1

    pub call_leaves : (P : Pattern) → a ≡ given P → Writable P → Leaves o l o' l' w b P.automaton P.labels
    call_leaves P given-P ok = go case
      where
        go : Case → Leaves o l o' l' w b P.automaton P.labels
        go (without_room n k u) = let y = ap made_number lengths in absurd (omega arith)
        go (with_refusal h n e k s u) = absurd (s (sym k ∙ ap made_number lengths))
        go (with_pattern h Q e k i j) =
            let q : given P ≡ given Q = sym given-P ∙ e in
            let same : Q ≡ P = cc in
            let m : ◌≡◌ {A = Result Made Refusal} (Ok (record { words = w; bytes = b })) (Ok (record { words = length (write Q.automaton); bytes = length (write_labels Q.labels) })) = sym lengths ∙ k in
            let v : ◌≡◌ {A = Made} (record { words = w; bytes = b }) (record { words = length (write Q.automaton); bytes = length (write_labels Q.labels) }) = cc in
            let x : w ≡ length (write Q.automaton) = ap (λ (z : Made). z.words) v in
            let y : b ≡ length (write_labels Q.labels) = ap (λ (z : Made). z.bytes) v in
            rw (x, y, i, j, same) (written_leaves o l P ok h)

-- the contract of a call that checks one sheet: a is the answer behind 20 and the faults of the sheet s
module _ (s o l o' l' : List ℕ) (r : Result Made Refusal) (a : Answer Pattern) (call : output_of r o' l' ≡ outputs o l (room_first o l (sheet_first s a))) where
  -- 20 is answered exactly where an output is too short, if no other refusal is 20
  pub sheet_call_20 : (a ≡ refused 20 → ⊥) → (made_number r ≡ 20) ↔ (Room o l → ⊥)
  sheet_call_20 other = call_20 o l o' l' r (sheet_first s a) call (λ e. other ((sheet_number s a 20 (omega arith)).0 e).1)

  -- 1 to 6 are answered exactly where there is room and the sheet has that fault, if no other refusal has that number
  pub sheet_call_fault : (n : ℕ) → 0 < n → n ≤ 6 → (a ≡ refused n → ⊥) → (made_number r ≡ n) ↔ (Room o l × (fault s ≡ n))
  sheet_call_fault n some few other =
      let c = call_number o l o' l' r (sheet_first s a) call n (λ z. omega arith) (λ z. omega arith) in
      let f = sheet_fault s a n some other in
      (λ e. let x = c.0 e in (x.0, f.0 x.1), λ x. c.1 (x.0, f.1 x.1))

  -- any other number is answered exactly where there is room, the sheet has no fault and the answer has it
  pub sheet_call_number : (n : ℕ) → 6 < n → (n ≡ 20 → ⊥) → (made_number r ≡ n) ↔ (Room o l × (fault s ≡ 0) × (a ≡ refused n))
  sheet_call_number n many other =
      let c = call_number o l o' l' r (sheet_first s a) call n (λ z. omega arith) other in
      let f = sheet_number s a n many in
      (λ e. let x = c.0 e in let y = f.0 x.1 in (x.0, y.0, y.1), λ x. c.1 (x.0, f.1 (x.1, x.2)))

  -- nothing is refused exactly where there is room, the sheet has no fault and a pattern is given
  pub sheet_call_given : (made_number r ≡ 0) ↔ (Room o l × (fault s ≡ 0) × ((P : Pattern) × (a ≡ given P)))
  sheet_call_given =
      let c = call_given o l o' l' r (sheet_first s a) call in (
        λ e. let (m, (P, h)) = c.0 e in let y = (sheet_given s a P).0 h in (m, y.0, (P, y.1)),
        λ (m, f, (P, h)). c.1 (m, (P, (sheet_given s a P).1 (f, h))),
      )

  -- a pattern that is given stands in the outputs
  pub sheet_call_leaves : (w b : ℕ) → r ≡ Ok (record { words = w; bytes = b }) → (P : Pattern) → a ≡ given P → Writable P → Leaves o l o' l' w b P.automaton P.labels
  sheet_call_leaves w b lengths P given-P ok =
      let f = (sheet_call_given.0 (ap made_number lengths)).1 in
      call_leaves o l o' l' r (sheet_first s a) call w b lengths P ((sheet_given s a P).1 (f, given-P)) ok
