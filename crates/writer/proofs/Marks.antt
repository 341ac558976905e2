-- The marks of the written states: those that the records so far name are marked, and the records left name the others.
use Prim.Native.Nat.{ℕ, ◌+◌, ◌-◌, ◌/◌, ◌≤◌, ◌<◌}
use mathlib.Core.Bool.{Bool, true, false, cond, ◌||◌, or-false}
use mathlib.Core.List.{List, []}
use mathlib.Core.Logic.{⊎_elim}
use mathlib.Core.Path.{◌≡◌, refl, sym, ◌∙◌, ap, subst}
use native.Mathlib.Omega.{arith}
use borrow.Author.Rules.{rules}
use borrow.Author.Tests.{eq-eqb, eqb-true, eqb-false}
use lib.Dec.{eqb}
use lib.ListN.{length, get_or, take, drop, set, length-set}
use lib.Seq.{get_or-set_same, get_or-set_other, ext_get_or}
use Rattle.lists.specs.Lists.{any}
use Rattle.lists.proofs.Lists.{length_tabulate, tabulate_at}
use Rattle.lists.proofs.Parts.{part_all}
use Rattle.lists.proofs.Tests.{test, or_left}
use Rattle.automata.specs.Automaton.{Transition}
use Rattle.automata.specs.Records.{read_records}
use Rattle.automata.specs.inner.Chunks.{records_of}
use Rattle.automata.proofs.Chunks.{records_are, records_next, records_done}
use Rattle.parser.specs.inner.Memory.{Zeros}
use Rattle.sheets.specs.Sheet.{records_at, read}
use Rattle.sheets.specs.inner.Accepted.{Accepted}
use Rattle.sheets.specs.inner.Runs.{Named}
use Rattle.sheets.proofs.Named.{sheet_named, record_from, record_to}
use Rattle.std.specs.Simd.{first_chunks}
use Rattle.writer.specs.Text.{is_written}
use Rattle.writer.specs.inner.Tables.{written_marks}

-- a record names the state q
abbrev names : ℕ → Transition → Bool
names q e = eqb e.from q || eqb e.to q

-- the records from i on are left
pub record MarksLeft (s : List ℕ) (rs : List (List ℕ)) (marks : List ℕ) (i : ℕ) : Type 0 where
  pub long : length marks ≡ 256
  pub named : Named 256 (records_of rs)
  pub low : (q : ℕ) → get_or marks q 0 ≤ 1
  pub left : (q : ℕ) → (eqb (get_or marks q 0) 1 || any (names q) (records_of (drop i rs))) ≡ is_written (read s) q

-- a 1 at the place p, where c tells whether q is that place
mark_at : (m : List ℕ) (p q : ℕ) → p < length m → (c : Bool) → (c ≡ true → p ≡ q) → (c ≡ false → p ≡ q → ⊥) → eqb (get_or (set m p 1) q 0) 1 ≡ (c || eqb (get_or m q 0) 1)
mark_at m p q h true same other = eq-eqb (get_or (set m p 1) q 0) 1 (subst (λ (x : ℕ). get_or (set m p 1) x 0 ≡ 1) (same refl) (get_or-set_same m p 1 0 h))
mark_at m p q h false same other = ap (λ (x : ℕ). eqb x 1) (get_or-set_other m p q 1 0 (λ z. other refl (sym z)))

mark_named : (m : List ℕ) (p q : ℕ) → p < length m → eqb (get_or (set m p 1) q 0) 1 ≡ (eqb p q || eqb (get_or m q 0) 1)
mark_named m p q h = mark_at m p q h (eqb p q) (eqb-true p q) (eqb-false p q)

mark_low : (m : List ℕ) (p : ℕ) → p < length m → ((q : ℕ) → get_or m q 0 ≤ 1) → (q : ℕ) → get_or (set m p 1) q 0 ≤ 1
mark_low m p h l q =
    ⊎_elim (λ t. omega (arith, eqb-true (get_or (set m p 1) q 0) 1 (mark_named m p q h ∙ or_left (eqb p q) (eqb (get_or m q 0) 1) t)))
    (λ (t : eqb p q ≡ false). omega (arith, get_or-set_other m p q 1 0 (λ z. eqb-false p q t (sym z)), l q)) (test (eqb p q))

-- a word of which it is known whether it is 1
marked_word : (x : ℕ) (b : Bool) → x ≤ 1 → eqb x 1 ≡ b → x ≡ cond b 1 0
marked_word x true h e = eqb-true x 1 e
marked_word x false h e = let n = eqb-false x 1 e in omega arith

regroup : (t f x r : Bool) → ((t || (f || x)) || r) ≡ (x || ((f || t) || r))
regroup true true true r = refl
regroup true true false r = refl
regroup true false true r = refl
regroup true false false r = refl
regroup false true true r = refl
regroup false true false r = refl
regroup false false true r = refl
regroup false false false r = refl

module _ (s m : List ℕ) where
  pub start_marks : Accepted s → Zeros 256 m → get_or s 1 0 < length m
  start_marks a u = omega (arith, a.start, a.few_states, u.long)

  begun : Accepted s → Zeros 256 m → (q : ℕ) → eqb (get_or (set m (get_or s 1 0) 1) q 0) 1 ≡ eqb q (get_or s 1 0)
  begun a u q =
      mark_at m (get_or s 1 0) q (start_marks a u) (eqb q (get_or s 1 0)) (λ e. sym (eqb-true q (get_or s 1 0) e)) (λ e z. eqb-false q (get_or s 1 0) e (sym z))
      ∙ ap (λ (x : ℕ). eqb q (get_or s 1 0) || eqb x 1) (u.zero q) ∙ or-false (eqb q (get_or s 1 0))

  pub marks_begin : Accepted s → Zeros 256 m → (rs : List (List ℕ))
      → rs ≡ first_chunks 5 (length (take (length s - records_at s) (drop (records_at s) s)) / 5) (take (length s - records_at s) (drop (records_at s) s))
      → MarksLeft s rs (set m (get_or s 1 0) 1) 0
  unfolding is_written
  marks_begin a u rs e =
      let all : records_of rs ≡ read_records (take (length s - records_at s) (drop (records_at s) s)) = records_are _ rs e in
      let rest : take (length s - records_at s) (drop (records_at s) s) ≡ drop (records_at s) s = part_all (records_at s) s in
      record {
        long = length-set m (get_or s 1 0) 1 ∙ u.long;
        low = mark_low m (get_or s 1 0) (start_marks a u) (λ q. omega (arith, u.zero q));
        named = rw all (sheet_named s a);
        left = λ q. rw (all, rest) (ap (λ (b : Bool). b || any (names q) (read_records (drop (records_at s) s))) (begun a u q));
      }

  module _ (rs : List (List ℕ)) (i : ℕ) (v : MarksLeft s rs m i) where
    ended : length rs ≤ i → (q : ℕ) → eqb (get_or m q 0) 1 ≡ is_written (read s) q
    unfolding any
    ended h q =
        sym (or-false (eqb (get_or m q 0) 1)) ∙ ap (λ (es : List Transition). eqb (get_or m q 0) 1 || any (names q) es) (sym (records_done rs i h)) ∙ v.left q

    pub marks_end : length rs ≤ i → m ≡ written_marks (read s)
    unfolding written_marks
    marks_end h =
        ext_get_or 0 _ _ (v.long ∙ sym (length_tabulate {X = ℕ} 256 (λ q. cond (is_written (read s) q) 1 0))) λ q l.
        marked_word (get_or m q 0) (is_written (read s) q) (v.low q) (ended h q)
        ∙ sym (tabulate_at 256 (λ p. cond (is_written (read s) p) 1 0) q 0 (omega (arith, v.long)))

    module _ (h : i < length rs) where
      abbrev from : ℕ
      from = get_or (get_or rs i []) 0 0

      abbrev to : ℕ
      to = get_or (get_or rs i []) 4 0

      pub from_marks : get_or (get_or rs i []) 0 0 < length m
      from_marks = omega (arith, v.long, record_from rs i v.named h)

      pub to_marks : get_or (get_or rs i []) 4 0 < length (set m (get_or (get_or rs i []) 0 0) 1)
      to_marks = omega (arith, v.long, length-set m from 1, record_to rs i v.named h)

      pub marks_next : MarksLeft s rs (set (set m (get_or (get_or rs i []) 0 0) 1) (get_or (get_or rs i []) 4 0) 1) (i + 1)
      unfolding any
      marks_next =
          record {
            long = length-set (set m from 1) to 1 ∙ length-set m from 1 ∙ v.long;
            low = mark_low (set m from 1) to to_marks (mark_low m from from_marks v.low);
            named = v.named;
            left = λ q.
                ap (λ (b : Bool). b || any (names q) (records_of (drop (i + 1) rs)))
                (mark_named (set m from 1) to q to_marks ∙ ap (λ (b : Bool). eqb to q || b) (mark_named m from q from_marks))
                ∙ regroup (eqb to q) (eqb from q) (eqb (get_or m q 0) 1) (any (names q) (records_of (drop (i + 1) rs)))
                ∙ ap (λ (es : List Transition). eqb (get_or m q 0) 1 || any (names q) es) (sym (records_next rs i h)) ∙ v.left q;
          }

pub ruleset marks_laws = (start_marks, marks_begin, marks_end, from_marks, to_marks, marks_next, rules)
