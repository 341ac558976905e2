-- The laws by which the first pass gives up: the records of a set, the room for notes, and what the pass then came to.
use Rattle.std.proofs.Common.{◌≡◌, ℕ, ◌+◌, ◌-◌, ◌*◌, ◌<◌, ◌≤◌, Bool, true, false, ◌&&◌, eqb, ltb, Option, Some, None, Result, Ok, Err, List, length, get_or, sym, refl, ap, ◌∙◌, subst, ⊎_elim, arith, rules, ltb-false, le-ltb, lt-ltb, eq-eqb, ne_eqb}
use Rattle.lists.proofs.Tests.{test}
use Rattle.automata.specs.Automaton.{Automaton}
use Rattle.sets.specs.Sets.{Set}
use Rattle.sets.specs.inner.BitSet.{set_at}
use Rattle.sets.specs.inner.Members.{members_from, next_member}
use Rattle.sets.proofs.BitSet.{at_canon}
use Rattle.sets.proofs.Members.{visit_start, visit_next, from_end}
use Rattle.words.specs.Simulation.{start_set}
use Rattle.words.proofs.Visiting.{member_here, member_later}
use Rattle.determinize.specs.declared.Unfinished.{Unfinished}
use Rattle.determinize.specs.declared.exploring.SetCounts.{SetCounts}
use Rattle.determinize.specs.inner.Notes.{SpansResult, TableResult}
use Rattle.determinize.specs.inner.Attempts.{run_length, run_lengths, SpansExploration, TableResultWithRoom, TableExploration}

-- `run_length`
module _ (starts : List ℕ) (q : ℕ) where
  pub length_past : length starts ≤ q + 1 → 0 ≡ run_length starts q
  unfolding run_length
  length_past h = rw (le-ltb _ _ h)

  pub length_none : q + 1 < length starts → get_or starts (q + 1) 0 ≤ get_or starts q 0 → 0 ≡ run_length starts q
  unfolding run_length
  length_none h l = rw (lt-ltb _ _ h) (omega arith)

  pub length_some : q + 1 < length starts → get_or starts (q + 1) 0 - get_or starts q 0 ≡ run_length starts q
  unfolding run_length
  length_some h = rw (lt-ltb _ _ h)

pub ruleset length_laws = (length_past, length_none, length_some, rules)

-- `is_long`
module _ (starts set : List ℕ) where
  pub long_begins : (q : ℕ) → q ≡ next_member (set_at set 0) 0 → 0 + run_lengths starts (members_from q (set_at set 0)) ≡ run_lengths starts (set_at set 0)
  long_begins q h = rw (visit_start (set_at set 0) (at_canon set 0) q h) (omega arith)

  module _ (q k : ℕ) (i : k + run_lengths starts (members_from q (set_at set 0)) ≡ run_lengths starts (set_at set 0)) where
    pub long_ended : k ≤ 320 → 256 ≤ q → false ≡ ltb 320 (run_lengths starts (set_at set 0))
    unfolding run_lengths
    long_ended l h =
        let z : run_lengths starts (members_from q (set_at set 0)) ≡ 0 = ap (run_lengths starts) (from_end (set_at set 0) (at_canon set 0) q h) in
        sym (le-ltb 320 (run_lengths starts (set_at set 0)) (omega arith))

    module _ (h : q < 256) (n : q ≡ next_member (set_at set 0) q) (m : ℕ) (e : m ≡ run_length starts q) where
      left : (x : ℕ) → x ≡ next_member (set_at set 0) (q + 1) → run_lengths starts (members_from q (set_at set 0)) ≡ m + run_lengths starts (members_from x (set_at set 0))
      unfolding run_lengths
      left x j = ap (run_lengths starts) (visit_next (set_at set 0) (at_canon set 0) q x n h j) ∙ ap (λ y. y + run_lengths starts (members_from x (set_at set 0))) (sym e)

      pub long_found : 320 < k + m → true ≡ ltb 320 (run_lengths starts (set_at set 0))
      long_found l = sym (lt-ltb 320 (run_lengths starts (set_at set 0)) (omega (arith, left (next_member (set_at set 0) (q + 1)) refl)))

      pub long_next : (x : ℕ) → x ≡ next_member (set_at set 0) (q + 1) → k + m + run_lengths starts (members_from x (set_at set 0)) ≡ run_lengths starts (set_at set 0)
      long_next x j = omega (arith, left x j)

pub ruleset long_laws = (long_begins, long_ended, long_found, long_next, member_here, member_later, rules)

-- `is_found_long`
pub found_not : (n : ℕ) (b : Bool) → (n ≡ 4 → ⊥) → false ≡ (eqb n 4 && b)
found_not n b h = rw (ne_eqb n 4 h)

pub found_long : (n : ℕ) (b c : Bool) → n ≡ 4 → c ≡ b → c ≡ (eqb n 4 && b)
found_long n b c h e = e ∙ sym (rw (eq-eqb n 4 h))

pub ruleset found_laws = (found_not, found_long, rules)

-- a try to visit the spans of a state
module _ (lower upper : ℕ) (A : Automaton) (S : Set) (T : List Set) (j : ℕ) (before : List ℕ) (k : ℕ) (t u r : List ℕ) where
  pub try_unfinished : (x : Unfinished) → set_at u 0 ≡ set_at t 0 → SpansExploration lower upper A S T j before k t u r (Err x)
  unfolding SpansExploration
  try_unfinished x e = e

  pub try_finished : (x : Option SetCounts) → SpansResult lower upper A S T j before k u r x → SpansExploration lower upper A S T j before k t u r (Ok x)
  unfolding SpansExploration
  try_finished x p = p

  module _ (x : Result (Option SetCounts) Unfinished) (p : SpansExploration lower upper A S T j before k t u r x) where
    pub tried_visited : (y : Option SetCounts) → x ≡ Ok y → SpansResult lower upper A S T j before k u r y
    unfolding SpansExploration
    tried_visited y e = subst (SpansExploration lower upper A S T j before k t u r) e p

    pub tried_start : (y : Unfinished) → x ≡ Err y → set_at t 0 ≡ start_set A → set_at u 0 ≡ start_set A
    unfolding SpansExploration
    tried_start y e f = subst (SpansExploration lower upper A S T j before k t u r) e p ∙ f

-- `is_full`
pub full_never : (l k : ℕ) → 10240 ≤ l → false ≡ (ltb l 10240 && ltb l k)
full_never l k h = rw (le-ltb _ _ h)

pub full_short : (l k : ℕ) → l < 10240 → ltb l k ≡ (ltb l 10240 && ltb l k)
full_short l k h = rw (lt-ltb _ _ h)

pub ruleset full_laws = (full_never, full_short, rules)

-- what the first pass came to
module _ (lower upper : ℕ) (A : Automaton) (t r : List ℕ) where
  pub attempt_unfinished : (x : Unfinished) → set_at t 0 ≡ start_set A → TableExploration lower upper A t r (Err x)
  unfolding TableExploration
  attempt_unfinished x e = e

  pub attempt_over : (before : List ℕ) → TableResult lower upper A before t r None → TableExploration lower upper A t r (Ok None)
  unfolding TableExploration
  attempt_over before p = record { before = before; explored = p; room = λ c e h. cc }

  pub attempt_done : (before : List ℕ) (c : SetCounts) → TableResult lower upper A before t r (Some c) → length r ≡ length before → (b : Bool)
      → b ≡ (ltb (length r) 10240 && ltb (length r) (5 * c.notes)) → b ≡ false → TableExploration lower upper A t r (Ok (Some c))
  unfolding TableExploration
  attempt_done before c p l b e f = record { before = before; explored = p; room = λ d q h. let z : c.notes ≡ d.notes = cc in fits d.notes h z }
    where
      fits : (j : ℕ) → j ≤ 2048 → c.notes ≡ j → 5 * j ≤ length before
      fits j h z =
          ⊎_elim
          (λ (g : ltb (length r) 10240 ≡ true).
          ⊎_elim
          (λ (d : ltb (length r) (5 * c.notes) ≡ true). let y : ◌≡◌ {A = Bool} true false = sym (rw (g, d)) ∙ sym e ∙ f in cc)
          (λ (d : ltb (length r) (5 * c.notes) ≡ false). let y : 5 * c.notes ≤ length r = ltb-false _ _ d in omega arith)
          (test (ltb (length r) (5 * c.notes))))
          (λ (g : ltb (length r) 10240 ≡ false). let y : 10240 ≤ length r = ltb-false _ _ g in omega arith)
          (test (ltb (length r) 10240))

  -- with room for all notes of a result
  pub complete_all : (before : List ℕ) (x : Option SetCounts) → TableResult lower upper A before t r x → length before ≡ 10240 → TableResultWithRoom lower upper A t r x
  complete_all before x p l = record { before = before; explored = p; room = λ c e h. omega arith }

  module _ (x : Result (Option SetCounts) Unfinished) (p : TableExploration lower upper A t r x) where
    pub attempt_finished : (y : Option SetCounts) → x ≡ Ok y → TableResultWithRoom lower upper A t r y
    unfolding TableExploration
    attempt_finished y e = subst (TableExploration lower upper A t r) e p

    pub attempt_start : (y : Unfinished) → x ≡ Err y → set_at t 0 ≡ start_set A
    unfolding TableExploration
    attempt_start y e = subst (TableExploration lower upper A t r) e p
