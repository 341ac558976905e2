-- Epsilons in a product: the laws by which the search for 7 is proved.
use Prim.Native.Nat.{ℕ, ◌/◌, ◌%◌, ◌≤◌, ◌<◌}
use mathlib.Core.Bool.{Bool, true, false, ◌||◌, false≢true, or-true}
use mathlib.Core.List.Memᴰ
use mathlib.Core.List.{List, ◌∷◌}
use mathlib.Core.Logic.{⊎_elim}
use mathlib.Core.Path.{◌≡◌, refl, sym, ◌∙◌, ap, ap₂, subst}
use native.Mathlib.Omega.{arith}
use borrow.Author.Rules.{rules}
use borrow.Author.Tests.{eq-eqb, ne_eqb, eqb-true}
use lib.Dec.{eqb}
use lib.ListN.{get_or, length, take, drop}
use Rattle.lists.specs.Lists.{◌∈◌, any, Ascending}
use Rattle.lists.proofs.Lists.{any_out, filter_out}
use Rattle.lists.proofs.Members.{ascending_filter, at_in, map_in}
use Rattle.lists.proofs.Chains.{any_mapped}
use Rattle.std.specs.List.{list_any}
use Rattle.lists.proofs.Tests.{test, or_left}
use Rattle.automata.specs.Automaton.{Transition, leaving, has_epsilon}
use Rattle.automata.specs.Records.{read_records, write_records}
use Rattle.automata.specs.inner.Records.{record_at}
use Rattle.automata.specs.WellFormed.{here, later, Before}
use Rattle.automata.proofs.Records.{read_write, read_front, read_short}
use Rattle.sheets.specs.inner.Runs.{IndexedSheet}
use Rattle.sheets.specs.Sheet.{state_count, read}
use Rattle.sheets.proofs.Meaning.{read_well}
use Rattle.sheets.proofs.Named.{ready_run}
use Rattle.product.specs.Product.{is_none, blocked, blocked_at}
use Rattle.product.specs.inner.Tables.{pair_of, table_of, PairsBelow, EpsilonFirst}
use Rattle.product.proofs.Queueing.{entry_in}

-- in a run an epsilon comes before the ranges
before_epsilon : (q : ℕ) (d e : Transition) → d.from ≡ q → e.from ≡ q → Before d e → e.kind ≡ 0 → d.kind ≡ 0
before_epsilon q d e f g (here h) k = absurd (omega arith)
before_epsilon q d e f g (later p (here h)) k = absurd (omega arith)
before_epsilon q d e f g (later p (later h l)) k = h ∙ k

epsilon_front : (q : ℕ) {es : List Transition} → ((e : Transition) → e ∈ es → e.from ≡ q) → Ascending Before es → has_epsilon es ≡ true → has_epsilon (take 1 es) ≡ true
unfolding has_epsilon any
epsilon_front q f Ascending.none h = h
epsilon_front q {es = d ∷ es} f (Ascending.more g a) h =
    let (e, m, k) = any_out (λ e. eqb e.kind 0) (d ∷ es) h in
    or_left (eqb d.kind 0) false
    (⊎_elim (λ (p : e ≡ d). rw (← p) k)
    (λ n. eq-eqb _ _ (before_epsilon q d e (f d (Memᴰ.head refl)) (f e (Memᴰ.tail n)) (g e n) (eqb-true _ _ k)))
    (Memᴰ.cases_cons m))

pub run_first : (s runs : List ℕ) (q : ℕ) (run : List ℕ) → IndexedSheet s runs → run ≡ write_records (leaving (read s) q) → EpsilonFirst (read_records run)
unfolding leaving
run_first s runs q run r e =
    rw (e, read_write)
    (record {
      first = epsilon_front q (λ d m. eqb-true _ _ (filter_out (λ e. eqb e.from q) d (read s).transitions m).1) (ascending_filter (λ e. eqb e.from q) (read_well s r.accepted).ascends);
    })

no_epsilon : (s : List ℕ) → 5 ≤ length s → EpsilonFirst (read_records s) → (get_or s 1 0 ≡ 0 → ⊥) → has_epsilon (read_records s) ≡ false
unfolding has_epsilon any
no_epsilon s l e n =
    ⊎_elim
    (λ (t : has_epsilon (read_records s) ≡ true).
    let u : (eqb (get_or s 1 0) 0 || false) ≡ true = rw (read_front s l) at (e.first t) in
    let v : false ≡ true = rw (ne_eqb (get_or s 1 0) 0 n) at u in
    absurd (false≢true v))
    (λ t. t)
    (test (has_epsilon (read_records s)))

module _ (first second : List ℕ) where
  pub blocked_none_left : length first < 5 → false ≡ blocked (read_records first) (read_records second)
  unfolding blocked is_none
  blocked_none_left h = rw (read_short first h)

  module _ (f : 5 ≤ length first) where
    pub blocked_none_right : length second < 5 → false ≡ blocked (read_records first) (read_records second)
    unfolding blocked is_none
    blocked_none_right h = rw (read_front first f, read_short second h)

    module _ (g : 5 ≤ length second) where
      pub blocked_left : get_or first 1 0 ≡ 0 → true ≡ blocked (read_records first) (read_records second)
      unfolding blocked is_none has_epsilon any
      blocked_left h = rw (read_front first f, read_front second g, eq-eqb (get_or first 1 0) 0 h)

      pub blocked_right : get_or second 1 0 ≡ 0 → true ≡ blocked (read_records first) (read_records second)
      unfolding blocked is_none has_epsilon any
      blocked_right h = rw (read_front first f, read_front second g, eq-eqb (get_or second 1 0) 0 h) (sym (or-true (any (λ e. eqb e.kind 0) (record_at first 0 ∷ read_records (drop 5 first)))))

      pub blocked_free : EpsilonFirst (read_records first) → EpsilonFirst (read_records second) → (get_or first 1 0 ≡ 0 → ⊥) → (get_or second 1 0 ≡ 0 → ⊥)
          → false ≡ blocked (read_records first) (read_records second)
      unfolding blocked is_none
      blocked_free p q h k = let x = no_epsilon first f p h in let y = no_epsilon second g q k in rw (x, y, read_front first f, read_front second g)

pub ruleset blocked_laws = (blocked_none_left, blocked_none_right, blocked_left, blocked_right, blocked_free, rules)

pub pair_blocked : (a b : List ℕ) (c : ℕ) (first second : List ℕ) (r : Bool) → first ≡ write_records (leaving (read a) (c / 256)) → second ≡ write_records (leaving (read b) (c % 256))
    → r ≡ blocked (read_records first) (read_records second) → r ≡ blocked_at (read a) (read b) (pair_of c)
unfolding blocked_at
pair_blocked a b c first second r e f h =
    h ∙ ap₂ (λ x y. blocked x y) (ap read_records e ∙ read_write (leaving (read a) (c / 256))) (ap read_records f ∙ read_write (leaving (read b) (c % 256)))

pub ruleset pair_blocked_laws = (ready_run, run_first, pair_blocked, rules)

-- whether a pair of the table is blocked
pub any_blocked : (a b words : List ℕ) (n : ℕ) → list_any (λ c. blocked_at (read a) (read b) (pair_of c)) (take n words) ≡ any (blocked_at (read a) (read b)) (table_of words n)
unfolding table_of
any_blocked a b words n = any_mapped (blocked_at (read a) (read b)) pair_of (take n words)

-- a pair of the table has states of both sheets
module _ (a b words : List ℕ) (n i : ℕ) (w : PairsBelow (state_count a) (state_count b) (table_of words n)) (l : n ≤ length words) (h : i < n) where
  pub within_left : (pair_of (get_or words i 0)).left < state_count a
  within_left = (w.states (pair_of (get_or words i 0)) (entry_in words n i l h)).0

  pub within_right : (pair_of (get_or words i 0)).right < state_count b
  within_right = (w.states (pair_of (get_or words i 0)) (entry_in words n i l h)).1

module _ (a b words : List ℕ) (n k c : ℕ) (w : PairsBelow (state_count a) (state_count b) (table_of words n)) (h : k < length (take n words)) (e : c ≡ get_or (take n words) k c) where
  word_in : pair_of c ∈ table_of words n
  unfolding table_of
  word_in = map_in pair_of (subst (λ (x : ℕ). x ∈ take n words) (sym e) (at_in (take n words) k c h))

  pub word_left : c / 256 < state_count a
  word_left = (w.states (pair_of c) word_in).0

  pub word_right : c % 256 < state_count b
  word_right = (w.states (pair_of c) word_in).1

pub ruleset word_laws = (word_left, word_right, rules)
