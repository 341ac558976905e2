-- Reading a word symbol by symbol: the laws by which acceptance is proved.
use Prim.Native.Nat.{ℕ, ◌+◌, ◌*◌, ◌≤◌, ◌<◌}
use mathlib.Core.Bool.{Bool, true}
use mathlib.Core.List.{List, [], ◌∷◌}
use mathlib.Core.Path.{◌≡◌, refl, sym, ◌∙◌, ap, subst}
use borrow.Author.Rules.{rules}
use lib.ListN.{length, get_or, drop, drop_of_length-le}
use lib.Seq.{sets}
use Rattle.lists.proofs.Parts.{drop_at}
use Rattle.automata.specs.Automaton.{Automaton}
use Rattle.sets.specs.Sets.{Set, is_empty}
use Rattle.sets.specs.inner.Members.{Canon}
use Rattle.sets.specs.inner.BitSet.{set_at, entries}
use Rattle.sets.specs.inner.Words.{put_at}
use Rattle.sets.proofs.Sets.{empty_yes}
use Rattle.sets.proofs.BitSet.{entry_at}
use Rattle.sets.proofs.Stores.{put_same}
use Rattle.sheets.specs.inner.Accepted.{Accepted}
use Rattle.sheets.specs.inner.Runs.{starts_of}
use Rattle.sheets.specs.Sheet.{state_count, read}
use Rattle.sheets.proofs.Meaning.{read_well}
use Rattle.sheets.proofs.Runs.{starts_indexed}
use Rattle.words.specs.Simulation.{closures, closure, step, simulate, start_set}
use Rattle.words.specs.inner.Gather.{Tables}
use Rattle.words.proofs.Outgoing.{step_nil}
use Rattle.words.proofs.Stepping.{step_canon}

pub simulate_nothing : (A : Automaton) (w : List ℕ) → simulate A [] w ≡ []
unfolding simulate
simulate_nothing A [] = refl
simulate_nothing A (a ∷ w) = ap (λ S. simulate A S w) (step_nil A a) ∙ simulate_nothing A w

pub advance_done : (cur u v : List ℕ) (S : Set) → set_at u 0 ≡ S → v ≡ put_at cur 0 u 0 → 4 ≤ length cur → set_at v 0 ≡ S
advance_done cur u v S e h l = ap (λ x. set_at x 0) h ∙ put_same cur 0 u 0 l ∙ e

-- the symbols of the word from i on are left to read
module _ (s old : List ℕ) (word cur : List ℕ) (i : ℕ) (e : simulate (read s) (set_at cur 0) (drop i word) ≡ simulate (read s) (set_at old 0) word) where
  pub read_ended : length word ≤ i → set_at cur 0 ≡ simulate (read s) (set_at old 0) word
  unfolding simulate
  read_ended h = ap (simulate (read s) (set_at cur 0)) (sym (drop_of_length-le word h)) ∙ e

  pub read_nothing : (b : Bool) → b ≡ is_empty (set_at cur 0) → b ≡ true → set_at cur 0 ≡ simulate (read s) (set_at old 0) word
  read_nothing b h k =
      let n : set_at cur 0 ≡ [] = empty_yes (set_at cur 0) (sym h ∙ k) in
      n ∙ sym (simulate_nothing (read s) (drop i word)) ∙ ap (λ S. simulate (read s) S (drop i word)) (sym n) ∙ e

  pub read_next : i < length word → (u : List ℕ) → set_at u 0 ≡ step (read s) (set_at cur 0) (get_or word i 0) → simulate (read s) (set_at u 0) (drop (i + 1) word) ≡ simulate (read s) (set_at old 0) word
  unfolding simulate
  read_next h u k = ap (λ S. simulate (read s) S (drop (i + 1) word)) k ∙ ap (simulate (read s) (set_at cur 0)) (sym (drop_at word i h)) ∙ e

pub read_canon : (s starts c cur u : List ℕ) (a : ℕ) → Tables s starts c → set_at u 0 ≡ step (read s) (set_at cur 0) a → Canon (state_count s) (set_at u 0)
read_canon s starts c cur u a t e = subst (Canon (state_count s)) (sym e) (step_canon (read s) (read_well s t.accepted).states a (set_at cur 0))

pub ruleset read_laws = (advance_done, read_ended, read_nothing, read_next, read_canon, rules)

-- the tables and the start
pub begin_tables : (s old starts c : List ℕ) → Accepted s → starts ≡ sets old 0 (starts_of s) → state_count s < length old
    → 4 * state_count s ≤ length c → entries c (state_count s) ≡ closures (read s) → Tables s starts c
begin_tables s old starts c a e l m h =
    record { accepted = a; indexed = starts_indexed s old starts e l; long = m; closed = h }

pub begin_set : (s c cur v : List ℕ) → Accepted s → entries c (state_count s) ≡ closures (read s) → v ≡ put_at cur 0 c (4 * get_or s 1 0) → 4 ≤ length cur → set_at v 0 ≡ start_set (read s)
unfolding start_set closure
begin_set s c cur v a h e l =
    ap (λ x. set_at x 0) e ∙ put_same cur 0 c (4 * get_or s 1 0) l ∙ sym (entry_at c (state_count s) (get_or s 1 0) a.start) ∙ ap (λ R. get_or R (get_or s 1 0) []) h

pub ruleset begin_laws = (begin_tables, begin_set, rules)
