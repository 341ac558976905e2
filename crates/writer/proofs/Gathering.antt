-- Lists of states that pass a test, written one by one.
use Prim.Native.Nat.{ℕ, ◌+◌, ◌≤◌, ◌<◌}
use mathlib.Core.Bool.{Bool, true, false, cond}
use mathlib.Core.List.{List, [], ◌∷◌, ◌++◌}
use mathlib.Core.Path.{◌≡◌, refl, sym, ◌∙◌, ap}
use native.Mathlib.Omega.{arith}
use borrow.Author.Rules.{rules}
use lib.Dec.{eqb, ltb}
use lib.ListN.{length, get_or, drop, drop_of_length-le}
use Rattle.lists.specs.Lists.{◌∈◌, filter}
use Rattle.lists.proofs.Lists.{length_filter, filter_out, length_tabulate, tabulate_at}
use Rattle.lists.proofs.Parts.{drop_at}
use Rattle.automata.specs.Automaton.{states, accept_of}
use Rattle.automata.proofs.States.{length_states, states_out, states_at, states_end}
use Rattle.sheets.specs.Sheet.{state_count, read}
use Rattle.sheets.specs.inner.Accepted.{Accepted}
use Rattle.stores.specs.Written.{Written}
use Rattle.stores.proofs.Left.{Left, left_done, left_room, left_next}
use Rattle.stores.proofs.Written.{written_none, written_length}
use Rattle.writer.specs.Text.{is_written, written_states}
use Rattle.writer.specs.inner.Tables.{written_marks, StatesBelow, accepting_among}

-- one state, if it is kept
module _ (l : List ℕ) (at q : ℕ) (keep : Bool) where
  pub kept_room : at + length (cond keep (q ∷ []) []) ≤ length l → keep ≡ true → at + 1 ≤ length l
  kept_room r e = rw e at r

  pub kept_put : (m : List ℕ) (end : ℕ) → Written l at (q ∷ []) m end → keep ≡ true → Written l at (cond keep (q ∷ []) []) m end
  kept_put m end w e = rw e w

  pub dropped_put : keep ≡ false → Written l at (cond keep (q ∷ []) []) l at
  dropped_put e = rw e (written_none l at)

pub ruleset state_laws = (kept_room, kept_put, dropped_put, written_length, rules)

filter_cons : (f : ℕ → Bool) (x : ℕ) (b : Bool) (l : List ℕ) → b ≡ f x → filter f (x ∷ l) ≡ cond b (x ∷ []) [] ++ filter f l
unfolding filter
filter_cons f x true l e = rw (sym e)
filter_cons f x false l e = rw (sym e)

-- of the states qs those that pass: the ones from i on are left
pub record StatesLeft (f : ℕ → Bool) (qs o₀ o : List ℕ) (end i : ℕ) : Type 0 where
  pub left : Left o₀ 0 (filter f qs) o end (filter f (drop i qs))

module _ (f : ℕ → Bool) (qs o₀ o : List ℕ) (end i : ℕ) (g : StatesLeft f qs o₀ o end i) where
  ended : drop i qs ≡ [] → Written o₀ 0 (filter f qs) o end
  unfolding filter
  ended e = left_done o₀ 0 (filter f qs) o end (filter f (drop i qs)) g.left (ap (filter f) e)

  module _ (x : ℕ) (e : drop i qs ≡ x ∷ drop (i + 1) qs) (b : Bool) (k : b ≡ f x) where
    split : filter f (drop i qs) ≡ cond b (x ∷ []) [] ++ filter f (drop (i + 1) qs)
    split = ap (filter f) e ∙ filter_cons f x b (drop (i + 1) qs) k

    room : length qs ≤ length o₀ → end + length (cond b (x ∷ []) []) ≤ length o
    room h =
        left_room o₀ 0 (filter f qs) o end (filter f (drop i qs)) g.left (cond b (x ∷ []) []) (filter f (drop (i + 1) qs)) split
        (omega (arith, length_filter f qs))

    next : (o' : List ℕ) (end' : ℕ) → Written o end (cond b (x ∷ []) []) o' end' → StatesLeft f qs o₀ o' end' (i + 1)
    next o' end' w =
        record { left = left_next o₀ 0 (filter f qs) o end (filter f (drop i qs)) g.left (cond b (x ∷ []) []) (filter f (drop (i + 1) qs)) split o' end' w }

-- the written states are states
pub written_few : (s : List ℕ) → length (written_states (read s)) ≤ state_count s
unfolding written_states
written_few s = omega (arith, length_filter (is_written (read s)) (states (state_count s)), length_states (state_count s))

pub written_in : (s : List ℕ) (q : ℕ) → q ∈ written_states (read s) → q < state_count s
unfolding written_states
written_in s q m = states_out (state_count s) q (filter_out _ q _ m).0

-- the written states
module _ (s marks o₀ o : List ℕ) (end q : ℕ) (g : StatesLeft (is_written (read s)) (states (state_count s)) o₀ o end q) where
  pub written_ended : state_count s ≤ q → Written o₀ 0 (written_states (read s)) o end
  unfolding written_states
  written_ended h = ended _ _ o₀ o end q g (states_end (state_count s) q h)

  module _ (a : Accepted s) (m : marks ≡ written_marks (read s)) (h : q < state_count s) where
    mark_is : eqb (get_or marks q 0) 1 ≡ is_written (read s) q
    unfolding written_marks
    mark_is =
        ap (λ (l : List ℕ). eqb (get_or l q 0) 1) m ∙ ap (λ x. eqb x 1) (tabulate_at 256 (λ p. cond (is_written (read s) p) 1 0) q 0 (omega (arith, a.few_states)))
        ∙ one (is_written (read s) q)
      where
        one : (b : Bool) → eqb (cond b 1 0) 1 ≡ b
        one true = refl
        one false = refl

    pub written_room : length o₀ ≡ 256 → end + length (cond (eqb (get_or marks q 0) 1) (q ∷ []) []) ≤ length o
    written_room k =
        room _ _ o₀ o end q g q (states_at (state_count s) q h) (eqb (get_or marks q 0) 1) mark_is
        (omega (arith, length_states (state_count s), a.few_states))

    pub written_next : (o' : List ℕ) (end' : ℕ) → Written o end (cond (eqb (get_or marks q 0) 1) (q ∷ []) []) o' end'
        → StatesLeft (is_written (read s)) (states (state_count s)) o₀ o' end' (q + 1)
    written_next = next _ _ o₀ o end q g q (states_at (state_count s) q h) (eqb (get_or marks q 0) 1) mark_is

pub mark_room : (s marks : List ℕ) (q : ℕ) → Accepted s → marks ≡ written_marks (read s) → q < state_count s → q < length marks
unfolding written_marks
mark_room s marks q a m h = omega (arith, a.few_states, ap length m, length_tabulate {X = ℕ} 256 (λ p. cond (is_written (read s) p) 1 0))

pub ruleset written_laws = (written_ended, written_room, written_next, mark_room, written_length, rules)

-- those of some states that accept
unfoldable pub accepts : List ℕ → ℕ → Bool
accepts s q = ltb 0 (accept_of (read s) q)

pub state_below : (n i : ℕ) (qs : List ℕ) → StatesBelow n qs → i < length qs → get_or qs i 0 < n
state_below n i qs b h = b.at i h

module _ (s qs o₀ o : List ℕ) (end i : ℕ) (g : StatesLeft (accepts s) qs o₀ o end i) where
  pub accepting_ended : length qs ≤ i → Written o₀ 0 (accepting_among (read s) qs) o end
  unfolding accepts accepting_among
  accepting_ended h = ended _ _ o₀ o end i g (drop_of_length-le qs {i = i} h)

  module _ (h : i < length qs) (x : ℕ) (e : x ≡ get_or (read s).accept (get_or qs i 0) 0) where
    pub accepting_room : length qs ≤ length o₀ → end + length (cond (ltb 0 x) (get_or qs i 0 ∷ []) []) ≤ length o
    unfolding accepts
    accepting_room = room _ _ o₀ o end i g (get_or qs i 0) (drop_at qs i h) (ltb 0 x) (ap (ltb 0) e)

    pub accepting_next : (o' : List ℕ) (end' : ℕ) → Written o end (cond (ltb 0 x) (get_or qs i 0 ∷ []) []) o' end' → StatesLeft (accepts s) qs o₀ o' end' (i + 1)
    unfolding accepts
    accepting_next = next _ _ o₀ o end i g (get_or qs i 0) (drop_at qs i h) (ltb 0 x) (ap (ltb 0) e)

pub ruleset accepting_laws = (accepting_ended, accepting_room, accepting_next, state_below, written_length, rules)
