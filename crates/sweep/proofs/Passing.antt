-- The laws by which the pass is proved: the event at a place is passed, and where the pass stops.
use Prim.Native.Nat.{ℕ, ◌+◌, ◌*◌, ◌≤◌, ◌<◌}
use mathlib.Core.Bool.{Bool, true, false, false≢true}
use mathlib.Core.List.Memᴰ
use mathlib.Core.List.{List, ◌∷◌}
use mathlib.Core.Logic.{inl, inr}
use mathlib.Core.Path.{◌≡◌, refl, sym, ◌∙◌, ap, subst}
use native.Mathlib.Omega.{arith}
use borrow.Author.Rules.{rules}
use borrow.Author.Tests.{lt-leb, le-leb, ne_eqb}
use lib.ListN.{length, get_or, drop, length-set, replicate}
use Rattle.lists.specs.Lists.{◌∈◌}
use Rattle.lists.proofs.Parts.{drop_at}
use Rattle.automata.specs.Automaton.{Transition}
use Rattle.sets.specs.Sets.{Set, has}
use Rattle.sets.specs.inner.BitSet.{set_at}
use Rattle.sets.specs.inner.Words.{put_at}
use Rattle.sets.proofs.BitSet.{fresh_at}
use Rattle.sets.proofs.Stores.{put_same}
use Rattle.sheets.specs.Sheet.{records_at, read}
use Rattle.sheets.specs.inner.Accepted.{record_count}
use Rattle.sheets.proofs.Meaning.{read_well}
use Rattle.words.specs.Simulation.{outgoing}
use Rattle.sweep.specs.inner.Events.{RangeAt, event, event_at, events_at, RecordNumbers}
use Rattle.sweep.specs.inner.Tree.{Tree, leaf, LeafSet}
use Rattle.sweep.specs.inner.Sweep.{Passes}
use Rattle.sweep.specs.inner.Passing.{row, Passing, Stopped, RangeNoted, over, known, longer, begun, Closes, held, empty, cut_at}
use Rattle.automata.proofs.Records.{record_in}
use Rattle.sweep.proofs.Events.{number_opening, number_other}
use Rattle.sweep.proofs.Sweep.{opening_past, opening_noted, ending_other, ending_held, ending_gone}

-- `fill`, `open` and `close`
pub fill_done : (t u y c : List ℕ) (q : ℕ) → y ≡ put_at (replicate 4 0) 0 c (4 * q) → LeafSet t u q (set_at y 0) → LeafSet t u q (set_at c (4 * q))
fill_done t u y c q e l = subst (LeafSet t u q) (ap (λ v. set_at v 0) e ∙ put_same (replicate 4 0) 0 c (4 * q) (omega arith)) l

pub close_empty : (a q : ℕ) (r t u : List ℕ) → get_or r q 0 ≤ a → LeafSet t u q (set_at (replicate 4 0) 0) → Closes a q r t u
close_empty a q r t u h l = empty h (subst (LeafSet t u q) (fresh_at 4 0) l)

pub ruleset note_laws = (over, known, longer, begun, held, close_empty, fill_done, rules)

module _ (s c opens ends : List ℕ) (S : Set) (i j a : ℕ) (r t : List ℕ) (p : Passing s c opens ends S i j a r t) where
  -- the opening at i
  module _ (h : i < length opens) where
    pub opening_number : get_or opens i 0 < record_count s
    opening_number = p.opens_below.below i h

    module _ (q f l d : ℕ) (e : RangeAt s (get_or opens i 0) q f l d) where
      abbrev opening : Transition
      opening = record { from = f; kind = get_or opens i 0; first = q; last = l; to = d }

      is_opening : event_at 0 s (get_or opens i 0) ≡ opening
      unfolding event_at event
      is_opening = rw (e.is_state, e.is_first_lem, e.is_last, e.is_to)

      opening_here : Passes (outgoing (read s) S) S (events_at 0 s opens) (events_at 1 s ends) (opening ∷ events_at 0 s (drop (i + 1) opens)) (events_at 1 s (drop j ends)) a r (row c) (leaf t)
      opening_here =
          subst (λ Q. Passes (outgoing (read s) S) S (events_at 0 s opens) (events_at 1 s ends) Q (events_at 1 s (drop j ends)) a r (row c) (leaf t))
          (ap (events_at 0 s) (drop_at opens i h) ∙ ap (λ v. v ∷ events_at 0 s (drop (i + 1) opens)) is_opening)
          p.passes

      opening_in : opening ∈ events_at 0 s opens
      opening_in = opening_here.opened.inside _ (Memᴰ.head refl)

      pub opening_state : q < 256
      opening_state = p.passes.opening.states _ opening_in

      pub opening_target : d < 256
      opening_target = p.passes.opening.targets _ opening_in

      -- the table of closures has a row for it
      pub opening_row : 4 * d + 4 ≤ length c
      opening_row =
          let a = p.closed.accepted in
          omega (arith, e.is_to, p.closed.long, (read_well s a).states.tos _ (record_in (record_count s) s (records_at s) a.whole (get_or opens i 0) opening_number))

      after : {u v : List ℕ} → length u ≡ 256 → Tree v
          → Passes (outgoing (read s) S) S (events_at 0 s opens) (events_at 1 s ends) (events_at 0 s (drop (i + 1) opens)) (events_at 1 s (drop j ends)) a u (row c) (leaf v)
          → Passing s c opens ends S (i + 1) j a u v
      after m w x =
          record { closed = p.closed; opens_below = p.opens_below; ends_below = p.ends_below; in_opens = omega arith; in_ends = p.in_ends; long = m; tree = w; passes = x }

      -- an event of another state
      pub open_other : (x : Bool) → x ≡ has q S → x ≡ false → Passing s c opens ends S (i + 1) j a r t
      open_other x y n = after p.long p.tree (opening_past opening_here (λ m. absurd (false≢true (sym (sym y ∙ n) ∙ m))))

      -- one of the set, up to a
      pub open_noted : (x : Bool) → x ≡ has q S → x ≡ true → f ≤ a
          → (u v : List ℕ) → RangeNoted c a (l) (d) r t u v → Passing s c opens ends S (i + 1) j a u v
      open_noted x y z g u v (over m) = after p.long p.tree (opening_past opening_here (λ _. record { before = g; noted = inr m }))
      open_noted x y z g u v (known m) = after p.long p.tree (opening_past opening_here (λ _. record { before = g; noted = inl m }))
      open_noted x y z g u v (longer m k n) =
          after (simp length-set p.long) p.tree
          (opening_noted opening_here (sym y ∙ z) g m k (omega (arith, opening_target, p.long)) _ refl (leaf t) (p.passes.live _ opening_target n) (λ x y. refl))
      open_noted x y z g u v (begun m k y') =
          after (simp length-set p.long) y'.tree
          (opening_noted opening_here (sym y ∙ z) g m k (omega (arith, opening_target, p.long)) _ refl (leaf v) (unfold row in y'.here) y'.others)

      pub stop_opening : (x : Bool) → x ≡ has q S → x ≡ true → a < f → Stopped 0 s opens S i a
      stop_opening x y z m =
          record {
            mine = λ g. ap (λ v. has v.first S) is_opening ∙ sym y ∙ z;
            above = λ g. omega (arith, ap (λ v. v.from) is_opening);
          }

  -- the ending at j
  module _ (h : j < length ends) where
    pub ending_number : get_or ends j 0 < record_count s
    ending_number = p.ends_below.below j h

    module _ (q f l d : ℕ) (e : RangeAt s (get_or ends j 0) q f l d) where
      abbrev ending : Transition
      ending = record { from = l; kind = get_or ends j 0; first = q; last = l; to = d }

      is_ending : event_at 1 s (get_or ends j 0) ≡ ending
      unfolding event_at event
      is_ending = rw (e.is_state, e.is_last, e.is_to)

      ending_here : Passes (outgoing (read s) S) S (events_at 0 s opens) (events_at 1 s ends) (events_at 0 s (drop i opens)) (ending ∷ events_at 1 s (drop (j + 1) ends)) a r (row c) (leaf t)
      ending_here =
          subst (λ R. Passes (outgoing (read s) S) S (events_at 0 s opens) (events_at 1 s ends) (events_at 0 s (drop i opens)) R a r (row c) (leaf t))
          (ap (events_at 1 s) (drop_at ends j h) ∙ ap (λ v. v ∷ events_at 1 s (drop (j + 1) ends)) is_ending)
          p.passes

      ending_in : ending ∈ events_at 1 s ends
      ending_in = ending_here.ended.inside _ (Memᴰ.head refl)

      pub ending_state : q < 256
      ending_state = p.passes.ending.states _ ending_in

      pub ending_target : d < 256
      ending_target = p.passes.ending.targets _ ending_in

      behind : {v : List ℕ} → Tree v
          → Passes (outgoing (read s) S) S (events_at 0 s opens) (events_at 1 s ends) (events_at 0 s (drop i opens)) (events_at 1 s (drop (j + 1) ends)) a r (row c) (leaf v)
          → Passing s c opens ends S i (j + 1) a r v
      behind w x =
          record { closed = p.closed; opens_below = p.opens_below; ends_below = p.ends_below; in_opens = p.in_opens; in_ends = omega arith; long = p.long; tree = w; passes = x }

      pub end_other : (x : Bool) → x ≡ has q S → x ≡ false → Passing s c opens ends S i (j + 1) a r t
      end_other x y n = behind p.tree (ending_other ending_here (sym y ∙ n))

      pub end_noted : (x : Bool) → x ≡ has q S → x ≡ true → l < a → (v : List ℕ) → Closes a (d) r t v → Passing s c opens ends S i (j + 1) a r v
      end_noted x y z g v (held m) = behind p.tree (ending_held ending_here g m)
      end_noted x y z g v (empty m y') = behind y'.tree (ending_gone ending_here g m (leaf v) y'.here y'.others)

      pub stop_ending : (x : Bool) → x ≡ has q S → x ≡ true → a ≤ l → Stopped 1 s ends S j a
      stop_ending x y z m =
          record {
            mine = λ g. ap (λ v. has v.first S) is_ending ∙ sym y ∙ z;
            above = λ g. omega (arith, ap (λ v. v.from) is_ending);
          }

pub stop_end : (k : ℕ) (s ev : List ℕ) (S : Set) (at a : ℕ) → length ev ≤ at → Stopped k s ev S at a
stop_end k s ev S at a l = record { mine = λ h. absurd (omega arith); above = λ h. absurd (omega arith) }

pub ruleset open_laws = (opening_number, opening_state, opening_target, opening_row, open_other, open_noted, stop_opening, stop_end, rules)

pub ruleset end_laws = (ending_number, ending_state, ending_target, end_other, end_noted, stop_ending, stop_end, rules)

-- `symbol_of` and `cut_at`
module _ (k : ℕ) (s : List ℕ) (i q f l d : ℕ) (e : RangeAt s i q f l d) where
  pub symbol_opening : k ≡ 0 → f ≡ (event_at k s i).from
  unfolding event_at event
  symbol_opening z = rw z e.is_first_lem

  pub symbol_ending : (k ≡ 0 → ⊥) → l ≡ (event_at k s i).from
  unfolding event_at event
  symbol_ending n = rw (ne_eqb k 0 n) e.is_last

pub ruleset symbol_laws = (symbol_opening, symbol_ending, number_opening, number_other, rules)

module _ (k : ℕ) (s ev : List ℕ) (at top : ℕ) where
  pub cut_end : length ev ≤ at → top ≡ cut_at k s ev at top
  unfolding cut_at
  cut_end h = rw (le-leb _ _ h)

  pub cut_number : at < length ev → RecordNumbers s ev → get_or ev at 0 < record_count s
  cut_number h n = n.below at h

  pub cut_here : (x c : ℕ) → at < length ev → x ≡ (event_at k s (get_or ev at 0)).from → c ≡ x + k → c < top → c ≡ cut_at k s ev at top
  unfolding cut_at
  cut_here x c h d e l = rw (lt-leb _ _ h) (omega arith)

  pub cut_far : (x c : ℕ) → at < length ev → x ≡ (event_at k s (get_or ev at 0)).from → c ≡ x + k → top ≤ c → top ≡ cut_at k s ev at top
  unfolding cut_at
  cut_far x c h d e l = rw (lt-leb _ _ h) (omega arith)

pub ruleset cut_laws = (cut_end, cut_number, cut_here, cut_far, rules)
