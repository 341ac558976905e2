-- The totalized automaton: where its transitions come from, and that it is well-formed.
use Prim.Native.Nat.{ℕ, zero, suc, ◌≤◌, ◌<◌}
use mathlib.Core.Bool.{Bool, true, false, cond}
use mathlib.Core.List.Memᴰ
use mathlib.Core.List.{List, [], ◌∷◌, ◌++◌, map, flat_map}
use mathlib.Core.Logic.{⊎_elim}
use mathlib.Core.Path.{◌≡◌, refl, sym, ◌∙◌}
use native.Mathlib.Omega.{arith}
use borrow.Author.Tests.{ltb-true, ltb-false}
use lib.Dec.{ltb, eqb}
use lib.ListN.{length, get_or, length-append, length-map, get_or-append}
use Rattle.lists.specs.Lists.{◌∈◌, Ascending, none, more}
use Rattle.lists.proofs.Tests.{test}
use Rattle.automata.specs.Automaton.{Transition, Automaton, leaving, states}
use Rattle.automata.specs.WellFormed.{here, Before, Sound, WellFormed}
use Rattle.automata.proofs.Ordered.{in_order_in, in_order_out, in_order_ascending}
use Rattle.ranges.specs.Span.{Span}
use Rattle.nondeterminism.specs.Nondeterminism.{holes_of, is_nfa}
use Rattle.nondeterminism.proofs.Holes.{state_holes}
use Rattle.totality.specs.Totality.{hole_to, filled, filled_in, loop_on, totalized, other_word, flipped, complemented}
use Rattle.automata.proofs.Leaving.{leaves, leaving_in}
use Rattle.lists.proofs.Every.{flat_in, flat_out}
use Rattle.lists.proofs.Members.{ascending_append}
use Rattle.automata.proofs.States.{states_in, states_out, states_ascend}

-- a transition of the totalized automaton is one that was there, a hole that is led to the sink, or the sink's loop
pub data TotalizedTransition (lower upper : ℕ) (A : Automaton) (e : Transition) : Type 0 where
  kept : e ∈ A.transitions → TotalizedTransition lower upper A e
  hole : (q : ℕ) (h : Span) → q < A.size → h ∈ holes_of lower upper (leaving A q) → e ≡ hole_to A.size q h → TotalizedTransition lower upper A e
  loop : e ≡ loop_on lower upper A.size → TotalizedTransition lower upper A e

module _ (lower upper : ℕ) (A : Automaton) (w : WellFormed A) where
  pub origin : (e : Transition) → e ∈ (totalized lower upper A).transitions → TotalizedTransition lower upper A e
  unfolding totalized filled_in filled
  origin e m = ⊎_elim inside (λ k. loop (Memᴰ.eq_of_singleton k)) (Memᴰ.append_cases (filled_in lower upper A (states A.size)) m)
    where
      inside : e ∈ filled_in lower upper A (states A.size) → TotalizedTransition lower upper A e
      inside k =
          let (q, i, j) = flat_out (λ q. filled lower upper A.size q (leaving A q)) e (states A.size) k in
          ⊎_elim (λ l. kept (leaves A q e l).0) (λ l. let (h, n, c) = Memᴰ.of_map (hole_to A.size q) (holes_of lower upper (leaving A q)) l in hole q h (states_out A.size q i) n (sym c))
          (Memᴰ.append_cases (leaving A q) (in_order_out e (leaving A q ++ map (hole_to A.size q) (holes_of lower upper (leaving A q))) j))

  -- every transition is kept, every hole is there, and so is the loop
  pub kept_in : {e : Transition} → e ∈ A.transitions → e ∈ (totalized lower upper A).transitions
  unfolding totalized filled_in filled
  kept_in {e} m =
      Memᴰ.append_left _
      (flat_in (λ q. filled lower upper A.size q (leaving A q)) (states_in A.size e.from (w.states.froms e m))
      (in_order_in (Memᴰ.append_left _ (leaving_in A e.from e m refl))))

  pub hole_in : (q : ℕ) (h : Span) → q < A.size → h ∈ holes_of lower upper (leaving A q) → hole_to A.size q h ∈ (totalized lower upper A).transitions
  unfolding totalized filled_in filled
  hole_in q h l m =
      Memᴰ.append_left _
      (flat_in (λ q. filled lower upper A.size q (leaving A q)) (states_in A.size q l) (in_order_in (Memᴰ.append_right (leaving A q) (Memᴰ.map (hole_to A.size q) m))))

  pub loop_in : loop_on lower upper A.size ∈ (totalized lower upper A).transitions
  unfolding totalized
  loop_in = Memᴰ.append_right (filled_in lower upper A (states A.size)) (Memᴰ.head refl)

-- transitions of ascending states, those of each in order
rows_ascend : (f : ℕ → List Transition) {qs : List ℕ} → Ascending ◌<◌ qs → ((q : ℕ) → Ascending Before (f q)) → ((q : ℕ) (e : Transition) → e ∈ f q → e.from ≡ q) → Ascending Before (flat_map f qs)
unfolding flat_map
rows_ascend f none a g = none
rows_ascend f {qs = q ∷ qs} (more l b) a g =
    ascending_append (a q) (rows_ascend f b a g)
    (λ x y m n. let (p, i, j) = flat_out f y qs n in let k : x.from < y.from = rw (g q x m, g p y j) (l p i) in here k)

-- the accept word of a state, and of the sink
module _ (l : List ℕ) where
  pub accept_same : (q : ℕ) → q < length l → get_or (l ++ 0 ∷ []) q 0 ≡ get_or l q 0
  accept_same q h = get_or-append l (0 ∷ []) 0 q h

  pub accept_zero : (q : ℕ) → length l ≤ q → get_or (l ++ 0 ∷ []) q 0 ≡ 0
  accept_zero q h = go l q h
    where
      go : (l : List ℕ) (q : ℕ) → length l ≤ q → get_or (l ++ 0 ∷ []) q 0 ≡ 0
      go [] zero h = refl
      go [] (suc q) h = refl
      go (x ∷ l) zero h = absurd (omega arith)
      go (x ∷ l) (suc q) h = go l q (omega arith)

module _ (lower upper : ℕ) (A : Automaton) (w : WellFormed A) (c : lower ≤ upper) where
  pub totalized_well : WellFormed (totalized lower upper A)
  unfolding totalized filled_in filled states
  totalized_well =
      record {
        states = record { starts = omega (arith, w.states.starts); froms = λ e m. from_in e (origin lower upper A w e m); tos = λ e m. to_in e (origin lower upper A w e m) };
        accepts = omega (arith, length-append A.accept (0 ∷ []), w.accepts);
        accept_words_lem = words;
        sound = λ e m. is_sound e (origin lower upper A w e m);
        ascends = rises;
      }
    where
      from_in : (e : Transition) → TotalizedTransition lower upper A e → e.from < (totalized lower upper A).size
      from_in e (kept m) = omega (arith, w.states.froms e m)
      from_in e (hole q h l m c) = rw c (omega arith)
      from_in e (loop c) = rw c (omega arith)

      to_in : (e : Transition) → TotalizedTransition lower upper A e → e.to < (totalized lower upper A).size
      to_in e (kept m) = omega (arith, w.states.tos e m)
      to_in e (hole q h l m c) = rw c (omega arith)
      to_in e (loop c) = rw c (omega arith)

      is_sound : (e : Transition) → TotalizedTransition lower upper A e → Sound e
      is_sound e (kept m) = w.sound e m
      is_sound e (hole q h l m c) = rw c (record { known = omega arith; full = (state_holes A w q lower upper).full h m; blank = λ z. absurd (omega arith) })
      is_sound e (loop d) = rw d (record { known = omega arith; full = c; blank = λ z. absurd (omega arith) })

      words : (q : ℕ) → get_or (A.accept ++ 0 ∷ []) q 0 ≤ 1
      words q =
          ⊎_elim (λ t. rw (accept_same A.accept q (ltb-true q (length A.accept) t)) (w.accept_words_lem q)) (λ t. rw (accept_zero A.accept q (ltb-false q (length A.accept) t)) (omega arith))
          (test (ltb q (length A.accept)))

      fill : ℕ → List Transition
      fill q = filled lower upper A.size q (leaving A q)

      fill_from : (q : ℕ) (e : Transition) → e ∈ fill q → e.from ≡ q
      fill_from q e m =
          ⊎_elim (λ k. (leaves A q e k).1) (λ k. let (h, n, c) = Memᴰ.of_map (hole_to A.size q) (holes_of lower upper (leaving A q)) k in rw (← c))
          (Memᴰ.append_cases (leaving A q) (in_order_out e (leaving A q ++ map (hole_to A.size q) (holes_of lower upper (leaving A q))) m))

      rises : Ascending Before (filled_in lower upper A (states A.size) ++ loop_on lower upper A.size ∷ [])
      rises =
          ascending_append
          (rows_ascend fill (states_ascend A.size)
          (λ q. in_order_ascending (leaving A q ++ map (hole_to A.size q) (holes_of lower upper (leaving A q)))) fill_from)
          (more (λ y m. absurd (Memᴰ.not-nil m)) none)
          (λ x y m n.
          let (q, i, j) = flat_out fill x (states A.size) m in
          let l : x.from < y.from = rw (fill_from q x j, Memᴰ.eq_of_singleton n) (states_out A.size q i) in
          here l)

-- flipping acceptance keeps all else
pub other_at : (l : List ℕ) (q : ℕ) → q < length l → get_or (map other_word l) q 0 ≡ other_word (get_or l q 0)
other_at [] q h = absurd (omega arith)
other_at (x ∷ l) zero h = refl
other_at (x ∷ l) (suc q) h = other_at l q (omega arith)

other_small : (x : ℕ) → other_word x ≤ 1
other_small x = go (eqb x 0)
  where
    go : (b : Bool) → cond b 1 0 ≤ 1
    go true = omega arith
    go false = omega arith

pub flipped_well : (A : Automaton) → WellFormed A → WellFormed (flipped A)
unfolding flipped
flipped_well A w =
    record {
      states = record { starts = w.states.starts; froms = w.states.froms; tos = w.states.tos };
      accepts = length-map A.accept other_word ∙ w.accepts;
      accept_words_lem = words A.accept;
      sound = w.sound;
      ascends = w.ascends;
    }
  where
    words : (l : List ℕ) (q : ℕ) → get_or (map other_word l) q 0 ≤ 1
    words [] q = omega arith
    words (x ∷ l) zero = other_small x
    words (x ∷ l) (suc q) = words l q

pub complemented_well : (lower upper : ℕ) (A : Automaton) → lower ≤ upper → WellFormed A → WellFormed (complemented lower upper A)
unfolding complemented
complemented_well lower upper A c w = go (is_nfa lower upper A)
  where
    go : (b : Bool) → WellFormed (flipped (cond b (totalized lower upper A) A))
    go true = flipped_well (totalized lower upper A) (totalized_well lower upper A w c)
    go false = flipped_well A w
