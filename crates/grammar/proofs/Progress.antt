-- What holds of what the pieces of the grammar find: they end within the text, behind the place where they start.
use Prim.Native.Nat.{ℕ, suc, ◌+◌, ◌≤◌, ◌<◌}
use mathlib.Core.Bool.{Bool, true, false, cond, ◌&&◌, false≢true}
use mathlib.Core.List.{List, [], ◌∷◌}
use mathlib.Core.Path.{◌≡◌, refl, subst}
use native.Mathlib.Omega.{arith}
use borrow.Author.Tests.{leb-true, ltb-true}
use lib.Dec.{leb, ltb, eqb}
use lib.ListN.{length, get_or, take, drop, length-drop, get_or-eq_default}
use Rattle.decimal.specs.Decimal.{is_digit, value}
use Rattle.lists.proofs.Tests.{and_parts}
use Rattle.grammar.specs.Bytes.{is_letter, is_name_byte}
use Rattle.grammar.specs.Grammar.{ReadResult, nothing, found, follow, mark, run, space, needed_space, begins, token, name, number}
use Rattle.grammar.specs.Grammar.{ends, range, target, transition, initial, next_name, transitions, next_names, accepting, heading, ending, whole_text}
use Rattle.grammar.specs.inner.Places.{Spelt, Drawn}
use Rattle.grammar.specs.declared.tokens.TextSpan.{TextSpan}
use Rattle.grammar.proofs.Letters.{letter_named}
use Rattle.grammar.proofs.Runs.{run_short, run_more, run_within}

-- P holds of what was found
pub data Holds {X : Type 0} (P : X → ℕ → Type 0) : ReadResult X → Type 0 where
  none : Holds P nothing
  some : {x : X} {at : ℕ} → P x at → Holds P (found x at)

pub holds_found : {X : Type 0} (P : X → ℕ → Type 0) {r : ReadResult X} {x : X} {at : ℕ} → Holds P r → r ≡ found x at → P x at
holds_found P none e = let y : ◌≡◌ {A = ℕ} 0 1 = cc in absurd (omega arith)
holds_found {X = X} P {x = x} {at = at} (some {x = y} {at = b} h) e =
    let p : y ≡ x = cc in
    let q : b ≡ at = cc in
    subst (P x) q (subst (λ (z : X). P z b) p h)

-- what follows a piece of which Q holds
pub holds_follow : {X Y : Type 0} (Q : X → ℕ → Type 0) {P : Y → ℕ → Type 0} {r : ReadResult X} {f : X → ℕ → ReadResult Y} → Holds Q r
    → ((x : X) (at : ℕ) → Q x at → Holds P (f x at)) → Holds P (follow r f)
unfolding follow
holds_follow Q none g = none
holds_follow Q (some {x} {at} h) g = g x at h

holds_cond : {X : Type 0} (P : X → ℕ → Type 0) (b : Bool) (x : X) (at : ℕ) → (b ≡ true → P x at) → Holds P (cond b (found x at) nothing)
holds_cond P true x at h = some (h refl)
holds_cond P false x at h = none

pub holds_weaker : {X : Type 0} {Q P : X → ℕ → Type 0} {r : ReadResult X} → Holds Q r → ((x : X) (at : ℕ) → Q x at → P x at) → Holds P r
holds_weaker none g = none
holds_weaker (some {x} {at} h) g = some (g x at h)

-- a place behind another, within the text
pub record Past (t : List ℕ) (at b : ℕ) : Type 0 where
  pub forward : at < b
  pub inside : b ≤ length t

module _ (t : List ℕ) (at : ℕ) where
  space_forward : at ≤ space t at
  unfolding space
  space_forward = omega arith

  begins_long : (w l : List ℕ) → begins w l ≡ true → length w ≤ length l
  unfolding begins
  begins_long [] l e = omega arith
  begins_long (x ∷ w) [] e = absurd (false≢true e)
  begins_long (x ∷ w) (b ∷ l) e = let h = begins_long w l (and_parts (eqb b x) (begins w l) e).1 in omega arith

  token_holds : (x : ℕ) (w : List ℕ) → Holds (λ _ b. Past t at b) (token (x ∷ w) t at)
  unfolding token
  token_holds x w =
      holds_cond _ (begins (x ∷ w) (drop at t)) mark (at + length (x ∷ w))
      (λ e. let h = begins_long (x ∷ w) (drop at t) e in let l = length-drop at t in record { forward = omega arith; inside = omega arith })

  needed_holds : Holds (λ _ b. at < b) (needed_space t at)
  unfolding needed_space
  needed_holds = holds_cond _ (ltb at (space t at)) mark (space t at) (λ e. ltb-true at (space t at) e)

  letter_inside : is_letter (get_or t at 0) ≡ true → (length t ≤ at → ⊥)
  unfolding is_letter
  letter_inside e h = false≢true (rw (get_or-eq_default t 0 h) at e)

  name_holds : Holds (λ s b. Spelt t s × Past t at b) (name t at)
  unfolding name
  name_holds =
      holds_cond _ (is_letter (get_or t at 0) && leb n 64) (record { start = at; end = at + n }) (at + n) λ e.
      let p = and_parts (is_letter (get_or t at 0)) (leb n 64) e in
      let i = inside (letter_inside p.0) in
      let m : n ≡ suc (run is_name_byte (drop (at + 1) t)) = run_more is_name_byte t at i (letter_named _ p.0) in
      let l : n ≤ 64 = leb-true n 64 p.1 in
      let w : at + n ≤ length t = run_within is_name_byte t at i in
      (record { some = omega arith; short = omega arith; inside = w }, record { forward = omega arith; inside = w })
    where
      n : ℕ
      n = run is_name_byte (drop at t)

      inside : (length t ≤ at → ⊥) → at < length t
      inside h = omega arith

  number_holds : Holds (λ _ b. Past t at b) (number t at)
  unfolding number
  number_holds =
      holds_cond _ (ltb 0 n && leb v 4294967295) v (at + n) λ e.
      let p = and_parts (ltb 0 n) (leb v 4294967295) e in
      let s : 0 < n = ltb-true 0 n p.0 in
      let h = run_short is_digit (drop at t) in
      let l = length-drop at t in
      record { forward = omega arith; inside = omega arith }
    where
      n : ℕ
      n = run is_digit (drop at t)

      v : ℕ
      v = value (take n (drop at t))

module _ (t : List ℕ) where
  -- a piece behind optional space
  spaced_token : (x : ℕ) (w : List ℕ) (at : ℕ) → Holds (λ _ b. Past t at b) (token (x ∷ w) t (space t at))
  spaced_token x w at = holds_weaker (token_holds t (space t at) x w) (λ _ b h. past_more h)
    where
      past_more : {b : ℕ} → Past t (space t at) b → Past t at b
      past_more h = let g = space_forward t at in record { forward = omega (arith, h.forward); inside = h.inside }

  holds_ends : (at : ℕ) → Holds (λ r b. (r.first ≤ r.last) × Past t at b) (ends t at)
  unfolding ends
  holds_ends at =
      holds_follow _ (number_holds t (space t at)) λ v a p.
      holds_follow _ (spaced_token _ _ a) λ _ b q.
      holds_follow _ (number_holds t (space t b)) λ w c r.
      holds_cond _ (leb v w) (record { first = v; last = w }) c
      (λ e. let g = space_forward t at in let h = space_forward t b in (leb-true v w e, record { forward = omega (arith, p.forward, q.forward, r.forward); inside = r.inside }))

  range_holds : (at : ℕ) → Holds (λ r b. (r.first ≤ r.last) × Past t at b) (range t at)
  unfolding range
  range_holds at =
      holds_follow _ (spaced_token _ _ at) λ _ a p.
      holds_follow _ (holds_ends a) λ r b q.
      holds_follow _ (token_holds t b _ _) λ _ c u.
      holds_follow _ (token_holds t c _ _) λ _ d v.
      some (q.0, record { forward = omega (arith, p.forward, q.1.forward, u.forward, v.forward); inside = v.inside })

  -- a word and a name behind it
  named : (x : ℕ) (w : List ℕ) (at : ℕ) → Holds (λ s b. Spelt t s × Past t at b) (follow (token (x ∷ w) t (space t at)) λ _ a. name t (space t a))
  named x w at =
      holds_follow _ (spaced_token x w at) λ _ a p.
      holds_weaker (name_holds t (space t a)) λ s b q.
      let g = space_forward t a in (q.0, record { forward = omega (arith, p.forward, q.1.forward); inside = q.1.inside })

  target_holds : (at : ℕ) → Holds (λ s b. Spelt t s × Past t at b) (target t at)
  unfolding target
  target_holds at = named _ _ at

  pub next_holds : (at : ℕ) → Holds (λ s b. Spelt t s × Past t at b) (next_name t at)
  unfolding next_name
  next_holds at = named _ _ at

  pub transition_holds : (at : ℕ) → Holds (λ e b. Drawn t e × Past t at b) (transition t at)
  unfolding transition
  transition_holds at =
      holds_follow _ (name_holds t at) λ s a p.
      holds_follow _ (target_holds a) λ u b q.
      holds_follow _ (range_holds b) λ r c v.
      some (record { from_spelt = p.0; to_spelt = q.0; full = v.0 }, record { forward = omega (arith, p.1.forward, q.1.forward, v.1.forward); inside = v.1.inside })

  pub spaced_holds : (at : ℕ) → Holds (λ e b. Drawn t e × Past t at b) (transition t (space t at))
  spaced_holds at = holds_weaker (transition_holds (space t at)) (λ e b h. let g = space_forward t at in (h.0, record { forward = omega (arith, h.1.forward); inside = h.1.inside }))

  pub initial_holds : (at : ℕ) → Holds (λ s b. Spelt t s) (initial t at)
  unfolding initial
  initial_holds at =
      holds_follow _ (token_holds t at _ _) λ _ a p.
      holds_follow _ (needed_holds t a) λ _ b q.
      holds_follow _ (name_holds t b) λ s c u.
      holds_follow _ (token_holds t c _ _) λ _ d v.
      some u.0

  -- the first of some names stands in the text
  pub data FirstSpelt : List TextSpan → Type 0 where
    leads : {s : TextSpan} {xs : List TextSpan} → Spelt t s → FirstSpelt (s ∷ xs)

  pub accepting_holds : (at : ℕ) → Holds (λ names b. FirstSpelt names) (accepting t at)
  unfolding accepting
  accepting_holds at =
      holds_follow _ (token_holds t at _ _) λ _ a p.
      holds_follow _ (needed_holds t a) λ _ b q.
      holds_follow _ (name_holds t b) λ s c u.
      holds_follow _ (token_holds t (next_names t c).behind _ _) λ _ d v.
      some (leads u.0)

  pub always : {X : Type 0} (r : ReadResult X) → Holds (λ _ _. ℕ) r
  always nothing = none
  always (found x at) = some 0

  ending_holds : (at : ℕ) → Holds (λ _ b. b ≤ length t) (ending t at)
  unfolding ending
  ending_holds at = holds_follow _ (token_holds t (space t at) _ _) λ _ a p. holds_weaker (token_holds t a _ _) (λ _ b h. h.inside)

  -- a whole text ends within the bytes
  pub text_inside : Holds (λ g b. b ≤ length t) (whole_text t)
  unfolding whole_text
  text_inside =
      holds_follow (λ _ _. ℕ) (always (heading t 0)) λ _ a p.
      holds_follow (λ _ _. ℕ) (always (initial t (space t a))) λ s b q.
      holds_follow (λ _ _. ℕ) (always (accepting t (space t (transitions t b).behind))) λ names c u.
      holds_follow _ (ending_holds c) λ _ d v.
      some v
