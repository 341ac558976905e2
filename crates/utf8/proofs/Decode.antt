-- What each answer of `next` says of the code points of the text from its place on: the laws that a loop over `next` cites.
use Prim.Native.Nat.{ℕ, zero, suc, ◌+◌, ◌-◌, ◌≤◌, ◌<◌}
use mathlib.Core.Bool.{Bool, true, false, cond, false≢true}
use mathlib.Core.List.{List, [], ◌∷◌}
use mathlib.Core.Path.{◌≡◌, refl, sym, ◌∙◌, ap}
use native.Mathlib.Omega.{arith}
use lib.Dec.{eqb}
use lib.ListN.{length, take, drop, length-drop}
use lib.Seq.{drop-nil, drop-drop}
use Rattle.lists.proofs.Tests.{and_parts}
use Rattle.utf8.specs.Utf8.{sequence_length, is_continuation, continued, lead_bits, value_of, least_value, is_improper, scalar_of, Front}
use Rattle.utf8.specs.Utf8.{end, fault, point, sequence, front, malformed, points, cons, decode_from, decode}
use Rattle.utf8.specs.inner.Steps.{placed, step_at}
use Rattle.utf8.specs.Encode.{Scalar}
use Rattle.utf8.specs.declared.Step.{Step}
use Rattle.utf8.specs.declared.Step.TheVariants.{Point, End, Malformed}
use Rattle.utf8.proofs.Point.{stands}

continued_long : (k : ℕ) (l : List ℕ) → continued k l ≡ true → k ≤ length l
unfolding continued
continued_long zero l e = omega arith
continued_long (suc k) [] e = absurd (false≢true e)
continued_long (suc k) (b ∷ l) e = let h = continued_long k l (and_parts (is_continuation b) (continued k l) e).1 in omega arith

-- a code point x of n bytes at the front of t
pub record Front-point (t : List ℕ) (x n : ℕ) : Type 0 where
  pub some : 0 < n
  pub within : n ≤ length t
  pub proper : Scalar x

pub front_point : (t : List ℕ) (x n : ℕ) → front t ≡ point x n → Front-point t x n
unfolding front
front_point [] x n e = let z : ◌≡◌ {A = ℕ} 0 1 = cc in absurd (omega arith)
front_point (a ∷ rest) x n e =
    let s = stands (sequence_length a) a rest x n e in
    let h = continued_long _ rest s.1.tail in
    record { some = omega arith; within = omega arith; proper = s.1.proper }

-- decoding from the byte k on is decoding what is left from there
decode_from_lem : (t : List ℕ) (k : ℕ) → decode_from t k ≡ decode (drop k t)
unfolding decode decode_from
decode_from_lem [] k = rw (drop-nil k)
decode_from_lem (a ∷ rest) zero = refl
decode_from_lem (a ∷ rest) (suc k) = decode_from_lem rest k

pub decode_end : (t : List ℕ) → front t ≡ end → decode t ≡ points []
unfolding decode decode_from
decode_end [] e = refl
decode_end (a ∷ rest) e = rw e

pub decode_fault : (t : List ℕ) → front t ≡ fault → decode t ≡ malformed
unfolding decode decode_from front
decode_fault [] e = cc
decode_fault (a ∷ rest) e = rw e

pub decode_point : (t : List ℕ) (x n : ℕ) → front t ≡ point x n → decode t ≡ cons x (decode (drop n t))
unfolding decode decode_from front
decode_point [] x n e = cc
decode_point (a ∷ rest) x zero e = let h = (front_point (a ∷ rest) x zero e).some in absurd (omega arith)
decode_point (a ∷ rest) x (suc k) e = rw e (ap (cons x) (ap (decode_from rest) (less k) ∙ decode_from_lem rest k))
  where
    less : (k : ℕ) → suc k - 1 ≡ k
    less k = omega arith

pub front_end : (t : List ℕ) → front t ≡ end → t ≡ []
unfolding front sequence scalar_of
front_end [] e = refl
front_end (a ∷ rest) e = go (eqb n 0) (continued (n - 1) rest) (is_improper (least_value n) x) e
  where
    n : ℕ
    n = sequence_length a

    x : ℕ
    x = value_of (lead_bits n a) (take (n - 1) rest)

    go : (p q r : Bool) → cond p fault (cond q (cond r fault (point x n)) fault) ≡ end → a ∷ rest ≡ []
    go true q r e = cc
    go false false r e = cc
    go false true true e = cc
    go false true false e = cc

-- the answers of `next`, back to what stands at the place
placed_end : (at : ℕ) (f : Front) → End ≡ placed at f → f ≡ end
placed_end at end e = refl
placed_end at fault e = cc
placed_end at (point x n) e = cc

placed_fault : (at : ℕ) (f : Front) → Malformed ≡ placed at f → f ≡ fault
placed_fault at end e = cc
placed_fault at fault e = refl
placed_fault at (point x n) e = cc

placed_point : (at x to : ℕ) (f : Front) → Point x to ≡ placed at f → (n : ℕ) × (f ≡ point x n) × (to ≡ at + n)
placed_point at x to end e = let z : ◌≡◌ {A = ℕ} 0 1 = cc in absurd (omega arith)
placed_point at x to fault e = let z : ◌≡◌ {A = ℕ} 0 1 = cc in absurd (omega arith)
placed_point at x to (point y n) e = let p : y ≡ x = cc in (n, ap (λ y. point y n) p, cc)

-- s is what `next` answers at the place at of t
module _ (t : List ℕ) (at : ℕ) (s : Step) (told : s ≡ step_at t at) where
  pub end_decode : s ≡ End → decode (drop at t) ≡ points []
  unfolding step_at
  end_decode e = decode_end (drop at t) (placed_end at _ (sym e ∙ told))

  pub malformed_decode : s ≡ Malformed → decode (drop at t) ≡ malformed
  unfolding step_at
  malformed_decode e = decode_fault (drop at t) (placed_fault at _ (sym e ∙ told))

  module _ (x to : ℕ) (given : s ≡ Point x to) where
    found : (n : ℕ) × (front (drop at t) ≡ point x n) × (to ≡ at + n)
    unfolding step_at
    found = placed_point at x to _ (sym given ∙ told)

    fact : Front-point (drop at t) x found.0
    fact = front_point (drop at t) x _ found.1

    pub point_decode : decode (drop at t) ≡ cons x (decode (drop to t))
    point_decode =
        decode_point (drop at t) x _ found.1
        ∙ ap (λ l. cons x (decode l)) (drop-drop found.0 at t ∙ ap (λ k. drop k t) (sym found.2))

    pub point_later : at < to
    point_later = omega (arith, fact.some, found.2)

    pub point_within : to ≤ length t
    point_within =
        let h : found.0 ≤ length t - at = rw length-drop at fact.within in
        omega (arith, fact.some, found.2)

    -- the measure of a loop over the text
    pub point_less : length t - to < length t - at
    point_less = omega (arith, point_later, point_within)
