-- What `put_records` writes and `fault` reads. Assumes nothing.
use Prim.Native.Nat.{ℕ, zero, suc, ◌+◌, ◌-◌, ◌*◌, ◌≤◌, ◌<◌}
use mathlib.Core.List.{List, [], ◌∷◌, ◌++◌}
use mathlib.Core.Path.{◌≡◌, refl, ap, ◌∙◌}
use native.Mathlib.Omega.{arith}
use native.Mathlib.Numerals.{add-one}
use lib.ListN.{length, take, drop, replicate, length-append, length-replicate}
use lib.Seq.{sets, sets-eq, length-sets, take_at}
use borrow.Author.Rules.{rules}
use Rattle.sheets.specs.Fault.{fault}
use Rattle.limits.specs.Limits.{loops, loop_sheet}

-- i of m records are stored from start on, and with those that are left all are
pub record Put (before : List ℕ) (start m i : ℕ) (after : List ℕ) (end : ℕ) : Type 0 where
  pub left : sets after end (loops i (m - i)) ≡ sets before start (loops 0 m)
  pub place : end ≡ start + 5 * i
  pub long : length after ≡ length before

pub none_put : (l : List ℕ) (m start : ℕ) → Put l start m 0 l start
none_put l m start = let z : m - 0 ≡ m = omega arith in record { left = rw z; place = omega arith; long = refl }

pub one_put : (l a b : List ℕ) (start m i end e : ℕ) → Put l start m i a end → i < m → b ≡ sets a end (0 ∷ 1 ∷ i ∷ i ∷ 0 ∷ []) → e ≡ end + 5 → Put l start m (i + 1) b e
unfolding loops
one_put l a b start m i end e p h w q =
    let z : suc (m - suc i) ≡ m - i = omega arith in
    let y : e ≡ suc (suc (suc (suc (suc end)))) = omega (arith, q) in
    record {
      left = rw (w, y, add-one) (ap (λ (t : ℕ). sets a end (loops i t)) z ∙ p.left);
      place = omega (arith, p.place, q);
      long = ap length w ∙ length-sets a end (0 ∷ 1 ∷ i ∷ i ∷ 0 ∷ []) ∙ p.long;
    }

module _ (old l a : List ℕ) (at m start i end : ℕ) (p : Put l start m i a end) (few : i ≤ m) (all : m ≤ i) (h : start ≡ at + 1) where
  pub all_put : l ≡ sets old at (m ∷ []) → a ≡ sets old at (m ∷ loops 0 m)
  unfolding loops
  all_put w =
      let z : 0 ≡ m - i = omega arith in
      let y : start ≡ suc at = omega (arith, h) in
      ap (λ (t : ℕ). sets a end (loops i t)) z ∙ p.left ∙ ap (λ (t : ℕ). sets l t (loops 0 m)) y ∙ ap (λ (t : List ℕ). sets t (suc at) (loops 0 m)) w

pub ruleset put_laws = (none_put, one_put, all_put, rules)

length_loops : (i m : ℕ) → length (loops i m) ≡ 5 * m
unfolding loops
length_loops i zero = refl
length_loops i (suc m) = let h = length_loops (suc i) m in omega (arith, h)

take_zeros : (n k : ℕ) → n ≤ k → take {A = ℕ} n (replicate k 0) ≡ replicate n 0
take_zeros zero k h = refl
take_zeros (suc n) zero h = absurd (omega arith)
take_zeros (suc n) (suc k) h = ap (λ (t : List ℕ). 0 ∷ t) (take_zeros n k (omega arith))

-- the head written at the front of zeros, and the records behind its accept words, are the sheet
module _ (k n m : ℕ) (room : n + 1 + 5 * m ≤ k) where
  head : take (n + 3) (sets (replicate (suc (suc (suc k))) 0) 0 (1 ∷ 0 ∷ n ∷ [])) ≡ 1 ∷ 0 ∷ n ∷ replicate n 0
  head = let z : n + 3 ≡ suc (suc (suc n)) = omega arith in rw z (ap (λ (t : List ℕ). 1 ∷ 0 ∷ n ∷ t) (take_zeros n k (omega arith)))

  sheet_made : (e : ℕ) (a b : List ℕ) → a ≡ sets (replicate (suc (suc (suc k))) 0) 0 (1 ∷ 0 ∷ n ∷ []) → b ≡ sets a (n + 3) (m ∷ loops 0 m) → e ≡ n + 3 + 1 + 5 * m → take e b ≡ loop_sheet n m
  unfolding loop_sheet
  sheet_made e a b f g h =
      let u : List ℕ = 1 ∷ 0 ∷ n ∷ replicate n 0 in
      let v : List ℕ = m ∷ loops 0 m in
      let long : length (loops 0 m) ≡ 5 * m = length_loops 0 m in
      let zeros : length {A = ℕ} (replicate n 0) ≡ n = length-replicate n 0 in
      let all : length a ≡ suc (suc (suc k)) = ap length f ∙ length-sets (replicate (suc (suc (suc k))) 0) 0 (1 ∷ 0 ∷ n ∷ []) ∙ length-replicate (suc (suc (suc k))) 0 in
      let front : take (n + 3) a ≡ u = ap (λ (t : List ℕ). take (n + 3) t) f ∙ head in
      let rest : List ℕ = drop (n + 3 + length v) a in
      let parts : b ≡ u ++ v ++ rest = g ∙ sets-eq v a (n + 3) (omega (arith, all, long)) ∙ ap (λ (t : List ℕ). t ++ v ++ rest) front in
      let size : length (u ++ v) ≡ e = length-append u v ∙ omega (arith, long, zeros, h) in
      ap (λ (t : List ℕ). take e t) parts ∙ take_at (u ++ v) _ e size

-- what the check of that sheet says, as a number v
pub its_fault : (n m e v : ℕ) (a b : List ℕ) → n ≤ 257 → m ≤ 2049 → a ≡ sets (replicate 10506 0) 0 (1 ∷ 0 ∷ n ∷ []) → b ≡ sets a (n + 3) (m ∷ loops 0 m)
    → e ≡ n + 3 + 1 + 5 * m → v ≡ fault (take (e - 0) (drop 0 b)) → v ≡ fault (loop_sheet n m)
its_fault n m e v a b few short f g h checked =
    let z : e - 0 ≡ e = omega arith in
    checked ∙ ap (λ (t : ℕ). fault (take t b)) z ∙ ap fault (sheet_made 10503 n m (omega (arith, few, short)) e a b f g h)
