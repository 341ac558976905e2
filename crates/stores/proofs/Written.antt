-- Laws of written memory: one run behind another is one run, and lengths are kept.
use Prim.Native.Nat.{ℕ, suc, ◌+◌, ◌-◌, ◌≤◌, ◌<◌}
use mathlib.Core.List.{List, [], ◌∷◌, ◌++◌, append_assoc}
use mathlib.Core.Path.{◌≡◌, refl, sym, ◌∙◌, ap, ap₂}
use native.Mathlib.Omega.{arith}
use borrow.Rule.Slice.PartMut.{put_mid}
use lib.ListN.{length, get_or, take, drop, set, length-append, take-append-drop, drop_of_length-le}
use lib.Seq.{sets, length-sets, sets-eq, drop-drop, drop-cons}
use Rattle.lists.proofs.Parts.{sets_append}
use Rattle.stores.specs.Written.{Written}

-- nothing is written
pub written_none : (l : List ℕ) (i : ℕ) → Written l i [] l i
written_none l i = record { stored = refl; behind = omega arith }

-- one element
pub written_one : (l : List ℕ) (i x : ℕ) → Written l i (x ∷ []) (set l i x) (i + 1)
written_one l i x = record { stored = refl; behind = refl }

-- five elements, as a record has
pub written_five : (l : List ℕ) (at a b c d e : ℕ) → Written l at (a ∷ b ∷ c ∷ d ∷ e ∷ []) (set (set (set (set (set l at a) (at + 1) b) (at + 2) c) (at + 3) d) (at + 4) e) (at + 5)
written_five l at a b c d e =
    let one : at + 1 ≡ suc at = omega arith in
    let two : at + 2 ≡ suc (suc at) = omega arith in
    let three : at + 3 ≡ suc (suc (suc at)) = omega arith in
    let four : at + 4 ≡ suc (suc (suc (suc at))) = omega arith in
    record { stored = rw (one, two, three, four); behind = refl }

-- a second run behind the first
pub written_append : (l m n v w : List ℕ) (i j k : ℕ) → Written l i v m j → Written m j w n k → Written l i (v ++ w) n k
written_append l m n v w i j k p q =
    record {
      stored = q.stored ∙ ap (λ (t : List ℕ). sets t j w) p.stored ∙ ap (λ (t : ℕ). sets (sets l i v) t w) p.behind ∙ sets_append l v w i;
      behind = omega (arith, p.behind, q.behind, length-append v w);
    }

-- a run behind one element
pub written_cons : (l m n w : List ℕ) (i j k x : ℕ) → Written l i (x ∷ []) m j → Written m j w n k → Written l i (x ∷ w) n k
written_cons l m n w i j k x p q = written_append l m n (x ∷ []) w i j k p q

-- one element behind a run
pub written_more : (l m v : List ℕ) (i j x : ℕ) → Written l i v m j → Written l i (v ++ x ∷ []) (set m j x) (j + 1)
written_more l m v i j x p = written_append l m (set m j x) v (x ∷ []) i j (j + 1) p (written_one m j x)

-- the length is kept
pub written_length : (l m v : List ℕ) (i j : ℕ) → Written l i v m j → length m ≡ length l
written_length l m v i j p = ap length p.stored ∙ length-sets l i v

-- what is there already
pub written_same : (l v : List ℕ) (i : ℕ) → i + length v ≤ length l → take (length v) (drop i l) ≡ v → Written l i v l (i + length v)
written_same l v i h e =
    record {
      stored = sym (sets-eq v l i h ∙ ap₂ (λ (x y : List ℕ). take i l ++ x ++ y) (sym e) (sym (drop-drop (length v) i l)) ∙ append_assoc (take i l) _ _ ∙ ap (λ (x : List ℕ). take i l ++ x) (take-append-drop (length v) (drop i l)) ∙ take-append-drop i l);
      behind = refl;
    }

-- the part from `at` on holds vs: what `copy_from_slice` leaves
pub written_part : {A : Type 0} (l vs xs : List A) (at : ℕ) → xs ≡ vs → at + length vs ≤ length l → Written l at vs (put_mid at (at + length vs - at) l xs) (at + length vs)
written_part l vs xs at e h =
    let m : at + (at + length vs - at) ≡ at + length vs = omega arith in
    record { stored = rw (e, sets-eq vs l at h, drop-drop (at + length vs - at) at l, m, append_assoc); behind = refl }

-- what is stored so far, with the elements from the index on, gives what all elements give
module _ {A : Type 0} (l m xs : List A) (at i end : ℕ) (e : sets m end (drop i xs) ≡ sets l at xs) where
  pub stored_next : i < length xs → (x : A) → x ≡ get_or xs i x → sets (set m end x) (end + 1) (drop (i + 1) xs) ≡ sets l at xs
  stored_next h x q =
      let next : end + 1 ≡ suc end = omega arith in
      let more : i + 1 ≡ suc i = omega arith in
      rw (next, more) (ap (λ (y : A). sets (set m end y) (suc end) (drop (suc i) xs)) q ∙ ap (sets m end) (sym (drop-cons xs i x h)) ∙ e)

  pub stored_all : length xs ≤ i → end ≡ at + i → i ≤ length xs → Written l at xs m end
  stored_all h f b = record { stored = ap (sets m end) (sym (drop_of_length-le xs h)) ∙ e; behind = omega arith }
