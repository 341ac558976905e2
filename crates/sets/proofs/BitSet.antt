-- From words to sets: four words hold the set of their bits, and equal words hold equal sets.
use Prim.Native.Nat.{ℕ, zero, suc, ◌+◌, ◌*◌, ◌/◌, ◌%◌, ◌^◌, ◌<◌}
use mathlib.Core.Bool.{Bool, false}
use mathlib.Core.List.{List, []}
use mathlib.Core.Path.{◌≡◌, refl, sym, ◌∙◌, ap}
use native.Mathlib.Omega.{arith}
use lib.ListN.{get_or, length, replicate}
use Rattle.lists.proofs.Lists.{tabulate_at, length_tabulate, blank_at}
use Rattle.sets.specs.Sets.{has, pick}
use Rattle.sets.specs.inner.Members.{Canon}
use Rattle.sets.specs.inner.BitSet.{bit, in_words, set_at, entries}
use Rattle.sets.proofs.Sets.{pick_ext, has_pick, pick_canon, pick_none}
use Rattle.sets.proofs.Bits.{word_ext, bit_nothing}

-- the places of a set's words
pub four : (P : ℕ → Type 0) → P 0 → P 1 → P 2 → P 3 → (i : ℕ) → i < 4 → P i
four P a b c d zero h = a
four P a b c d (suc zero) h = b
four P a b c d (suc (suc zero)) h = c
four P a b c d (suc (suc (suc zero))) h = d
four P a b c d (suc (suc (suc (suc i)))) h = absurd (omega arith)

-- membership by bits
pub in_has : (t : List ℕ) (o q : ℕ) → q < 256 → in_words t o q ≡ has q (set_at t o)
unfolding set_at
in_has t o q l = sym (has_pick 256 (in_words t o) q l)

pub at_canon : (t : List ℕ) (o : ℕ) → Canon 256 (set_at t o)
unfolding set_at
at_canon t o = pick_canon 256 (in_words t o)

-- four words hold what their bits pick
pub bits_at : (t : List ℕ) (o : ℕ) (P : ℕ → Bool) → ((q : ℕ) → q < 256 → in_words t o q ≡ P q) → set_at t o ≡ pick 256 P
unfolding set_at
bits_at t o P h = pick_ext 0 256 _ _ (λ q l. h q (omega arith))

-- equal words hold equal sets
pub sets_by_words : (t u : List ℕ) (o p : ℕ) → ((i : ℕ) → i < 4 → get_or t (o + i) 0 ≡ get_or u (p + i) 0) → set_at t o ≡ set_at u p
unfolding set_at in_words
sets_by_words t u o p h = pick_ext 0 256 _ _ (λ q l. rw (h (q / 64) (omega arith)))

-- equal sets are held by equal words
pub words_by_sets : (t u : List ℕ) (o p : ℕ) → ((i : ℕ) → get_or t i 0 < 2 ^ 64) → ((i : ℕ) → get_or u i 0 < 2 ^ 64) → set_at t o ≡ set_at u p
    → (i : ℕ) → i < 4 → get_or t (o + i) 0 ≡ get_or u (p + i) 0
unfolding in_words
words_by_sets t u o p b d e i l =
    word_ext 64 _ _ (b (o + i)) (d (p + i))
    (λ k v.
    let c : (i * 64 + k) / 64 ≡ i = omega arith in
    let m : (i * 64 + k) % 64 ≡ k = omega arith in
    let w : in_words t o (i * 64 + k) ≡ in_words u p (i * 64 + k) = in_has t o _ (omega arith) ∙ ap (has (i * 64 + k)) e ∙ sym (in_has u p _ (omega arith)) in
    rw (c, m) at w)

-- words of no bit hold the empty set
pub zeros_at : (t : List ℕ) (o : ℕ) → ((i : ℕ) → i < 4 → get_or t (o + i) 0 ≡ 0) → set_at t o ≡ []
unfolding in_words
zeros_at t o h =
    bits_at t o (λ q. false) (λ q l. ap (λ w. bit w (q % 64)) (h (q / 64) (omega arith)) ∙ bit_nothing (q % 64)) ∙ pick_none 256 _ (λ q l. refl)

-- a table as it is made
pub fresh_at : (n o : ℕ) → set_at (replicate n 0) o ≡ []
fresh_at n o = zeros_at (replicate n 0) o (λ i l. blank_at n (o + i))

-- rows of a table
pub entry_at : (t : List ℕ) (n j : ℕ) → j < n → get_or (entries t n) j [] ≡ set_at t (4 * j)
unfolding entries
entry_at t n j l = tabulate_at n (λ j. set_at t (4 * j)) j [] l

pub length_entries : (t : List ℕ) (n : ℕ) → length (entries t n) ≡ n
unfolding entries
length_entries t n = length_tabulate n (λ j. set_at t (4 * j))
