-- Laws of writing labels, in the shape of what the functions that write ask: l is the memory before, m after.
use Prim.Native.Nat.{ℕ, ◌+◌, ◌-◌, ◌^◌, ◌≤◌, ◌<◌}
use mathlib.Core.List.{List, [], ◌∷◌, ◌++◌}
use mathlib.Core.Path.{◌≡◌, ◌∙◌}
use native.Mathlib.Numerals.{add-one}
use native.Mathlib.Omega.{arith}
use lib.ListN.{length, set}
use borrow.Author.Rules.{rules}
use Rattle.lists.proofs.Parts.{set_before}
use Rattle.decimal.specs.Decimal.{digits}
use Rattle.stores.specs.Written.{Written}
use Rattle.decimal.proofs.Decimal.{length_word}
use Rattle.stores.proofs.Written.{written_append, written_cons, written_length}
use Rattle.labels.specs.Labels.{entry}
use Rattle.labels.specs.Forms.{pair_label}

pub ruleset put_laws = (written_cons, written_length, rules)

-- a byte and the digits of a word
pub number_end : (l m n : List ℕ) (at lead x first end : ℕ) → Written l at (lead ∷ []) m first → Written m first (digits x) n end → x < 2 ^ 32 → end ≤ at + 11
number_end l m n at lead x first end v w h = omega (arith, v.behind, w.behind, length_word x h)

-- a label is written, and then its length before it
pub entry_put : (l m n v : List ℕ) (at end r : ℕ) → Written l (at + 1) v m end → (r ≡ end) × (n ≡ set m at (end - (at + 1))) → Written l at (entry v) n r
entry_put l m n v at end r w e =
    let x : end - (at + 1) ≡ length v = omega (arith, w.behind) in
    record {
      stored = e.1 ∙ rw (w.stored, x, set_before l v (at + 1) at (length v) (omega arith), add-one at);
      behind = omega (arith, e.0, w.behind);
    }

-- the four runs of a pair's label, and its length
pub pair_put : (l m n o s t : List ℕ) (at p q i j k end r : ℕ) → Written l (at + 1) (40 ∷ digits p) m i → Written m i (44 ∷ []) n j → Written n j (32 ∷ digits q) o k → Written o k (41 ∷ []) s end →
    (r ≡ end) × (t ≡ set s at (end - (at + 1))) → Written l at (entry (pair_label p q)) t r
pair_put l m n o s t at p q i j k end r a b c d e =
    let f : Written l (at + 1) (40 ∷ digits p ++ 44 ∷ 32 ∷ digits q) o k = written_append l m o (40 ∷ digits p) _ (at + 1) i k a (written_cons m n o (32 ∷ digits q) i j k 44 b c) in
    entry_put l s t (pair_label p q) at end r (written_append l o s _ (41 ∷ []) (at + 1) k end f d) e

pub ruleset entry_laws = (written_cons, entry_put, pair_put, number_end, written_length, rules)
