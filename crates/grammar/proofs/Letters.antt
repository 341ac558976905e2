-- Laws of the bytes of the grammar.
use Prim.Native.Nat.{ℕ, ◌/◌, ◌%◌, ◌^◌, ◌≤◌, ◌<◌}
use mathlib.Core.Bool.{Bool, true, false, cond, ◌&&◌, ◌||◌}
use mathlib.Core.List.{List}
use mathlib.Core.Path.{◌≡◌, refl, sym, ◌∙◌, ap}
use native.Mathlib.Omega.{arith}
use borrow.Author.Rules.{rules}
use borrow.Author.Tests.{lt-leb, ne_eqb}
use lib.Dec.{leb, eqb}
use lib.ListN.{get_or}
use Rattle.lists.specs.Lists.{tabulate}
use Rattle.lists.proofs.Lists.{tabulate_at}
use Rattle.decimal.specs.Decimal.{is_digit}
use Rattle.grammar.specs.Bytes.{is_letter, is_name_byte}

-- a letter is a byte of a name
pub letter_named : (b : ℕ) → is_letter b ≡ true → is_name_byte b ≡ true
unfolding is_name_byte
letter_named b h = rw h

-- the first test of a letter
pub letter_low : (b : ℕ) → b < 65 → false ≡ is_letter b
unfolding is_letter
letter_low b h = rw (lt-leb 65 b h, lt-leb 97 b (omega arith))

-- the bit of a byte
bit_of : ℕ → Bool
bit_of b = eqb (cond (leb b 63) 287948901175001088 576460745995190270 / 2 ^ (b % 64) % 2) 1

bits_all : tabulate 128 bit_of ≡ tabulate 128 is_name_byte
unfolding bit_of tabulate is_name_byte is_letter is_digit
bits_all = refl

pub name_bit : (b w : ℕ) → w ≡ cond (leb b 63) 287948901175001088 576460745995190270 → b ≤ 127 → eqb (w / 2 ^ (b % 64) % 2) 1 ≡ is_name_byte b
unfolding bit_of
name_bit b w e h =
    let l : b < 128 = omega arith in
    ap (λ (v : ℕ). eqb (v / 2 ^ (b % 64) % 2) 1) e ∙ sym (tabulate_at 128 bit_of b false l) ∙ ap (λ (m : List Bool). get_or m b false) bits_all ∙ tabulate_at 128 is_name_byte b false l

-- a byte behind those of ASCII
pub name_high : (b : ℕ) → 127 < b → false ≡ is_name_byte b
unfolding is_name_byte is_letter is_digit
name_high b h =
    let z : b ≡ 95 → ⊥ = λ e. omega arith in
    sym (rw (lt-leb b 90 (omega arith), lt-leb b 122 (omega arith), lt-leb b 57 (omega arith), ne_eqb b 95 z) (and_none (leb 65 b) (leb 97 b) (leb 48 b)))
  where
    and_none : (x y z : Bool) → ((x && false) || (y && false) || (z && false) || false) ≡ false
    and_none true true true = refl
    and_none true true false = refl
    and_none true false true = refl
    and_none true false false = refl
    and_none false true true = refl
    and_none false true false = refl
    and_none false false true = refl
    and_none false false false = refl

pub ruleset name_byte_laws = (name_bit, name_high, rules)
