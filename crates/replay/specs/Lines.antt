-- Lines of decimal numbers: digits, separated by blanks, ended by a line feed or by the end of the text.
use Rattle.std.specs.Prelude.{ℕ, suc, ◌+◌, Bool, true, false, cond, ◌&&◌, Result, Ok, Err, List, [], ◌∷◌, leb, ltb, eqb, length, drop}
use Rattle.decimal.specs.Decimal.{is_digit, with_digit}
use Rattle.replay.specs.declared.Numbers.{Numbers}
use Rattle.replay.specs.declared.LineFault.{LineFault}
use Rattle.replay.specs.declared.LineFault.TheVariants.{TooMany, Malformed}

-- the numbers of a line, how many bytes it takes with its line feed, and whether it could be read
pub record NumberLine : Type 0 where
  pub numbers : List ℕ
  pub size : ℕ
  pub whole : Bool

-- the number v in front of others, if digits say it
abbrev pub ended : Bool → ℕ → List ℕ → List ℕ
ended true v ns = v ∷ ns
ended false v ns = ns

-- a line whose first byte is passed; that byte ends the number v, if digits say it
abbrev pub behind : Bool → ℕ → NumberLine → NumberLine
behind begun v l = record { numbers = ended begun v l.numbers; size = suc l.size; whole = l.whole }

-- the line at the front of a text; `begun` tells whether digits stand directly before, and they say v; each number is a word
unfoldable pub line_from : Bool → ℕ → List ℕ → NumberLine
line_from begun v [] = record { numbers = ended begun v []; size = 0; whole = true }
line_from begun v (b ∷ bs) =
    cond (eqb b 10) (record { numbers = ended begun v []; size = 1; whole = true })
    (cond (eqb b 32) (behind begun v (line_from false 0 bs))
    (cond (is_digit b && leb (with_digit v b) 4294967295) (behind false 0 (line_from true (with_digit v b) bs))
    (record { numbers = []; size = 0; whole = false })))

-- the line at a place of a text
unfoldable pub line_at : List ℕ → ℕ → NumberLine
line_at s at = line_from false 0 (drop at s)

-- the answer for n numbers up to a place, where there is room for some
abbrev pub told : ℕ → ℕ → ℕ → Result Numbers LineFault
told room n to = cond (ltb room n) (Err TooMany) (Ok (record { count = n; to = to }))

-- the answer for a line
unfoldable pub answer : ℕ → ℕ → NumberLine → Result Numbers LineFault
answer room at l = cond l.whole (told room (length l.numbers) (at + l.size)) (Err Malformed)
