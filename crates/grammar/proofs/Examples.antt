-- Texts inside and outside the grammar, computed.
use Prim.Native.Nat.{ℕ}
use mathlib.Core.List.{List, [], ◌∷◌, ◌++◌}
use mathlib.Core.Path.{◌≡◌, refl}
use lib.ListN.{replicate}
use Rattle.decimal.specs.Decimal.{is_digit, value_after}
use Rattle.grammar.specs.Bytes.{is_space, is_letter, is_name_byte}
use Rattle.grammar.specs.Grammar.{ReadResult, nothing, found, follow, run, space, needed_space, begins, token, name, number, ends}
use Rattle.grammar.specs.Grammar.{range, target, transition, initial, next_name, many, transitions, next_names, accepting, heading, ending, TextParts, whole_text}

-- the parts of the text A of document 01, one behind the other
-- `automaton A {`
abbrev pub begin : List ℕ
begin = 97 ∷ 117 ∷ 116 ∷ 111 ∷ 109 ∷ 97 ∷ 116 ∷ 111 ∷ 110 ∷ 32 ∷ 65 ∷ 32 ∷ 123 ∷ []

-- ` init p;`
abbrev pub init_p : List ℕ
init_p = 32 ∷ 105 ∷ 110 ∷ 105 ∷ 116 ∷ 32 ∷ 112 ∷ 59 ∷ []

-- ` p -> q [0, 9];`
abbrev pub arrow : List ℕ
arrow = 32 ∷ 112 ∷ 32 ∷ 45 ∷ 62 ∷ 32 ∷ 113 ∷ 32 ∷ 91 ∷ 48 ∷ 44 ∷ 32 ∷ 57 ∷ 93 ∷ 59 ∷ []

-- ` accepting q;`
abbrev pub accepting_q : List ℕ
accepting_q = 32 ∷ 97 ∷ 99 ∷ 99 ∷ 101 ∷ 112 ∷ 116 ∷ 105 ∷ 110 ∷ 103 ∷ 32 ∷ 113 ∷ 59 ∷ []

-- ` };`
abbrev pub end : List ℕ
end = 32 ∷ 125 ∷ 59 ∷ []

-- `automaton B {init accepting;accepting->t [007,4294967295];\taccepting\n->accepting[0, 9];t -> t [1 ,1]; accepting t ,  zz,t;};`
abbrev pub loose : List ℕ
loose =
    97 ∷ 117 ∷ 116 ∷ 111 ∷ 109 ∷ 97 ∷ 116 ∷ 111 ∷ 110 ∷ 32 ∷ 66 ∷ 32 ∷ 123 ∷ 105 ∷ 110 ∷ 105 ∷ 116 ∷ 32 ∷ 97 ∷ 99 ∷ 99 ∷ 101 ∷ 112 ∷ 116 ∷ 105 ∷ 110 ∷ 103 ∷
    59 ∷ 97 ∷ 99 ∷ 99 ∷ 101 ∷ 112 ∷ 116 ∷ 105 ∷ 110 ∷ 103 ∷ 45 ∷ 62 ∷ 116 ∷ 32 ∷ 91 ∷ 48 ∷ 48 ∷ 55 ∷ 44 ∷ 52 ∷ 50 ∷ 57 ∷ 52 ∷ 57 ∷ 54 ∷ 55 ∷ 50 ∷ 57 ∷ 53 ∷
    93 ∷ 59 ∷ 9 ∷ 97 ∷ 99 ∷ 99 ∷ 101 ∷ 112 ∷ 116 ∷ 105 ∷ 110 ∷ 103 ∷ 10 ∷ 45 ∷ 62 ∷ 97 ∷ 99 ∷ 99 ∷ 101 ∷ 112 ∷ 116 ∷ 105 ∷ 110 ∷ 103 ∷ 91 ∷ 48 ∷ 44 ∷ 32 ∷
    57 ∷ 93 ∷ 59 ∷ 116 ∷ 32 ∷ 45 ∷ 62 ∷ 32 ∷ 116 ∷ 32 ∷ 91 ∷ 49 ∷ 32 ∷ 44 ∷ 49 ∷ 93 ∷ 59 ∷ 32 ∷ 97 ∷ 99 ∷ 99 ∷ 101 ∷ 112 ∷ 116 ∷ 105 ∷ 110 ∷ 103 ∷ 32 ∷
    116 ∷ 32 ∷ 44 ∷ 32 ∷ 32 ∷ 122 ∷ 122 ∷ 44 ∷ 116 ∷ 59 ∷ 125 ∷ 59 ∷ []

-- parts outside the grammar: space before `;` or `]`, first above last, and a number that does not fit
-- ` init p ;`
abbrev pub init_space : List ℕ
init_space = 32 ∷ 105 ∷ 110 ∷ 105 ∷ 116 ∷ 32 ∷ 112 ∷ 32 ∷ 59 ∷ []

-- ` accepting q ;`
abbrev pub accepting_space : List ℕ
accepting_space = 32 ∷ 97 ∷ 99 ∷ 99 ∷ 101 ∷ 112 ∷ 116 ∷ 105 ∷ 110 ∷ 103 ∷ 32 ∷ 113 ∷ 32 ∷ 59 ∷ []

-- ` p -> q [0, 9 ];`
abbrev pub range_space : List ℕ
range_space = 32 ∷ 112 ∷ 32 ∷ 45 ∷ 62 ∷ 32 ∷ 113 ∷ 32 ∷ 91 ∷ 48 ∷ 44 ∷ 32 ∷ 57 ∷ 32 ∷ 93 ∷ 59 ∷ []

-- ` p -> q [9, 0];`
abbrev pub range_turned : List ℕ
range_turned = 32 ∷ 112 ∷ 32 ∷ 45 ∷ 62 ∷ 32 ∷ 113 ∷ 32 ∷ 91 ∷ 57 ∷ 44 ∷ 32 ∷ 48 ∷ 93 ∷ 59 ∷ []

-- ` p -> q [0, 4294967296];`
abbrev pub range_over : List ℕ
range_over = 32 ∷ 112 ∷ 32 ∷ 45 ∷ 62 ∷ 32 ∷ 113 ∷ 32 ∷ 91 ∷ 48 ∷ 44 ∷ 32 ∷ 52 ∷ 50 ∷ 57 ∷ 52 ∷ 57 ∷ 54 ∷ 55 ∷ 50 ∷ 57 ∷ 54 ∷ 93 ∷ 59 ∷ []

-- ` } ;`
abbrev pub end_space : List ℕ
end_space = 32 ∷ 125 ∷ 32 ∷ 59 ∷ []

-- `accepting` and a name of n bytes
abbrev pub accepting_long : ℕ → List ℕ
accepting_long n = 32 ∷ 97 ∷ 99 ∷ 99 ∷ 101 ∷ 112 ∷ 116 ∷ 105 ∷ 110 ∷ 103 ∷ 32 ∷ (replicate n 113 ++ 59 ∷ [])

-- the place behind a text, or 0 where it is outside the grammar
abbrev behind : ReadResult TextParts → ℕ
behind nothing = 0
behind (found g n) = n

-- A, with a rest that is not read; leading zeros, states called `accepting` and space where it is optional; a name of 64 bytes
inside_examples :
    (behind (whole_text (begin ++ init_p ++ arrow ++ accepting_q ++ end ++ arrow)) ≡ 52)
    × (behind (whole_text loose) ≡ 124)
    × (behind (whole_text (begin ++ init_p ++ accepting_long 64 ++ end)) ≡ 100)
unfolding is_space is_letter is_digit is_name_byte follow run space needed_space begins token name value_after number ends range target transition initial next_name many transitions next_names accepting heading ending whole_text
inside_examples = (refl, refl, refl)

-- the parts outside the grammar, each in its place; space before the text; and a name of 65 bytes
outside_examples :
    (whole_text (begin ++ init_space ++ arrow ++ accepting_q ++ end) ≡ nothing)
    × (whole_text (begin ++ init_p ++ arrow ++ accepting_space ++ end) ≡ nothing)
    × (whole_text (begin ++ init_p ++ range_space ++ accepting_q ++ end) ≡ nothing)
    × (whole_text (begin ++ init_p ++ range_turned ++ accepting_q ++ end) ≡ nothing)
    × (whole_text (begin ++ init_p ++ range_over ++ accepting_q ++ end) ≡ nothing)
    × (whole_text (begin ++ init_p ++ arrow ++ accepting_q ++ end_space) ≡ nothing)
    × (whole_text (32 ∷ (begin ++ init_p ++ arrow ++ accepting_q ++ end)) ≡ nothing)
    × (whole_text (begin ++ init_p ++ accepting_long 65 ++ end) ≡ nothing)
unfolding is_space is_letter is_digit is_name_byte follow run space needed_space begins token name value_after number ends range target transition initial next_name many transitions next_names accepting heading ending whole_text
outside_examples = (refl, refl, refl, refl, refl, refl, refl, refl)
