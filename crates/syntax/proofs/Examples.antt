-- The texts A, B and C of document 01 are texts of the rules, and so is one that has it all: leading zeros, states called `accepting`, and space
-- wherever it is optional.
use mathlib.Core.List.{[], ◌∷◌, List}
use mathlib.Core.Path.{refl}
use Rattle.decimal.specs.Decimal.{is_digit, value_after}
use Rattle.grammar.specs.Bytes.{is_space, is_letter, is_name_byte}
use Rattle.grammar.specs.Words.{accepting_word}
use Rattle.grammar.proofs.Examples.{loose}
use Rattle.grammar.specs.Grammar.{follow, run, space, needed_space, begins, token, name, number, ends, range}
use Rattle.grammar.specs.Grammar.{target, transition, initial, next_name, many, transitions, next_names, accepting, heading, ending, whole_text}
use Rattle.syntax.specs.Syntax.{Text, Said}
use Rattle.syntax.specs.Spelled.{spell}
use Rattle.syntax.specs.Examples.{text_a, text_b, text_c}
use Rattle.syntax.proofs.Theorems.{sound}
use Prim.Native.Nat.{ℕ}

-- p, q, s, t and u as names
abbrev p : List ℕ
p = 112 ∷ []

abbrev q : List ℕ
q = 113 ∷ []

abbrev s : List ℕ
s = 115 ∷ []

abbrev t : List ℕ
t = 116 ∷ []

abbrev u : List ℕ
u = 117 ∷ []

abbrev pub said_a : Said
said_a = record { start = p; moves = record { from = p; to = q; first = 0; last = 9 } ∷ []; accepts = q ∷ [] }

abbrev pub said_b : Said
said_b = record {
  start = s;
  moves = record { from = s; to = t; first = 0; last = 4 } ∷ record { from = s; to = u; first = 5; last = 9 } ∷ [];
  accepts = t ∷ u ∷ [];
}

abbrev pub said_c : Said
said_c = record { start = p; moves = record { from = p; to = q; first = 0; last = 8 } ∷ []; accepts = q ∷ [] }

document_texts : Text text_a said_a × Text text_b said_b × Text text_c said_c
unfolding is_space is_letter is_digit is_name_byte follow run space needed_space begins token name value_after number ends range target transition initial
    next_name many transitions next_names accepting heading ending whole_text spell
document_texts = ((sound text_a _ 52 refl).1, (sound text_b _ 70 refl).1, (sound text_c _ 52 refl).1)

loose_text : Text loose (record {
  start = accepting_word;
  moves = record { from = accepting_word; to = 116 ∷ []; first = 7; last = 4294967295 }
      ∷ record { from = accepting_word; to = accepting_word; first = 0; last = 9 } ∷ record { from = 116 ∷ []; to = 116 ∷ []; first = 1; last = 1 } ∷ [];
  accepts = (116 ∷ []) ∷ (122 ∷ 122 ∷ []) ∷ (116 ∷ []) ∷ [];
})
unfolding is_space is_letter is_digit is_name_byte follow run space needed_space begins token name value_after number ends range target transition initial
    next_name many transitions next_names accepting heading ending whole_text spell
loose_text = (sound loose _ 124 refl).1
