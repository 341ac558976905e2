-- The grammar of patterns (document 01, "Beside the equality"). Each piece is read at a place of a text; it finds a value and the place behind
-- it, or nothing, and the next piece starts only from a place that was found.
use Rattle.std.specs.Prelude.{ℕ, zero, suc, ◌+◌, Bool, true, false, cond, ◌&&◌, List, [], ◌∷◌, leb, ltb, eqb, length, get_or, take, drop}
use Rattle.decimal.specs.Decimal.{is_digit, value}
use Rattle.grammar.specs.Bytes.{is_space, is_letter, is_name_byte}
use Rattle.grammar.specs.Words.{automaton_word, init_word, accepting_word, arrow_sign, left_brace, right_brace, left_bracket, right_bracket, comma, semicolon}
use Rattle.grammar.specs.declared.tokens.TextSpan.{TextSpan}
use Rattle.grammar.specs.declared.pieces.Arrow.{Arrow}

pub data ReadResult (X : Type 0) : Type 0 where
  nothing : ReadResult X
  found : X → ℕ → ReadResult X

-- the piece that follows a piece
unfoldable pub follow : {X Y : Type 0} → ReadResult X → (X → ℕ → ReadResult Y) → ReadResult Y
follow nothing f = nothing
follow (found x at) f = f x at

-- the value of a piece that tells nothing but its place
pub data Mark : Type 0 where
  mark : Mark

-- how many bytes at the front pass the test
unfoldable pub run : (ℕ → Bool) → List ℕ → ℕ
run f [] = 0
run f (b ∷ l) = cond (f b) (suc (run f l)) 0

-- the place behind optional space
unfoldable pub space : List ℕ → ℕ → ℕ
space t at = at + run is_space (drop at t)

-- space, one or more
unfoldable pub needed_space : List ℕ → ℕ → ReadResult Mark
needed_space t at = cond (ltb at (space t at)) (found mark (space t at)) nothing

-- l begins with the bytes w
unfoldable pub begins : List ℕ → List ℕ → Bool
begins [] l = true
begins (x ∷ w) [] = false
begins (x ∷ w) (b ∷ l) = eqb b x && begins w l

-- the bytes w
unfoldable pub token : List ℕ → List ℕ → ℕ → ReadResult Mark
token w t at = cond (begins w (drop at t)) (found mark (at + length w)) nothing

-- an ASCII letter, then letters, digits, _; at most 64 bytes
unfoldable pub name : List ℕ → ℕ → ReadResult TextSpan
name t at =
    let n = run is_name_byte (drop at t) in
    cond (is_letter (get_or t at 0) && leb n 64) (found (record { start = at; end = at + n }) (at + n)) nothing

-- digits, leading zeros allowed, that fit u32
unfoldable pub number : List ℕ → ℕ → ReadResult ℕ
number t at =
    let n = run is_digit (drop at t) in
    let v = value (take n (drop at t)) in
    cond (ltb 0 n && leb v 4294967295) (found v (at + n)) nothing

-- first and last of a range
pub record RangeEnds : Type 0 where
  pub first : ℕ
  pub last : ℕ

-- first, last; first is at most last
unfoldable pub ends : List ℕ → ℕ → ReadResult RangeEnds
ends t at =
    follow (number t (space t at)) λ first a.
    follow (token comma t (space t a)) λ _ b.
    follow (number t (space t b)) λ last c.
    cond (leb first last) (found (record { first = first; last = last }) c) nothing

-- [first, last];
unfoldable pub range : List ℕ → ℕ → ReadResult RangeEnds
range t at =
    follow (token left_bracket t (space t at)) λ _ a.
    follow (ends t a) λ r b.
    follow (token right_bracket t b) λ _ c.
    follow (token semicolon t c) λ _ d.
    found r d

-- -> b
unfoldable pub target : List ℕ → ℕ → ReadResult TextSpan
target t at = follow (token arrow_sign t (space t at)) λ _ a. name t (space t a)

-- a -> b [first, last];
unfoldable pub transition : List ℕ → ℕ → ReadResult Arrow
transition t at =
    follow (name t at) λ from a.
    follow (target t a) λ to b.
    follow (range t b) λ r c.
    found (record { from = from; to = to; first = r.first; last = r.last }) c

-- init a;
unfoldable pub initial : List ℕ → ℕ → ReadResult TextSpan
initial t at =
    follow (token init_word t at) λ _ a.
    follow (needed_space t a) λ _ b.
    follow (name t b) λ s c.
    follow (token semicolon t c) λ _ d.
    found s d

-- a comma and a name
unfoldable pub next_name : List ℕ → ℕ → ReadResult TextSpan
next_name t at = follow (token comma t (space t at)) λ _ a. name t (space t a)

-- values, one behind the other, and the place behind the last
pub record Items (X : Type 0) : Type 0 where
  pub items : List X
  pub behind : ℕ

abbrev pub one_more : {X : Type 0} → ℕ → ReadResult X → (ℕ → Items X) → Items X
one_more at nothing more = record { items = []; behind = at }
one_more at (found x next) more = record { items = x ∷ (more next).items; behind = (more next).behind }

-- the pieces p from a place on, as long as a whole one can be read, at most k of them
unfoldable pub many : {X : Type 0} → (ℕ → ReadResult X) → ℕ → ℕ → Items X
many p zero at = record { items = []; behind = at }
many p (suc k) at = one_more at (p at) (many p k)

-- the transitions from a place on, each behind optional space; a text has no more of them than bytes
unfoldable pub transitions : List ℕ → ℕ → Items Arrow
transitions t = many (λ at. transition t (space t at)) (length t)

-- the names from a place on, each behind a comma
unfoldable pub next_names : List ℕ → ℕ → Items TextSpan
next_names t = many (next_name t) (length t)

-- accepting a, b;
unfoldable pub accepting : List ℕ → ℕ → ReadResult (List TextSpan)
accepting t at =
    follow (token accepting_word t at) λ _ a.
    follow (needed_space t a) λ _ b.
    follow (name t b) λ s c.
    follow (token semicolon t (next_names t c).behind) λ _ d.
    found (s ∷ (next_names t c).items) d

-- automaton A {
unfoldable pub heading : List ℕ → ℕ → ReadResult Mark
heading t at =
    follow (token automaton_word t at) λ _ a.
    follow (needed_space t a) λ _ b.
    follow (name t b) λ _ c.
    token left_brace t (space t c)

-- };
unfoldable pub ending : List ℕ → ℕ → ReadResult Mark
ending t at = follow (token right_brace t (space t at)) λ _ a. token semicolon t a

-- what a text tells
pub record TextParts : Type 0 where
  pub start : TextSpan
  pub arrows : List Arrow
  pub accepts : List TextSpan

-- a whole text
unfoldable pub whole_text : List ℕ → ReadResult TextParts
whole_text t =
    follow (heading t 0) λ _ a.
    follow (initial t (space t a)) λ s b.
    follow (accepting t (space t (transitions t b).behind)) λ names c.
    follow (ending t c) λ _ d.
    found (record { start = s; arrows = (transitions t b).items; accepts = names }) d
