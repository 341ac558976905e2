-- For inner contracts. What holds while pairs of states are walked. The pairs met so far stand in a queue; beside it stands how each of them but the
-- first was met, from which pair and by which symbol.
use Rattle.std.specs.Prelude.{ℕ, ◌+◌, ◌*◌, ◌<◌, ◌≤◌, List, [], ◌∷◌, ◌≡◌, length, get_or, take, drop}
use Rattle.automata.specs.Successors.{successor}
use Rattle.automata.specs.Automaton.{accept_of}
use Rattle.pairs.specs.inner.Pairs.{Pairs, classes, one_at, two_at, ValidPairs}
use Rattle.determinizations.specs.Two.{Two, Symbol, total_size}
use Rattle.equality.specs.Forced.{left, right}

-- the pair that pair i was met from and the symbol, and how many symbols lead to it
pub record Trail : Type 0 where
  pub from : ℕ → ℕ
  pub by : ℕ → ℕ
  pub depth : ℕ → ℕ

-- the trail that words are read as, three for each pair
abbrev pub trail_of : List ℕ → Trail
trail_of l = record { from = λ i. get_or l (3 * i) 0; by = λ i. get_or l (3 * i + 1) 0; depth = λ i. get_or l (3 * i + 2) 0 }

-- pair i was met from an earlier pair
pub record MetPair (t : Two) (w : Pairs) (r : Trail) (i : ℕ) : Type 0 where
  pub earlier : r.from i < i
  pub symbol : Symbol t (r.by i)
  pub next_one : one_at w i ≡ successor t.one (one_at w (r.from i)) (r.by i)
  pub next_two : two_at w i ≡ successor t.two (two_at w (r.from i)) (r.by i)
  pub deeper : r.depth i ≡ r.depth (r.from i) + 1

-- pairs that were met from the starts, which are joined; the words l are their trail
pub record WalkedPairs (t : Two) (w : Pairs) (l : List ℕ) : Type 0 where
  pub valid : ValidPairs t.one.size w
  pub is_n : w.sets.n ≡ total_size t
  pub long : length l ≡ 1536
  pub started : classes w (left t t.one.start) ≡ classes w (right t t.two.start)
  pub at_one : one_at w 0 ≡ t.one.start
  pub at_two : two_at w 0 ≡ t.two.start
  pub at_top : (trail_of l).depth 0 ≡ 0
  pub met : (i : ℕ) → i < w.made → 0 < i → MetPair t w (trail_of l) i
  pub in_one : (i : ℕ) → i < w.made → one_at w i < t.one.size
  pub in_two : (i : ℕ) → i < w.made → two_at w i < t.two.size
  pub shallow : (i : ℕ) → i < w.made → (trail_of l).depth i ≤ i
  pub agree : (i : ℕ) → i < w.made → accept_of t.one (one_at w i) ≡ accept_of t.two (two_at w i)

-- the successors of the first h pairs are joined
abbrev pub SuccessorsJoined : Two → Pairs → ℕ → Type 0
SuccessorsJoined t w h = (i : ℕ) → i < h → (x : ℕ) → Symbol t x → classes w (left t (successor t.one (one_at w i) x)) ≡ classes w (right t (successor t.two (two_at w i) x))

-- there is room for a pair behind `made` others that is met from pair i
pub record StepFits (l : List ℕ) (made i : ℕ) : Type 0 where
  pub long : length l ≡ 1536
  pub room : made < 512
  pub i_in : i < made
  pub shallow : (trail_of l).depth i ≤ i

-- l' is the trail l of `made` pairs and, where there are `more`, of the next, which is met from pair i by x
pub record StepPut (l l' : List ℕ) (made more i x : ℕ) : Type 0 where
  pub long : length l' ≡ 1536
  pub kept : (k : ℕ) → k < 3 * made → get_or l' k 0 ≡ get_or l k 0
  pub put_from : made < more → (trail_of l').from made ≡ i
  pub put_by : made < more → (trail_of l').by made ≡ x
  pub put_depth : made < more → (trail_of l').depth made ≡ (trail_of l).depth i + 1

-- what the writing of a word leans on: of the pairs up to i
pub record Chained (r : Trail) (i : ℕ) : Type 0 where
  pub at_top : r.depth 0 ≡ 0
  pub earlier : (c : ℕ) → c ≤ i → 0 < c → r.from c < c
  pub deeper : (c : ℕ) → c ≤ i → 0 < c → r.depth c ≡ r.depth (r.from c) + 1
  pub shallow : (c : ℕ) → c ≤ i → r.depth c ≤ c

-- by the trail, the word leads from a pair to the successors of pair i under x
pub data Leads (r : Trail) (i x : ℕ) : ℕ → List ℕ → Type 0 where
  here : Leads r i x i (x ∷ [])
  back : {c : ℕ} {v : List ℕ} → 0 < c → c ≤ i → Leads r i x c v → Leads r i x (r.from c) (r.by c ∷ v)

-- the first n words of o' are that word from the first pair, and those behind are o's
pub record Spelled (r : Trail) (i x n : ℕ) (o o' : List ℕ) : Type 0 where
  pub is_n : n ≡ r.depth i + 1
  pub within : n ≤ length o'
  pub leads : Leads r i x 0 (take n o')
  pub behind : drop n o' ≡ drop n o
