-- For inner contracts. What the code holds of the table of pairs: a queue in which a pair is one word, and a table of the numbers of these words.
use Rattle.std.specs.Prelude.{ℕ, ◌/◌, ◌%◌, ◌≤◌, ◌<◌, Bool, true, false, cond, not, ◌||◌, Option, Some, None, List, [], ◌∷◌, ◌++◌, map, ◌≡◌, eqb, ltb, length, get_or, take}
use Rattle.lists.specs.Lists.{◌∈◌, any, Ascending, Distinct}
use Rattle.automata.specs.Automaton.{Transition, Automaton, has_epsilon}
use Rattle.automata.specs.WellFormed.{most_states}
use Rattle.search.specs.Search.{meet, SearchResult, over, found, table}
use Rattle.automata.specs.Pairs.{Pair, same_pair}
use Rattle.product.specs.Product.{joints_of, meeting_pairs, transition_of_joint, place_in, blocked_at}

-- the pair of states of a word
abbrev pub pair_of : ℕ → Pair
pair_of c = record { left = c / 256; right = c % 256 }

-- the table of the first n words of the queue
unfoldable pub table_of : List ℕ → ℕ → List Pair
table_of queue n = map pair_of (take n queue)

-- the number of a pair of the table, if it is there
unfoldable pub number_in : List Pair → Pair → Option ℕ
number_in T p = cond (ltb (place_in T p) (length T)) (Some (place_in T p)) None

-- the entries for which the queue has room: one more than there may be
unfoldable pub capped : List Pair → List Pair
capped T = take 257 T

-- the first n words of the queue are different pairs, and the table t has the number of each at its word, unless there are 257
pub record Queued (queue t : List ℕ) (n : ℕ) : Type 0 where
  pub room : length queue ≡ 257
  pub bytes : length t ≤ 65536
  pub few : n ≤ 257
  pub distinct : Distinct (table_of queue n)
  pub numbered : n ≤ 256 → (i : ℕ) → i < n → get_or t (get_or queue i 0) 0 ≡ i

-- the table T, and then the pairs ps were met, as far as there is room
pub record PairsMet (T ps : List Pair) (queue t : List ℕ) (n : ℕ) : Type 0 where
  pub queued : Queued queue t n
  pub table : table_of queue n ≡ capped (meet same_pair ps T)

-- the records of a run lead to states below k, and none starts before an earlier one
pub record RunTo (k : ℕ) (es : List Transition) : Type 0 where
  pub tos : (e : Transition) → e ∈ es → e.to < k
  pub rises : Ascending (λ d e. d.first ≤ e.first) es

-- a record that gives no joint with a range that starts at a or behind it: it is no range, or ends before a
unfoldable pub ends_before : ℕ → Transition → Bool
ends_before a e = not (eqb e.kind 1) || ltb e.last a

-- the records from the first on that is not so
unfoldable pub not_ended : ℕ → List Transition → List Transition
not_ended a [] = []
not_ended a (e ∷ es) = cond (ends_before a e) (not_ended a es) (e ∷ es)

-- the pairs to which ranges among ds and es that meet lead
unfoldable pub joint_targets : List Transition → List Transition → List Pair
joint_targets ds es = map (λ j. j.to) (joints_of ds es)

-- pairs of a state below n and one below m
pub record PairsBelow (n m : ℕ) (T : List Pair) : Type 0 where
  pub states : (p : Pair) → p ∈ T → (p.left < n) × (p.right < m)

-- the table of a queue of n pairs
unfoldable pub found_in : List ℕ → ℕ → SearchResult Pair
found_in queue n = cond (ltb 256 n) over (found (table_of queue n))

-- the transitions of pair i of the table by the ranges among ds and es that meet
unfoldable pub links : List Pair → ℕ → List Transition → List Transition → List Transition
links T i ds es = map (transition_of_joint (place_in T) i) (joints_of ds es)

-- no epsilon stands behind a range
pub record EpsilonFirst (es : List Transition) : Type 0 where
  pub first : has_epsilon es ≡ true → has_epsilon (take 1 es) ≡ true

-- the words of a sheet of n states with these accept words and the words of its records, whose start is 0
abbrev pub sheet_words : List ℕ → ℕ → List ℕ → List ℕ
sheet_words accept n records = 1 ∷ 0 ∷ n ∷ (accept ++ (length records / 5 ∷ records))

-- the table of all pairs that are reached, among which none is blocked
pub record Whole (A B : Automaton) (T : List Pair) : Type 0 where
  pub all : table (meeting_pairs A B) most_states ≡ found T
  pub free : any (blocked_at A B) T ≡ false
