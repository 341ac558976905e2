-- Records as arrays of five words: the chunks of a list of words are its records.
use Rattle.std.proofs.Common.{ℕ, zero, suc, ◌≡◌, ◌+◌, ◌-◌, ◌*◌, ◌/◌, ◌≤◌, ◌<◌, List, [], ◌∷◌, length, get_or, take, drop, map, refl, sym, ◌∙◌, ap, arith}
use Rattle.std.proofs.lemmas.List.{get_or-take, get_or-drop, length-drop, drop-map, drop_more, drop_all}
use Rattle.std.specs.Simd.{first_chunks}
use Rattle.lists.specs.Lists.{◌∈◌}
use Rattle.lists.proofs.Lists.{drop_mem}
use Rattle.automata.specs.Records.{read_records}
use Rattle.automata.specs.inner.Chunks.{records_of}
use Rattle.automata.specs.inner.Records.{record_at}
use Rattle.automata.proofs.Records.{read_front, read_short}

-- the record in five words at the front
front : (xs : List ℕ) → record_at (take 5 xs) 0 ≡ record_at xs 0
front xs = rw (field 0 (omega arith), field 1 (omega arith), field 2 (omega arith), field 3 (omega arith), field 4 (omega arith))
  where
    field : (i : ℕ) → i < 5 → get_or (take 5 xs) i 0 ≡ get_or xs i 0
    field i h = get_or-take 5 xs i 0 h

chunked : (n : ℕ) (xs : List ℕ) → n ≡ length xs / 5 → map (λ r. record_at r 0) (first_chunks 5 n xs) ≡ read_records xs
chunked zero xs h = sym (read_short xs (omega arith))
chunked (suc n) xs h =
    let l : length (drop 5 xs) ≡ length xs - 5 = length-drop 5 xs in
    let k : 5 ≤ length xs = omega arith in
    rw (front xs, chunked n (drop 5 xs) (omega arith)) (sym (read_front xs k))

-- the chunks that `as_chunks` gives are the records
pub records_chunks : (xs : List ℕ) → records_of (first_chunks 5 (length xs / 5) xs) ≡ read_records xs
unfolding records_of
records_chunks xs = chunked (length xs / 5) xs refl

pub records_are : (xs : List ℕ) (rs : List (List ℕ)) → rs ≡ first_chunks 5 (length xs / 5) xs → records_of rs ≡ read_records xs
records_are xs rs e = ap records_of e ∙ records_chunks xs

-- the record at an index, and those behind it
pub records_next : (rs : List (List ℕ)) (i : ℕ) → i < length rs → records_of (drop i rs) ≡ record_at (get_or rs i []) 0 ∷ records_of (drop (i + 1) rs)
unfolding records_of
records_next rs i h = rw (drop_more rs i [] h)

pub records_done : (rs : List (List ℕ)) (i : ℕ) → length rs ≤ i → records_of (drop i rs) ≡ []
unfolding records_of
records_done rs i h = rw (drop_all i rs h)

-- the record at an index is one of them
pub record_in_chunks : (rs : List (List ℕ)) (i : ℕ) → i < length rs → record_at (get_or rs i []) 0 ∈ records_of rs
unfolding records_of
record_in_chunks rs i h = drop_mem i (records_of rs) _ _ (drop-map (λ r. record_at r 0) i rs ∙ records_next rs i h)

-- word j of chunk i stands at 5 * i + j
pub chunk_word : (n : ℕ) (xs : List ℕ) (i j : ℕ) → i < n → j < 5 → get_or (get_or (first_chunks 5 n xs) i []) j 0 ≡ get_or xs (5 * i + j) 0
chunk_word zero xs i j h k = absurd (omega arith)
chunk_word (suc n) xs zero j h k = let z : 5 * 0 + j ≡ j = omega arith in rw z (get_or-take 5 xs j 0 k)
chunk_word (suc n) xs (suc i) j h k =
    let z : 5 + (5 * i + j) ≡ 5 * suc i + j = omega arith in
    chunk_word n (drop 5 xs) i j (omega arith) k ∙ get_or-drop 5 xs (5 * i + j) 0 ∙ ap (λ m. get_or xs m 0) z
