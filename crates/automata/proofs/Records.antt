-- Reading and writing records: the law in each direction, lengths, and records by their place.
use Prim.Native.Nat.{ℕ, zero, suc, ◌+◌, ◌-◌, ◌*◌, ◌≤◌, ◌<◌}
use mathlib.Core.List.Memᴰ
use mathlib.Core.List.{List, [], ◌∷◌, ◌++◌, head-eq_of_cons-eq}
use mathlib.Core.Logic.{⊎_elim}
use mathlib.Core.Path.{◌≡◌, refl, sym, ◌∙◌, ap, subst}
use native.Mathlib.Nat.{add-sub_cancel_left}
use native.Mathlib.Omega.{arith}
use lib.ListN.{length, get_or, take, drop, length-drop}
use lib.Seq.{drop-drop, get_or-drop, get_or-take}
use Rattle.lists.specs.Lists.{◌∈◌}
use Rattle.lists.proofs.Lists.{drop_mem}
use Rattle.lists.proofs.Members.{place}
use Rattle.automata.specs.Automaton.{Transition}
use Rattle.automata.specs.Records.{words_of, read_records, write_records}
use Rattle.automata.specs.inner.Records.{record_at}

pub read_write : (es : List Transition) → read_records (write_records es) ≡ es
unfolding read_records write_records
read_write [] = refl
read_write (e ∷ es) = ap (λ l. e ∷ l) (read_write es)

pub write_read : (m : ℕ) (s : List ℕ) → length s ≡ 5 * m → write_records (read_records s) ≡ s
unfolding read_records write_records
write_read zero [] h = refl
write_read (suc m) [] h = absurd (omega arith)
write_read m (a ∷ []) h = absurd (omega arith)
write_read m (a ∷ b ∷ []) h = absurd (omega arith)
write_read m (a ∷ b ∷ c ∷ []) h = absurd (omega arith)
write_read m (a ∷ b ∷ c ∷ d ∷ []) h = absurd (omega arith)
write_read zero (a ∷ b ∷ c ∷ d ∷ e ∷ s) h = absurd (omega arith)
write_read (suc m) (a ∷ b ∷ c ∷ d ∷ e ∷ s) h = ap (λ l. a ∷ b ∷ c ∷ d ∷ e ∷ l) (write_read m s (omega arith))

pub length_write : (es : List Transition) → length (write_records es) ≡ 5 * length es
unfolding write_records
length_write [] = refl
length_write (e ∷ es) = let h = length_write es in omega arith

pub length_read : (m : ℕ) (s : List ℕ) → length s ≡ 5 * m → length (read_records s) ≡ m
length_read m s h = let e = length_write (read_records s) in let f = ap length (write_read m s h) in omega arith

pub write_append : (ds es : List Transition) → write_records (ds ++ es) ≡ write_records ds ++ write_records es
unfolding write_records
write_append [] es = refl
write_append (d ∷ ds) es = ap (λ l. words_of d ++ l) (write_append ds es)

pub read_front : (s : List ℕ) → 5 ≤ length s → read_records s ≡ record_at s 0 ∷ read_records (drop 5 s)
unfolding read_records
read_front [] h = absurd (omega arith)
read_front (a ∷ []) h = absurd (omega arith)
read_front (a ∷ b ∷ []) h = absurd (omega arith)
read_front (a ∷ b ∷ c ∷ []) h = absurd (omega arith)
read_front (a ∷ b ∷ c ∷ d ∷ []) h = absurd (omega arith)
read_front (a ∷ b ∷ c ∷ d ∷ e ∷ s) h = refl

pub read_short : (s : List ℕ) → length s < 5 → read_records s ≡ []
unfolding read_records
read_short [] h = refl
read_short (a ∷ []) h = refl
read_short (a ∷ b ∷ []) h = refl
read_short (a ∷ b ∷ c ∷ []) h = refl
read_short (a ∷ b ∷ c ∷ d ∷ []) h = refl
read_short (a ∷ b ∷ c ∷ d ∷ e ∷ s) h = absurd (omega arith)

-- the record at a place, and those behind it
pub records_at_lem : (s : List ℕ) (at : ℕ) → 5 ≤ length s - at → read_records (drop at s) ≡ record_at s at ∷ read_records (drop (at + 5) s)
records_at_lem s at h = read_front (drop at s) (simp length-drop h) ∙ rw (drop-drop 5 at s, get_or-drop at s 0 0, get_or-drop at s 1 0, get_or-drop at s 2 0, get_or-drop at s 3 0, get_or-drop at s 4 0, here)
  where
    here : at + 0 ≡ at
    here = omega arith

pub records_end : (s : List ℕ) (at : ℕ) → length s - at < 5 → read_records (drop at s) ≡ []
records_end s at h = read_short (drop at s) (simp length-drop h)

five : (k : ℕ) → 5 * suc k ≡ suc (suc (suc (suc (suc (5 * k)))))
five k = omega arith

-- the records of a part that starts at a record and ends at one
pub read_drop : (k : ℕ) (s : List ℕ) → read_records (drop (5 * k) s) ≡ drop k (read_records s)
unfolding read_records
read_drop zero s = refl
read_drop (suc k) [] = rw (five k)
read_drop (suc k) (a ∷ []) = rw (five k)
read_drop (suc k) (a ∷ b ∷ []) = rw (five k)
read_drop (suc k) (a ∷ b ∷ c ∷ []) = rw (five k)
read_drop (suc k) (a ∷ b ∷ c ∷ d ∷ []) = rw (five k)
read_drop (suc k) (a ∷ b ∷ c ∷ d ∷ e ∷ s) = rw (five k) (read_drop k s)

pub read_take : (k : ℕ) (s : List ℕ) → read_records (take (5 * k) s) ≡ take k (read_records s)
unfolding read_records
read_take zero s = refl
read_take (suc k) [] = rw (five k)
read_take (suc k) (a ∷ []) = rw (five k)
read_take (suc k) (a ∷ b ∷ []) = rw (five k)
read_take (suc k) (a ∷ b ∷ c ∷ []) = rw (five k)
read_take (suc k) (a ∷ b ∷ c ∷ d ∷ []) = rw (five k)
read_take (suc k) (a ∷ b ∷ c ∷ d ∷ e ∷ s) = rw (five k) (ap (λ l. record { from = a; kind = b; first = c; last = d; to = e } ∷ l) (read_take k s))

-- the part of five words at a place is the record there
pub part_record : (t : List ℕ) (at : ℕ) → record_at (take (at + 5 - at) (drop at t)) 0 ≡ record_at t at
part_record t at = rw (add-sub_cancel_left, field 0 (omega arith), field 1 (omega arith), field 2 (omega arith), field 3 (omega arith), field 4 (omega arith), here)
  where
    here : at + 0 ≡ at
    here = omega arith

    field : (i : ℕ) → i < 5 → get_or (take 5 (drop at t)) i 0 ≡ get_or t (at + i) 0
    field i h = get_or-take 5 (drop at t) i 0 h ∙ get_or-drop at t i 0

-- where no word is over k, no record ends above k
pub records_most : (k : ℕ) (s : List ℕ) → ((i : ℕ) → get_or s i 0 ≤ k) → (e : Transition) → e ∈ read_records s → e.last ≤ k
unfolding read_records
records_most k [] h e m = elim m [ ]
records_most k (a ∷ []) h e m = elim m [ ]
records_most k (a ∷ b ∷ []) h e m = elim m [ ]
records_most k (a ∷ b ∷ c ∷ []) h e m = elim m [ ]
records_most k (a ∷ b ∷ c ∷ d ∷ []) h e m = elim m [ ]
records_most k (a ∷ b ∷ c ∷ d ∷ f ∷ s) h e (Memᴰ.head q) = rw q (h 3)
records_most k (a ∷ b ∷ c ∷ d ∷ f ∷ s) h e (Memᴰ.tail m) = records_most k s (λ i. h (suc (suc (suc (suc (suc i)))))) e m

-- a record of a list of transitions that is written as words: it stands at its place in the list
pub written_at : (es : List Transition) (j : ℕ) → j < length es → drop j es ≡ record_at (write_records es) (5 * j) ∷ read_records (drop (5 * j + 5) (write_records es))
written_at es j h =
    let s = write_records es in
    let n : length s ≡ 5 * length es = length_write es in
    ap (drop j) (sym (read_write es)) ∙ sym (read_drop j s) ∙ records_at_lem s (5 * j) (omega arith)

pub written_mem : (es : List Transition) (j : ℕ) → j < length es → record_at (write_records es) (5 * j) ∈ es
written_mem es j h = drop_mem j es _ _ (written_at es j h)

pub written_place : (es : List Transition) (e : Transition) → e ∈ es → (j : ℕ) × (j < length es) × (record_at (write_records es) (5 * j) ≡ e)
written_place es e m =
    let p = place m in
    (p.0, p.1, head-eq_of_cons-eq (sym (written_at es p.0 p.1) ∙ p.3))

-- the m records from o on
pub record_in : (m : ℕ) (s : List ℕ) (o : ℕ) → length s ≡ o + 5 * m → (j : ℕ) → j < m → record_at s (o + 5 * j) ∈ read_records (drop o s)
record_in zero s o l j h = absurd (omega arith)
record_in (suc m) s o l zero h = let z : o ≡ o + 5 * 0 = omega arith in
    subst (λ i. record_at s i ∈ read_records (drop o s)) z (rw (records_at_lem s o (omega arith)) (Memᴰ.head refl))
record_in (suc m) s o l (suc j) h =
    let z : o + 5 + 5 * j ≡ o + 5 * suc j = omega arith in
    rw (records_at_lem s o (omega arith)) (Memᴰ.tail (subst (λ i. record_at s i ∈ read_records (drop (o + 5) s)) z (record_in m s (o + 5) (omega arith) j (omega arith))))

pub record_out : (m : ℕ) (s : List ℕ) (o : ℕ) → length s ≡ o + 5 * m → (e : Transition) → e ∈ read_records (drop o s) → (j : ℕ) × (j < m) × (e ≡ record_at s (o + 5 * j))
record_out zero s o l e k = absurd (Memᴰ.not-nil (rw (records_end s o (omega arith)) at k))
record_out (suc m) s o l e k =
    ⊎_elim (λ (q : e ≡ record_at s o). (0, omega arith, let z : o + 5 * 0 ≡ o = omega arith in rw z q))
    (λ i.
    let r = record_out m s (o + 5) (omega arith) e i in
    let z : o + 5 + 5 * r.0 ≡ o + 5 * suc r.0 = omega arith in
    (suc r.0, omega (arith, r.1), subst (λ i. e ≡ record_at s i) z r.2))
    (Memᴰ.cases_cons (rw (records_at_lem s o (omega arith)) at k))

-- the record at a place, as it is handed on, is one of those from there on
pub part_in : (t : List ℕ) (at : ℕ) → 5 ≤ length t - at → record_at (take (at + 5 - at) (drop at t)) 0 ∈ read_records (drop at t)
part_in t at h = subst (λ (es : List Transition). record_at (take (at + 5 - at) (drop at t)) 0 ∈ es) (sym (records_at_lem t at h)) (Memᴰ.head (part_record t at))
