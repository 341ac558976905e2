-- Laws of cases of ranges: common symbols, the sheet that has the ranges of a case, and the holes that these leave.
use Rattle.std.proofs.Common.{Option, Result, Ok, Err, ℕ, zero, suc, ◌+◌, ◌-◌, ◌*◌, ◌/◌, ◌≤◌, ◌<◌, Bool, true, false, cond, List, [], ◌∷◌, ◌++◌, ◌≡◌, refl, sym, ◌∙◌, ap, ap₂, add-one, arith, rules, eq-eqb, ne_eqb, lt-ltb, le-ltb, le-leb, ltb-false, eqb, ltb, length, get_or, take, drop, replicate, length-drop, take_at}
use borrow.Author.Tests.{lt-leb}
use lib.ListN.{length-replicate}
use lib.Seq.{sets, sets-eq, get_or-take, get_or-drop}
use Rattle.std.specs.Simd.{first_chunks}
use Rattle.automata.specs.Automaton.{leaving, ranges_of}
use Rattle.automata.specs.Records.{read_records, write_records}
use Rattle.automata.proofs.Records.{read_write}
use Rattle.labels.specs.Labels.{same_label}
use Rattle.stores.specs.Written.{Written}
use Rattle.lists.proofs.Parts.{drop_at, sets_append}
use Rattle.stores.proofs.Written.{written_append, written_cons}
use Rattle.ranges.specs.Missing.{missing}
use Rattle.ranges.specs.inner.Missing.{span_words}
use Rattle.ranges.specs.Span.{Span, span_of, intersect_ranges, overlapping}
use Rattle.ranges.proofs.Writing.{words_length}
use Rattle.refusal.specs.declared.InputRefusal.{InputRefusal}
use Rattle.replay.specs.Cases.{list_at}
use Rattle.sheets.specs.Checked.{checked_number}
use Rattle.sheets.specs.Fault.{fault}
use Rattle.sheets.specs.Sheet.{read}
use Rattle.sheets.proofs.Checking.{refused_some, start_short}
use Rattle.replay_all.specs.Spans.{is_ends, common_case, records, range_sheet, is_bit, are_spans, is_holes, holes_case, ranges_case}
use Rattle.replay_all.proofs.Outcomes.{same_test}

-- a yes or a no
pub bit_yes : (x : ℕ) (h : Bool) → h ≡ true → eqb x 1 ≡ is_bit x h
bit_yes x h e = rw e

pub bit_no : (x : ℕ) (h : Bool) → h ≡ false → eqb x 0 ≡ is_bit x h
bit_no x h e = rw e

pub ruleset bit_laws = (bit_yes, bit_no, rules)

-- common symbols
pub common_short : (s : List ℕ) → length s < 5 → false ≡ common_case s
unfolding common_case
common_short s h = sym (rw (lt-ltb (length s) 5 h))

module _ (s x : List ℕ) (h : 5 ≤ length s) (l : x ≡ list_at s 5) where
  common_by : common_case s
      ≡ cond (eqb (6 + length x) (length s)) (is_ends x (intersect_ranges (record { first = get_or s 1 0; last = get_or s 2 0 }) (record { first = get_or s 3 0; last = get_or s 4 0 }))) false
  unfolding common_case
  common_by = rw (le-ltb (length s) 5 h, ← l)

  pub common_other : (6 + length x ≡ length s → ⊥) → false ≡ common_case s
  common_other g = sym (common_by ∙ rw (ne_eqb (6 + length x) (length s) g))

  pub common_told : 6 + length x ≡ length s → (a : Option (ℕ × ℕ)) (b : Bool)
      → span_of a ≡ intersect_ranges (record { first = get_or s 1 0; last = get_or s 2 0 }) (record { first = get_or s 3 0; last = get_or s 4 0 }) → b ≡ is_ends x (span_of a) → b ≡ common_case s
  common_told g a b e p = p ∙ ap (is_ends x) e ∙ sym (common_by ∙ rw (eq-eqb (6 + length x) (length s) g))

pub ruleset common_laws = (common_short, common_other, common_told, rules)

-- the records of ranges
records_short : (to : ℕ) (l : List ℕ) → length l < 2 → records to l ≡ []
unfolding records
records_short to [] h = refl
records_short to (a ∷ []) h = refl
records_short to (a ∷ b ∷ l) h = absurd (omega arith)

records_length : (to : ℕ) (l : List ℕ) → 2 * length (records to l) ≤ 5 * length l
unfolding records
records_length to [] = omega arith
records_length to (a ∷ []) = omega arith
records_length to (a ∷ b ∷ l) = omega (arith, records_length (suc to) l)

-- word j of pair i
pair_word : (n : ℕ) (xs : List ℕ) (i j : ℕ) → i < n → j < 2 → get_or (get_or (first_chunks 2 n xs) i []) j 0 ≡ get_or xs (2 * i + j) 0
pair_word zero xs i j h k = absurd (omega arith)
pair_word (suc n) xs zero j h k = let z : 2 * 0 + j ≡ j = omega arith in rw z (get_or-take 2 xs j 0 k)
pair_word (suc n) xs (suc i) j h k =
    let z : 2 + (2 * i + j) ≡ 2 * suc i + j = omega arith in
    pair_word n (drop 2 xs) i j (omega arith) k ∙ get_or-drop 2 xs (2 * i + j) 0 ∙ ap (λ m. get_or xs m 0) z

-- the ranges from a number on are left: rs has the firsts and lasts pair by pair
module _ (s ps : List ℕ) (rs : List (List ℕ)) (q : rs ≡ first_chunks 2 (length ps / 2) ps) (to at : ℕ) (h : to < length ps / 2) (s' : List ℕ) (at' : ℕ)
    (w : Written s at (0 ∷ 1 ∷ get_or (get_or rs to []) 0 0 ∷ get_or (get_or rs to []) 1 0 ∷ to ∷ []) s' at') where
  word : (j : ℕ) → j < 2 → get_or (get_or rs to []) j 0 ≡ get_or ps (2 * to + j) 0
  word j k = ap (λ (l : List (List ℕ)). get_or (get_or l to []) j 0) q ∙ pair_word (length ps / 2) ps to j h k

  next_records : records to (drop (2 * to) ps) ≡ 0 ∷ 1 ∷ get_or (get_or rs to []) 0 0 ∷ get_or (get_or rs to []) 1 0 ∷ to ∷ records (to + 1) (drop (2 * (to + 1)) ps)
  unfolding records
  next_records =
      let y : 2 * to ≡ 2 * to + 0 = omega arith in
      let z : 2 * to + 1 + 1 ≡ 2 * (to + 1) = omega arith in
      ap (records to)
      (drop_at ps (2 * to) (omega arith) ∙ ap₂ (λ (a : ℕ) (l : List ℕ). a ∷ l) (ap (λ (k : ℕ). get_or ps k 0) y ∙ sym (word 0 (omega arith)))
      (drop_at ps (2 * to + 1) (omega arith) ∙ ap₂ (λ (a k : ℕ). a ∷ drop k ps) (sym (word 1 (omega arith))) z))
      ∙ ap (λ (k : ℕ). 0 ∷ 1 ∷ get_or (get_or rs to []) 0 0 ∷ get_or (get_or rs to []) 1 0 ∷ to ∷ records k (drop (2 * (to + 1)) ps)) (sym (add-one to))

  pub ranges_next : (old : List ℕ) (first : ℕ) → sets s at (records to (drop (2 * to) ps)) ≡ sets old first (records 0 ps)
      → sets s' at' (records (to + 1) (drop (2 * (to + 1)) ps)) ≡ sets old first (records 0 ps)
  ranges_next old first e =
      let v : List ℕ = 0 ∷ 1 ∷ get_or (get_or rs to []) 0 0 ∷ get_or (get_or rs to []) 1 0 ∷ to ∷ [] in
      ap₂ (λ (l : List ℕ) (k : ℕ). sets l k (records (to + 1) (drop (2 * (to + 1)) ps))) w.stored w.behind
      ∙ sets_append s v (records (to + 1) (drop (2 * (to + 1)) ps)) at ∙ ap (sets s at) (sym next_records) ∙ e

  pub ranges_count : (first : ℕ) → at + length (records to (drop (2 * to) ps)) ≡ first + length (records 0 ps)
      → at' + length (records (to + 1) (drop (2 * (to + 1)) ps)) ≡ first + length (records 0 ps)
  ranges_count first d = omega (arith, w.behind, ap length next_records, d)

pub ranges_ended : (old s ps : List ℕ) (first to at : ℕ) → sets s at (records to (drop (2 * to) ps)) ≡ sets old first (records 0 ps)
    → at + length (records to (drop (2 * to) ps)) ≡ first + length (records 0 ps) → length ps / 2 ≤ to → Written old first (records 0 ps) s at
ranges_ended old s ps first to at e d h =
    let z : records to (drop (2 * to) ps) ≡ [] = records_short to (drop (2 * to) ps) (simp length-drop (omega arith)) in
    record { stored = ap (sets s at) (sym z) ∙ e; behind = let k = ap length z in omega (arith, d) }

-- the sheet of ranges
pub sheet_written : (s s₁ s₂ s₃ s₄ ps : List ℕ) (a c f r : ℕ) → length ps ≤ 128 → Written s 0 (1 ∷ 0 ∷ 64 ∷ []) s₁ a → Written s₁ a (replicate 64 0) s₂ c
    → Written s₂ c (length ps / 2 ∷ []) s₃ f → Written s₃ f (records 0 ps) s₄ r → Written s 0 (range_sheet ps) s₄ r
unfolding range_sheet
sheet_written s s₁ s₂ s₃ s₄ ps a c f r h w₁ w₂ w₃ w₄ =
    rw (le-ltb 128 (length ps) h)
    (written_append s s₁ s₄ (1 ∷ 0 ∷ 64 ∷ []) (replicate 64 0 ++ (length ps / 2 ∷ records 0 ps)) 0 a r w₁
    (written_append s₁ s₂ s₄ (replicate 64 0) (length ps / 2 ∷ records 0 ps) a c r w₂ (written_cons s₂ s₃ s₄ (records 0 ps) c f r (length ps / 2) w₃ w₄)))

sheet_short : (ps : List ℕ) → length (range_sheet ps) ≤ 388
unfolding range_sheet
sheet_short ps = go (ltb 128 (length ps)) refl
  where
    go : (t : Bool) → ltb 128 (length ps) ≡ t → length (cond t [] (1 ∷ 0 ∷ 64 ∷ (replicate 64 0 ++ (length ps / 2 ∷ records 0 ps)))) ≤ 388
    go true e = omega arith
    go false e = omega (arith, records_length 0 ps, ltb-false 128 (length ps) e)

pub sheet_within : (s s₁ s₂ s₃ s₄ ps : List ℕ) (a c f r : ℕ) → length ps ≤ 128 → Written s 0 (1 ∷ 0 ∷ 64 ∷ []) s₁ a → Written s₁ a (replicate 64 0) s₂ c
    → Written s₂ c (length ps / 2 ∷ []) s₃ f → Written s₃ f (records 0 ps) s₄ r → r ≤ 388
sheet_within s s₁ s₂ s₃ s₄ ps a c f r h w₁ w₂ w₃ w₄ = omega (arith, (sheet_written s s₁ s₂ s₃ s₄ ps a c f r h w₁ w₂ w₃ w₄).behind, sheet_short ps)

-- over 64 ranges have no sheet
pub holes_many : (s x : List ℕ) → x ≡ list_at s 1 → 128 < length x → false ≡ holes_case s
unfolding holes_case range_sheet
holes_many s x lx h = sym (rw (← lx, lt-ltb 128 (length x) h, ← start_short [] (omega arith)))

module _ (s x m : List ℕ) (lx : x ≡ list_at s 1) (n : ℕ) (w : Written (replicate 388 0) 0 (range_sheet x) m n) where
  holes_sheet : take (n - 0) m ≡ range_sheet x
  holes_sheet =
      let z : n - 0 ≡ length (range_sheet x) = omega (arith, w.behind) in
      ap₂ take z (w.stored ∙ sets-eq (range_sheet x) (replicate 388 0) 0 (omega (arith, sheet_short x, length-replicate {A = ℕ} 388 0)))
      ∙ take_at (range_sheet x) (drop (0 + length (range_sheet x)) (replicate 388 0)) (length (range_sheet x)) refl

  module _ (c : Result (Unit {0}) InputRefusal) (d : checked_number c ≡ fault (take (n - 0) m)) where
    holes_fault : fault (range_sheet (list_at s 1)) ≡ checked_number c
    holes_fault = sym (d ∙ ap fault (holes_sheet ∙ ap range_sheet lx))

    pub holes_refused : (i : InputRefusal) → c ≡ Err i → false ≡ holes_case s
    unfolding holes_case
    holes_refused i e = sym (rw (ne_eqb (fault (range_sheet (list_at s 1))) 0 (λ z. refused_some i (sym (ap checked_number e) ∙ sym holes_fault ∙ z))))

    pub holes_told : c ≡ Ok tt → (b : Bool) → b ≡ is_holes s (2 + length x) (ranges_of (leaving (read (take (n - 0) m)) 0)) → b ≡ holes_case s
    unfolding holes_case
    holes_told e b p =
        let z : is_holes s (2 + length x) (ranges_of (leaving (read (range_sheet x)) 0)) ≡ is_holes s (2 + length (list_at s 1)) (ranges_of (leaving (read (range_sheet (list_at s 1))) 0)) = rw lx in
        p ∙ ap (λ (v : List ℕ). is_holes s (2 + length x) (ranges_of (leaving (read v) 0))) holes_sheet ∙ z
        ∙ sym (rw (eq-eqb (fault (range_sheet (list_at s 1))) 0 (holes_fault ∙ ap checked_number e)))

-- the holes that were found
module _ (l : List ℕ) (hs : List Span) (n : ℕ) (e : n ≡ length hs) where
  pub spans_many : 2049 < n → false ≡ are_spans l hs
  unfolding are_spans
  spans_many h = sym (rw (lt-ltb 2049 (length hs) (rw e at h)))

  pub spans_told : n ≤ 2049 → (m : List ℕ) (v : Bool) → m ≡ sets (replicate 4098 0) 0 (span_words hs) → ((v ≡ true → l ≡ take (2 * n - 0) m) × (l ≡ take (2 * n - 0) m → v ≡ true)) → v ≡ are_spans l hs
  unfolding are_spans
  spans_told h m v f p =
      let z : 2 * n - 0 ≡ length (span_words hs) = omega (arith, words_length hs) in
      same_test v l (take (2 * n - 0) m) p
      ∙ ap (same_label l) (ap₂ take z (f ∙ sets-eq (span_words hs) (replicate 4098 0) 0 (omega (arith, words_length hs, length-replicate {A = ℕ} 4098 0)))
      ∙ take_at (span_words hs) (drop (0 + length (span_words hs)) (replicate 4098 0)) (length (span_words hs)) refl)
      ∙ sym (rw (le-ltb 2049 (length hs) (rw e at h)))

pub ruleset span_laws = (spans_many, spans_told, rules)

-- what the ranges of state 0 give
pub holes_outside : (s sheet : List ℕ) (at : ℕ) → length s ≤ at → false ≡ is_holes s at (ranges_of (leaving (read sheet) 0))
unfolding is_holes
holes_outside s sheet at h = sym (rw (le-leb (length s) at h))

module _ (s sheet x : List ℕ) (at : ℕ) (h : at < length s) (l : x ≡ list_at s (at + 1)) where
  holes_place : at + 1 + 1 + length (list_at s (at + 1)) ≡ at + 2 + length x
  holes_place = rw (← l) (omega arith)

  pub holes_other : (at + 2 + length x ≡ length s → ⊥) → false ≡ is_holes s at (ranges_of (leaving (read sheet) 0))
  unfolding is_holes
  holes_other g = sym (rw (lt-leb (length s) at h, holes_place, ne_eqb (at + 2 + length x) (length s) g))

  module _ (g : at + 2 + length x ≡ length s) (run : List ℕ) (r : run ≡ write_records (leaving (read sheet) 0)) (v t : Bool)
      (e : v ≡ overlapping (ranges_of (read_records run))) (f : t ≡ is_bit (get_or s at 0) v) where
    run_leaving : read_records run ≡ leaving (read sheet) 0
    run_leaving = ap read_records r ∙ read_write (leaving (read sheet) 0)

    holes_by : is_holes s at (ranges_of (leaving (read sheet) 0)) ≡ cond t (are_spans x (missing 0 4294967295 (ranges_of (read_records run)))) false
    unfolding is_holes
    holes_by = rw (← run_leaving, lt-leb (length s) at h, holes_place, eq-eqb (at + 2 + length x) (length s) g, ← e, ← f, ← l)

    pub holes_found : t ≡ true → (b : Bool) → b ≡ are_spans x (missing 0 4294967295 (ranges_of (read_records run))) → b ≡ is_holes s at (ranges_of (leaving (read sheet) 0))
    holes_found i b p = p ∙ sym (holes_by ∙ rw i)

    pub holes_no : t ≡ false → false ≡ is_holes s at (ranges_of (leaving (read sheet) 0))
    holes_no i = sym (holes_by ∙ rw i)

pub ruleset hole_laws = (holes_outside, holes_other, holes_found, holes_no, rules)

-- ranges of a state, or two ranges
pub ranges_none : (s : List ℕ) → length s ≡ 0 → false ≡ ranges_case s
unfolding ranges_case
ranges_none s h = sym (rw (eq-eqb (length s) 0 h))

module _ (s : List ℕ) (h : length s ≡ 0 → ⊥) (b : Bool) where
  pub ranges_holes : get_or s 0 0 ≡ 0 → b ≡ holes_case s → b ≡ ranges_case s
  unfolding ranges_case
  ranges_holes e p = p ∙ sym (rw (ne_eqb (length s) 0 h, eq-eqb (get_or s 0 0) 0 e))

  pub ranges_common : (get_or s 0 0 ≡ 0 → ⊥) → b ≡ common_case s → b ≡ ranges_case s
  unfolding ranges_case
  ranges_common e p = p ∙ sym (rw (ne_eqb (length s) 0 h, ne_eqb (get_or s 0 0) 0 e))

pub ruleset ranges_laws = (ranges_none, ranges_holes, ranges_common, rules)
