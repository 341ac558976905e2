-- The laws by which the second pass is proved: the sections of the sheet.
use Rattle.std.proofs.Common.{◌≡◌, ℕ, suc, ◌+◌, ◌-◌, ◌*◌, ◌/◌, ◌<◌, ◌≤◌, List, [], ◌∷◌, ◌++◌, map, length, get_or, take, drop, replicate, sym, refl, ap, ◌∙◌, subst, le_antisymm, add-one, arith, length-append, length-drop, length-take-le, rules, eq-eqb, ne_eqb}
use lib.ListN.{length-map}
use Rattle.std.specs.Simd.{first_chunks}
use Rattle.lists.specs.Lists.{tabulate}
use Rattle.stores.specs.Written.{Written}
use Rattle.lists.proofs.Lists.{tabulate_end}
use Rattle.stores.proofs.Written.{written_none, written_append, written_length}
use Rattle.automata.specs.Automaton.{Automaton}
use Rattle.automata.specs.Records.{read_records, write_records}
use Rattle.automata.specs.inner.Records.{record_at}
use Rattle.automata.specs.inner.Chunks.{records_of}
use Rattle.automata.proofs.Chunks.{records_chunks, records_next, records_done}
use Rattle.automata.proofs.Records.{length_write}
use Rattle.sets.specs.Sets.{Set}
use Rattle.sets.specs.inner.BitSet.{set_at, entries}
use Rattle.sets.specs.inner.Words.{put_at}
use Rattle.sets.proofs.BitSet.{length_entries}
use Rattle.sheets.specs.Sheet.{write}
use Rattle.words.specs.Simulation.{kind_of}
use Rattle.determinize.specs.inner.Notes.{noted_transition}
use Rattle.determinize.specs.inner.Sheets.{noted_automaton}
use Rattle.stores.proofs.Left.{Left, left_start, left_done, left_room, left_next}
use Rattle.determinize.proofs.Queued.{row_at, row_canon}

-- the record that a note stands for
module _ (l m note : List ℕ) (at sink r : ℕ) where
  pub note_sink : get_or note 4 0 ≡ 256 → Written l at (get_or note 0 0 ∷ get_or note 1 0 ∷ get_or note 2 0 ∷ get_or note 3 0 ∷ sink ∷ []) m r
      → Written l at (write_records (noted_transition sink (record_at note 0) ∷ [])) m r
  unfolding noted_transition write_records
  note_sink h w = rw (eq-eqb (get_or note 4 0) 256 h) w

  pub note_set : (get_or note 4 0 ≡ 256 → ⊥) → Written l at (get_or note 0 0 ∷ get_or note 1 0 ∷ get_or note 2 0 ∷ get_or note 3 0 ∷ get_or note 4 0 ∷ []) m r
      → Written l at (write_records (noted_transition sink (record_at note 0) ∷ [])) m r
  unfolding noted_transition write_records
  note_set h w = rw (ne_eqb (get_or note 4 0) 256 h) w

pub ruleset noted_laws = (note_sink, note_set, rules)

-- how many records words have
count_read : (t : List ℕ) → length t / 5 ≡ length (read_records t)
unfolding read_records
count_read [] = refl
count_read (a ∷ []) = refl
count_read (a ∷ b ∷ []) = refl
count_read (a ∷ b ∷ c ∷ []) = refl
count_read (a ∷ b ∷ c ∷ d ∷ []) = refl
count_read (a ∷ b ∷ c ∷ d ∷ e ∷ t) = let h = count_read t in omega arith

-- the records that the notes stand for, one after the other
module _ (notes : List ℕ) (sink : ℕ) (l : List ℕ) (at : ℕ) (rs : List (List ℕ)) where
  -- those of the notes from i on are left
  pub record NotesLeft (m : List ℕ) (end i : ℕ) : Type 0 where
    pub left : Left l at (write_records (map (noted_transition sink) (read_records notes))) m end (write_records (map (noted_transition sink) (records_of (drop i rs))))

  pub notes_begin : rs ≡ first_chunks 5 (length notes / 5) notes → NotesLeft l at 0
  notes_begin e =
      let r : read_records notes ≡ records_of rs = sym (ap records_of e ∙ records_chunks notes) in
      record { left = rw r (left_start l at (write_records (map (noted_transition sink) (records_of rs)))) }

  module _ (m : List ℕ) (end i : ℕ) (p : NotesLeft m end i) where
    notes_here : i < length rs → write_records (map (noted_transition sink) (records_of (drop i rs)))
        ≡ write_records (noted_transition sink (record_at (get_or rs i []) 0) ∷ []) ++ write_records (map (noted_transition sink) (records_of (drop (i + 1) rs)))
    unfolding write_records
    notes_here h = ap (λ es. write_records (map (noted_transition sink) es)) (records_next rs i h)

    pub notes_room : i < length rs → at + length notes ≤ length l → end + 5 ≤ length m
    notes_room h r =
        let few : length (write_records (map (noted_transition sink) (read_records notes))) ≤ length notes =
        omega (arith, length_write (map (noted_transition sink) (read_records notes)), length-map (read_records notes) (noted_transition sink), count_read notes) in
        let one : length (write_records (noted_transition sink (record_at (get_or rs i []) 0) ∷ [])) ≡ 5 = length_write (noted_transition sink (record_at (get_or rs i []) 0) ∷ []) in
        let room : end + length (write_records (noted_transition sink (record_at (get_or rs i []) 0) ∷ [])) ≤ length m =
        left_room _ _ _ _ _ _ p.left _ _ (notes_here h) (omega (arith, few)) in
        omega (arith, one, room)

    pub notes_next : i < length rs → (n : List ℕ) (k : ℕ) → Written m end (write_records (noted_transition sink (record_at (get_or rs i []) 0) ∷ [])) n k → NotesLeft n k (i + 1)
    notes_next h n k w = record { left = left_next _ _ _ _ _ _ p.left _ _ (notes_here h) n k w }

    pub notes_ended : length rs ≤ i → Written l at (write_records (map (noted_transition sink) (read_records notes))) m end
    unfolding write_records
    notes_ended h = left_done _ _ _ _ _ _ p.left (ap (λ es. write_records (map (noted_transition sink) es)) (records_done rs i h))

pub ruleset notes_laws = (notes_begin, notes_room, notes_next, notes_ended, rules)

-- the accept words of the sets, one after the other
module _ (A : Automaton) (t : List ℕ) where
  pub accept_row : (set : List ℕ) (j k : ℕ) → set ≡ put_at (replicate 4 0) 0 t (4 * j) → k ≡ kind_of A (set_at set 0) → k ≡ kind_of A (set_at t (4 * j))
  accept_row set j k e h = h ∙ ap (kind_of A) (row_at set t j e)

  module _ (l : List ℕ) (at : ℕ) where
    pub accepts_none : Written l at (map (kind_of A) (entries t 0)) l at
    unfolding entries tabulate
    accepts_none = written_none l at

    map_end : {X Y : Type 0} (f : X → Y) (xs : List X) (x : X) → map f (xs ++ x ∷ []) ≡ map f xs ++ f x ∷ []
    map_end f [] x = refl
    map_end f (y ∷ xs) x = ap (λ ys. f y ∷ ys) (map_end f xs x)

    module _ (m : List ℕ) (end j : ℕ) (w : Written l at (map (kind_of A) (entries t j)) m end) where
      pub accepts_next : (k : ℕ) → k ≡ kind_of A (set_at t (4 * j)) → (n : List ℕ) (r : ℕ) → Written m end (k ∷ []) n r → Written l at (map (kind_of A) (entries t (j + 1))) n r
      unfolding entries
      accepts_next k e n r v =
          let f = kind_of A in
          let g : ℕ → Set = λ i. set_at t (4 * i) in
          subst (λ ws. Written l at ws n r) (sym (ap (map f) (ap (λ i. tabulate i g) (add-one j) ∙ tabulate_end j g) ∙ map_end f (tabulate j g) (g j)))
          (written_append l m n (map f (entries t j)) (f (g j) ∷ []) at end r w (rw (← e) v))

      pub accepts_done : (n : ℕ) → j ≤ n → n ≤ j → (o : List ℕ) (r : ℕ) → Written m end (0 ∷ []) o r → Written l at (map (kind_of A) (entries t n) ++ 0 ∷ []) o r
      accepts_done n h g o r v =
          subst (λ i. Written l at (map (kind_of A) (entries t i) ++ 0 ∷ []) o r) (le_antisymm h g) (written_append l m o _ (0 ∷ []) at end r w v)

pub ruleset accept_laws = (accept_row, row_canon, accepts_none, accepts_next, accepts_done, rules)

-- the sheet, section by section
module _ (A : Automaton) (t o₀ o₁ o₂ : List ℕ) (n x start behind : ℕ) (u : Written o₀ 0 (1 ∷ 0 ∷ x ∷ []) o₁ start)
    (v : Written o₁ start (map (kind_of A) (entries t n) ++ 0 ∷ []) o₂ behind) where
  accepts_behind : behind ≡ 3 + n + 1
  accepts_behind =
      omega (
        arith,
        u.behind,
        v.behind,
        length-append (map (kind_of A) (entries t n)) (0 ∷ []),
        length-map (entries t n) (kind_of A),
        length_entries t n,
      )

  accepts_length : length o₂ ≡ length o₀
  accepts_length = written_length o₁ o₂ _ start behind v ∙ written_length o₀ o₁ _ 0 start u

  pub sheet_count_room : n < 256 → 10500 ≤ length o₀ → behind + 1 ≤ length o₂
  sheet_count_room h r = omega (arith, accepts_behind, accepts_length)

  module _ (notes o₃ : List ℕ) (records : ℕ) (w : Written o₂ behind (length notes / 5 ∷ []) o₃ records) where
    pub sheet_records_room : n < 256 → 10500 ≤ length o₀ → length notes ≤ 10240 → records + length notes ≤ length o₃
    sheet_records_room h r l = omega (arith, accepts_behind, accepts_length, w.behind, written_length o₂ o₃ _ behind records w)

    pub sheet_written : (o₄ : List ℕ) (end : ℕ) → x ≡ n + 1 → Written o₃ records (write_records (map (noted_transition n) (read_records notes))) o₄ end
        → Written o₀ 0 (write (noted_automaton A (entries t n) (read_records notes))) o₄ end
    unfolding noted_automaton
    sheet_written o₄ end e y =
        let es = read_records notes in
        let p : x ≡ suc (length (entries t n)) = e ∙ add-one n ∙ ap suc (sym (length_entries t n)) in
        let q : length notes / 5 ≡ length (map (noted_transition n) es) = count_read notes ∙ sym (length-map es (noted_transition n)) in
        let words : ℕ → ℕ → ℕ → List ℕ = λ z m i. 1 ∷ 0 ∷ z ∷ ((map (kind_of A) (entries t n) ++ 0 ∷ []) ++ (m ∷ write_records (map (noted_transition i) es))) in
        let g : words x (length notes / 5) n ≡ words (suc (length (entries t n))) (length (map (noted_transition (length (entries t n))) es)) (length (entries t n)) =
        ap (λ z. words z (length notes / 5) n) p
        ∙ ap (λ m. words (suc (length (entries t n))) m n) q
        ∙ ap (λ i. words (suc (length (entries t n))) (length (map (noted_transition i) es)) i) (sym (length_entries t n)) in
        subst (λ ws. Written o₀ 0 ws o₄ end) g
        (written_append o₀ o₁ o₄ _ _ 0 start end u (written_append o₁ o₂ o₄ _ _ start behind end v (written_append o₂ o₃ o₄ _ _ behind records end w y)))

pub ruleset sheet_laws = (sheet_count_room, sheet_records_room, sheet_written, rules)
