-- What the refusal of a verdict says: the number is that of the answer `equality_answer`, and each of its numbers has one condition. Assumes nothing.
use Rattle.std.proofs.Common.{ℕ, ◌≤◌, ◌<◌, Bool, true, false, List, ◌⊎◌, inl, inr, ◌↔◌, ◌≡◌, refl, sym, ap, ◌∙◌, arith, lt-ltb, le-ltb, ltb-true, ltb-false, ne_eqb, ltb, length}
use native.Mathlib.Decide.{ℕ_discrete}
use Rattle.automata.specs.Automaton.{InBounds}
use Rattle.refusal.specs.Answer.{Answer, refused, given}
use Rattle.sheets.specs.Checked.{sheet_first}
use Rattle.sheets.specs.Fault.{fault}
use Rattle.sheets.specs.Sheet.{read}
use Rattle.sheets.proofs.Accepted.{accepted}
use Rattle.sheets.proofs.Meaning.{read_well}
use Rattle.sheets.proofs.Numbers.{sheet_first_lem, sheet_given, sheet_number}
use Rattle.output.proofs.Left.{number_some}
use Rattle.determinizations.specs.Two.{Two}
use Rattle.determinizations.specs.Determinizations.{determinized, Limits}
use Rattle.determinizations.proofs.Answers.{not_given, one_number}
use Rattle.determinizations.proofs.Theorems.{determinized_number, determinized_given}
use Rattle.equality.specs.declared.Verdict.{Verdict}
use Rattle.equality.specs.declared.Verdict.TheVariants.{Same, Different, Refused}
use Rattle.equality.specs.Verdict.{Decided}
use Rattle.equality.specs.Equality.{word_size, equality_answer, Judged, verdict_number, Clear}

-- the number of a verdict is that of the answer x which it is judged by
module _ (o o' : List ℕ) where
  pub judged_number : (x : Answer Two) (r : Verdict) → Judged x o o' r → (n : ℕ) → (n ≡ 0 → ⊥) → (verdict_number r ≡ n) ↔ (x ≡ refused n)
  unfolding Judged Decided
  judged_number (refused k) (Same j) h n s = absurd h
  judged_number (refused k) (Different m) h n s = absurd h
  judged_number (refused k) (Refused q) h n s = (λ e. ap refused (sym h.0 ∙ e), λ e. h.0 ∙ one_number refl e)
  judged_number (given t) (Same j) h n s = (λ e. absurd (s (sym e)), λ e. absurd (not_given e refl))
  judged_number (given t) (Different m) h n s = (λ e. absurd (s (sym e)), λ e. absurd (not_given e refl))
  judged_number (given t) (Refused q) h n s = absurd h

  pub judged_given : (x : Answer Two) (r : Verdict) → Judged x o o' r → (verdict_number r ≡ 0) ↔ ((t : Two) × (x ≡ given t))
  unfolding Judged Decided
  judged_given (refused k) (Same j) h = absurd h
  judged_given (refused k) (Different m) h = absurd h
  judged_given (refused k) (Refused q) h = (λ e. absurd (number_some q e), λ g. absurd (not_given refl g.1))
  judged_given (given t) (Same j) h = (λ e. (t, refl), λ g. refl)
  judged_given (given t) (Different m) h = (λ e. (t, refl), λ g. refl)
  judged_given (given t) (Refused q) h = absurd h

  -- a refusal leaves the buffer as it was
  pub judged_kept : (x : Answer Two) (r : Verdict) → Judged x o o' r → (verdict_number r ≡ 0 → ⊥) → o' ≡ o
  unfolding Judged Decided
  judged_kept (refused k) (Same j) h s = absurd h
  judged_kept (refused k) (Different m) h s = absurd h
  judged_kept (refused k) (Refused q) h s = h.1
  judged_kept (given t) (Same j) h s = absurd (s refl)
  judged_kept (given t) (Different m) h s = absurd (s refl)
  judged_kept (given t) (Refused q) h s = absurd h

-- a faulty sheet's number comes first
faulty : {X : Type 0} (s : List ℕ) (x : Answer X) → (fault s ≡ 0 → ⊥) → sheet_first s x ≡ refused (fault s)
unfolding sheet_first
faulty s x h = rw (ne_eqb (fault s) 0 h)

-- an accepted sheet's states are in bounds
pub sheet_bounds : (s : List ℕ) → fault s ≡ 0 → InBounds (read s)
sheet_bounds s f = (read_well s (accepted s f)).states

-- two sheets and a buffer o
module _ (lower upper : ℕ) (a b o : List ℕ) where
  abbrev both : Answer Two
  both = determinized lower upper (read a) (read b)

  -- with room the answer is that of the sheets
  with_room : word_size ≤ length o → equality_answer lower upper a b o ≡ sheet_first a (sheet_first b both)
  unfolding equality_answer
  with_room h = rw (le-ltb (length o) 510 h)

  without_room : length o < word_size → equality_answer lower upper a b o ≡ refused 20
  unfolding equality_answer
  without_room h = rw (lt-ltb (length o) 510 h)

  has_room : (length o < word_size) ⊎ (word_size ≤ length o)
  has_room = go (ltb (length o) 510) refl
    where
      go : (t : Bool) → ltb (length o) 510 ≡ t → (length o < word_size) ⊎ (word_size ≤ length o)
      go true h = inl (ltb-true _ _ h)
      go false h = inr (ltb-false _ _ h)

  -- a number over 6 other than 20 is that of the determinizations
  pub compared_number : (n : ℕ) → 6 < n → (n ≡ 20 → ⊥) → (equality_answer lower upper a b o ≡ refused n) ↔ (Clear a b o × (both ≡ refused n))
  compared_number n l other = (λ e. out has_room e, λ (c, e). with_room c.room ∙ (sheet_number a _ n l).1 (c.first, (sheet_number b _ n l).1 (c.second, e)))
    where
      out : (length o < word_size) ⊎ (word_size ≤ length o) → equality_answer lower upper a b o ≡ refused n → Clear a b o × (both ≡ refused n)
      out (inl h) e = absurd (other (one_number e (without_room h)))
      out (inr h) e =
          let p = (sheet_number a _ n l).0 (sym (with_room h) ∙ e) in
          let q = (sheet_number b _ n l).0 p.1 in
          (record { room = h; first = p.0; second = q.0 }, q.1)

  -- 20 is that of the buffer
  pub compared_20 : (equality_answer lower upper a b o ≡ refused 20) ↔ (length o < word_size)
  compared_20 = (λ e. out has_room e, without_room)
    where
      out : (length o < word_size) ⊎ (word_size ≤ length o) → equality_answer lower upper a b o ≡ refused 20 → length o < word_size
      out (inl h) e = h
      out (inr h) e =
          let p = (sheet_number a _ 20 (omega arith)).0 (sym (with_room h) ∙ e) in
          let q = (sheet_number b _ 20 (omega arith)).0 p.1 in
          absurd (determinized_number lower upper (read a) (read b) (sheet_bounds a p.0) (sheet_bounds b q.0) 20 q.1 (λ z. omega arith) (λ z. omega arith))

  -- 1 to 6 are those of the sheets, the first's before the second's
  pub compared_fault : (n : ℕ) → 0 < n → n ≤ 6 → (equality_answer lower upper a b o ≡ refused n) ↔ ((word_size ≤ length o) × ((fault a ≡ n) ⊎ ((fault a ≡ 0) × (fault b ≡ n))))
  compared_fault n l m = (λ e. out has_room e, λ (h, e). with_room h ∙ into e)
    where
      of_second : fault a ≡ 0 → Dec (fault b ≡ 0) → sheet_first b both ≡ refused n → fault b ≡ n
      of_second f (yes g) e = absurd (determinized_number lower upper (read a) (read b) (sheet_bounds a f) (sheet_bounds b g) n (sym (sheet_first_lem b _ g) ∙ e) (λ z. omega arith) (λ z. omega arith))
      of_second f (no g) e = one_number (faulty b _ g) e

      of_first : Dec (fault a ≡ 0) → sheet_first a (sheet_first b both) ≡ refused n → (fault a ≡ n) ⊎ ((fault a ≡ 0) × (fault b ≡ n))
      of_first (yes f) e = inr (f, of_second f (ℕ_discrete (fault b) 0) (sym (sheet_first_lem a _ f) ∙ e))
      of_first (no f) e = inl (one_number (faulty a _ f) e)

      out : (length o < word_size) ⊎ (word_size ≤ length o) → equality_answer lower upper a b o ≡ refused n → (word_size ≤ length o) × ((fault a ≡ n) ⊎ ((fault a ≡ 0) × (fault b ≡ n)))
      out (inl h) e = let z : n ≡ 20 = one_number e (without_room h) in absurd (omega arith)
      out (inr h) e = (h, of_first (ℕ_discrete (fault a) 0) (sym (with_room h) ∙ e))

      into : (fault a ≡ n) ⊎ ((fault a ≡ 0) × (fault b ≡ n)) → sheet_first a (sheet_first b both) ≡ refused n
      into (inl e) = faulty a _ (λ z. omega arith) ∙ ap refused e
      into (inr (f, e)) = sheet_first_lem a _ f ∙ faulty b _ (λ z. omega arith) ∙ ap refused e

  -- nothing is refused exactly where there is room, both sheets are accepted and both determinizations are within the limits
  pub compared_given : ((t : Two) × (equality_answer lower upper a b o ≡ given t)) ↔ (Clear a b o × Limits lower upper (read a) × Limits lower upper (read b))
  compared_given = (
    λ (t, e). out has_room t e,
    λ (c, l, m).
        let d = (determinized_given lower upper (read a) (read b) (sheet_bounds a c.first) (sheet_bounds b c.second)).1 (l, m) in
        (d.0, with_room c.room ∙ (sheet_given a _ d.0).1 (c.first, (sheet_given b _ d.0).1 (c.second, d.1))),
  )
    where
      out : (length o < word_size) ⊎ (word_size ≤ length o) → (t : Two) → equality_answer lower upper a b o ≡ given t → Clear a b o × Limits lower upper (read a) × Limits lower upper (read b)
      out (inl h) t e = absurd (not_given (without_room h) e)
      out (inr h) t e =
          let p = (sheet_given a _ t).0 (sym (with_room h) ∙ e) in
          let q = (sheet_given b _ t).0 p.1 in
          let k = (determinized_given lower upper (read a) (read b) (sheet_bounds a p.0) (sheet_bounds b q.0)).0 (t, q.1) in
          (record { room = h; first = p.0; second = q.0 }, k.0, k.1)
