-- Laws of lines of numbers, as the functions that read them ask them.
use Rattle.std.proofs.Common.{IfSome, Result, Ok, Err, ℕ, suc, ◌+◌, ◌-◌, ◌≤◌, ◌<◌, Bool, true, false, not, cond, ◌&&◌, List, [], ◌≡◌, refl, sym, ◌∙◌, ap, subst, arith, rules, le-leb, eq-eqb, ne_eqb, ltb-false, leb, ltb, length, get_or, take, drop, set, drop_of_length-le, take_at, length-take-le}
use Rattle.std.specs.Result.{result_ok}
use borrow.Author.Tests.{not-true, not-false, lt-leb}
use lib.Seq.{sets, set_out, sets-eq}
use Rattle.lists.proofs.Parts.{drop_at}
use Rattle.io.specs.Counts.{IsPrefixLen}
use Rattle.decimal.specs.Decimal.{is_digit, with_digit}
use Rattle.replay.specs.declared.Numbers.{Numbers}
use Rattle.replay.specs.declared.LineFault.{LineFault}
use Rattle.replay.specs.declared.LineFault.TheVariants.{TooMany, Malformed}
use Rattle.replay.specs.Lines.{NumberLine, ended, behind, line_from, line_at, told, answer}

-- a number that no digits say, one for which there is no room, and one that is stored
module _ (l : List ℕ) (n v : ℕ) (b : Bool) where
  pub put_no : b ≡ false → (n ≡ n + length (ended b v [])) × (l ≡ sets l n (ended b v []))
  put_no e = rw e (omega arith, refl)

  pub put_out : b ≡ true → length l ≤ n → (n + 1 ≡ n + length (ended b v [])) × (l ≡ sets l n (ended b v []))
  put_out e h = rw e (omega arith, sym (set_out l n v h))

  pub put_in : b ≡ true → (n + 1 ≡ n + length (ended b v [])) × (set l n v ≡ sets l n (ended b v []))
  put_in e = rw e (omega arith, refl)

-- the memory, how many numbers there are, the place behind them, and whether they could be read, once the line l is read and stored
pub record Outcome : Type 0 where
  pub memory : List ℕ
  pub count : ℕ
  pub place : ℕ
  pub whole : Bool

unfoldable pub outcome : List ℕ → ℕ → ℕ → NumberLine → Outcome
outcome out n i l = record { memory = sets out n l.numbers; count = n + length l.numbers; place = i + l.size; whole = l.whole }

-- a byte that is passed
outcome_passed : (out : List ℕ) (n i : ℕ) (l : NumberLine) → outcome out n (i + 1) l ≡ outcome out n i (behind false 0 l)
unfolding outcome
outcome_passed out n i l = let d : i + 1 + l.size ≡ i + suc l.size = omega arith in cc

-- and the number that it ends
outcome_behind : (out : List ℕ) (n i v : ℕ) (b : Bool) (l : NumberLine)
    → outcome (sets out n (ended b v [])) (n + length (ended b v [])) (i + 1) l ≡ outcome out n i (behind b v l)
unfolding outcome
outcome_behind out n i v true l =
    let a : n + 1 ≡ suc n = omega arith in
    let c : n + 1 + length l.numbers ≡ n + suc (length l.numbers) = omega arith in
    let d : i + 1 + l.size ≡ i + suc l.size = omega arith in
    cc
outcome_behind out n i v false l = let a : n + 0 ≡ n = omega arith in ap (λ (k : ℕ). outcome out k (i + 1) l) a ∙ outcome_passed out n i l

-- the line from i on, behind digits that say v, by the byte at i
module _ (s : List ℕ) (i v : ℕ) (b : Bool) where
  from_end : length s ≤ i → line_from b v (drop i s) ≡ record { numbers = ended b v []; size = 0; whole = true }
  unfolding line_from
  from_end h = ap (line_from b v) (drop_of_length-le s h)

  module _ (h : i < length s) where
    from_feed : get_or s i 0 ≡ 10 → line_from b v (drop i s) ≡ record { numbers = ended b v []; size = 1; whole = true }
    unfolding line_from
    from_feed p = ap (line_from b v) (drop_at s i h) ∙ rw (eq-eqb (get_or s i 0) 10 p)

    module _ (other : get_or s i 0 ≡ 10 → ⊥) where
      from_blank : get_or s i 0 ≡ 32 → line_from b v (drop i s) ≡ behind b v (line_from false 0 (drop (i + 1) s))
      unfolding line_from
      from_blank p = ap (line_from b v) (drop_at s i h) ∙ rw (ne_eqb (get_or s i 0) 10 other, eq-eqb (get_or s i 0) 32 p)

      from_digit : (get_or s i 0 ≡ 32 → ⊥) → is_digit (get_or s i 0) ≡ true → with_digit v (get_or s i 0) ≤ 4294967295
          → line_from b v (drop i s) ≡ behind false 0 (line_from true (with_digit v (get_or s i 0)) (drop (i + 1) s))
      unfolding line_from
      from_digit p q m = ap (line_from b v) (drop_at s i h) ∙ rw (ne_eqb (get_or s i 0) 10 other, ne_eqb (get_or s i 0) 32 p, q, le-leb _ 4294967295 m)

      from_other : (get_or s i 0 ≡ 32 → ⊥) → (is_digit (get_or s i 0) && leb (with_digit v (get_or s i 0)) 4294967295) ≡ false → line_from b v (drop i s) ≡ record { numbers = []; size = 0; whole = false }
      unfolding line_from
      from_other p q = ap (line_from b v) (drop_at s i h) ∙ rw (ne_eqb (get_or s i 0) 10 other, ne_eqb (get_or s i 0) 32 p, q)

-- the answer for an outcome
reply : ℕ → Outcome → Result Numbers LineFault
reply room o = cond o.whole (told room o.count o.place) (Err Malformed)

answer_reply : (room at : ℕ) (out : List ℕ) (l : NumberLine) → reply room (outcome out 0 at l) ≡ answer room at l
unfolding reply answer outcome
answer_reply room at out l = let a : 0 + length l.numbers ≡ length l.numbers = omega arith in cc

-- nothing is read yet
pub line_begun : (out s : List ℕ) (at : ℕ) → outcome out 0 at (line_from false 0 (drop at s)) ≡ outcome out 0 at (line_at s at)
unfolding line_at
line_begun out s at = refl

-- what is left to be read and stored, with n numbers in the memory out, gives what was to be read and stored
module _ (out₀ s out : List ℕ) (at n v i : ℕ) (b : Bool) (e : outcome out n i (line_from b v (drop i s)) ≡ outcome out₀ 0 at (line_at s at)) where
  -- the line ends with size z from here, and its last number is stored
  module _ (m : List ℕ) (k : ℕ) (q : k ≡ n + length (ended b v [])) (r : m ≡ sets out n (ended b v [])) (z : ℕ)
      (l : line_from b v (drop i s) ≡ record { numbers = ended b v []; size = z; whole = true }) where
    last_stored : m ≡ sets out₀ 0 (line_at s at).numbers
    unfolding outcome
    last_stored = r ∙ ap (λ (x : NumberLine). sets out n x.numbers) (sym l) ∙ ap (λ (o : Outcome). o.memory) e

    last_answer : (t : Result Numbers LineFault) (room to : ℕ) → t ≡ told room k to → to ≡ i + z → t ≡ answer room at (line_at s at)
    unfolding reply outcome
    last_answer t room to f g =
        f ∙ ap (told room k) g ∙ ap (λ (j : ℕ). told room j (i + z)) q ∙ ap (λ (x : NumberLine). reply room (outcome out n i x)) (sym l) ∙ ap (reply room) e
        ∙ answer_reply room at out₀ (line_at s at)

  -- the end of the text
  module _ (h : length s ≤ i) (m : List ℕ) (k : ℕ) (q : k ≡ n + length (ended b v [])) (r : m ≡ sets out n (ended b v [])) (p : length m ≡ length out) (p₀ : length out ≡ length out₀) where
    pub end_stored : m ≡ sets out₀ 0 (line_at s at).numbers
    end_stored = last_stored m k q r 0 (from_end s i v b h)

    pub end_answer : (t : Result Numbers LineFault) (to : ℕ) → t ≡ told (length m) k to → to ≡ i → t ≡ answer (length out₀) at (line_at s at)
    end_answer t to f g = rw (p ∙ p₀) at (last_answer m k q r 0 (from_end s i v b h) t (length m) to f (omega arith))

  module _ (h : i < length s) where
    -- a line feed
    module _ (w : get_or s i 0 ≡ 10) (m : List ℕ) (k : ℕ) (q : k ≡ n + length (ended b v [])) (r : m ≡ sets out n (ended b v [])) (p : length m ≡ length out) (p₀ : length out ≡ length out₀) where
      pub feed_stored : m ≡ sets out₀ 0 (line_at s at).numbers
      feed_stored = last_stored m k q r 1 (from_feed s i v b h w)

      pub feed_answer : (t : Result Numbers LineFault) → t ≡ told (length m) k (i + 1) → t ≡ answer (length out₀) at (line_at s at)
      feed_answer t f = rw (p ∙ p₀) at (last_answer m k q r 1 (from_feed s i v b h w) t (length m) (i + 1) f refl)

    module _ (other : get_or s i 0 ≡ 10 → ⊥) where
      pub line_blank : (m : List ℕ) (k : ℕ) → get_or s i 0 ≡ 32 → k ≡ n + length (ended b v []) → m ≡ sets out n (ended b v [])
          → outcome m k (i + 1) (line_from false 0 (drop (i + 1) s)) ≡ outcome out₀ 0 at (line_at s at)
      line_blank m k p q r =
          let l : NumberLine = line_from false 0 (drop (i + 1) s) in
          rw (q, r) (outcome_behind out n i v b l) ∙ ap (outcome out n i) (sym (from_blank s i v b h other p)) ∙ e

      module _ (p : get_or s i 0 ≡ 32 → ⊥) where
        -- another byte, or a number that is no word
        stopped_stored : (is_digit (get_or s i 0) && leb (with_digit v (get_or s i 0)) 4294967295) ≡ false → out ≡ sets out₀ 0 (line_at s at).numbers
        unfolding outcome
        stopped_stored r = ap (λ (l : NumberLine). sets out n l.numbers) (sym (from_other s i v b h other p r)) ∙ ap (λ (o : Outcome). o.memory) e

        stopped_answer : (is_digit (get_or s i 0) && leb (with_digit v (get_or s i 0)) 4294967295) ≡ false → (room : ℕ) → Err Malformed ≡ answer room at (line_at s at)
        unfolding reply outcome
        stopped_answer r room =
            ap (λ (l : NumberLine). reply room (outcome out n i l)) (sym (from_other s i v b h other p r)) ∙ ap (reply room) e ∙ answer_reply room at out₀ (line_at s at)

        module _ (x : Bool) (q : x ≡ is_digit (get_or s i 0)) where
          no_digit : not x ≡ true → (is_digit (get_or s i 0) && leb (with_digit v (get_or s i 0)) 4294967295) ≡ false
          no_digit r = rw (sym q ∙ not-true x r)

          pub other_stored : not x ≡ true → out ≡ sets out₀ 0 (line_at s at).numbers
          other_stored r = stopped_stored (no_digit r)

          pub other_answer : not x ≡ true → (room : ℕ) → Err Malformed ≡ answer room at (line_at s at)
          other_answer r = stopped_answer (no_digit r)

          module _ (r : not x ≡ false) where
            pub byte_digit : is_digit (get_or s i 0) ≡ true
            byte_digit = sym q ∙ not-false x r

            module _ (w : ℕ) (k : w ≡ with_digit v (get_or s i 0)) where
              over : 4294967295 < w → (is_digit (get_or s i 0) && leb (with_digit v (get_or s i 0)) 4294967295) ≡ false
              over m = rw (byte_digit, lt-leb _ 4294967295 (subst (λ (y : ℕ). 4294967295 < y) k m))

              pub over_stored : 4294967295 < w → out ≡ sets out₀ 0 (line_at s at).numbers
              over_stored m = stopped_stored (over m)

              pub over_answer : 4294967295 < w → (room : ℕ) → Err Malformed ≡ answer room at (line_at s at)
              over_answer m = stopped_answer (over m)

              pub line_digit : w ≤ 4294967295 → outcome out n (i + 1) (line_from true w (drop (i + 1) s)) ≡ outcome out₀ 0 at (line_at s at)
              line_digit m =
                  ap (λ (y : ℕ). outcome out n (i + 1) (line_from true y (drop (i + 1) s))) k ∙ outcome_passed out n i (line_from true (with_digit v (get_or s i 0)) (drop (i + 1) s))
                  ∙ ap (outcome out n i) (sym (from_digit s i v b h other p byte_digit (subst (λ (y : ℕ). y ≤ 4294967295) k m))) ∙ e

-- at most one number ends at a byte, so that there are no more numbers than bytes
pub few_more : (n k v i z : ℕ) (b : Bool) → n + (z - i) ≤ z → i < z → k ≡ n + length (ended b v []) → k + (z - (i + 1)) ≤ z
few_more n k v i z true f h e = omega arith
few_more n k v i z false f h e = omega arith

pub ruleset feed_laws = (feed_answer, feed_stored, rules)

pub ruleset end_laws = (end_answer, end_stored, rules)

pub ruleset other_laws = (other_answer, other_stored, rules)

pub ruleset over_laws = (over_answer, over_stored, rules)

pub ruleset line_laws = (line_begun, line_blank, byte_digit, line_digit, few_more, rules)

-- what the answer says of a line that was stored
pub record LineStored (room at : ℕ) (l : NumberLine) (n to : ℕ) : Type 0 where
  pub whole : l.whole ≡ true
  pub count : n ≡ length l.numbers
  pub place : to ≡ at + l.size
  pub fits : n ≤ room

pub line_told : (room at n to : ℕ) (l : NumberLine) → Ok (record { count = n; to = to }) ≡ answer room at l → LineStored room at l n to
unfolding answer
line_told room at n to l e = go l.whole (ltb room (length l.numbers)) refl refl (sym e)
  where
    go : (w t : Bool) → l.whole ≡ w → ltb room (length l.numbers) ≡ t → cond {A = Result Numbers LineFault} w (cond t (Err TooMany) (Ok (record { count = length l.numbers; to = at + l.size }))) (Err Malformed) ≡ Ok (record { count = n; to = to })
        → LineStored room at l n to
    go true false p q g =
        let s : ◌≡◌ {A = Numbers} (record { count = length l.numbers; to = at + l.size }) (record { count = n; to = to }) = cc in
        let c : n ≡ length l.numbers = sym (ap (λ (x : Numbers). x.count) s) in
        record { whole = p; count = c; place = sym (ap (λ (x : Numbers). x.to) s); fits = omega (arith, ltb-false room (length l.numbers) q) }
    go true true p q g = absurd (cc)
    go false t p q g = absurd (cc)

-- the numbers of such a line are the first part of the memory
pub line_part : (room at n to : ℕ) (out : List ℕ) (l : NumberLine) → LineStored room at l n to → length out ≡ room → take n (sets out 0 l.numbers) ≡ l.numbers
line_part room at n to out l t e =
    ap (take n) (sets-eq l.numbers out 0 (omega (arith, t.count, t.fits))) ∙ take_at l.numbers (drop (0 + length l.numbers) out) n (sym t.count)

-- so many of them stand at the front of memory of that length
module _ (at n to : ℕ) (out m : List ℕ) (l : NumberLine) (e : Ok (record { count = n; to = to }) ≡ answer (length out) at l) (k : length m ≡ length out) where
  pub case_within : n ≤ length m
  case_within = omega (arith, (line_told (length out) at n to l e).fits)

  pub case_counted : n ≡ length (take n m)
  case_counted = sym (length-take-le n m case_within)

-- so many stand there whenever the line could be read
pub answer_within : (r : Result Numbers LineFault) (at : ℕ) (out m : List ℕ) (l : NumberLine) → r ≡ answer (length out) at l → length m ≡ length out
    → IfSome (result_ok r) (λ n. IsPrefixLen n.count m)
answer_within (Ok n) at out m l e k = (case_within at n.count n.to out m l e k, case_counted at n.count n.to out m l e k)
answer_within (Err f) at out m l e k = tt
