-- Laws of the lines and of the run, as the functions that read and count ask them. Assumes nothing.
use Rattle.std.proofs.Common.{◌≡◌, ℕ, ◌+◌, ◌*◌, ◌%◌, ◌^◌, ◌<◌, ◌≤◌, Bool, true, false, not, eqb, Some, List, length, get_or, sym, ap, ◌∙◌, arith, rules, le-ltb, lt-ltb, eq-eqb, ne_eqb}
use borrow.Author.Tests.{not-true, not-false}
use Rattle.decimal.specs.Decimal.{is_digit, with_digit}
use Rattle.decimal.proofs.Decimal.{digit_most}
use Rattle.dsu.specs.declared.FindAnswer.{FindAnswer}
use Rattle.dsu.specs.declared.SetsAnswer.{SetsAnswer}
use Rattle.dsu.specs.Sets.{new_of, find_of, union_of}
use Rattle.dsu_replay.specs.declared.ReplayRun.{ReplayRun}
use Rattle.dsu_replay.specs.declared.Line.{Line}
use Rattle.dsu_replay.specs.Replay.{digit_of, three_digits, line_read, Readable, ten, tallied_run, after_find, after_change, has_at, after_line}

module _ (b : ℕ) (x : Bool) (e : x ≡ is_digit b) where
  pub digit_none : not x ≡ true → ◌≡◌ {A = ℕ} 0 (digit_of b)
  unfolding digit_of
  digit_none h = rw (sym e ∙ not-true x h)

  pub digit_some : not x ≡ false → is_digit b ≡ true
  digit_some h = sym e ∙ not-false x h

  module _ (h : not x ≡ false) (v : ℕ) (f : v ≡ with_digit 0 b) where
    pub digit_small : v ≤ 9
    digit_small = omega (arith, digit_most b (digit_some h))

    pub digit_read : v ≡ digit_of b
    unfolding digit_of
    digit_read = f ∙ sym (rw (digit_some h))

pub number_read : (s : List ℕ) (at x y z : ℕ) → x ≡ digit_of (get_or s at 0) → y ≡ digit_of (get_or s (at + 1) 0) → z ≡ digit_of (get_or s (at + 2) 0) → 100 * x + 10 * y + z ≡ three_digits s at
unfolding three_digits
number_read s at x y z e f g = rw (e, f, g)

pub line_read_lem : (s : List ℕ) (a b : ℕ) → a ≡ three_digits s 2 → b ≡ three_digits s 6 → ◌≡◌ {A = Line} (record { kind = get_or s 0 0; a = a; b = b }) (line_read s)
unfolding line_read
line_read_lem s a b e f = rw (e, f)

pub line_ten : (s : List ℕ) (x : Line) → length s ≡ 10 → x ≡ line_read s → Readable (Some x)
line_ten s x long e = ten s long (ap (λ (l : Line). Some l) e)

pub ruleset line_laws = (digit_none, digit_some, digit_small, digit_read, number_read, line_read_lem, rules)

-- one count grows
module _ (s : ReplayRun) (same : Bool) (v : ℕ) where
  pub one_agreed : v ≡ (s.agreed + 1) % 2 ^ 64 → same ≡ true → ◌≡◌ {A = ReplayRun} (record { sets = s.sets; agreed = v; differed = s.differed }) (tallied_run s same)
  unfolding tallied_run
  one_agreed e t = rw (t, e)

  pub one_differed : v ≡ (s.differed + 1) % 2 ^ 64 → same ≡ false → ◌≡◌ {A = ReplayRun} (record { sets = s.sets; agreed = s.agreed; differed = v }) (tallied_run s same)
  unfolding tallied_run
  one_differed e t = rw (t, e)

pub ruleset count_laws = (one_agreed, one_differed, rules)

-- a word compared
module _ (s : ReplayRun) (x : List ℕ) (a b : ℕ) (v : ReplayRun) where
  pub word_in : (w : ℕ) → a < 512 → w ≡ get_or x a 0 → v ≡ tallied_run s (eqb w b) → v ≡ tallied_run s (has_at x a b)
  unfolding has_at
  word_in w h e g = g ∙ rw (lt-ltb a 512 h, e)

  pub word_out : 512 ≤ a → v ≡ tallied_run s false → v ≡ tallied_run s (has_at x a b)
  unfolding has_at
  word_out h g = g ∙ rw (le-ltb a 512 h)

pub ruleset word_laws = (word_in, word_out, rules)

-- the run after a line, by its letter
module _ (s : ReplayRun) (kind a b : ℕ) (v : ReplayRun) where
  pub line_new : (w : SetsAnswer) → kind ≡ 110 → w ≡ new_of a → v ≡ after_change s w → v ≡ after_line s kind a b
  unfolding after_line
  line_new w k e h = h ∙ rw (eq-eqb kind 110 k, e)

  module _ (not-n : kind ≡ 110 → ⊥) where
    pub line_union : (w : SetsAnswer) → kind ≡ 117 → w ≡ union_of s.sets a b → v ≡ after_change s w → v ≡ after_line s kind a b
    unfolding after_line
    line_union w k e h = h ∙ rw (ne_eqb kind 110 not-n, eq-eqb kind 117 k, e)

    module _ (not-u : kind ≡ 117 → ⊥) where
      pub line_find : (w : FindAnswer) → kind ≡ 102 → w ≡ find_of s.sets a → v ≡ after_find s w b → v ≡ after_line s kind a b
      unfolding after_line
      line_find w k e h = h ∙ rw (ne_eqb kind 110 not-n, ne_eqb kind 117 not-u, eq-eqb kind 102 k, e)

      module _ (not_f : kind ≡ 102 → ⊥) where
        pub line_parent : kind ≡ 114 → v ≡ tallied_run s (has_at s.sets.repr a b) → v ≡ after_line s kind a b
        unfolding after_line
        line_parent k h = h ∙ rw (ne_eqb kind 110 not-n, ne_eqb kind 117 not-u, ne_eqb kind 102 not_f, eq-eqb kind 114 k)

        module _ (not-r : kind ≡ 114 → ⊥) where
          pub line_size_lem : kind ≡ 115 → v ≡ tallied_run s (has_at s.sets.size a b) → v ≡ after_line s kind a b
          unfolding after_line
          line_size_lem k h = h ∙ rw (ne_eqb kind 110 not-n, ne_eqb kind 117 not-u, ne_eqb kind 102 not_f, ne_eqb kind 114 not-r, eq-eqb kind 115 k)

          pub line_other : (kind ≡ 115 → ⊥) → v ≡ tallied_run s false → v ≡ after_line s kind a b
          unfolding after_line
          line_other not-s h =
              h ∙ rw (ne_eqb kind 110 not-n, ne_eqb kind 117 not-u, ne_eqb kind 102 not_f, ne_eqb kind 114 not-r, ne_eqb kind 115 not-s)

pub ruleset turn_laws = (line_new, line_union, line_find, line_parent, line_size_lem, line_other, rules)
