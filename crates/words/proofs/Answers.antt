-- Reading a text, and the answers of acceptance: the laws by which the public entries are proved.
use Prim.Native.Nat.{ℕ, ◌≤◌}
use mathlib.Core.Bool.{Bool, true, false, false≢true}
use mathlib.Core.List.{List, [], ◌∷◌}
use mathlib.Core.Path.{◌≡◌, refl, sym, ◌∙◌, ap, subst}
use borrow.Author.Rules.{rules}
use lib.ListN.{length, get_or, drop, drop_of_length-le}
use Rattle.std.specs.Prelude.{Result, Ok, Err}
use Rattle.automata.specs.Automaton.{Automaton}
use Rattle.refusal.specs.declared.InputRefusal.{InputRefusal}
use Rattle.refusal.specs.Answer.{Answer, refused, given}
use Rattle.refusal.specs.Number.{input_number}
use Rattle.sets.specs.Sets.{Set, is_empty}
use Rattle.sets.specs.inner.Members.{Canon}
use Rattle.sets.specs.inner.BitSet.{set_at}
use Rattle.sets.proofs.Sets.{empty_yes}
use Rattle.sheets.specs.Checked.{checked_number}
use Rattle.sheets.specs.Fault.{fault}
use Rattle.sheets.specs.Sheet.{state_count, read}
use Rattle.sheets.proofs.Checking.{sheet_passed, sheet_refused}
use Rattle.sheets.proofs.Meaning.{read_well}
use Rattle.utf8.specs.declared.Step.{Step}
use Rattle.utf8.specs.declared.Step.TheVariants.{Point, End, Malformed}
use Rattle.utf8.specs.Utf8.{end, front, Decoded, malformed, points, cons, decode}
use Rattle.utf8.specs.inner.Steps.{wellformed, step_at}
use Rattle.utf8.proofs.Decode.{decode_end, end_decode, malformed_decode, point_decode, point_within, point_less}
use Rattle.utf8.proofs.Wellformed.{wellformed_points, point_wellformed}
use Rattle.words.specs.Simulation.{step, simulate, start_set, kind_of, kind}
use Rattle.words.specs.inner.Gather.{Tables}
use Rattle.words.specs.Acceptance.{accepts_words_answer, decoded_first, accepts_text_answer}
use Rattle.words.specs.inner.Acceptance.{points_of}
use Rattle.words.proofs.Closures.{closure_canon}
use Rattle.words.proofs.Reading.{simulate_nothing, read_canon}
use Rattle.words.proofs.Stepping.{step_canon}

-- the text from at on is left to read
module _ (s old : List ℕ) (text cur : List ℕ) (at : ℕ) (w : wellformed (drop at text) ≡ true)
    (e : simulate (read s) (set_at cur 0) (points_of (decode (drop at text))) ≡ simulate (read s) (set_at old 0) (points_of (decode text))) where
  end_text : decode (drop at text) ≡ points [] → set_at cur 0 ≡ simulate (read s) (set_at old 0) (points_of (decode text))
  unfolding simulate points_of
  end_text h = ap (λ d. simulate (read s) (set_at cur 0) (points_of d)) (sym h) ∙ e

  pub text_past : length text ≤ at → set_at cur 0 ≡ simulate (read s) (set_at old 0) (points_of (decode text))
  text_past h = end_text (ap decode (drop_of_length-le text h) ∙ decode_end [] front_none)
    where
      front_none : front [] ≡ end
      front_none = unfold front in refl

  pub text_nothing : (b : Bool) → b ≡ is_empty (set_at cur 0) → b ≡ true → set_at cur 0 ≡ simulate (read s) (set_at old 0) (points_of (decode text))
  text_nothing b h k =
      let n : set_at cur 0 ≡ [] = empty_yes (set_at cur 0) (sym h ∙ k) in
      n ∙ sym (simulate_nothing (read s) (points_of (decode (drop at text)))) ∙ ap (λ S. simulate (read s) S (points_of (decode (drop at text)))) (sym n) ∙ e

  module _ (x : Step) (told : x ≡ step_at text at) where
    pub text_ended : x ≡ End → set_at cur 0 ≡ simulate (read s) (set_at old 0) (points_of (decode text))
    text_ended h = end_text (end_decode text at x told h)

    pub text_malformed : x ≡ Malformed → set_at cur 0 ≡ simulate (read s) (set_at old 0) (points_of (decode text))
    text_malformed h =
        let p = (wellformed_points (drop at text)).0 w in
        let z : malformed ≡ points p.0 = sym (malformed_decode text at x told h) ∙ p.1 in
        cc

    module _ (a to : ℕ) (given : x ≡ Point a to) where
      pub text_well : wellformed (drop to text) ≡ true
      text_well = sym (point_wellformed text at x told a to given) ∙ w

      pub text_next : (u : List ℕ) → set_at u 0 ≡ step (read s) (set_at cur 0) a
          → simulate (read s) (set_at u 0) (points_of (decode (drop to text))) ≡ simulate (read s) (set_at old 0) (points_of (decode text))
      unfolding simulate points_of
      text_next u k =
          let p = (wellformed_points (drop to text)).0 text_well in
          let m : points_of (decode (drop at text)) ≡ a ∷ points_of (decode (drop to text)) =
          ap points_of (point_decode text at x told a to given) ∙ ap (λ d. points_of (cons a d)) p.1 ∙ ap (λ d. a ∷ points_of d) (sym p.1) in
          ap (λ S. simulate (read s) S (points_of (decode (drop to text)))) k ∙ ap (simulate (read s) (set_at cur 0)) (sym m) ∙ e

pub ruleset text_laws = (text_past, text_nothing, text_ended, text_malformed, text_well, text_next, read_canon, point_within, point_less, rules)

-- the kind of a word, and the answers
pub word_done : (s set : List ℕ) (w : List ℕ) (S : Set) (k : ℕ) → k ≡ kind_of (read s) (set_at set 0) → set_at set 0 ≡ simulate (read s) S w → S ≡ start_set (read s) → k ≡ kind (read s) w
unfolding kind
word_done s set w S k e f g = e ∙ ap (kind_of (read s)) (f ∙ ap (λ S. simulate (read s) S w) g)

pub start_canon : (s starts c set : List ℕ) → Tables s starts c → set_at set 0 ≡ start_set (read s) → Canon (state_count s) (set_at set 0)
unfolding start_set
start_canon s starts c set t e = subst (Canon (state_count s)) (sym e) (closure_canon (read s) (read_well s t.accepted).states (get_or s 1 0) t.accepted.start)

simulate_canon : (s starts c : List ℕ) → Tables s starts c → (S : Set) (w : List ℕ) → Canon (state_count s) S → Canon (state_count s) (simulate (read s) S w)
unfolding simulate
simulate_canon s starts c t S [] n = n
simulate_canon s starts c t S (a ∷ w) n = simulate_canon s starts c t (step (read s) S a) w (step_canon (read s) (read_well s t.accepted).states a S)

pub end_canon : (s starts c set : List ℕ) (S : Set) (w : List ℕ) → Tables s starts c → Canon (state_count s) S → set_at set 0 ≡ simulate (read s) S w → Canon (state_count s) (set_at set 0)
end_canon s starts c set S w t n e = subst (Canon (state_count s)) (sym e) (simulate_canon s starts c t S w n)

-- the answer for a text behind the sheet's faults
abbrev pub text_answer : Automaton → Decoded → Answer ℕ
text_answer A d = decoded_first d (λ w. given (kind A w))

module _ (s w : List ℕ) (r : Result (Unit {0}) InputRefusal) (e : checked_number r ≡ fault s) where
  pub words_given : r ≡ Ok tt → (k : ℕ) → k ≡ kind (read s) w → given k ≡ accepts_words_answer s w
  unfolding accepts_words_answer
  words_given h k q = ap given q ∙ sym (sheet_passed s _ r e h)

  pub words_refused : (i : InputRefusal) → r ≡ Err i → refused (input_number i) ≡ accepts_words_answer s w
  unfolding accepts_words_answer
  words_refused i h = sym (sheet_refused s _ r e i h)

  pub text_given : r ≡ Ok tt → (b : Bool) → b ≡ wellformed w → b ≡ true → (k : ℕ) → k ≡ kind (read s) (points_of (decode w)) → given k ≡ accepts_text_answer s w
  unfolding accepts_text_answer points_of
  text_given h b f g k q =
      let p = (wellformed_points w).0 (sym f ∙ g) in
      ap given (q ∙ ap (λ d. kind (read s) (points_of d)) p.1) ∙ ap (text_answer (read s)) (sym p.1) ∙ sym (sheet_passed s _ r e h)

  pub text_bad : r ≡ Ok tt → (b : Bool) → b ≡ wellformed w → b ≡ false → refused 9 ≡ accepts_text_answer s w
  unfolding accepts_text_answer
  text_bad h b f g = go (decode w) refl ∙ sym (sheet_passed s _ r e h)
    where
      go : (d : Decoded) → decode w ≡ d → refused 9 ≡ text_answer (read s) (decode w)
      go malformed p = ap (text_answer (read s)) (sym p)
      go (points ps) p = absurd (false≢true (sym g ∙ f ∙ (wellformed_points w).1 (ps, p)))

  pub text_refused : (i : InputRefusal) → r ≡ Err i → refused (input_number i) ≡ accepts_text_answer s w
  unfolding accepts_text_answer
  text_refused i h = sym (sheet_refused s _ r e i h)

pub ruleset answer_laws = (words_given, words_refused, text_given, text_bad, text_refused, rules)
