-- What the reader takes is a text of the rules, and says what it found.
use Prim.Native.Nat.{ℕ, zero, suc, ◌+◌, ◌-◌, ◌≤◌}
use mathlib.Core.Bool.{Bool, true, false, cond, ◌&&◌, false≢true}
use mathlib.Core.List.{List, [], ◌∷◌, ◌++◌, append_assoc, map}
use mathlib.Core.Path.{◌≡◌, refl, sym, ◌∙◌, ap}
use native.Mathlib.Omega.{arith}
use borrow.Author.Tests.{ltb-true, leb-true, eqb-true}
use lib.Dec.{leb, ltb, eqb}
use lib.ListN.{length, get_or, take, drop, take-append-drop}
use lib.Seq.{drop-drop, get_or-drop, length-take-le}
use Rattle.decimal.specs.Decimal.{is_digit, value}
use Rattle.lists.proofs.Tests.{and_parts}
use Rattle.grammar.specs.Bytes.{is_space, is_letter, is_name_byte}
use Rattle.grammar.specs.Grammar.{ReadResult, nothing, found, follow, run, space, needed_space, begins, token, name, number, ends}
use Rattle.grammar.specs.Grammar.{range, target, transition, initial, next_name, one_more, many, transitions, next_names, accepting, heading, ending, whole_text}
use Rattle.grammar.specs.Places.{spelled}
use Rattle.grammar.proofs.Letters.{letter_named}
use Rattle.grammar.proofs.Runs.{run_short}
use Rattle.grammar.proofs.Progress.{Holds, none, some, holds_follow, holds_weaker}
use Rattle.grammar.specs.Words.{automaton_word, init_word, accepting_word, arrow_sign, left_brace, right_brace, left_bracket, right_bracket, comma, semicolon}
use Rattle.syntax.specs.Syntax.{◌⨾◌, Gap, Space, spaces, Name, named, Number, digits, TransitionText, moves, TransitionsText, MoreNames, Text, says}
use Rattle.syntax.specs.Spelled.{spell_move, spell}
use Rattle.syntax.proofs.Runs.{each_run}

-- what follows a piece that is made of pieces
nest : {X Y Z : Type 0} {P : Z → ℕ → Type 0} (r : ReadResult X) (f : X → ℕ → ReadResult Y) (g : Y → ℕ → ReadResult Z) → Holds P (follow r (λ x a. follow (f x a) g)) → Holds P (follow (follow r f) g)
unfolding follow
nest nothing f g h = none
nest (found x a) f g h = h

-- the first of the pieces that a piece is made of
inner : {X Y Z : Type 0} {Q : X → ℕ → Type 0} {P : Z → ℕ → Type 0} {r : ReadResult X} (f : X → ℕ → ReadResult Y) (g : Y → ℕ → ReadResult Z)
    → Holds Q r → ((x : X) (a : ℕ) → Q x a → Holds P (follow (f x a) g)) → Holds P (follow (follow r f) g)
inner f g h k = nest _ f g (holds_follow _ h k)

when : {X Z : Type 0} {P : Z → ℕ → Type 0} (b : Bool) (x : X) (a : ℕ) (g : X → ℕ → ReadResult Z) → (b ≡ true → Holds P (g x a)) → Holds P (follow (cond b (found x a) nothing) g)
unfolding follow
when true x a g h = h refl
when false x a g h = none

given : {X Z : Type 0} {P : Z → ℕ → Type 0} (x : X) (a : ℕ) (g : X → ℕ → ReadResult Z) → Holds P (g x a) → Holds P (follow (found x a) g)
unfolding follow
given x a g h = h

tested : {X : Type 0} {P : X → ℕ → Type 0} (b : Bool) (x : X) (a : ℕ) → (b ≡ true → P x a) → Holds P (cond b (found x a) nothing)
tested true x a h = some (h refl)
tested false x a h = none

name_front : (l : List ℕ) → is_letter (get_or l 0 0) ≡ true → run is_name_byte l ≤ 64 → Name (take (run is_name_byte l) l)
unfolding is_letter run
name_front [] h k = absurd (false≢true h)
name_front (b ∷ l) h k =
    let e : is_name_byte b ≡ true = letter_named b h in
    rw e (named h (each_run is_name_byte l) (omega (arith, rw e at k, length-take-le (run is_name_byte l) l (run_short is_name_byte l))))

begins_split : (w l : List ℕ) → begins w l ≡ true → l ≡ w ++ drop (length w) l
unfolding begins
begins_split [] l h = refl
begins_split (x ∷ w) [] h = absurd (false≢true h)
begins_split (x ∷ w) (b ∷ l) h = let p = and_parts (eqb b x) (begins w l) h in rw (eqb-true b x p.0) (ap (x ∷◌) (begins_split w l p.1))

module _ (t : List ℕ) where
  -- u stands from p to b
  pub record Reads (p b : ℕ) (u : List ℕ) : Type 0 where
    pub bytes : drop p t ≡ u ++ drop b t

  infixr 66 ◌▸◌
  ◌▸◌ : {p b c : ℕ} {u v : List ℕ} → Reads p b u → Reads b c v → Reads p c (u ⨾ v)
  ◌▸◌ {u = u} {v = v} r s = record { bytes = r.bytes ∙ rw append_assoc (ap (u ++◌) s.bytes) }

  -- bytes from p to b of which G holds
  pub record Took (p b : ℕ) (G : List ℕ → Type 0) : Type 0 where
    pub part : List ℕ
    pub reads : Reads p b part
    pub holds : G part

  front : (p n : ℕ) → Reads p (p + n) (take n (drop p t))
  front p n = record { bytes = rw (← drop-drop n p t) (sym (take-append-drop n (drop p t))) }

  gap : (p : ℕ) → Took p (space t p) Gap
  unfolding space
  gap p = record { part = _; reads = front p (run is_space (drop p t)); holds = each_run is_space (drop p t) }

  run_long : (f : ℕ → Bool) (p : ℕ) → length (take (run f (drop p t)) (drop p t)) ≡ run f (drop p t)
  run_long f p = length-take-le (run f (drop p t)) (drop p t) (run_short f (drop p t))

  needed : (p : ℕ) → Holds (λ _ b. Took p b Space) (needed_space t p)
  unfolding needed_space space
  needed p =
      tested (ltb p (p + n)) _ _ λ e.
      record { part = _; reads = front p n; holds = spaces (each_run is_space (drop p t)) (omega (arith, ltb-true p (p + n) e, run_long is_space p)) }
    where
      n : ℕ
      n = run is_space (drop p t)

  word : (w : List ℕ) (p : ℕ) → Holds (λ _ b. Reads p b w) (token w t p)
  unfolding token
  word w p = tested (begins w (drop p t)) _ _ λ e. record { bytes = rw (← drop-drop (length w) p t) (begins_split w (drop p t) e) }

  a_name : (p : ℕ) → Holds (λ s b. Reads p b (spelled t s) × Name (spelled t s)) (name t p)
  unfolding name
  a_name p =
      tested (is_letter (get_or t p 0) && leb n 64) _ _ λ e.
      let q = and_parts (is_letter (get_or t p 0)) (leb n 64) e in
      let z : p + n - p ≡ n = omega arith in
      let y : p + 0 ≡ p = omega arith in
      rw z (front p n, name_front (drop p t) (rw (get_or-drop p t 0 0, y) q.0) (leb-true n 64 q.1))
    where
      n : ℕ
      n = run is_name_byte (drop p t)

  a_number : (p : ℕ) → Holds (λ v b. Took p b (λ u. Number u v)) (number t p)
  unfolding number
  a_number p =
      tested (ltb 0 n && leb v 4294967295) _ _ λ e.
      let q = and_parts (ltb 0 n) (leb v 4294967295) e in
      record { part = _; reads = front p n; holds = digits (each_run is_digit (drop p t)) (omega (arith, ltb-true 0 n q.0, run_long is_digit p)) (leb-true v 4294967295 q.1) }
    where
      n : ℕ
      n = run is_digit (drop p t)

      v : ℕ
      v = value (take n (drop p t))

  a_transition : (p : ℕ) → Holds (λ e b. Took p b (λ u. TransitionText u (spell_move t e))) (transition t p)
  unfolding transition target range ends
  a_transition p =
      holds_follow _ (a_name p) λ from a x.
      inner _ _ (word arrow_sign (space t a)) λ _ b y.
      holds_follow _ (a_name (space t b)) λ to c z.
      inner _ _ (word left_bracket (space t c)) λ _ d o.
      nest _ _ _ (inner _ _ (a_number (space t d)) λ first e v.
      inner _ _ (word comma (space t e)) λ _ f m.
      inner _ _ (a_number (space t f)) λ last g w.
      when (leb first last) _ _ _ λ k.
      inner _ _ (word right_bracket g) λ _ h q.
      inner _ _ (word semicolon h) λ _ i r.
      given _ _ _ (some (record {
        part = _;
        reads = x.0 ▸ (gap a).reads ▸ y ▸ (gap b).reads ▸ z.0 ▸ (gap c).reads ▸ o ▸ (gap d).reads ▸ v.reads ▸ (gap e).reads ▸ m ▸ (gap f).reads ▸ w.reads ▸ q ▸ r;
        holds = moves x.1 (gap a).holds (gap b).holds z.1 (gap c).holds (gap d).holds v.holds (gap e).holds (gap f).holds w.holds (leb-true first last k);
      })))

  -- pieces one behind the other
  all_pieces : {X : Type 0} (f : ℕ → ReadResult X) (G : List ℕ → List X → Type 0) → G [] []
      → ((p : ℕ) → Holds (λ x b. Took p b (λ u. (v : List ℕ) (xs : List X) → G v xs → G (u ⨾ v) (x ∷ xs))) (f p))
      → (k p : ℕ) → Took p (many f k p).behind (λ u. G u (many f k p).items)
  unfolding many
  all_pieces f G z h zero p = record { part = []; reads = record { bytes = refl }; holds = z }
  all_pieces {X = X} f G z h (suc k) p = go (f p) (h p) (all_pieces f G z h k)
    where
      go : (r : ReadResult X) → Holds (λ x b. Took p b (λ u. (v : List ℕ) (xs : List X) → G v xs → G (u ⨾ v) (x ∷ xs))) r
          → ((p : ℕ) → Took p (many f k p).behind (λ u. G u (many f k p).items)) → Took p (one_more p r (many f k)).behind (λ u. G u (one_more p r (many f k)).items)
      go nothing none ih = record { part = []; reads = record { bytes = refl }; holds = z }
      go (found x b) (some i) ih = record { part = _; reads = i.reads ▸ (ih b).reads; holds = i.holds _ _ (ih b).holds }

  all_transitions : (p : ℕ) → Took p (transitions t p).behind (λ u. TransitionsText u (map (spell_move t) (transitions t p).items))
  unfolding transitions
  all_transitions =
      all_pieces (λ at. transition t (space t at)) (λ u es. TransitionsText u (map (spell_move t) es)) TransitionsText.none
      (λ p. holds_weaker (a_transition (space t p)) λ e b h.
      record { part = _; reads = (gap p).reads ▸ h.reads; holds = λ v es r. rw append_assoc (TransitionsText.more (gap p).holds h.holds r) })
      (length t)

  all_names_lem : (p : ℕ) → Took p (next_names t p).behind (λ u. MoreNames u (map (spelled t) (next_names t p).items))
  unfolding next_names next_name
  all_names_lem =
      all_pieces (next_name t) (λ u ns. MoreNames u (map (spelled t) ns)) MoreNames.none
      (λ p. holds_follow _ (word comma (space t p)) λ _ b x. holds_weaker (a_name (space t b)) λ s c y.
      record { part = _; reads = (gap p).reads ▸ x ▸ (gap b).reads ▸ y.0; holds = λ v ns r. simp append_assoc (MoreNames.more (gap p).holds (gap b).holds y.1 r) })
      (length t)

  pub a_text : Holds (λ g b. Took 0 b (λ u. Text u (spell t g))) (whole_text t)
  unfolding spell whole_text heading initial accepting ending
  a_text =
      inner _ _ (word automaton_word 0) λ _ a x₁.
      inner _ _ (needed a) λ _ b x₂.
      inner _ _ (a_name b) λ _ c x₃.
      holds_follow _ (word left_brace (space t c)) λ _ d x₄.
      inner _ _ (word init_word (space t d)) λ _ e x₅.
      inner _ _ (needed e) λ _ f x₆.
      inner _ _ (a_name f) λ s g x₇.
      inner _ _ (word semicolon g) λ _ h x₈.
      given _ _ _ (inner _ _ (word accepting_word (space t (transitions t h).behind)) λ _ i x₉.
      inner _ _ (needed i) λ _ j y₁.
      inner _ _ (a_name j) λ n k y₂.
      inner _ _ (word semicolon (next_names t k).behind) λ _ l y₃.
      given _ _ _ (inner _ _ (word right_brace (space t l)) λ _ m y₄.
      holds_follow _ (word semicolon m) λ _ o y₅.
      some (record {
        part = _;
        reads = x₁ ▸ x₂.reads ▸ x₃.0 ▸ (gap c).reads ▸ x₄ ▸ (gap d).reads ▸ x₅ ▸ x₆.reads ▸ x₇.0 ▸ x₈
            ▸ (all_transitions h).reads ▸ (gap (transitions t h).behind).reads ▸ x₉ ▸ y₁.reads ▸ y₂.0 ▸ (all_names_lem k).reads ▸ y₃ ▸ (gap l).reads ▸ y₄ ▸ y₅;
        holds = says x₂.holds x₃.1 (gap c).holds (gap d).holds x₆.holds x₇.1 (all_transitions h).holds
            (gap (transitions t h).behind).holds y₁.holds y₂.1 (all_names_lem k).holds (gap l).holds;
      })))
