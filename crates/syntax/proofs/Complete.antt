-- The reader finds each text of the rules, whatever stands behind it, and what it says. It takes all the space, name bytes and digits that it can; that is
-- right, since space is at most 32 and letters and digits are above it, and since no arrow follows where the accepting names begin.
use Prim.Native.Nat.{ℕ, ◌+◌, ◌-◌, ◌≤◌}
use mathlib.Core.Bool.{Bool, true, false, cond}
use mathlib.Core.List.{List, [], ◌∷◌, ◌++◌, append_assoc, map}
use mathlib.Core.Path.{◌≡◌, refl, sym, ◌∙◌, ap}
use native.Mathlib.Omega.{arith}
use borrow.Author.Tests.{lt-ltb, le-leb, eq-eqb, ne_eqb}
use lib.Dec.{leb}
use lib.ListN.{length, get_or, drop, length-drop, length-append}
use lib.Seq.{drop-drop, drop-append_seam, take-append_seam, get_or-drop}
use Rattle.decimal.specs.Decimal.{is_digit, value}
use Rattle.grammar.specs.Bytes.{is_space, is_letter, is_name_byte}
use Rattle.grammar.specs.Grammar.{ReadResult, nothing, found, follow, mark, run, space, needed_space, begins, token, name, number, RangeEnds}
use Rattle.grammar.specs.Grammar.{ends, range, target, transition, initial, next_name, Items, transitions, next_names, accepting, heading, ending, whole_text}
use Rattle.grammar.specs.Places.{spelled}
use Rattle.grammar.proofs.Letters.{letter_named}
use Rattle.std.proofs.Common.{Some, None}
use Rattle.grammar.proofs.Many.{arrows_ended, arrows_more, names_ended, names_more}
use Rattle.grammar.specs.Words.{automaton_word, init_word, accepting_word, left_brace, right_brace, left_bracket, right_bracket, comma, semicolon}
use Rattle.syntax.specs.Syntax.{◌⨾◌, Each, more, Gap, Space, spaces, Name, named, Number, digits, Move, Said, TransitionText, moves, TransitionsText, MoreNames, Text, says}
use Rattle.syntax.specs.Spelled.{spell_move, spell}
use Rattle.syntax.proofs.Runs.{letter_high, Stop, run_each, gap_name, gap_digit, space_name, name_space, number_space}

module _ (t : List ℕ) where
  -- l stands at the place p, to the end
  pub record At (p : ℕ) (l : List ℕ) : Type 0 where
    pub here : drop p t ≡ l
    pub inside : p ≤ length t

  -- a piece finds what says y, and l stands behind it
  pub record Finds {X Y : Type 0} (say : X → Y) (r : ReadResult X) (y : Y) (l : List ℕ) : Type 0 where
    pub what : X
    pub place : ℕ
    pub reads : r ≡ found what place
    pub saying : say what ≡ y
    pub behind : At place l

  abbrev itself : {X : Type 0} → X → X
  itself x = x

  pub then : {X Y Z W : Type 0} {say : X → Y} {say' : Z → W} {r : ReadResult X} {f : X → ℕ → ReadResult Z} {y : Y} {z : W} {l m : List ℕ}
      → Finds say r y l → ((x : X) (b : ℕ) → say x ≡ y → At b l → Finds say' (f x b) z m) → Finds say' (follow r f) z m
  unfolding follow
  then a g =
      let h = g a.what a.place a.saying a.behind in
      record { what = h.what; place = h.place; reads = rw a.reads h.reads; saying = h.saying; behind = h.behind }

  step : (p : ℕ) (u l : List ℕ) → At p (u ++ l) → At (p + length u) l
  step p u l a = record {
    here = sym (drop-drop (length u) p t) ∙ rw a.here (drop-append_seam u l);
    inside = omega (arith, a.inside, simp length-append at (ap length a.here), length-drop p t);
  }

  run_at : (f : ℕ → Bool) (p : ℕ) (u l : List ℕ) → Each f u → Stop f l → At p (u ++ l) → run f (drop p t) ≡ length u
  run_at f p u l e z a = ap (run f) a.here ∙ run_each f l e z

  gap : {p : ℕ} {s l : List ℕ} → Gap s → Stop is_space l → At p (s ++ l) → At (space t p) l
  unfolding space
  gap {p} {s} {l} e z a = rw (run_at is_space p s l e z a) (step p s l a)

  needed : {p : ℕ} {s l : List ℕ} → Space s → Stop is_space l → At p (s ++ l) → Finds itself (needed_space t p) mark l
  unfolding needed_space space
  needed {p} {s} {l} (spaces e h) z a = record {
    what = mark;
    place = p + length s;
    reads = rw (run_at is_space p s l e z a, lt-ltb p (p + length s) (omega arith));
    saying = refl;
    behind = step p s l a;
  }

  begins_self : (w l : List ℕ) → begins w (w ++ l) ≡ true
  unfolding begins
  begins_self [] l = refl
  begins_self (x ∷ w) l = rw (eq-eqb x x refl, begins_self w l)

  word : {p : ℕ} (w : List ℕ) {l : List ℕ} → At p (w ++ l) → Finds itself (token w t p) mark l
  unfolding token
  word {p} w {l} a = record { what = mark; place = p + length w; reads = rw (a.here, begins_self w l); saying = refl; behind = step p w l a }

  head_at : (p b : ℕ) (l : List ℕ) → At p (b ∷ l) → get_or t p 0 ≡ b
  head_at p b l a = let z : p + 0 ≡ p = omega arith in sym (rw z at (get_or-drop p t 0 0)) ∙ ap (λ (m : List ℕ). get_or m 0 0) a.here

  spelled_at : (p : ℕ) (u l : List ℕ) → At p (u ++ l) → spelled t (record { start = p; end = p + length u }) ≡ u
  spelled_at p u l a = let z : p + length u - p ≡ length u = omega arith in rw (z, a.here) (take-append_seam u l)

  a_name : {p : ℕ} {u l : List ℕ} → Name u → Stop is_name_byte l → At p (u ++ l) → Finds (spelled t) (name t p) u l
  unfolding name
  a_name {p} {u} {l} (named {b} {u = v} h e k) z a = record {
    what = record { start = p; end = p + length u };
    place = p + length u;
    reads = rw (run_at is_name_byte p u l (more (letter_named b h) e) z a, head_at p b (v ++ l) a, h, le-leb (length u) 64 (omega arith));
    saying = spelled_at p u l a;
    behind = step p u l a;
  }

  a_number : {p : ℕ} {u l : List ℕ} {v : ℕ} → Number u v → Stop is_digit l → At p (u ++ l) → Finds itself (number t p) v l
  unfolding number
  a_number {p} {u = u} {l = l} (digits e h k) z a = record {
    what = value u;
    place = p + length u;
    reads = rw (run_at is_digit p u l e z a, a.here, take-append_seam u l, lt-ltb 0 (length u) h, le-leb (value u) 4294967295 k);
    saying = refl;
    behind = step p u l a;
  }

  -- what is found at last
  finding : {X Y : Type 0} {say : X → Y} {y : Y} {l : List ℕ} (x : X) (b : ℕ) → say x ≡ y → At b l → Finds say (found x b) y l
  finding x b e a = record { what = x; place = b; reads = refl; saying = e; behind = a }

  -- a word and a name behind it, each behind optional space
  behind_word : {p : ℕ} (x : ℕ) (w : List ℕ) {s₁ s₂ u l : List ℕ} → Gap s₁ → is_space x ≡ false → Gap s₂ → Name u → Stop is_name_byte l → At p (s₁ ⨾ (x ∷ w) ⨾ s₂ ⨾ u ⨾ l)
      → Finds (spelled t) (follow (token (x ∷ w) t (space t p)) λ _ a. name t (space t a)) u l
  unfolding run
  behind_word x w {l = l} g₁ h g₂ n z a =
      then (word (x ∷ w) (gap g₁ (rw h) a)) λ _ b _ a.
      a_name n z (gap g₂ (name_space l n) a)

  some_ends : {v w first last : ℕ} {l : List ℕ} (b : ℕ) → first ≡ v → last ≡ w → v ≤ w → At b l
      → Finds {Y = RangeEnds} itself (cond (leb first last) (found (record { first = first; last = last }) b) nothing) (record { first = v; last = w }) l
  some_ends b e f h a = rw (e, f, le-leb _ _ h) (finding _ b refl a)

  a_transition : {p : ℕ} {u l : List ℕ} {e : Move} → TransitionText u e → At p (u ++ l) → Finds (spell_move t) (transition t p) e l
  unfolding transition target range ends run is_space is_letter is_digit is_name_byte
  a_transition (moves {first = v} {last = w} x g₁ g₂ y g₃ g₄ m g₅ g₆ n h) q =
      then (a_name x (gap_name _ g₁ refl) (simp append_assoc at q)) λ from c e q.
      then (behind_word _ _ g₁ refl g₂ y (gap_name _ g₃ refl) q) λ to c f q.
      then (then (word left_bracket (gap g₃ refl q)) λ _ c _ q.
      then (then (a_number m (gap_digit _ g₅ refl) (gap g₄ (number_space _ m) q)) λ first c i q.
      then (word comma (gap g₅ refl q)) λ _ c _ q.
      then (a_number n refl (gap g₆ (number_space _ n) q)) λ last c j q.
      some_ends c i j h q) λ r c i q.
      then (word right_bracket q) λ _ c _ q.
      then (word semicolon q) λ _ c _ q.
      finding r c i q) λ r c i q.
      finding _ c (rw (e, f, i)) q

  transition_space : {u : List ℕ} {e : Move} (l : List ℕ) → TransitionText u e → Stop is_space (u ++ l)
  transition_space l (moves x g₁ g₂ y g₃ g₄ v g₅ g₆ w h) = rw append_assoc (name_space _ x)

  -- pieces one behind the other say ys, and l stands behind them
  pub record FindsAll {X Y : Type 0} (say : X → Y) (r : Items X) (ys : List Y) (l : List ℕ) : Type 0 where
    pub saying : map say r.items ≡ ys
    pub behind : At r.behind l

  all_transitions : {u : List ℕ} {p : ℕ} {l : List ℕ} {es : List Move} → TransitionsText u es → ((b : ℕ) → At b l → transition t (space t b) ≡ nothing) → At p (u ++ l)
      → FindsAll (spell_move t) (transitions t p) es l
  all_transitions {p} TransitionsText.none z a = rw (arrows_ended t p None (sym (z p a)) refl) record { saying = refl; behind = a }
  all_transitions {p} (TransitionsText.more g e r) z a =
      let h = a_transition e (gap g (transition_space _ e) (simp append_assoc at a)) in
      let i = all_transitions r z h.behind in
      rw (arrows_more t p (Some (h.what, record { at = h.place })) (sym h.reads) h.what (record { at = h.place }) refl)
      record { saying = rw (h.saying, i.saying); behind = i.behind }

  names_stop : {u : List ℕ} {ns : List (List ℕ)} (l : List ℕ) → MoreNames u ns → Stop is_name_byte (u ++ semicolon ⨾ l)
  unfolding run is_name_byte is_letter is_digit
  names_stop l MoreNames.none = refl
  names_stop l (MoreNames.more g₁ g₂ x r) = rw append_assoc (gap_name _ g₁ refl)

  all_names_lem : {u : List ℕ} {p : ℕ} {l : List ℕ} {ns : List (List ℕ)} → MoreNames u ns → At p (u ++ semicolon ⨾ l) → FindsAll (spelled t) (next_names t p) ns (semicolon ⨾ l)
  unfolding next_name token begins follow run is_space is_name_byte is_letter is_digit
  all_names_lem {p} MoreNames.none a = rw (names_ended t p None (rw (gap Each.none refl a).here) refl) record { saying = refl; behind = a }
  all_names_lem {p} (MoreNames.more g₁ g₂ x r) a =
      let h = behind_word 44 [] g₁ refl g₂ x (names_stop _ r) (simp append_assoc at a) in
      let i = all_names_lem r h.behind in
      rw (names_more t p (Some (h.what, record { at = h.place })) (sym h.reads) h.what (record { at = h.place }) refl)
      record { saying = rw (h.saying, i.saying); behind = i.behind }

  accepting_name : Name accepting_word
  unfolding is_name_byte is_letter
  accepting_name = named {b = 97} {u = drop 1 accepting_word} refl (more refl (more refl (more refl (more refl (more refl (more refl (more refl (more refl Each.none)))))))) (omega arith)

  -- no transition begins where the accepting names do: space and a letter follow the word, and no arrow
  no_transition : {p : ℕ} {s₅ s₆ n : List ℕ} (l : List ℕ) → Gap s₅ → Space s₆ → Name n → At p (s₅ ⨾ accepting_word ⨾ s₆ ⨾ n ⨾ l) → transition t (space t p) ≡ nothing
  unfolding transition target follow token begins run is_space
  no_transition l g₅ (spaces e k) (named {b} h c i) a =
      let x = a_name accepting_name (space_name _ (spaces e k)) (gap g₅ refl a) in
      let y = gap e (name_space l (named h c i)) x.behind in
      rw (x.reads, y.here, ne_eqb b 45 (λ z. omega (arith, letter_high b h)))

  pub a_text : {u l : List ℕ} {s : Said} → Text u s → At 0 (u ++ l) → Finds (spell t) (whole_text t) s l
  unfolding spell whole_text heading initial accepting ending run is_space is_name_byte is_letter is_digit
  a_text (says {b} {ns = ms} g₁ x g₂ g₃ g₄ y es g₅ g₆ z ns g₇) q =
      then (then (word automaton_word (simp append_assoc at q)) λ _ c _ q.
      then (needed g₁ (name_space _ x) q) λ _ c _ q.
      then (a_name x (gap_name _ g₂ refl) q) λ _ c _ q.
      word left_brace (gap g₂ refl q)) λ _ c _ q.
      then (then (word init_word (gap g₃ refl q)) λ _ c _ q.
      then (needed g₄ (name_space _ y) q) λ _ c _ q.
      then (a_name y refl q) λ s c e q.
      then (word semicolon q) λ _ c _ q.
      finding s c e q) λ s c e q.
      let i = all_transitions es (λ d. no_transition _ g₅ g₆ z) q in
      then (then (word accepting_word (gap g₅ refl i.behind)) λ _ d _ q.
      then (needed g₆ (name_space _ z) q) λ _ d _ q.
      then (a_name z (names_stop _ ns) q) λ n d f q.
      let j = all_names_lem ns q in
      then (word semicolon j.behind) λ _ d _ q.
      finding {say = map (spelled t)} {y = b ∷ ms} _ d (rw (f, j.saying)) q) λ names d f q.
      then (then (word right_brace (gap g₇ refl q)) λ _ d _ q. word semicolon q) λ _ d _ q.
      finding _ d (rw (e, i.saying, f)) q
