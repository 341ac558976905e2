-- A whole text is made of its three parts.
use Prim.Native.Nat.{ℕ}
use mathlib.Core.List.{List, ◌∷◌}
use mathlib.Core.Path.{◌≡◌, refl, sym, ◌∙◌, ap}
use Rattle.std.proofs.Common.{Option, Some, None}
use Rattle.grammar.specs.Grammar.{ReadResult, nothing, found, follow, space, heading, initial, transitions, next_names, accepting, ending, TextParts, whole_text}
use Rattle.grammar.specs.inner.Parts.{opening, closing, told_from}
use Rattle.grammar.specs.inner.Pieces.{name_of, accepting_of}
use Rattle.grammar.specs.inner.Places.{Spelt}
use Rattle.grammar.specs.Places.{told_at}
use Rattle.grammar.specs.declared.tokens.Cursor.{Cursor}
use Rattle.grammar.specs.declared.tokens.TextSpan.{TextSpan}
use Rattle.grammar.proofs.Progress.{Holds, some, holds_found, holds_follow, always, initial_holds, accepting_holds, FirstSpelt, leads}

-- pieces that follow may be taken together
follow_follow : {X Y Z : Type 0} (r : ReadResult X) (f : X → ℕ → ReadResult Y) (g : Y → ℕ → ReadResult Z) → follow (follow r f) g ≡ follow r (λ x at. follow (f x at) g)
unfolding follow
follow_follow nothing f g = refl
follow_follow (found x at) f g = refl

follow_ext : {X Y : Type 0} (r : ReadResult X) (f g : X → ℕ → ReadResult Y) → ((x : X) (at : ℕ) → f x at ≡ g x at) → follow r f ≡ follow r g
unfolding follow
follow_ext nothing f g h = refl
follow_ext (found x at) f g h = h x at

module _ (t : List ℕ) where
  tells : TextSpan → ℕ → List TextSpan → ℕ → ReadResult TextParts
  tells s b names d = found (record { start = s; arrows = (transitions t b).items; accepts = names }) d

  told_parts : (s : TextSpan) (b : ℕ) → told_from t s b ≡ follow (accepting t (space t (transitions t b).behind)) (λ names c. follow (ending t c) (λ _ d. tells s b names d))
  unfolding told_from closing follow tells
  told_parts s b =
      follow_follow (accepting t (space t (transitions t b).behind)) _ _
      ∙ follow_ext (accepting t (space t (transitions t b).behind)) _ _ (λ names c. follow_follow (ending t c) _ _)

  pub whole_parts : whole_text t ≡ follow (opening t) (told_from t)
  unfolding whole_text opening tells
  whole_parts = follow_ext (heading t 0) _ _ (λ _ a. follow_ext (initial t (space t a)) _ _ (λ s b. sym (told_parts s b))) ∙ sym (follow_follow (heading t 0) _ _)

  opening_holds : Holds (λ s b. Spelt t s) (opening t)
  unfolding opening
  opening_holds = holds_follow (λ _ _. ℕ) (always t (heading t 0)) λ _ a p. initial_holds t (space t a)

  closing_holds : (at : ℕ) → Holds (λ names b. FirstSpelt t names) (closing t at)
  unfolding closing
  closing_holds at = holds_follow _ (accepting_holds t (space t at)) λ names c u. holds_follow (λ _ _. ℕ) (always t (ending t c)) λ _ d v. some u

  -- what the opening says of the whole text: p is its answer
  module _ (p : Option (TextSpan × Cursor)) (told : name_of p ≡ opening t) where
    pub opens_nothing : p ≡ None → whole_text t ≡ nothing
    unfolding follow
    opens_nothing e = whole_parts ∙ ap (λ (r : ReadResult TextSpan). follow r (told_from t)) (sym told ∙ ap name_of e)

    module _ (s : TextSpan) (b : Cursor) (e : p ≡ Some (s, b)) where
      pub opens_found : whole_text t ≡ told_from t s b.at
      unfolding follow
      opens_found = whole_parts ∙ ap (λ (r : ReadResult TextSpan). follow r (told_from t)) (sym told ∙ ap name_of e)

      pub start_spelt : Spelt t s
      start_spelt = holds_found _ opening_holds (sym told ∙ ap name_of e)

  -- and the closing, which is read behind the transitions: q is its answer
  module _ (s : TextSpan) (b : Cursor) (at : ℕ) (behind : at ≡ (transitions t b.at).behind) (q : Option (TextSpan × Cursor × Cursor)) (told : accepting_of t q ≡ closing t at) where
    closes : (r : ReadResult (List TextSpan)) → accepting_of t q ≡ r → told_from t s b.at ≡ follow r (tells s b.at)
    unfolding told_from tells
    closes r e = ap (λ (k : ℕ). follow (closing t k) (tells s b.at)) (sym behind) ∙ ap (λ (k : ReadResult (List TextSpan)). follow k (tells s b.at)) (sym told ∙ e)

    pub closes_nothing : q ≡ None → told_from t s b.at ≡ nothing
    unfolding follow
    closes_nothing e = closes _ (ap (accepting_of t) e)

    module _ (first : TextSpan) (more c : Cursor) (e : q ≡ Some (first, more, c)) where
      pub closes_found : told_from t s b.at ≡ found (told_at t (record { initial = s; arrows = b; first = first; more = more })) c.at
      unfolding follow tells
      closes_found = closes _ (ap (accepting_of t) e)

      pub first_spelt : Spelt t first
      first_spelt = lead (holds_found _ (closing_holds at) (sym told ∙ ap (accepting_of t) e))
        where
          lead : FirstSpelt t (first ∷ (next_names t more.at).items) → Spelt t first
          lead (leads k) = k
