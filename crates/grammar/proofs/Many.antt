-- Laws of pieces that are read as long as a whole one can be read, free of the bound on their number.
use Prim.Native.Nat.{ℕ, zero, suc, ◌+◌, ◌-◌, ◌≤◌, ◌<◌}
use mathlib.Core.List.{List, [], ◌∷◌}
use mathlib.Core.Path.{◌≡◌, refl, sym, ◌∙◌, ap}
use native.Mathlib.Omega.{arith}
use lib.ListN.{length}
use Rattle.std.proofs.Common.{Option, Some, None}
use Rattle.grammar.specs.Grammar.{ReadResult, nothing, found, space, transition, next_name, Items, one_more, many, transitions, next_names}
use Rattle.grammar.specs.inner.Pieces.{name_of, arrow_of}
use Rattle.grammar.specs.inner.Places.{Spelt, Drawn}
use Rattle.grammar.specs.declared.tokens.Cursor.{Cursor}
use Rattle.grammar.specs.declared.tokens.TextSpan.{TextSpan}
use Rattle.grammar.specs.declared.pieces.Arrow.{Arrow}
use Rattle.grammar.proofs.Progress.{holds_found, Past, next_holds, spaced_holds}

-- each piece ends behind its start, and at n at the latest
abbrev Advances : {X : Type 0} → (ℕ → ReadResult X) → ℕ → Type 0
Advances {X = X} p n = (at : ℕ) (x : X) (b : ℕ) → p at ≡ found x b → (at < b) × (b ≤ n)

more_than : {X : Type 0} (at : ℕ) (r : ReadResult X) (f g : ℕ → Items X) → ((x : X) (b : ℕ) → r ≡ found x b → f b ≡ g b) → one_more at r f ≡ one_more at r g
more_than at nothing f g h = refl
more_than at (found x b) f g h = rw (h x b refl)

module _ {X : Type 0} (p : ℕ → ReadResult X) (n : ℕ) (a : Advances p n) where
  past_all : (at : ℕ) (r : ReadResult X) → p at ≡ r → n ≤ at → (f : ℕ → Items X) → one_more at r f ≡ record { items = []; behind = at }
  past_all at nothing e h f = refl
  past_all at (found x b) e h f = let g = a at x b e in absurd (omega (arith, g.0, g.1))

  -- two bounds that are both enough
  enough : (k j at : ℕ) → n ≤ k + at → n ≤ j + at → many p k at ≡ many p j at
  unfolding many
  enough zero zero at h g = refl
  enough zero (suc j) at h g = sym (past_all at (p at) refl (omega arith) (many p j))
  enough (suc k) zero at h g = past_all at (p at) refl (omega arith) (many p k)
  enough (suc k) (suc j) at h g = more_than at (p at) (many p k) (many p j) (λ x b e. let f = a at x b e in enough k j b (omega (arith, f.0)) (omega (arith, f.0)))

  many_found : (at : ℕ) (x : X) (b : ℕ) → p at ≡ found x b → many p n at ≡ record { items = x ∷ (many p n b).items; behind = (many p n b).behind }
  unfolding many
  many_found at x b e = enough n (suc n) at (omega arith) (omega arith) ∙ rw e

  many_nothing : (at : ℕ) → p at ≡ nothing → many p n at ≡ record { items = []; behind = at }
  unfolding many
  many_nothing at e = enough n (suc n) at (omega arith) (omega arith) ∙ rw e

module _ (t : List ℕ) where
  arrows_advance : Advances (λ at. transition t (space t at)) (length t)
  arrows_advance at e b h = let g = holds_found _ (spaced_holds t at) h in (g.1.forward, g.1.inside)

  names_advance : Advances (next_name t) (length t)
  names_advance at s b h = let g = holds_found _ (next_holds t at) h in (g.1.forward, g.1.inside)

  -- the answer p of `spaced_transition` at a place
  module _ (at : ℕ) (p : Option (Arrow × Cursor)) (told : arrow_of p ≡ transition t (space t at)) where
    pub arrows_ended : p ≡ None → transitions t at ≡ record { items = []; behind = at }
    unfolding transitions
    arrows_ended h = many_nothing _ (length t) arrows_advance at (sym told ∙ ap arrow_of h)

    module _ (e : Arrow) (c : Cursor) (h : p ≡ Some (e, c)) where
      pub arrows_more : transitions t at ≡ record { items = e ∷ (transitions t c.at).items; behind = (transitions t c.at).behind }
      unfolding transitions
      arrows_more = many_found _ (length t) arrows_advance at e c.at (sym told ∙ ap arrow_of h)

      pub arrows_past : Past t at c.at
      arrows_past = (holds_found _ (spaced_holds t at) (sym told ∙ ap arrow_of h)).1

      pub arrow_drawn : Drawn t e
      arrow_drawn = (holds_found _ (spaced_holds t at) (sym told ∙ ap arrow_of h)).0

      pub arrows_less : length t - c.at < length t - at
      arrows_less = omega (arith, arrows_past.forward, arrows_past.inside)

    module _ (n : ℕ) (i : n ≡ (transitions t at).behind) where
      pub arrows_behind : p ≡ None → at ≡ n
      arrows_behind h = sym (i ∙ ap (λ (m : Items Arrow). m.behind) (arrows_ended h))

      pub arrows_next : (e : Arrow) (c : Cursor) → p ≡ Some (e, c) → n ≡ (transitions t c.at).behind
      arrows_next e c h = i ∙ ap (λ (m : Items Arrow). m.behind) (arrows_more e _ h)

  -- the answer p of `next_name` at a place
  module _ (at : ℕ) (p : Option (TextSpan × Cursor)) (told : name_of p ≡ next_name t at) where
    pub names_ended : p ≡ None → next_names t at ≡ record { items = []; behind = at }
    unfolding next_names
    names_ended h = many_nothing _ (length t) names_advance at (sym told ∙ ap name_of h)

    module _ (s : TextSpan) (c : Cursor) (h : p ≡ Some (s, c)) where
      pub names_more : next_names t at ≡ record { items = s ∷ (next_names t c.at).items; behind = (next_names t c.at).behind }
      unfolding next_names
      names_more = many_found _ (length t) names_advance at s c.at (sym told ∙ ap name_of h)

      names_past : Past t at c.at
      names_past = (holds_found _ (next_holds t at) (sym told ∙ ap name_of h)).1

      pub name_spelt : Spelt t s
      name_spelt = (holds_found _ (next_holds t at) (sym told ∙ ap name_of h)).0

      pub names_less : length t - c.at < length t - at
      names_less = omega (arith, names_past.forward, names_past.inside)

    module _ (n : ℕ) (i : n ≡ (next_names t at).behind) where
      pub names_behind : p ≡ None → at ≡ n
      names_behind h = sym (i ∙ ap (λ (m : Items TextSpan). m.behind) (names_ended h))

      pub names_next : (s : TextSpan) (c : Cursor) → p ≡ Some (s, c) → n ≡ (next_names t c.at).behind
      names_next s c h = i ∙ ap (λ (m : Items TextSpan). m.behind) (names_more s _ h)
