-- A pattern that is the written part of another under its labels has the same words.
use Prim.Native.Nat.{ℕ, ◌<◌}
use mathlib.Core.Bool.{true, ◌||◌}
use mathlib.Core.List.{List}
use mathlib.Core.Logic.{◌↔◌}
use mathlib.Core.Path.{◌≡◌, refl, sym, ◌∙◌, ap, subst}
use borrow.Author.Tests.{eq-eqb}
use lib.Dec.{eqb}
use Rattle.lists.specs.Lists.{◌∈◌}
use Rattle.lists.proofs.Lists.{any_in}
use Rattle.lists.proofs.Tests.{or_left, or_right}
use Rattle.automata.specs.Automaton.{Transition, Automaton, Run, stay, skip, read, Accepts, accept_of, InBounds}
use Rattle.output.specs.Output.{Pattern}
use Rattle.writer.specs.Text.{is_written}
use Rattle.writer.specs.ReadBack.{WrittenState, renumbered, ReadBack}

-- the start is written, and the states that a record names
module _ (P : Pattern) (ok : InBounds P.automaton) where
  pub start_written : WrittenState P P.automaton.start
  unfolding is_written
  start_written = (ok.starts, or_left _ _ (eq-eqb P.automaton.start P.automaton.start refl))

  named : (q : ℕ) (e : Transition) → e ∈ P.automaton.transitions → (eqb e.from q || eqb e.to q) ≡ true → is_written P.automaton q ≡ true
  unfolding is_written
  named q e m h = or_right (eqb q P.automaton.start) _ (any_in (λ e. eqb e.from q || eqb e.to q) m h)

  pub from_written : (e : Transition) → e ∈ P.automaton.transitions → WrittenState P e.from
  from_written e m = (ok.froms e m, named e.from e m (or_left _ _ (eq-eqb e.from e.from refl)))

  pub to_written : (e : Transition) → e ∈ P.automaton.transitions → WrittenState P e.to
  to_written e m = (ok.tos e m, named e.to e m (or_right (eqb e.from e.to) _ (eq-eqb e.to e.to refl)))

  module _ (Q : Pattern) (r : ReadBack P Q) where
    abbrev A : Automaton
    A = P.automaton

    abbrev B : Automaton
    B = Q.automaton

    abbrev f : ℕ → ℕ
    f = r.number

    forth : {p q : ℕ} {w : List ℕ} → WrittenState P p → Run A p w q → WrittenState P q × Run B (f p) w (f q)
    forth h stay = (h, stay)
    forth h (skip e m g k t) =
        let s = forth (to_written e m) t in
        (s.0, skip (renumbered r.number e) ((r.transitions _).1 (e, m, refl)) (ap r.number g) k s.1)
    forth h (read e m g k a b t) =
        let s = forth (to_written e m) t in
        (s.0, read (renumbered r.number e) ((r.transitions _).1 (e, m, refl)) (ap r.number g) k a b s.1)

    -- a run of Q from the number of a written state
    abbrev Back : ℕ → List ℕ → ℕ → Type 0
    Back p w y = (q : ℕ) × WrittenState P q × (y ≡ r.number q) × Run A p w q

    back : {x y : ℕ} {w : List ℕ} (p : ℕ) → WrittenState P p → x ≡ r.number p → Run B x w y → Back p w y
    back p h e stay = (p, h, e, stay)
    back p h e (skip d m g k t) =
        let (c, i, z) = (r.transitions d).0 m in
        let j : c.from ≡ p = r.one c.from p (from_written c i) h (sym (ap (λ x. x.from) z) ∙ g ∙ e) in
        let (q, v, y, u) = back c.to (to_written c i) (ap (λ x. x.to) z) t in
        (q, v, y, skip c i j (sym (ap (λ x. x.kind) z) ∙ k) u)
    back p h e (read {a = a} d m g k l n t) =
        let (c, i, z) = (r.transitions d).0 m in
        let j : c.from ≡ p = r.one c.from p (from_written c i) h (sym (ap (λ x. x.from) z) ∙ g ∙ e) in
        let (q, v, y, u) = back c.to (to_written c i) (ap (λ x. x.to) z) t in
        (q, v, y, read c i j (sym (ap (λ x. x.kind) z) ∙ k) (rw (ap (λ x. x.first) z) at l) (rw (ap (λ x. x.last) z) at n) u)

    pub same_words : (w : List ℕ) → Accepts B w ↔ Accepts A w
    same_words w = (
      λ (y, t, n).
          let (q, v, z, u) = back A.start start_written r.start t in
          (q, u, (r.accepting q v).0 (subst (λ x. 0 < accept_of B x) z n)),
      λ (q, t, n).
          let (v, u) = forth start_written t in
          (r.number q, subst (λ x. Run B x w (r.number q)) (sym r.start) u, (r.accepting q v).1 n),
    )
