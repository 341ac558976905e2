-- The tests of the refusals 30, 31 and 32 as what document 02 says of a pattern.
use Prim.Native.Nat.{ℕ, suc, ◌<◌}
use mathlib.Core.Bool.{Bool, true, false, not, ◌||◌, true≢false, false≢true}
use mathlib.Core.List.Memᴰ
use mathlib.Core.List.{List, [], ◌∷◌, map}
use mathlib.Core.Logic.{◌↔◌, ◌⊎◌, inl, inr, ⊎_elim}
use mathlib.Core.Path.{◌≡◌, refl, sym, ◌∙◌, ap}
use native.Mathlib.Omega.{arith}
use borrow.Author.Tests.{eqb-true, eq-eqb, ne_eqb, lt-ltb, ltb-true}
use lib.Dec.{eqb, ltb}
use lib.ListN.{length}
use Rattle.lists.specs.Lists.{◌∈◌, any, all, Distinct}
use Rattle.lists.proofs.Every.{all_out}
use Rattle.lists.proofs.Index.{same_equal, equal_same}
use Rattle.lists.proofs.Lists.{any_in, any_out, filter_in, filter_out}
use Rattle.lists.proofs.Members.{map_in, map_out, ascending_filter, ascending_distinct}
use Rattle.lists.proofs.Tests.{test, or_cases, or_left, or_right, and_both}
use Rattle.automata.specs.Automaton.{has_epsilon, accept_of, states}
use Rattle.automata.proofs.States.{states_in, states_out, states_ascend}
use Rattle.labels.specs.Labels.{same_label}
use Rattle.output.specs.Output.{Pattern, label_of}
use Rattle.syntax.specs.Syntax.{Each, none, more, Name, named}
use Rattle.writer.specs.Text.{is_written, written_states, accepting_states, pattern_text, is_name, has_twice, text_size}
use Rattle.writer.specs.ReadBack.{WrittenState}
use Rattle.writer.specs.Refusals.{SomeEpsilon, SomeAccepting, EqualLabels, LabelNotName, Unfit}
use Rattle.writer.proofs.Derived.{name_of}
use Rattle.writer.proofs.Reading.{accepting_in, accepting_out}

-- a test that fails exactly where what it tests does not hold
pub fails : {C : Type 0} (c : Bool) → (c ≡ true) ↔ C → (c ≡ false) ↔ (C → ⊥)
fails true e = (λ h. absurd (true≢false h), λ n. absurd (n (e.0 refl)))
fails false e = (λ h x. false≢true (e.1 x), λ n. refl)

-- and a test that passes exactly there
pub passes : {C : Type 0} (c : Bool) → (c ≡ false) ↔ C → (c ≡ true) ↔ (C → ⊥)
passes true e = (λ h x. true≢false (e.1 x), λ n. refl)
passes false e = (λ h. absurd (false≢true h), λ n. absurd (n (e.0 refl)))

-- one of two tests
either : {A B : Type 0} (a b : Bool) → (a ≡ true) ↔ A → (b ≡ true) ↔ B → ((a || b) ≡ true) ↔ (A ⊎ B)
either a b f g = (λ h. ⊎_elim (λ k. inl (f.0 k)) (λ k. inr (g.0 k)) (or_cases a b h), ⊎_elim (λ x. or_left a b (f.1 x)) (λ y. or_right a b (g.1 y)))

-- a name passes the test
each_all : {f : ℕ → Bool} {u : List ℕ} → Each f u → all f u ≡ true
unfolding all
each_all none = refl
each_all (more {b} {u} e k) = and_both _ _ e (each_all k)

pub name_is : {l : List ℕ} → Name l → is_name l ≡ true
unfolding is_name
name_is (named {b} {u} h k s) = and_both _ _ h (and_both _ _ (each_all k) (lt-ltb (length u) 64 s))

-- where the elements are all different, two images are equal exactly where two elements have the same
twice_out : (f : ℕ → List ℕ) (l : List ℕ) → Distinct l → has_twice (map f l) ≡ true → (p q : ℕ) × p ∈ l × q ∈ l × (p ≡ q → ⊥) × (f p ≡ f q)
unfolding has_twice
twice_out f [] d h = absurd (false≢true h)
twice_out f (x ∷ l) (Distinct.more n d) h =
    ⊎_elim
    (λ k.
    let o = any_out (same_label (f x)) (map f l) k in
    let (q, m, e) = map_out f l o.0 o.1 in
    (x, q, Memᴰ.head refl, Memᴰ.tail m, λ z. n (Memᴰ.cast z m), same_equal (f x) o.0 o.2 ∙ e))
    (λ k. let (p, q, i, j, z, e) = twice_out f l d k in (p, q, Memᴰ.tail i, Memᴰ.tail j, z, e))
    (or_cases (any (same_label (f x)) (map f l)) (has_twice (map f l)) h)

twice_in : (f : ℕ → List ℕ) (l : List ℕ) (p q : ℕ) → p ∈ l → q ∈ l → (p ≡ q → ⊥) → f p ≡ f q → has_twice (map f l) ≡ true
unfolding has_twice
twice_in f [] p q x4 _ n e = elim x4 [ ]
twice_in f (x ∷ l) p q (Memᴰ.head i) (Memᴰ.head j) n e = absurd (n (i ∙ sym j))
twice_in f (x ∷ l) p q (Memᴰ.head i) (Memᴰ.tail j) n e = or_left _ _ (any_in (same_label (f x)) (map_in f j) (equal_same (f x) (f q) (ap f (sym i) ∙ e)))
twice_in f (x ∷ l) p q (Memᴰ.tail i) (Memᴰ.head j) n e = or_left _ _ (any_in (same_label (f x)) (map_in f i) (equal_same (f x) (f p) (ap f (sym j) ∙ sym e)))
twice_in f (x ∷ l) p q (Memᴰ.tail i) (Memᴰ.tail j) n e = or_right (any (same_label (f x)) (map f l)) _ (twice_in f l p q i j n e)

-- a label that fails the test
names_out : (l : List (List ℕ)) → not (all is_name l) ≡ true → (x : List ℕ) × x ∈ l × (Name x → ⊥)
unfolding all
names_out [] h = absurd (false≢true h)
names_out (x ∷ l) h =
    ⊎_elim (λ (t : is_name x ≡ true). let (y, m, n) = names_out l (rw t at h) in (y, Memᴰ.tail m, n))
    (λ (t : is_name x ≡ false). (x, Memᴰ.head refl, λ k. true≢false (sym (name_is k) ∙ t))) (test (is_name x))

names_in : (l : List (List ℕ)) (x : List ℕ) → x ∈ l → (Name x → ⊥) → not (all is_name l) ≡ true
names_in l x m n = ⊎_elim (λ (t : all is_name l ≡ true). absurd (n (name_of x (all_out is_name m t)))) (λ (t : all is_name l ≡ false). rw t) (test (all is_name l))

module _ (P : Pattern) where
  written_in : (q : ℕ) → WrittenState P q → q ∈ written_states P.automaton
  unfolding written_states
  written_in q (h, w) = filter_in (is_written P.automaton) (states_in P.automaton.size q h) w

  written_out : (q : ℕ) → q ∈ written_states P.automaton → WrittenState P q
  unfolding written_states
  written_out q m = let (i, w) = filter_out (is_written P.automaton) q (states P.automaton.size) m in (states_out P.automaton.size q i, w)

  written_distinct : Distinct (written_states P.automaton)
  unfolding written_states
  written_distinct = ascending_distinct (λ q h. omega arith) (ascending_filter (is_written P.automaton) (states_ascend P.automaton.size))

  pub epsilon_test : (has_epsilon P.automaton.transitions ≡ true) ↔ SomeEpsilon P
  unfolding has_epsilon
  epsilon_test = (
    λ h. let (e, m, k) = any_out _ P.automaton.transitions h in (e, m, eqb-true e.kind 0 k),
    λ (e, m, k). any_in _ m (eq-eqb e.kind 0 k),
  )

  pub accepting_test : (eqb (length (accepting_states P.automaton)) 0 ≡ false) ↔ SomeAccepting P
  accepting_test = (out (accepting_states P.automaton) (accepting_out P), λ (q, w, h). into (accepting_states P.automaton) q (accepting_in P q w h))
    where
      out : (l : List ℕ) → ((q : ℕ) → q ∈ l → WrittenState P q × (0 < accept_of P.automaton q)) → eqb (length l) 0 ≡ false → SomeAccepting P
      out [] f h = absurd (true≢false h)
      out (q ∷ l) f h = let (w, a) = f q (Memᴰ.head refl) in (q, w, a)

      into : (l : List ℕ) (q : ℕ) → q ∈ l → eqb (length l) 0 ≡ false
      into [] q m = elim m [ ]
      into (x ∷ l) q m = ne_eqb (suc (length l)) 0 (λ h. omega arith)

  equal_test : (has_twice (map (label_of P) (written_states P.automaton)) ≡ true) ↔ EqualLabels P
  equal_test = (
    λ h. let (p, q, i, j, n, e) = twice_out (label_of P) (written_states P.automaton) written_distinct h in (p, q, written_out p i, written_out q j, n, e),
    λ (p, q, v, w, n, e). twice_in (label_of P) (written_states P.automaton) p q (written_in p v) (written_in q w) n e,
  )

  name_test : (not (all is_name (map (label_of P) (written_states P.automaton))) ≡ true) ↔ LabelNotName P
  name_test = (
    λ h.
        let (x, m, n) = names_out (map (label_of P) (written_states P.automaton)) h in
        let (q, i, e) = map_out (label_of P) (written_states P.automaton) x m in
        (q, written_out q i, λ k. n (rw e k)),
    λ (q, w, n). names_in (map (label_of P) (written_states P.automaton)) (label_of P q) (map_in (label_of P) (written_in q w)) n,
  )

  pub unfit_test : let ls = map (label_of P) (written_states P.automaton) in ((has_twice ls || (not (all is_name ls) || ltb text_size (length (pattern_text P)))) ≡ true) ↔ Unfit P
  unfit_test = either _ _ equal_test (either _ _ name_test (ltb-true text_size (length (pattern_text P)), lt-ltb text_size (length (pattern_text P))))
