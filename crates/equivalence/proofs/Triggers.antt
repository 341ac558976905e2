-- Triggers: the tests are what they test, and each trigger has a first record. Assumes nothing.
use Rattle.std.proofs.Common.{Bool, true, false, not, List, [], ◌∷◌, ◌⊎◌, inl, inr, ⊎_elim, ◌≡◌, refl, sym, ◌∙◌, ap, arith, eq-eqb, eqb-true, ltb-true, ltb-false, eqb, ltb}
use mathlib.Core.Bool.{false≢true}
use mathlib.Core.List.Memᴰ
use borrow.Author.Tests.{not-true}
use Rattle.lists.specs.Lists.{◌∈◌, any}
use Rattle.lists.proofs.Lists.{any_in, any_out, filter_in, filter_out}
use Rattle.lists.proofs.Tests.{test, and_both, and_parts}
use Rattle.automata.specs.Automaton.{Transition}
use Rattle.equivalence.specs.Triggers.{SameTrigger, FirstOfTrigger, TriggersWithin, same_trigger, is_lower, is_first, firsts, is_lacking, triggers_within}

pub trigger_self : (d : Transition) → SameTrigger d d
trigger_self d = record { kind = refl; first = refl; last = refl }

pub trigger_turn : {d e : Transition} → SameTrigger d e → SameTrigger e d
trigger_turn s = record { kind = sym s.kind; first = sym s.first; last = sym s.last }

pub trigger_chain : {c d e : Transition} → SameTrigger c d → SameTrigger d e → SameTrigger c e
trigger_chain s t = record { kind = s.kind ∙ t.kind; first = s.first ∙ t.first; last = s.last ∙ t.last }

-- the test
pub trigger_test : (d e : Transition) → same_trigger d e ≡ true → SameTrigger d e
unfolding same_trigger
trigger_test d e h =
    let p = and_parts (eqb d.kind e.kind) _ h in
    let q = and_parts (eqb d.first e.first) _ p.1 in
    record { kind = eqb-true _ _ p.0; first = eqb-true _ _ q.0; last = eqb-true _ _ q.1 }

pub trigger_passes : {d e : Transition} → SameTrigger d e → same_trigger d e ≡ true
unfolding same_trigger
trigger_passes {d} {e} s =
    and_both (eqb d.kind e.kind) _ (eq-eqb _ _ s.kind) (and_both (eqb d.first e.first) _ (eq-eqb _ _ s.first) (eq-eqb _ _ s.last))

pub trigger_apart : (d e : Transition) → same_trigger d e ≡ false → SameTrigger d e → ⊥
trigger_apart d e f s = false≢true (sym f ∙ trigger_passes s)

pub none_out : {X : Type 0} (f : X → Bool) (l : List X) → not (any f l) ≡ true → (x : X) → x ∈ l → f x ≡ true → ⊥
none_out f l h x m t = false≢true (sym (not-true (any f l) h) ∙ any_in f m t)

pub none_in : {X : Type 0} (f : X → Bool) (l : List X) → ((x : X) → x ∈ l → f x ≡ true → ⊥) → not (any f l) ≡ true
none_in f l h = ⊎_elim (λ t. let r = any_out f l t in absurd (h r.0 r.1 r.2)) (λ t. ap not t) (test (any f l))

-- the first records
pub firsts_out : (es : List Transition) (e : Transition) → e ∈ firsts es → FirstOfTrigger es e
unfolding firsts is_first is_lower
firsts_out es e m =
    let k = filter_out (is_first es) e es m in
    record {
      one = k.0;
      lowest = λ d n s.
          ⊎_elim (λ (t : ltb d.to e.to ≡ true). absurd (none_out (is_lower e) es k.1 d n (and_both _ _ (trigger_passes s) t)))
          (λ (t : ltb d.to e.to ≡ false). ltb-false d.to e.to t) (test (ltb d.to e.to));
    }

pub firsts_in : {es : List Transition} {e : Transition} → FirstOfTrigger es e → e ∈ firsts es
unfolding firsts is_first is_lower
firsts_in {es} {e} f =
    filter_in (is_first es) f.one
    (none_in (is_lower e) es (λ d m t. let p = and_parts (same_trigger d e) _ t in let l = ltb-true d.to e.to p.1 in omega (arith, f.lowest d m (trigger_test d e p.0))))

-- those of one trigger have one target
pub first_target_lem : {es : List Transition} {d e : Transition} → FirstOfTrigger es d → FirstOfTrigger es e → SameTrigger d e → d.to ≡ e.to
first_target_lem {d = d} {e = e} f g s = omega (arith, f.lowest e g.one (trigger_turn s), g.lowest d f.one s)

-- and there is one for each trigger
abbrev Of : Transition → List Transition → Type 0
Of d es = (e : Transition) × FirstOfTrigger es e × SameTrigger d e

abbrev NoneOf : Transition → List Transition → Type 0
NoneOf d es = (e : Transition) → e ∈ es → SameTrigger d e → ⊥

first_or : (d : Transition) (es : List Transition) → Of d es ⊎ NoneOf d es
first_or d [] = inr (λ e m. elim m [ ])
first_or d (c ∷ es) = ⊎_elim (λ t. inl (same (trigger_test d c t) (first_or d es))) (λ t. other (trigger_apart d c t) (first_or d es)) (test (same_trigger d c))
  where
    lone : SameTrigger d c → NoneOf d es → Of d (c ∷ es)
    lone s n = (c, record { one = Memᴰ.head refl; lowest = λ e m t. ⊎_elim (λ (q : e ≡ c). rw q (omega arith)) (λ k. absurd (n e k (trigger_chain s (trigger_turn t)))) (Memᴰ.cases_cons m) }, s)

    lower : SameTrigger d c → (e : Transition) → FirstOfTrigger es e → SameTrigger d e → (b : Bool) → ltb e.to c.to ≡ b → Of d (c ∷ es)
    lower s e f t true l = (e, record { one = Memᴰ.tail f.one; lowest = λ x m u. ⊎_elim (λ (q : x ≡ c). rw q (omega (arith, ltb-true e.to c.to l))) (λ k. f.lowest x k u) (Memᴰ.cases_cons m) }, t)
    lower s e f t false l = (c, record { one = Memᴰ.head refl; lowest = λ x m u. ⊎_elim (λ (q : x ≡ c). rw q (omega arith)) (λ k. omega (arith, ltb-false e.to c.to l, f.lowest x k (trigger_chain u (trigger_chain (trigger_turn s) t)))) (Memᴰ.cases_cons m) }, s)

    same : SameTrigger d c → Of d es ⊎ NoneOf d es → Of d (c ∷ es)
    same s (inl (e, f, t)) = lower s e f t (ltb e.to c.to) refl
    same s (inr n) = lone s n

    other : (SameTrigger d c → ⊥) → Of d es ⊎ NoneOf d es → Of d (c ∷ es) ⊎ NoneOf d (c ∷ es)
    other o (inl (e, f, t)) = inl (e, record { one = Memᴰ.tail f.one; lowest = λ x m u. ⊎_elim (λ (q : x ≡ c). absurd (o (rw q at (trigger_chain t (trigger_turn u))))) (λ k. f.lowest x k u) (Memᴰ.cases_cons m) }, t)
    other o (inr n) = inr (λ e m s. ⊎_elim (λ (q : e ≡ c). o (rw q at s)) (λ k. n e k s) (Memᴰ.cases_cons m))

pub first_exists : (es : List Transition) (d : Transition) → d ∈ es → (e : Transition) × FirstOfTrigger es e × SameTrigger d e
first_exists es d m = ⊎_elim (λ f. f) (λ n. absurd (n d m (trigger_self d))) (first_or d es)

-- triggers of ds among those of es
pub within_test : (ds es : List Transition) → triggers_within ds es ≡ true → TriggersWithin ds es
unfolding triggers_within is_lacking
within_test ds es h d m =
    ⊎_elim (λ (t : any (same_trigger d) es ≡ true). let r = any_out (same_trigger d) es t in (r.0, r.1, trigger_test d r.0 r.2))
    (λ (t : any (same_trigger d) es ≡ false). absurd (none_out (is_lacking es) ds h d m (ap not t))) (test (any (same_trigger d) es))

pub within_passes : {ds es : List Transition} → TriggersWithin ds es → triggers_within ds es ≡ true
unfolding triggers_within is_lacking
within_passes {ds} {es} w = none_in (is_lacking es) ds (λ d m t. let r = w d m in false≢true (sym (not-true (any (same_trigger d) es) t) ∙ any_in (same_trigger d) r.1 (trigger_passes r.2)))

pub within_self : (es : List Transition) → TriggersWithin es es
within_self es d m = (d, m, trigger_self d)

pub within_chain : {cs ds es : List Transition} → TriggersWithin cs ds → TriggersWithin ds es → TriggersWithin cs es
within_chain v w c m = let r = v c m in let s = w r.0 r.1 in (s.0, s.1, trigger_chain r.2 s.2)
