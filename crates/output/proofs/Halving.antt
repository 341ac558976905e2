-- Records in order, halved until one is left: the laws by which a record is found among them.
use Prim.Native.Nat.{ℕ, ◌+◌, ◌-◌, ◌*◌, ◌/◌, ◌≤◌, ◌<◌}
use mathlib.Core.Bool.{Bool, true, false, cond, ◌&&◌, true≢false}
use mathlib.Core.List.Memᴰ
use mathlib.Core.List.{List, [], ◌∷◌, ◌++◌}
use mathlib.Core.Logic.{◌⊎◌, ⊎_elim}
use mathlib.Core.Path.{◌≡◌, refl, sym, ◌∙◌, ap, subst}
use native.Mathlib.Omega.{arith}
use borrow.Author.Rules.{rules}
use borrow.Author.Tests.{eq-eqb, eqb-true}
use lib.Dec.{eqb}
use lib.ListN.{length, take, drop}
use Rattle.lists.specs.Lists.{◌∈◌, Ascending}
use Rattle.lists.proofs.Members.{ascending_left, ascending_right, ascending_across}
use Rattle.lists.proofs.Tests.{test, and_parts}
use Rattle.automata.specs.Automaton.{Transition}
use Rattle.automata.specs.Ordered.{less}
use Rattle.automata.specs.Records.{words_of, read_records}
use Rattle.automata.specs.inner.Records.{record_at}
use Rattle.automata.specs.WellFormed.{Before}
use Rattle.automata.proofs.Ordered.{less_lex, lex_less, lex_trans, lex_irreflexive}
use Rattle.output.specs.inner.Finding.{same_record, Placed, Tells}
use Rattle.output.specs.inner.Ordered.{Listed, records_in}
use Rattle.output.proofs.Heads.{listed_read, listed_first, listed_before}
use Rattle.output.proofs.Halves.{records_halves}

-- a record before the first of those in order is none of them
none_ahead : (buf : List ℕ) (at end : ℕ) → Listed buf at end (records_in buf at end) → at < end → (x : Transition) → less (words_of x) (words_of (record_at buf at)) ≡ true → x ∈ records_in buf at end → ⊥
none_ahead buf at end l h x t m =
    let b : Before x (record_at buf at) = less_lex _ _ refl t in
    ⊎_elim (λ (e : x ≡ record_at buf at). lex_irreflexive (subst (Before x) (sym e) b)) (λ n. lex_irreflexive (lex_trans b (listed_before buf at end l h x n)))
    (Memᴰ.cases_cons (subst (λ (ds : List Transition). x ∈ ds) (listed_first buf at end l h) m))

-- the record x, if it is one of those before end, is one of the count from `at` on
pub record Among (buf : List ℕ) (end : ℕ) (x : Transition) (at count : ℕ) : Type 0 where
  pub some : 1 ≤ count
  pub listed : Listed buf at (at + 5 * count) (records_in buf at (at + 5 * count))
  pub part : (y : Transition) → y ∈ records_in buf at (at + 5 * count) → y ∈ records_in buf 0 end
  pub only : x ∈ records_in buf 0 end → x ∈ records_in buf at (at + 5 * count)

pub among_begin : (buf : List ℕ) (end : ℕ) → Listed buf 0 end (records_in buf 0 end) → 0 < end → (x : Transition) → Among buf end x 0 (end / 5)
among_begin buf end l h x =
    let z : end ≡ 0 + 5 * (end / 5) = omega (arith, l.behind) in
    record {
      some = omega (arith, l.behind);
      listed = subst (λ (k : ℕ). Listed buf 0 k (records_in buf 0 k)) z l;
      part = λ y m. subst (λ (k : ℕ). y ∈ records_in buf 0 k) (sym z) m;
      only = λ m. subst (λ (k : ℕ). x ∈ records_in buf 0 k) z m;
    }

module _ (buf : List ℕ) (end : ℕ) (x : Transition) (at count : ℕ) (g : Among buf end x at count) where
  pub among_inside : 1 < count → at + 5 * (count / 2) + 5 ≤ length buf
  among_inside h = omega (arith, g.listed.inside)

  pub among_end : count ≤ 1 → Placed buf end x at
  unfolding records_in read_records
  among_end h =
      let z : at + 5 * count - (at + 5) ≡ 0 = omega (arith, g.some) in
      let f : records_in buf at (at + 5 * count) ≡ record_at buf at ∷ [] =
      listed_first buf at (at + 5 * count) g.listed (omega (arith, g.some)) ∙ ap (λ (k : ℕ). record_at buf at ∷ read_records (take k (drop (at + 5) buf))) z in
      record {
        inside = omega (arith, g.listed.inside, g.some);
        one = g.part (record_at buf at) (subst (λ (ds : List Transition). record_at buf at ∈ ds) (sym f) (Memᴰ.head refl));
        only = λ m. ⊎_elim (λ e. e) (λ n. absurd (Memᴰ.not-nil n)) (Memᴰ.cases_cons (subst (λ (ds : List Transition). x ∈ ds) f (g.only m)));
      }

  -- the first records of those left, and those behind them
  module _ (k : ℕ) (h : k ≤ count) where
    split : records_in buf at (at + 5 * count) ≡ records_in buf at (at + 5 * k) ++ records_in buf (at + 5 * k) (at + 5 * count)
    split = records_halves buf at k count h g.listed.inside

    both_ascend : Ascending Before (records_in buf at (at + 5 * k) ++ records_in buf (at + 5 * k) (at + 5 * count))
    both_ascend = subst (Ascending Before) split g.listed.ascends

    front_listed : Listed buf at (at + 5 * k) (records_in buf at (at + 5 * k))
    front_listed = listed_read buf at (at + 5 * k) k refl (omega (arith, g.listed.inside))
        (ascending_left _ (records_in buf (at + 5 * k) (at + 5 * count)) both_ascend)

    back_listed : Listed buf (at + 5 * k) (at + 5 * count) (records_in buf (at + 5 * k) (at + 5 * count))
    back_listed = listed_read buf (at + 5 * k) (at + 5 * count) (count - k) (omega arith) g.listed.inside
        (ascending_right (records_in buf at (at + 5 * k)) _ both_ascend)

    either : x ∈ records_in buf 0 end → (x ∈ records_in buf at (at + 5 * k)) ⊎ (x ∈ records_in buf (at + 5 * k) (at + 5 * count))
    either m = Memᴰ.append_cases (records_in buf at (at + 5 * k)) (subst (λ (ds : List Transition). x ∈ ds) split (g.only m))

  module _ (h : 1 < count) where
    stay : less (words_of x) (words_of (record_at buf (at + 5 * (count / 2)))) ≡ true → Among buf end x at (count - count / 2)
    stay t =
        record {
          some = omega arith;
          listed = front_listed (count - count / 2) (omega arith);
          part = λ y m. g.part y (subst (λ (ds : List Transition). y ∈ ds) (sym (split (count - count / 2) (omega arith))) (Memᴰ.append_left _ m));
          only = λ m.
              ⊎_elim
              (λ n. subst (λ (ds : List Transition). x ∈ ds) (sym (records_halves buf at (count / 2) (count - count / 2) (omega arith) (omega (arith, g.listed.inside)))) (Memᴰ.append_left _ n))
              (λ n. absurd (none_ahead buf (at + 5 * (count / 2)) (at + 5 * count) (back_listed (count / 2) (omega arith)) (omega arith) x t n))
              (either (count / 2) (omega arith) m);
        }

    move : less (words_of x) (words_of (record_at buf (at + 5 * (count / 2)))) ≡ false → Among buf end x (at + 5 * (count / 2)) (count - count / 2)
    move t =
        let z : at + 5 * count ≡ at + 5 * (count / 2) + 5 * (count - count / 2) = omega arith in
        let i : ℕ = at + 5 * (count / 2) in
        let first : record_at buf i ∈ records_in buf i (at + 5 * count) =
        subst (λ (ds : List Transition). record_at buf i ∈ ds) (sym (listed_first buf i (at + 5 * count) (back_listed (count / 2) (omega arith)) (omega arith))) (Memᴰ.head refl) in
        record {
          some = omega arith;
          listed = subst (λ (k : ℕ). Listed buf i k (records_in buf i k)) z (back_listed (count / 2) (omega arith));
          part = λ y m. g.part y (subst (λ (ds : List Transition). y ∈ ds) (sym (split (count / 2) (omega arith))) (Memᴰ.append_right (records_in buf at i) (subst (λ (k : ℕ). y ∈ records_in buf i k) (sym z) m)));
          only = λ m.
              ⊎_elim (λ n. absurd (true≢false (sym (lex_less (ascending_across (records_in buf at i) (records_in buf i (at + 5 * count)) (both_ascend (count / 2) (omega arith)) x (record_at buf i) n first)) ∙ t)))
              (λ n. subst (λ (k : ℕ). x ∈ records_in buf i k) z n) (either (count / 2) (omega arith) m);
        }

    pub among_next : (r : ℕ) → r ≡ cond (less (words_of x) (words_of (record_at buf (at + 5 * (count / 2))))) at (at + 5 * (count / 2)) → Among buf end x r (count - count / 2)
    among_next r e =
        ⊎_elim (λ (t : less (words_of x) (words_of (record_at buf (at + 5 * (count / 2)))) ≡ true). subst (λ (k : ℕ). Among buf end x k (count - count / 2)) (sym (e ∙ rw t)) (stay t))
        (λ (t : less (words_of x) (words_of (record_at buf (at + 5 * (count / 2)))) ≡ false). subst (λ (k : ℕ). Among buf end x k (count - count / 2)) (sym (e ∙ rw t)) (move t))
        (test (less (words_of x) (words_of (record_at buf (at + 5 * (count / 2))))))

pub ruleset among_laws = (among_begin, among_inside, among_end, among_next, rules)

-- the answers of `pick_place`
module _ (t b : Bool) (e : t ≡ b) (at i : ℕ) where
  pub pick_first : t ≡ true → at ≡ cond b at i
  pick_first h = rw (← e, h)

  pub pick_second : t ≡ false → i ≡ cond b at i
  pick_second h = rw (← e, h)

pub ruleset pick_laws = (pick_first, pick_second, rules)

-- the answers of `is_known`
tells_no : (x : Transition) (ds : List Transition) → (x ∈ ds → ⊥) → Tells false x ds
tells_no x ds f = record { yes = λ e. absurd (true≢false (sym e)); no = λ e. f }

pub known_none : (buf : List ℕ) (end : ℕ) (x : Transition) → end ≡ 0 → Tells false x (records_in buf 0 end)
unfolding records_in read_records
known_none buf end x h = let z : end - 0 ≡ 0 = omega arith in tells_no x _ (λ m. Memᴰ.not-nil (subst (λ (k : ℕ). x ∈ read_records (take k buf)) z m))

-- a transition is known by its words
same_record_lem : (d e : Transition) → same_record d e ≡ true → e ≡ d
same_record_lem d e h =
    let a = and_parts (eqb d.from e.from && eqb d.kind e.kind && eqb d.first e.first && eqb d.last e.last) _ h in
    let b = and_parts (eqb d.from e.from && eqb d.kind e.kind && eqb d.first e.first) _ a.0 in
    let f = and_parts (eqb d.from e.from && eqb d.kind e.kind) _ b.0 in
    let g = and_parts (eqb d.from e.from) _ f.0 in
    let v : d.from ≡ e.from = eqb-true _ _ g.0 in
    let w : d.kind ≡ e.kind = eqb-true _ _ g.1 in
    let x : d.first ≡ e.first = eqb-true _ _ f.1 in
    let y : d.last ≡ e.last = eqb-true _ _ b.1 in
    let z : d.to ≡ e.to = eqb-true _ _ a.1 in
    rw (v, w, x, y, z)

self_record : (d : Transition) → same_record d d ≡ true
self_record d = rw (eq-eqb d.from d.from refl, eq-eqb d.kind d.kind refl, eq-eqb d.first d.first refl, eq-eqb d.last d.last refl, eq-eqb d.to d.to refl)

pub known_found : (buf : List ℕ) (end : ℕ) (x : Transition) (at : ℕ) → Placed buf end x at → (t : Bool) → t ≡ same_record (record_at buf at) x → Tells t x (records_in buf 0 end)
known_found buf end x at p t e =
    record {
      yes = λ h. subst (λ (y : Transition). y ∈ records_in buf 0 end) (sym (same_record_lem (record_at buf at) x (sym e ∙ h))) p.one;
      no = λ h m. true≢false (sym (self_record (record_at buf at)) ∙ ap (same_record (record_at buf at)) (sym (p.only m)) ∙ sym e ∙ h);
    }

pub ruleset known_laws = (known_none, known_found, rules)
