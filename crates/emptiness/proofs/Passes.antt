-- The passes over the records: the laws by which they are proved. Whatever state a pass meets, all transitions that leave it are left.
use Prim.Native.Nat.{ℕ, zero, suc, ◌+◌, ◌-◌, ◌*◌, ◌/◌, ◌≤◌, ◌<◌}
use mathlib.Core.Bool.{true, false}
use mathlib.Core.List.Memᴰ
use mathlib.Core.List.{List, [], ◌∷◌}
use mathlib.Core.Logic.{◌⊎◌, inl, inr, ⊎_elim}
use mathlib.Core.Path.{◌≡◌, refl, sym, ap, ◌∙◌, subst}
use native.Mathlib.Nat.{eq-or-lt_of_le}
use native.Mathlib.Omega.{arith}
use borrow.Author.Rules.{rules}
use lib.ListN.{length, get_or, take, drop, set, length-set, length-replicate}
use Rattle.std.specs.Simd.{first_chunks}
use Rattle.std.proofs.lemmas.List.{take_rest}
use Rattle.lists.specs.Lists.{◌∈◌, Ascending, none, more}
use Rattle.automata.specs.Automaton.{Transition, Automaton, InBounds, accept_of}
use Rattle.automata.specs.Records.{read_records}
use Rattle.automata.specs.inner.Records.{record_at}
use Rattle.automata.specs.inner.Chunks.{records_of}
use Rattle.automata.proofs.Chunks.{records_chunks, records_next, records_done}
use Rattle.automata.proofs.Records.{records_at_lem, record_in, record_out}
use Rattle.sheets.specs.inner.Accepted.{Accepted, record_count}
use Rattle.sheets.specs.inner.Runs.{Rising}
use Rattle.sheets.specs.Sheet.{state_count, records_at, read}
use Rattle.sheets.proofs.Below.{rising}
use Rattle.sheets.proofs.Meaning.{read_well}
use Rattle.emptiness.specs.declared.Pass.{Pass}
use Rattle.emptiness.specs.declared.Pass.TheVariants.{Accepts, Rejects, Undecided}
use Rattle.emptiness.specs.inner.Marks.{Marked, Unmarked}
use Rattle.emptiness.specs.inner.Passes.{MetStates, PassTells, accepts, rejects, undecided, PassInvariant, backward}
use Rattle.emptiness.specs.Reachable.{Path, stay, has_reachable_accepting}
use Rattle.emptiness.proofs.Answers.{no_marks}
use Rattle.emptiness.proofs.Marks.{mark_here, mark_out, mark_old}
use Rattle.emptiness.proofs.Search.{path_more, done_rejects, start_inside, start_only}
use Rattle.emptiness.proofs.Theorems.{accepting_paths}

-- what a pass tells
module _ (A : Automaton) (marks : List ℕ) (r : Pass) (t : PassTells A marks r) where
  pub tells_accepts : r ≡ Accepts → true ≡ has_reachable_accepting A
  tells_accepts e = go (subst (PassTells A marks) e t)
    where
      go : PassTells A marks Accepts → true ≡ has_reachable_accepting A
      go (accepts h) = sym h

  pub tells_rejects : r ≡ Rejects → false ≡ has_reachable_accepting A
  tells_rejects e = go (subst (PassTells A marks) e t)
    where
      go : PassTells A marks Rejects → false ≡ has_reachable_accepting A
      go (rejects h) = sym h

  pub tells_met : r ≡ Undecided → MetStates A marks
  tells_met e = go (subst (PassTells A marks) e t)
    where
      go : PassTells A marks Undecided → MetStates A marks
      go (undecided m) = m

pub ruleset tells_laws = (no_marks, tells_accepts, tells_rejects, length-replicate, rules)

-- one transition of a pass
module _ (A : Automaton) (ok : InBounds A) (R : ℕ → ℕ → Type 0) (marks : List ℕ) (c : Transition) (es : List Transition) (i : PassInvariant R A marks (c ∷ es)) where
  split : (e : Transition) → e ∈ (c ∷ es) → (e ≡ c) ⊎ (e ∈ es)
  split e (Memᴰ.head q) = inl q
  split e (Memᴰ.tail m) = inr m

  this : c ∈ A.transitions
  this = i.among c (Memᴰ.head refl)

  rest : ((e : Transition) → e ∈ es → R c.from e.from) × Ascending (λ d e. R d.from e.from) es
  rest = go i.ordered
    where
      go : Ascending (λ d e. R d.from e.from) (c ∷ es) → ((e : Transition) → e ∈ es → R c.from e.from) × Ascending (λ d e. R d.from e.from) es
      go (more f r) = (f, r)

  passed_on : (e : Transition) → e ∈ A.transitions → (e ∈ es) ⊎ ((d : Transition) → d ∈ es → R e.from d.from)
  passed_on e m =
      ⊎_elim (λ l. ⊎_elim (λ q. inr (λ d n. subst (λ (x : Transition). R x.from d.from) (sym q) (rest.0 d n))) inl (split e l))
      (λ f. inr (λ d n. f d (Memᴰ.tail n))) (i.passed e m)

  -- the marks stay
  passes : (Marked marks c.from → Marked marks c.to) → PassInvariant R A marks es
  passes p =
      record {
        met = i.met;
        ordered = rest.1;
        among = λ e m. i.among e (Memᴰ.tail m);
        passed = passed_on;
        followed = λ e m f.
            ⊎_elim inl
            (λ l. ⊎_elim (λ q. inl (subst (λ (x : Transition). Marked marks x.to) (sym q) (p (subst (λ (x : Transition). Marked marks x.from) q f)))) inr (split e l))
            (i.followed e m f);
      }

  pub pass_unmet : get_or marks c.from 0 ≡ 0 → PassInvariant R A marks es
  pass_unmet z = passes (λ m. absurd (omega arith))

  pub pass_met : (get_or marks c.to 0 ≡ 0 → ⊥) → PassInvariant R A marks es
  pass_met z = passes (λ m. omega (arith, z))

  -- the target is met
  module _ (met : get_or marks c.from 0 ≡ 0 → ⊥) (w : ℕ) (e : w ≡ get_or A.accept c.to 0) where
    way : Path A A.start c.to
    way = path_more (i.met.paths c.from (omega (arith, met))) c this refl

    pub pass_accepts : 0 < w → has_reachable_accepting A ≡ true
    pass_accepts l = (accepting_paths A ok).1 (c.to, way, omega (arith, e))

    pub pass_marks : w ≤ 0 → c.to < length marks → (R c.to c.from → ⊥) → (c.from ≡ c.to → ⊥) → PassInvariant R A (set marks c.to 1) es
    pass_marks l inside further other =
        record {
          met = record {
            wide = length-set marks c.to 1 ∙ i.met.wide;
            started = old _ i.met.started;
            paths = λ x m. ⊎_elim (λ q. subst (Path A A.start) (sym q) way) (i.met.paths x) (out x m);
            rejects = λ x m. ⊎_elim (λ q. subst (λ (y : ℕ). accept_of A y ≡ 0) (sym q) (omega (arith, e))) (i.met.rejects x) (out x m);
          };
          ordered = rest.1;
          among = λ d m. i.among d (Memᴰ.tail m);
          passed = passed_on;
          followed = λ d m f.
              ⊎_elim (λ q. inr (above d m q))
              (λ o.
              ⊎_elim (λ t. inl (old _ t))
              (λ n. ⊎_elim (λ q. inl (subst (λ (x : Transition). Marked (set marks c.to 1) x.to) (sym q) (mark_here marks c.to inside))) inr (split d n))
              (i.followed d m o))
              (out d.from f);
        }
      where
        old : (x : ℕ) → Marked marks x → Marked (set marks c.to 1) x
        old = mark_old marks c.to inside

        out : (x : ℕ) → Marked (set marks c.to 1) x → (x ≡ c.to) ⊎ Marked marks x
        out = mark_out marks c.to inside

        above : (d : Transition) → d ∈ A.transitions → d.from ≡ c.to → d ∈ es
        above d m q =
            ⊎_elim (λ n. ⊎_elim (λ p. absurd (other (ap (λ (x : Transition). x.from) (sym p) ∙ q))) (λ n. n) (split d n))
            (λ f. absurd (further (subst (λ (x : ℕ). R x c.from) q (f c (Memᴰ.head refl))))) (i.passed d m)

pub pass_ends : (A : Automaton) (ok : InBounds A) (R : ℕ → ℕ → Type 0) (marks : List ℕ) → PassInvariant R A marks [] → has_reachable_accepting A ≡ false
pass_ends A ok R marks i =
    done_rejects A ok marks i.met.started
    (λ x m. record {
      rejects = i.met.rejects x m;
      followed = λ e n f. ⊎_elim (λ t. t) (λ n. elim n [ ]) (i.followed e n (subst (Marked marks) (sym f) m));
    })

-- a pass begins with all transitions left
pass_begins : (R : ℕ → ℕ → Type 0) (A : Automaton) (marks : List ℕ) (es : List Transition) → MetStates A marks → Ascending (λ d e. R d.from e.from) es
    → ((e : Transition) → e ∈ es → e ∈ A.transitions) → ((e : Transition) → e ∈ A.transitions → e ∈ es) → PassInvariant R A marks es
pass_begins R A marks es m o f g = record { met = m; ordered = o; among = f; passed = λ e n. inl (g e n); followed = λ e n l. inr (g e n) }

pub met_undecided : (A : Automaton) (marks : List ℕ) → MetStates A marks → PassTells A marks Undecided
met_undecided A marks m = undecided m

-- the orders of the two passes
abbrev pub Up : ℕ → ℕ → Type 0
Up x y = x ≤ y

abbrev pub Down : ℕ → ℕ → Type 0
Down x y = y ≤ x

-- the records of some words, the last first
rising_head : {c d : Transition} {es : List Transition} → Rising (c ∷ es) → d ∈ es → c.from ≤ d.from
rising_head (more f r) m = f _ m

rising_tail : {c : Transition} {es : List Transition} → Rising (c ∷ es) → Rising es
rising_tail (more f r) = r

rising_at : (m : ℕ) (s : List ℕ) (o : ℕ) → length s ≡ o + 5 * m → Rising (read_records (drop o s)) → (i j : ℕ) → i < j → j < m → get_or s (o + 5 * i) 0 ≤ get_or s (o + 5 * j) 0
rising_at zero s o l r i j h k = absurd (omega arith)
rising_at (suc m) s o l r i zero h k = absurd (omega arith)
rising_at (suc m) s o l r zero (suc j) h k =
    let z : o + 5 + 5 * j ≡ o + 5 * suc j = omega arith in
    let y : o ≡ o + 5 * 0 = omega arith in
    subst (λ (x : ℕ). get_or s x 0 ≤ get_or s (o + 5 * suc j) 0) y
    (rising_head (rw (records_at_lem s o (omega arith)) at r) (subst (λ (x : ℕ). record_at s x ∈ read_records (drop (o + 5) s)) z (record_in m s (o + 5) (omega arith) j (omega arith))))
rising_at (suc m) s o l r (suc i) (suc j) h k =
    let z : (x : ℕ) → o + 5 + 5 * x ≡ o + 5 * suc x = λ x. omega arith in
    subst (λ (x : ℕ). get_or s x 0 ≤ get_or s (o + 5 * suc j) 0) (z i)
    (subst (λ (x : ℕ). get_or s (o + 5 + 5 * i) 0 ≤ get_or s x 0) (z j) (rising_at m s (o + 5) (omega arith) (rising_tail (rw (records_at_lem s o (omega arith)) at r)) i j (omega arith) (omega arith)))

module _ (s : List ℕ) (o : ℕ) where
  back_in : (k j : ℕ) → j < k → record_at s (o + 5 * j) ∈ backward s o k
  unfolding backward
  back_in zero j h = absurd (omega arith)
  back_in (suc k) j h =
      ⊎_elim (λ (q : j ≡ k). Memᴰ.head (ap (λ (x : ℕ). record_at s (o + 5 * x)) q)) (λ (l : j < k). Memᴰ.tail (back_in k j l)) (eq-or-lt_of_le (below j k h))
    where
      below : (j k : ℕ) → j < suc k → j ≤ k
      below j k h = omega arith

  back_out : (k : ℕ) (e : Transition) → e ∈ backward s o k → (j : ℕ) × (j < k) × (e ≡ record_at s (o + 5 * j))
  unfolding backward
  back_out zero e m = elim m [ ]
  back_out (suc k) e (Memᴰ.head q) = (k, omega arith, q)
  back_out (suc k) e (Memᴰ.tail m) = let r = back_out k e m in (r.0, omega (arith, r.1), r.2)

  back_ordered : (m : ℕ) → length s ≡ o + 5 * m → Rising (read_records (drop o s)) → (k : ℕ) → k ≤ m → Ascending (λ d e. Down d.from e.from) (backward s o k)
  unfolding backward
  back_ordered m l r zero h = none
  back_ordered m l r (suc k) h =
      more
      (λ e n. let b = back_out k e n in subst (λ (x : Transition). x.from ≤ get_or s (o + 5 * k) 0) (sym b.2) (rising_at m s o l r b.0 k b.1 (omega arith)))
      (back_ordered m l r k (omega arith))

-- the start alone is met
module _ (s : List ℕ) (a : Accepted s) where
  ok : InBounds (read s)
  ok = (read_well s a).states

  pub start_accepts : (marks : List ℕ) (w : ℕ) → w ≡ get_or (read s).accept (get_or s 1 0) 0 → 0 < w → PassTells (read s) marks Accepts
  start_accepts marks w e l = accepts ((accepting_paths (read s) ok).1 (get_or s 1 0, stay, omega (arith, e)))

  pub start_met : (marks : List ℕ) → Unmarked marks → (w : ℕ) → w ≡ get_or (read s).accept (get_or s 1 0) 0 → w ≤ 0 → MetStates (read s) (set marks (get_or s 1 0) 1)
  start_met marks u w e l =
      record {
        wide = length-set marks (get_or s 1 0) 1 ∙ u.wide;
        started = mark_here marks (get_or s 1 0) (start_inside s a marks u);
        paths = λ x m. subst (Path (read s) (get_or s 1 0)) (sym (start_only s a marks u x m)) stay;
        rejects = λ x m. subst (λ (q : ℕ). accept_of (read s) q ≡ 0) (sym (start_only s a marks u x m)) (omega (arith, e));
      }

  -- a record of the sheet
  module _ (marks : List ℕ) (m : MetStates (read s) marks) (t : List ℕ) (at : ℕ) (k : record_at t at ∈ (read s).transitions) where
    pub from_inside : get_or t at 0 < length marks
    from_inside = omega (arith, ok.froms _ k, a.few_states, m.wide)

    pub to_state_lem : get_or t (at + 4) 0 < state_count s
    to_state_lem = ok.tos _ k

    pub to_inside : get_or t (at + 4) 0 < length marks
    to_inside = omega (arith, to_state_lem, a.few_states, m.wide)

  -- upward
  pub up_begins : (marks : List ℕ) (t : List ℕ) (rs : List (List ℕ)) → t ≡ take (length s - records_at s) (drop (records_at s) s) → rs ≡ first_chunks 5 (length t / 5) t
      → MetStates (read s) marks → PassInvariant Up (read s) marks (records_of rs)
  up_begins marks t rs e f m =
      let all : (read s).transitions ≡ records_of rs = sym (ap records_of f ∙ records_chunks t ∙ ap read_records (e ∙ take_rest s (records_at s))) in
      subst (PassInvariant Up (read s) marks) all (pass_begins Up (read s) marks (read s).transitions m (rising (read_well s a).ascends) (λ e n. n) (λ e n. n))

  module _ (marks : List ℕ) (rs : List (List ℕ)) (i : ℕ) (v : PassInvariant Up (read s) marks (records_of (drop i rs))) where
    pub up_ends : length rs ≤ i → PassTells (read s) marks Rejects
    up_ends h = rejects (pass_ends (read s) ok Up marks (rw (records_done rs i h) at v))

    module _ (h : i < length rs) where
      abbrev r : List ℕ
      r = get_or rs i []

      up : PassInvariant Up (read s) marks (record_at (get_or rs i []) 0 ∷ records_of (drop (i + 1) rs))
      up = rw (records_next rs i h) at v

      pub up_record : record_at (get_or rs i []) 0 ∈ (read s).transitions
      up_record = up.among _ (Memᴰ.head refl)

      pub up_from : get_or r 0 0 < length marks
      up_from = from_inside marks v.met r 0 up_record

      pub up_state : get_or r 4 0 < state_count s
      up_state = to_state_lem marks v.met r 0 up_record

      pub up_to : get_or r 4 0 < length marks
      up_to = to_inside marks v.met r 0 up_record

      pub up_unmet : get_or marks (get_or r 0 0) 0 ≡ 0 → PassInvariant Up (read s) marks (records_of (drop (i + 1) rs))
      up_unmet = pass_unmet (read s) ok Up marks (record_at r 0) _ up

      pub up_met : (get_or marks (get_or r 4 0) 0 ≡ 0 → ⊥) → PassInvariant Up (read s) marks (records_of (drop (i + 1) rs))
      up_met = pass_met (read s) ok Up marks (record_at r 0) _ up

      module _ (met : get_or marks (get_or r 0 0) 0 ≡ 0 → ⊥) where
        pub up_accepts : (w : ℕ) → w ≡ get_or (read s).accept (get_or r 4 0) 0 → 0 < w → PassTells (read s) marks Accepts
        up_accepts w e l = accepts (pass_accepts (read s) ok Up marks (record_at r 0) _ up met w e l)

        pub up_marks : get_or (read s).accept (get_or r 4 0) 0 ≤ 0 → get_or r 0 0 < get_or r 4 0 → PassInvariant Up (read s) (set marks (get_or r 4 0) 1) (records_of (drop (i + 1) rs))
        up_marks l o =
            pass_marks (read s) ok Up marks (record_at r 0) _ up met _ refl l up_to (λ (u : get_or r 4 0 ≤ get_or r 0 0). omega arith)
            (λ (q : get_or r 0 0 ≡ get_or r 4 0). omega arith)

  -- downward
  pub down_begins : (marks : List ℕ) → MetStates (read s) marks → PassInvariant Down (read s) marks (backward s (records_at s) (record_count s))
  down_begins marks m =
      pass_begins Down (read s) marks (backward s (records_at s) (record_count s)) m
      (back_ordered s (records_at s) (record_count s) a.whole (rising (read_well s a).ascends) (record_count s) (omega arith))
      (λ e n. let r = back_out s (records_at s) (record_count s) e n in subst (λ (x : Transition). x ∈ (read s).transitions) (sym r.2) (record_in (record_count s) s (records_at s) a.whole r.0 r.1))
      (λ e n. let r = record_out (record_count s) s (records_at s) a.whole e n in subst (λ (x : Transition). x ∈ backward s (records_at s) (record_count s)) (sym r.2) (back_in s (records_at s) (record_count s) r.0 r.1))

  pub down_ends : (marks : List ℕ) (left : ℕ) → PassInvariant Down (read s) marks (backward s (records_at s) left) → left ≤ 0 → PassTells (read s) marks Rejects
  unfolding backward
  down_ends marks left i h =
      let z : left ≡ 0 = omega arith in rejects (pass_ends (read s) ok Down marks (subst (λ (k : ℕ). PassInvariant Down (read s) marks (backward s (records_at s) k)) z i))

  module _ (marks : List ℕ) (left : ℕ) (i : PassInvariant Down (read s) marks (backward s (records_at s) left)) (h : 0 < left) where
    abbrev at : ℕ
    at = records_at s + 5 * (left - 1)

    down : PassInvariant Down (read s) marks (record_at s (records_at s + 5 * (left - 1)) ∷ backward s (records_at s) (left - 1))
    unfolding backward
    down = let z : left ≡ suc (left - 1) = omega arith in subst (λ (k : ℕ). PassInvariant Down (read s) marks (backward s (records_at s) k)) z i

    pub down_record : record_at s at ∈ (read s).transitions
    down_record = down.among _ (Memᴰ.head refl)

    pub down_from : get_or s at 0 < length marks
    down_from = from_inside marks i.met s at down_record

    pub down_state : get_or s (at + 4) 0 < state_count s
    down_state = to_state_lem marks i.met s at down_record

    pub down_to : get_or s (at + 4) 0 < length marks
    down_to = to_inside marks i.met s at down_record

    pub down_unmet : get_or marks (get_or s at 0) 0 ≡ 0 → PassInvariant Down (read s) marks (backward s (records_at s) (left - 1))
    down_unmet = pass_unmet (read s) ok Down marks (record_at s at) _ down

    pub down_met : (get_or marks (get_or s (at + 4) 0) 0 ≡ 0 → ⊥) → PassInvariant Down (read s) marks (backward s (records_at s) (left - 1))
    down_met = pass_met (read s) ok Down marks (record_at s at) _ down

    module _ (met : get_or marks (get_or s at 0) 0 ≡ 0 → ⊥) (w : ℕ) (e : w ≡ get_or (read s).accept (get_or s (at + 4) 0) 0) where
      pub down_accepts : 0 < w → PassTells (read s) marks Accepts
      down_accepts l = accepts (pass_accepts (read s) ok Down marks (record_at s at) _ down met w e l)

      pub down_marks : w ≤ 0 → get_or s (at + 4) 0 < get_or s at 0 → PassInvariant Down (read s) (set marks (get_or s (at + 4) 0) 1) (backward s (records_at s) (left - 1))
      down_marks l o =
          pass_marks (read s) ok Down marks (record_at s at) _ down met w e l down_to (λ (u : get_or s at 0 ≤ get_or s (at + 4) 0). omega arith)
          (λ (q : get_or s at 0 ≡ get_or s (at + 4) 0). omega arith)

pub ruleset start_laws = (start_inside, start_accepts, start_met, tells_met, rules)
