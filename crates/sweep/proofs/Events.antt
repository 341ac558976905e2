-- The events of all ranges in order are a timeline of those that leave any set.
use Prim.Native.Nat.{ℕ, zero, suc, ◌+◌, ◌*◌, ◌≤◌, ◌<◌}
use mathlib.Core.Bool.{Bool, true, false, cond}
use mathlib.Core.List.Memᴰ
use mathlib.Core.List.{List, [], ◌∷◌}
use mathlib.Core.Logic.{⊎_elim}
use mathlib.Core.Path.{◌≡◌, refl, sym, ◌∙◌, ap, subst}
use native.Mathlib.Omega.{arith}
use lib.Dec.{eqb}
use lib.ListN.{length, get_or, length-append}
use Rattle.lists.specs.Lists.{◌∈◌}
use Rattle.lists.proofs.Lists.{filter_in, filter_out}
use Rattle.lists.proofs.Members.{ascending_by}
use Rattle.lists.proofs.Tests.{and_both, and_parts}
use Rattle.automata.specs.Automaton.{Transition}
use Rattle.automata.specs.Ordered.{in_order}
use Rattle.automata.specs.inner.Records.{record_at}
use Rattle.automata.proofs.Ordered.{in_order_in, in_order_out, in_order_ascending, before_from}
use Rattle.automata.proofs.Records.{record_in, record_out}
use Rattle.sets.specs.Sets.{Set, has}
use Rattle.sheets.specs.Sheet.{records_at, read}
use Rattle.sheets.specs.inner.Accepted.{record_count, Accepted}
use Rattle.sheets.proofs.Meaning.{read_well}
use Rattle.words.specs.Simulation.{outgoing}
use Rattle.sweep.specs.declared.EventKind.{EventKind}
use Rattle.sweep.specs.declared.EventKind.TheVariants.{Opening, Ending}
use Rattle.sweep.specs.inner.Events.{event_number, event, event_at, event_of, events_from, events}
use Rattle.sweep.specs.inner.Sweep.{Timeline}

-- the number of a kind that a `match` has told
pub number_opening : (kind : EventKind) → kind ≡ Opening → event_number kind ≡ 0
number_opening kind e = ap event_number e

pub number_ending : (kind : EventKind) → kind ≡ Ending → event_number kind ≡ 1
number_ending kind e = ap event_number e

pub number_other : (kind : EventKind) → kind ≡ Ending → event_number kind ≡ 0 → ⊥
number_other kind e z = omega (arith, number_ending kind e, z)

-- record i of the sheet is a range
abbrev IsRange : List ℕ → ℕ → Type 0
IsRange s i = eqb (get_or s (records_at s + 5 * i + 1) 0) 1 ≡ true

event_out : (k : ℕ) (s : List ℕ) (i : ℕ) (v : Transition) → v ∈ event_of k s i → IsRange s i × (v ≡ event_at k s i)
unfolding event_of
event_out k s i v m = go (eqb (get_or s (records_at s + 5 * i + 1) 0) 1) refl m
  where
    go : (b : Bool) → eqb (get_or s (records_at s + 5 * i + 1) 0) 1 ≡ b → v ∈ cond b (event_at k s i ∷ []) [] → IsRange s i × (v ≡ event_at k s i)
    go true e m = (e, ⊎_elim (λ q. q) (λ n. elim n [ ]) (Memᴰ.cases_cons m))
    go false e m = elim m [ ]

pub events_out : (k : ℕ) (s : List ℕ) (m i : ℕ) (v : Transition) → v ∈ events_from k s m i → (j : ℕ) × (j < i + m) × IsRange s j × (v ≡ event_at k s j)
unfolding events_from
events_out k s zero i v h = elim h [ ]
events_out k s (suc m) i v h =
    ⊎_elim (λ a. let r = event_out k s i v a in (i, omega arith, r.0, r.1)) (λ b. let r = events_out k s m (suc i) v b in (r.0, omega (arith, r.1), r.2, r.3))
    (Memᴰ.append_cases (event_of k s i) h)

events_in : (k : ℕ) (s : List ℕ) (m i d : ℕ) → d < m → IsRange s (i + d) → event_at k s (i + d) ∈ events_from k s m i
unfolding events_from event_of
events_in k s zero i d l h = absurd (omega arith)
events_in k s (suc m) i zero l h =
    let z : i + 0 ≡ i = omega arith in
    let t : IsRange s i = subst (IsRange s) z h in
    Memᴰ.append_left {s = event_of k s i} (events_from k s m (suc i)) (rw t (Memᴰ.head (ap (event_at k s) z)))
events_in k s (suc m) i (suc d) l h =
    let z : i + suc d ≡ suc i + d = omega arith in
    Memᴰ.append_right (event_of k s i) (subst (λ x. event_at k s x ∈ events_from k s m (suc i)) (sym z) (events_in k s m (suc i) d (omega arith) (subst (IsRange s) z h)))

one_event : (k : ℕ) (s : List ℕ) (i : ℕ) → length (event_of k s i) ≤ 1
unfolding event_of
one_event k s i = go (eqb (get_or s (records_at s + 5 * i + 1) 0) 1)
  where
    go : (b : Bool) → length (cond b (event_at k s i ∷ []) []) ≤ 1
    go true = omega arith
    go false = omega arith

pub length_events : (k : ℕ) (s : List ℕ) (m i : ℕ) → length (events_from k s m i) ≤ m
unfolding events_from
length_events k s zero i = omega arith
length_events k s (suc m) i = omega (arith, length-append (event_of k s i) (events_from k s m (suc i)), length_events k s m (suc i), one_event k s i)

pub timeline : (k : ℕ) (s : List ℕ) → Accepted s → (S : Set) → Timeline k (outgoing (read s) S) S (in_order (events k s))
unfolding outgoing events event_at event
timeline k s a S =
    let ts = (read s).transitions in
    let ok = (read_well s a).states in
    let out : (e : Transition) → e ∈ outgoing (read s) S → e ∈ ts × (eqb e.kind 1 ≡ true) × (has e.from S ≡ true) =
    λ e m. let i = filter_out _ e ts m in let b = and_parts (eqb e.kind 1) _ i.1 in (i.0, b.0, b.1) in
    let of : (v : Transition) → v ∈ in_order (events k s) → (j : ℕ) × (j < 0 + record_count s) × IsRange s j × (v ≡ event_at k s j) =
    λ v m. events_out k s (record_count s) 0 v (in_order_out v (events k s) m) in
    let there : (v : Transition) (m : v ∈ in_order (events k s)) → record_at s (records_at s + 5 * (of v m).0) ∈ ts =
    λ v m. record_in (record_count s) s (records_at s) a.whole (of v m).0 (omega (arith, (of v m).1)) in
    record {
      rises = ascending_by (λ v w m n. before_from v w) (in_order_ascending (events k s));
      mine = λ e m. (out e m).2;
      has_all = λ e m.
          let r = record_out (record_count s) s (records_at s) a.whole e (out e m).0 in
          let j = r.0 in
          let q : event k j e ≡ event_at k s j = ap (event k j) r.2 in
          let t : IsRange s (0 + j) = let z : 0 + j ≡ j = omega arith in rw z (ap (λ x. eqb x.kind 1) (sym r.2) ∙ (out e m).1) in
          (j, in_order_in (subst (λ v. v ∈ events k s) (sym (q ∙ ap (event_at k s) (omega arith))) (events_in k s (record_count s) 0 j r.1 t)));
      only = λ v m h.
          let r = of v m in
          let f : v.first ≡ get_or s (records_at s + 5 * r.0) 0 = ap (λ x. x.first) r.3 in
          (record_at s (records_at s + 5 * r.0), filter_in _ (there v m) (and_both _ _ r.2 (rw f at h)), r.0, r.3);
      states = λ v m.
          let r = of v m in
          let f : v.first ≡ get_or s (records_at s + 5 * r.0) 0 = ap (λ x. x.first) r.3 in
          let b = ok.froms _ (there v m) in
          omega (arith, a.few_states);
      targets = λ v m.
          let r = of v m in
          let f : v.to ≡ get_or s (records_at s + 5 * r.0 + 4) 0 = ap (λ x. x.to) r.3 in
          let b = ok.tos _ (there v m) in
          omega (arith, a.few_states);
    }
