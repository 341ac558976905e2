-- The exact conditions of 7 and 22 on a finished table.
use Prim.Native.Nat.{ℕ, ◌+◌, ◌<◌}
use mathlib.Core.Bool.{true, ◌&&◌, not, false≢true}
use mathlib.Core.List.Memᴰ
use mathlib.Core.List.{List, [], ◌∷◌, map}
use mathlib.Core.Logic.{◌⊎◌, inl, inr, ⊎_elim, ◌↔◌}
use mathlib.Core.Path.{◌≡◌, refl, sym, ◌∙◌, ap, subst}
use native.Mathlib.Omega.{arith}
use borrow.Author.Tests.{eq-eqb, eqb-true}
use lib.Dec.{eqb}
use lib.ListN.{length, length-map}
use Rattle.lists.specs.Lists.{◌∈◌, any, Ascending, Distinct}
use Rattle.lists.proofs.Lists.{any_in, any_out}
use Rattle.lists.proofs.Members.{map_out, at_in, distinct_map, distinct_length, ascending_distinct}
use Rattle.lists.proofs.Tests.{and_both, and_parts, or_cases, or_left, or_right}
use Rattle.automata.specs.Automaton.{Transition, Automaton, leaving, has_epsilon}
use Rattle.automata.specs.Records.{words_of}
use Rattle.automata.specs.WellFormed.{most_states, most_transitions, Before}
use Rattle.automata.proofs.Ordered.{lex_irreflexive, in_order_in, in_order_ascending}
use Rattle.search.specs.Search.{index, found, table}
use Rattle.search.proofs.Tables.{index_lt, index_at, index_place}
use Rattle.search.proofs.Queue.{table_all}
use Rattle.automata.specs.Pairs.{Pair, same_pair}
use Rattle.product.specs.Product.{Joint, joints_from, meeting_pairs, transition_of_joint, place_in, product_automaton, is_none, blocked, blocked_at}
use Rattle.product.specs.Reached.{PairReached, step, Blocked, PairTransition, Arises, ManyTransitions}
use Rattle.product.proofs.Joints.{joint_by}
use Rattle.product.proofs.Joints
use Rattle.automata.proofs.Pairs.{pair_eq, pair_decides}
use Rattle.automata.proofs.Leaving.{leaves, leaving_in}
use Rattle.product.proofs.Pairs.{pairs_decides, graph_reached, reached_graph}
use Rattle.product.proofs.Result.{start_pair, from_in}
use Rattle.product.proofs.Runs.{pair_at, leads}

some_member : (es : List Transition) → not (is_none es) ≡ true → (e : Transition) × e ∈ es
unfolding is_none
some_member [] h = absurd (false≢true h)
some_member (e ∷ es) h = (e, Memᴰ.head refl)

member_some : {e : Transition} {es : List Transition} → e ∈ es → not (is_none es) ≡ true
unfolding is_none
member_some {es = []} m = elim m [ ]
member_some {es = d ∷ es} m = refl

module _ (A B : Automaton) (T : List Pair) (e : table (meeting_pairs A B) most_states ≡ found T) where
  pub reached_in : {p q : ℕ} → PairReached A B p q → record { left = p; right = q } ∈ T
  reached_in r = (table_all (meeting_pairs A B) (pairs_decides A B) most_states T e).whole _ (reached_graph A B r)

  pub in_reached : (p : Pair) → p ∈ T → PairReached A B p.left p.right
  in_reached p m = graph_reached A B ((table_all (meeting_pairs A B) (pairs_decides A B) most_states T e).good.reached p m)

  block : (p : Pair) (d c : Transition) → p ∈ T → d ∈ leaving A p.left → c ∈ leaving B p.right → (d.kind ≡ 0) ⊎ (c.kind ≡ 0) → Blocked A B
  block p d c m i j k =
      let l = leaves A p.left d i in
      let r = leaves B p.right c j in
      record {
        left = d;
        right = c;
        in_left = l.0;
        in_right = r.0;
        reached = rw (l.1, r.1) (in_reached p m);
        epsilon = k;
      }

  -- 7
  pub blocked_exact : (any (blocked_at A B) T ≡ true) ↔ Blocked A B
  unfolding blocked_at blocked has_epsilon
  blocked_exact = (out, into)
    where
      out : any (blocked_at A B) T ≡ true → Blocked A B
      out h =
          let (p, m, k) = any_out (blocked_at A B) T h in
          let b = and_parts (not (is_none (leaving A p.left)) && not (is_none (leaving B p.right))) _ k in
          let s = and_parts (not (is_none (leaving A p.left))) _ b.0 in
          ⊎_elim
          (λ (x : any (λ e. eqb e.kind 0) (leaving A p.left) ≡ true).
          let d = any_out _ _ x in
          let c = some_member _ s.1 in
          block p d.0 c.0 m d.1 c.1 (inl (eqb-true _ _ d.2)))
          (λ (x : any (λ e. eqb e.kind 0) (leaving B p.right) ≡ true).
          let d = some_member _ s.0 in
          let c = any_out _ _ x in
          block p d.0 c.0 m d.1 c.1 (inr (eqb-true _ _ c.2)))
          (or_cases (any (λ e. eqb e.kind 0) (leaving A p.left)) _ b.1)

      into : Blocked A B → any (blocked_at A B) T ≡ true
      into b =
          let i = leaving_in A b.left.from b.left b.in_left refl in
          let j = leaving_in B b.right.from b.right b.in_right refl in
          any_in (blocked_at A B) (reached_in b.reached)
          (and_both _ _ (and_both _ _ (member_some i) (member_some j))
          (⊎_elim (λ k. or_left _ _ (any_in _ i (eq-eqb _ _ k))) (λ k. or_right (any (λ e. eqb e.kind 0) (leaving A b.left.from)) _ (any_in _ j (eq-eqb _ _ k))) b.epsilon))

  -- a transition with the numbers of its pairs, and with the pairs of its numbers
  abbrev named : Transition → PairTransition
  named t = record { from = pair_at A B T e t.from; first = t.first; last = t.last; to = pair_at A B T e t.to }

  abbrev numbered : PairTransition → Transition
  numbered t = record { from = index same_pair t.from T; kind = 1; first = t.first; last = t.last; to = index same_pair t.to T }

  distinct : Distinct T
  distinct = (table_all (meeting_pairs A B) (pairs_decides A B) most_states T e).good.distinct

  place : (i : ℕ) → i < length T → index same_pair (pair_at A B T e i) T ≡ i
  place i h = index_place same_pair pair_decides (start_pair A B) distinct i h

  at : (p : Pair) → p ∈ T → pair_at A B T e (index same_pair p T) ≡ p
  at p m = index_at same_pair pair_decides (start_pair A B) p T m

  numbered_named : (t : Transition) → t ∈ (product_automaton A B T).transitions → numbered (named t) ≡ t
  numbered_named t m = let r = leads A B T e t m in same t (place t.from r.from_lt) (place t.to r.to_lt) r.is_range
    where
      same : (t : Transition) {i j : ℕ} → i ≡ t.from → j ≡ t.to → t.kind ≡ 1 → record { from = i; kind = 1; first = t.first; last = t.last; to = j } ≡ t
      same t f g k = rw (f, g, k)

  named_numbered : (t : PairTransition) → t.from ∈ T → t.to ∈ T → named (numbered t) ≡ t
  named_numbered t m n = rw (at t.from m, at t.to n)

  -- what a transition of the result says, and that each that arises is one
  named_arises : (t : Transition) → t ∈ (product_automaton A B T).transitions → Arises A B (named t)
  named_arises t m =
      let r = leads A B T e t m in
      record {
        symbol = t.first;
        by_left = r.left;
        by_right = r.right;
        reached = in_reached (pair_at A B T e t.from) (at_in T t.from (start_pair A B) r.from_lt);
        meet = r.meet t.first (omega arith) r.full;
        first_is = ap (λ (x : Joint). x.span.first) r.of.is;
        last_is = ap (λ (x : Joint). x.span.last) r.of.is;
        to_left = ap (λ (x : Joint). x.to.left) r.of.is;
        to_right = ap (λ (x : Joint). x.to.right) r.of.is;
      }

  from_entry : (t : PairTransition) → Arises A B t → t.from ∈ T
  from_entry t r = reached_in r.reached

  to_is : (t : PairTransition) (r : Arises A B t) → t.to ≡ record { left = r.by_left.to; right = r.by_right.to }
  to_is t r = pair_eq t.to (record { left = r.by_left.to; right = r.by_right.to }) r.to_left r.to_right

  to_entry : (t : PairTransition) → Arises A B t → t.to ∈ T
  to_entry t r = rw (to_is t r) (reached_in (step r.reached r.meet))

  arises_in : (t : PairTransition) → Arises A B t → numbered t ∈ (product_automaton A B T).transitions
  unfolding product_automaton transition_of_joint
  arises_in t r =
      let i = index same_pair t.from T in
      let h = index_lt same_pair pair_decides t.from (from_entry t r) in
      let q : pair_at A B T e i ≡ t.from = at t.from (from_entry t r) in
      let j = joint_by r.by_left r.by_right in
      let m : j ∈ joints_from A B (pair_at A B T e i) = subst (λ (p : Pair). j ∈ joints_from A B p) (sym q) (Joints.from_in A B t.from r.meet) in
      let z : 0 + i ≡ i = omega arith in
      rw (r.first_is, r.last_is, to_is t r, ← z) (in_order_in (from_in A B (place_in T) 0 T i h m))

  -- 22
  pub many_exact : (most_transitions < length (product_automaton A B T).transitions) ↔ ManyTransitions most_transitions A B
  many_exact = (out, into)
    where
      P : Automaton
      P = product_automaton A B T

      out : most_transitions < length P.transitions → ManyTransitions most_transitions A B
      out h =
          let a : Ascending Before P.transitions = unfold product_automaton in in_order_ascending _ in
          let d : Distinct P.transitions = ascending_distinct (λ x l. lex_irreflexive {v = words_of x} l) a in
          record {
            transitions = map named P.transitions;
            distinct = distinct_map named (λ x y m n q. sym (numbered_named x m) ∙ ap numbered q ∙ numbered_named y n) d;
            arise = λ t m. let r = map_out named P.transitions t m in subst (Arises A B) (sym r.2) (named_arises r.0 r.1);
            many = rw (length-map P.transitions named) h;
          }

      into : ManyTransitions most_transitions A B → most_transitions < length P.transitions
      into m =
          let ts = m.transitions in
          let d : Distinct (map numbered ts) =
          distinct_map numbered
          (λ x y i j q.
          let a = m.arise x i in
          let b = m.arise y j in
          sym (named_numbered x (from_entry x a) (to_entry x a)) ∙ ap named q ∙ named_numbered y (from_entry y b) (to_entry y b))
          m.distinct in
          let l = distinct_length (map numbered ts) P.transitions d (λ t i. let r = map_out numbered ts t i in subst (λ (x : Transition). x ∈ P.transitions) (sym r.2) (arises_in r.0 (m.arise r.0 r.1))) in
          omega (arith, m.many, length-map ts numbered)
