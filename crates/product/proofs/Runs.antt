-- Runs of the product: each is a run of both automata, and where neither holds an epsilon two runs over a word are one of the product.
use Prim.Native.Nat.{ℕ, ◌+◌, ◌≤◌, ◌<◌}
use mathlib.Core.List.{List, ◌∷◌, map}
use mathlib.Core.Logic.{⊎_elim, ◌↔◌}
use mathlib.Core.Path.{◌≡◌, refl, sym, ◌∙◌, ap, subst}
use native.Mathlib.Omega.{arith}
use borrow.Author.Tests.{ltb-true, ltb-false}
use lib.Dec.{ltb}
use lib.ListN.{get_or, length, length-map, get_or-eq_default}
use Rattle.lists.specs.Lists.{◌∈◌}
use Rattle.lists.proofs.Members.{at_in, map_in}
use Rattle.lists.proofs.Tests.{test}
use Rattle.automata.specs.Automaton.{Transition, Automaton, Run, stay, skip, read, Accepts, EpsilonFree}
use Rattle.automata.specs.WellFormed.{most_states}
use Rattle.automata.proofs.Ordered.{in_order_in, in_order_out}
use Rattle.search.specs.Search.{index, found, table}
use Rattle.search.proofs.Tables.{index_lt, index_at}
use Rattle.search.proofs.Queue.{table_some, table_start, table_closed}
use Rattle.automata.specs.Pairs.{Pair, same_pair}
use Rattle.product.specs.Product.{Joint, joints_from, meeting_pairs, transition_of_joint, place_in, pair_accept, product_automaton}
use Rattle.product.specs.Reached.{Meet}
use Rattle.product.proofs.Joints.{joint_by, from_out}
use Rattle.product.proofs.Joints
use Rattle.automata.proofs.Pairs.{pair_decides}
use Rattle.product.proofs.Pairs.{pairs_decides}
use Rattle.lists.proofs.Lists.{map_at}
use Rattle.product.proofs.Result.{start_pair, accept_both, origin, from_in}

joint_eq : (j : Joint) (l h : ℕ) (p : Pair) → l ≡ j.span.first → h ≡ j.span.last → p ≡ j.to → record { span = record { first = l; last = h }; to = p } ≡ j
joint_eq j l h p a b c = rw (a, b, c)

module _ (A B : Automaton) (T : List Pair) (e : table (meeting_pairs A B) most_states ≡ found T) where
  abbrev P : Automaton
  P = product_automaton A B T

  -- the pair with the number i
  abbrev pub pair_at : ℕ → Pair
  pair_at i = get_or T i (start_pair A B)

  -- what a transition of the product says of the two automata
  pub record JointTransition (t : Transition) : Type 0 where
    pub is_range : t.kind ≡ 1
    pub from_lt : t.from < length T
    pub to_lt : t.to < length T
    pub left : Transition
    pub right : Transition
    pub full : t.first ≤ t.last
    pub meet : (a : ℕ) → t.first ≤ a → a ≤ t.last → Meet A B (pair_at t.from).left (pair_at t.from).right left right a
    pub of : Joints.Of left right (record { span = record { first = t.first; last = t.last }; to = pair_at t.to })

  -- a joint of an entry leads to an entry
  pub joint_entry : (i : ℕ) → i < length T → (j : Joint) → j ∈ joints_from A B (pair_at i) → j.to ∈ T
  unfolding meeting_pairs
  joint_entry i h j m = table_closed (meeting_pairs A B) (pairs_decides A B) most_states T e (pair_at i) j.to (at_in T i (start_pair A B) h) (map_in (λ (j : Joint). j.to) m)

  pub joint_at : (i : ℕ) → i < length T → (j : Joint) → j ∈ joints_from A B (pair_at i) → pair_at (index same_pair j.to T) ≡ j.to
  joint_at i h j m = index_at same_pair pair_decides (start_pair A B) j.to T (joint_entry i h j m)

  pub leads : (t : Transition) → t ∈ P.transitions → JointTransition t
  unfolding product_automaton transition_of_joint
  leads t m =
      let r = origin A B (place_in T) 0 T t (in_order_out t _ m) in
      let i = r.place in
      let j = r.joint in
      let n = r.near in
      let f : t.from ≡ i = ap (λ (x : Transition). x.from) r.is ∙ omega arith in
      let first_is : t.first ≡ j.span.first = ap (λ (x : Transition). x.first) r.is in
      let last_is : t.last ≡ j.span.last = ap (λ (x : Transition). x.last) r.is in
      let to : t.to ≡ index same_pair j.to T = ap (λ (x : Transition). x.to) r.is in
      let g = from_out A B (pair_at i) j r.in in
      let l = index_lt same_pair pair_decides j.to (joint_entry i n j r.in) in
      let at : pair_at t.to ≡ j.to = ap pair_at to ∙ joint_at i n j r.in in
      let first_is' = ap (λ (x : Joint). x.span.first) g.of.is in
      let last_is' = ap (λ (x : Joint). x.span.last) g.of.is in
      record {
        is_range = ap (λ (x : Transition). x.kind) r.is;
        from_lt = omega arith;
        to_lt = omega arith;
        left = g.left;
        right = g.right;
        full = omega (arith, first_is', last_is', g.of.meets);
        meet = λ a l u. subst (λ (n : ℕ). Meet A B (pair_at n).left (pair_at n).right g.left g.right a) (sym f) (g.meet a (omega arith) (omega arith));
        of = record { meets = g.of.meets; is = joint_eq j t.first t.last (pair_at t.to) first_is last_is at ∙ g.of.is };
      }

  run_both : {i k : ℕ} {w : List ℕ} → Run P i w k → Run A (pair_at i).left w (pair_at k).left × Run B (pair_at i).right w (pair_at k).right
  run_both stay = (stay, stay)
  run_both (skip t m f c r) = let z = (leads t m).is_range in absurd (omega arith)
  run_both {i} (read {a} t m f c l u r) =
      let s = leads t m in
      let k = s.meet a l u in
      let ih = run_both r in
      let left : (pair_at t.to).left ≡ s.left.to = ap (λ (x : Joint). x.to.left) s.of.is in
      let right : (pair_at t.to).right ≡ s.right.to = ap (λ (x : Joint). x.to.right) s.of.is in (
        read s.left k.left (k.from_left ∙ ap (λ n. (pair_at n).left) f) k.range_left k.above_left k.below_left (rw left at ih.0),
        read s.right k.right (k.from_right ∙ ap (λ n. (pair_at n).right) f) k.range_right k.above_right k.below_right (rw right at ih.1),
      )

  -- two ranges that hold the symbol x lead from entry i to another
  read_both : {d c : Transition} {x : ℕ} (i : ℕ) → i < length T → Meet A B (pair_at i).left (pair_at i).right d c x → {w : List ℕ} {k : ℕ}
      → Run P (index same_pair (record { left = d.to; right = c.to }) T) w k → Run P i (x ∷ w) k
  unfolding product_automaton transition_of_joint
  read_both {d} {c} {x} i h m r =
      let z : 0 + i ≡ i = omega arith in
      read {a = x} (transition_of_joint (place_in T) (0 + i) (joint_by d c)) (in_order_in (from_in A B (place_in T) 0 T i h (Joints.from_in A B (pair_at i) m))) z refl
      (omega (arith, m.above_left, m.above_right)) (omega (arith, m.below_left, m.below_right)) r

  -- the end of a run of the product from entry i, at the pair p and q
  record Ends (i : ℕ) (w : List ℕ) (p q : ℕ) : Type 0 where
    number : ℕ
    near : number < length T
    at : pair_at number ≡ record { left = p; right = q }
    run : Run P i w number

  both_run : EpsilonFree A → EpsilonFree B → {p q p' q' : ℕ} {w : List ℕ} → Run A p w p' → Run B q w q' → (i : ℕ) → i < length T → pair_at i ≡ record { left = p; right = q } → Ends i w p' q'
  both_run f g stay stay i h at = record { number = i; near = h; at = at; run = stay }
  both_run f g (skip d m a k r) s i h at = let z = f d m in absurd (omega arith)
  both_run f g stay (skip d m a k s) i h at = let z = g d m in absurd (omega arith)
  both_run f g (read d m a k l u r) (skip c n b o s) i h at = let z = g c n in absurd (omega arith)
  both_run f g {p} {q} (read {a = x} d m a k l u r) (read c n b o v y s) i h at =
      let pl : (pair_at i).left ≡ p = ap (λ (z : Pair). z.left) at in
      let pr : (pair_at i).right ≡ q = ap (λ (z : Pair). z.right) at in
      let meet : Meet A B (pair_at i).left (pair_at i).right d c x =
      record {
        left = m;
        right = n;
        from_left = a ∙ sym pl;
        from_right = b ∙ sym pr;
        range_left = k;
        range_right = o;
        above_left = l;
        below_left = u;
        above_right = v;
        below_right = y;
      } in
      let j = joint_by d c in
      let jm = Joints.from_in A B (pair_at i) meet in
      let ih = both_run f g r s (index same_pair j.to T) (index_lt same_pair pair_decides j.to (joint_entry i h j jm)) (joint_at i h j jm) in
      record { number = ih.number; near = ih.near; at = ih.at; run = read_both i h meet ih.run }

  -- a pair's accept word
  pub accept_at : (k : ℕ) → k < length T → get_or P.accept k 0 ≡ pair_accept A B (pair_at k)
  unfolding product_automaton
  accept_at k h = map_at (pair_accept A B) T k (start_pair A B) 0 h

  accept_near : (k : ℕ) → 0 < get_or P.accept k 0 → k < length T
  unfolding product_automaton
  accept_near k h =
      ⊎_elim (λ t. ltb-true k (length T) t)
      (λ t.
      let l : length (map (pair_accept A B) T) ≤ k = omega (arith, ltb-false k (length T) t, length-map T (pair_accept A B)) in
      let z : get_or (map (pair_accept A B) T) k 0 ≡ 0 = get_or-eq_default (map (pair_accept A B) T) 0 l in
      absurd (omega arith))
      (test (ltb k (length T)))

  start_at : pair_at 0 ≡ start_pair A B
  unfolding meeting_pairs
  start_at = table_start (meeting_pairs A B) (pairs_decides A B) most_states T e

  -- the product accepts just the words that both accept
  pub words_both : EpsilonFree A → EpsilonFree B → (w : List ℕ) → Accepts P w ↔ (Accepts A w × Accepts B w)
  words_both f g w = (out, into)
    where
      out : Accepts P w → Accepts A w × Accepts B w
      out (k, r, h) =
          let n = accept_near k h in
          let b = (accept_both A B (pair_at k)).0 (rw (accept_at k n) at h) in
          let r₀ : Run P 0 w k = unfold product_automaton in r in
          let s = run_both r₀ in
          (((pair_at k).left, rw start_at at s.0, b.0), ((pair_at k).right, rw start_at at s.1, b.1))

      into : Accepts A w × Accepts B w → Accepts P w
      into ((p, r, h), (q, s, k)) =
          let x = both_run f g r s 0 (table_some (meeting_pairs A B) (pairs_decides A B) most_states T e) start_at in
          let n : get_or P.accept x.number 0 ≡ pair_accept A B (record { left = p; right = q }) = accept_at x.number x.near ∙ ap (pair_accept A B) x.at in
          (x.number, unfold product_automaton in x.run, rw n ((accept_both A B (record { left = p; right = q })).1 (h, k)))
