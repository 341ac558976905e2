-- The parts are what document 01 says.
use Rattle.std.proofs.Common.{◌≡◌, ℕ, ◌+◌, ◌<◌, ◌≤◌, true, ◌&&◌, eqb, ◌↔◌, List, length, sym, ◌∙◌, arith, eq-eqb, eqb-true}
use lib.ListN.{length-map}
use Rattle.lists.specs.Lists.{◌∈◌, any, filter}
use Rattle.lists.proofs.Lists.{any_in, any_out, filter_in, filter_out, count_filter}
use Rattle.lists.proofs.Tests.{and_both, and_parts}
use Rattle.automata.specs.Automaton.{Transition, holds}
use Rattle.sets.specs.Sets.{has}
use Rattle.sets.proofs.Sets.{picked, pick_out}
use Rattle.ranges.specs.Span.{Span}
use Rattle.ranges.specs.Cuts.{cut_all}
use Rattle.ranges.specs.Missing.{covered, missing}
use Rattle.lists.proofs.Members.{map_in, map_out, ascending_filter, ascending_map}
use Rattle.ranges.proofs.Spans.{SpanBefore, cut_stretch, cut_ascend, cut_ends, cut_uncut, cut_alike, containing}
use Rattle.determinize.specs.Partition.{Part, part_of, partition, HeldTo, Parts}

-- parts and holes together are the spans
pub part_hole_count : (n lower upper : ℕ) (es : List Transition) → length (partition n lower upper es) + length (missing lower upper es) ≡ length (cut_all lower upper es)
unfolding partition missing
part_hole_count n lower upper es =
    let e = length-map (filter (covered es) (cut_all lower upper es)) (part_of n es) in
    let c = count_filter (covered es) (cut_all lower upper es) in
    omega arith

module _ (n lower upper : ℕ) (es : List Transition) where
  -- the span of a part, and a symbol's part
  pub record PartFrom (p : Part) : Type 0 where
    pub span : Span
    pub «in» : span ∈ cut_all lower upper es
    pub held : any (holds span.first) es ≡ true
    pub is : p ≡ part_of n es span

  pub part_out : (p : Part) → p ∈ partition n lower upper es → PartFrom p
  unfolding partition covered
  part_out p m =
      let r = map_out (part_of n es) (filter (covered es) (cut_all lower upper es)) p m in
      let k = filter_out (covered es) r.0 (cut_all lower upper es) r.1 in
      record { span = r.0; «in» = k.0; held = k.1; is = r.2 }

  pub part_in : (s : Span) → s ∈ cut_all lower upper es → any (holds s.first) es ≡ true → part_of n es s ∈ partition n lower upper es
  unfolding partition covered
  part_in s m h = map_in (part_of n es) (filter_in (covered es) m h)

module _ (n lower upper : ℕ) (es : List Transition) (states_in : (e : Transition) → e ∈ es → e.to < n) where
  part_targets : (s : Span) → s ∈ cut_all lower upper es → (x : ℕ) → s.first ≤ x → x ≤ s.last → (q : ℕ) → (has q (part_of n es s).targets ≡ true) ↔ HeldTo es x q
  unfolding part_of
  part_targets s m x l u q = (
    λ h.
        let r = any_out _ es (pick_out 0 n _ q h).2 in
        let c = and_parts (holds s.first r.0) _ r.2 in
        (r.0, r.1, cut_alike lower upper es s m x l u r.0 r.1 ∙ c.0, eqb-true _ _ c.1),
    λ (e, i, h, t).
        picked n _ q (rw (← t) (states_in e i))
        (any_in (λ e. holds s.first e && eqb e.to q) i (and_both _ _ (sym (cut_alike lower upper es s m x l u e i) ∙ h) (eq-eqb _ _ t))),
  )

  pub parts_exact : Parts lower upper es (partition n lower upper es)
  unfolding part_of
  parts_exact =
      let ps = partition n lower upper es in
      let at : (p : Part) → p ∈ ps → PartFrom n lower upper es p = part_out n lower upper es in
      record {
        ascends = unfold partition in ascending_map {R = SpanBefore} (part_of n es) (λ s t h. h.1) (ascending_filter (covered es) (cut_ascend lower upper es));
        full = λ p m. let d = at p m in rw d.is (cut_stretch lower upper es d.span d.in).full;
        begins = λ p m. let d = at p m in rw d.is (cut_stretch lower upper es d.span d.in).begins;
        ends = λ p m. let d = at p m in rw d.is (cut_ends lower upper es d.span d.in);
        uncut = λ p m. let d = at p m in rw d.is (cut_uncut lower upper es d.span d.in);
        exact = λ x. (
          λ (p, m, l, u).
              let d = at p m in
              let s = d.span in
              let r = cut_stretch lower upper es s d.in in
              let k = any_out (holds s.first) es d.held in
              let a : s.first ≤ x = rw d.is at l in
              let b : x ≤ s.last = rw d.is at u in
              (omega (arith, r.above), omega (arith, r.below), (k.0, k.1, cut_alike lower upper es s d.in x a b k.0 k.1 ∙ k.2)),
          λ (l, u, (e, i, h)).
              let s = containing lower upper es x l u in
              let held = any_in (holds s.span.first) i (sym (cut_alike lower upper es s.span s.in x s.above s.below e i) ∙ h) in
              (part_of n es s.span, part_in n lower upper es s.span s.in held, s.above, s.below),
        );
        targets = λ p m. let d = at p m in rw d.is (part_targets d.span d.in);
      }
