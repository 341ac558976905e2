-- `find` meets its contract: the places before `i` hold other sets.
use Prim.Native.Nat.{◌-◌, ◌<◌}
use mathlib.Core.Path.{◌≡◌}
use native.Mathlib.Omega.{arith}
use borrow.Author.Rules.{rules}
use lib.ListN.{get_or}
use Rattle.sets.specs.inner.BitSet.{set_at, entries}
use Rattle.sets.specs.inner.Places.{place_after, Passed}
use Rattle.sets.proofs.BitSet.{length_entries}
use Rattle.sets.proofs.Places.{place_below, place_next, held_row, search_begins, search_room, search_number, search_found, search_passed, search_none, search_free}
use Rattle.sets.proofs.lookup.find.Statement.{statement}
use Rattle.sets.proofs.lookup.find.Tie as tie

abbrev invariant-loop-held : tie.invariant-loop-held
invariant-loop-held t n places s i₀ held₀ compared₀ i held compared =
    (i ≡ place_after (set_at s 0) compared) × (held ≡ get_or places i 0) × (compared < 509) × Passed places (entries t n) (set_at s 0) compared

abbrev decreases-loop-held : tie.decreases-loop-held
decreases-loop-held t n places s i₀ held₀ compared₀ i held compared = 509 - compared

pub find_spec : {M : Type 1} → statement M
find_spec =
    tie.close
    (tie.spec invariant-loop-held decreases-loop-held (λ c κs. search rules) (λ c. omega (arith, place_below _ _ _ c.start_place-i.ensures))
    (λ c.
    omega (arith, place_below _ _ _ c.start_place-i.ensures, c.requires.0.long))
    (λ c. (c.start_place-i.ensures, search rules, search rules, search_begins _ _ _))
    (λ c.
    let row = held_row _ _ _ _ _ _ _ c.requires.0 c.loop-held.invariant.3 c.loop-held.invariant.0 c.loop-held.invariant.1 c.loop-held-test.true in
    omega (arith, row, c.requires.1))
    (λ c. omega (arith, c.loop-held-test.true))
    (λ c κs.
    let row = held_row _ _ _ _ _ _ _ c.requires.0 c.loop-held.invariant.3 c.loop-held.invariant.0 c.loop-held.invariant.1 c.loop-held-test.true in
    (omega (arith, row, c.requires.2), c.requires.3))
    (λ c. search rules)
    (λ c. (
      search_number _ _ _ _ _ _ _ c.requires.0 c.loop-held.invariant.3 c.loop-held.invariant.0 c.loop-held.invariant.1 c.loop-held-test.true _ c.same.ensures c.if-same.true,
      search_found _ _ _ _ _ _ _ c.requires.0 c.loop-held.invariant.3 c.loop-held.invariant.0 c.loop-held.invariant.1 c.loop-held-test.true _ c.same.ensures c.if-same.true,
    ))
    (λ c. search rules) (λ c. omega (arith, place_below _ _ _ c.loop-held.invariant.0)) (λ c. search rules)
    (λ c. omega (arith, c.requires.0.long))
    (λ c. omega (arith, c.loop-held.invariant.2))
    (λ c.
    let passed = search_passed _ _ _ _ _ _ _ c.requires.0 c.loop-held.invariant.3 c.loop-held.invariant.0 c.loop-held.invariant.1 c.loop-held-test.true _
    c.same.ensures c.if-same.false in (
      place_next _ _ _ c.loop-held.invariant.0,
      search rules,
      search_room _ _ c.requires.0 _ _ passed (rw length_entries c.requires.1),
      passed,
    ))
    (λ c. (
      search_none _ _ _ _ _ _ _ c.requires.0 c.loop-held.invariant.3 c.loop-held.invariant.0 c.loop-held.invariant.1 c.loop-held-test.false,
      search_free _ _ _ _ _ _ _ c.requires.0 c.loop-held.invariant.3 c.loop-held.invariant.0 c.loop-held.invariant.1 c.loop-held-test.false,
    )))
