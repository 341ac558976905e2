-- The definitions of specs/Calls are the contracts of the C functions: what a caller of each learns is the call, by computation. In each statement a are
-- the arguments as they are passed, z as they are at the return, and `now` of a reference is what it refers to. Assumes nothing.
use Prim.Native.Nat.{ℕ, ◌≤◌}
use mathlib.Core.Path.{◌≡◌, refl}
use contract.Lifetimes.{Lfts}
use borrow.Fn.Kinds.{Dens, ended_of}
use denote.Triple.Clauses.{AtExit}
use lib.ListN.{length}
use Rattle.equality.specs.Equality.{word_size}
use Rattle.output.specs.Left.{Room}
use Rattle.ringmatch.specs.Reply.{number_reply, outputs_reply, verdict_reply}
use Rattle.ringmatch.proofs.ringmatch_equality.Kinds as equality
use Rattle.ringmatch.proofs.ringmatch_equality.Reads as ringmatch_equality
use Rattle.ringmatch.proofs.ringmatch_determinize.Kinds as determinize
use Rattle.ringmatch.proofs.ringmatch_determinize.Reads as ringmatch_determinize
use Rattle.ringmatch.proofs.ringmatch_complement.Kinds as complement
use Rattle.ringmatch.proofs.ringmatch_complement.Reads as ringmatch_complement
use Rattle.ringmatch.proofs.ringmatch_intersection.Kinds as intersection
use Rattle.ringmatch.proofs.ringmatch_intersection.Reads as ringmatch_intersection
use Rattle.ringmatch.proofs.ringmatch_has_reachable_accepting_state.Kinds as reachable
use Rattle.ringmatch.proofs.ringmatch_has_reachable_accepting_state.Reads as ringmatch_reachable
use Rattle.crossed.specs.Calls.{EqualityCall, DeterminizeCall, ComplementCall, IntersectionCall, ReachableCall}

-- ringmatch_equality(a, b, word, same, number)
module _ (κs : Lfts 5) (a : Dens κs equality.ps) (code : ℕ) (z : AtExit (ended_of 5 equality.ps equality.r) κs) where
  pub equality_contract : (room : word_size ≤ length a.1.1.0.now)
      → ringmatch_equality.Learnt κs a code z ≡ EqualityCall a.0.now a.1.0.now (record {
        word = a.1.1.0.now;
        same = a.1.1.1.0.now;
        number = a.1.1.1.1.0.now;
        room = room;
        after = verdict_reply code z.1.1.1.0.now z.1.1.1.1.0.now z.1.1.0.now;
      })
  equality_contract room = refl

-- ringmatch_determinize(sheet, out, names, words, bytes)
module _ (κs : Lfts 5) (a : Dens κs determinize.ps) (code : ℕ) (z : AtExit (ended_of 5 determinize.ps determinize.r) κs) where
  pub determinize_contract : (room : Room a.1.0.now a.1.1.0.now)
      → ringmatch_determinize.Learnt κs a code z ≡ DeterminizeCall a.0.now (record {
        sheet = a.1.0.now;
        labels = a.1.1.0.now;
        words = a.1.1.1.0.now;
        bytes = a.1.1.1.1.0.now;
        room = room;
        after = outputs_reply code z.1.1.1.0.now z.1.1.1.1.0.now z.1.0.now z.1.1.0.now;
      })
  determinize_contract room = refl

-- ringmatch_complement(sheet, labels, out, names, words, bytes)
module _ (κs : Lfts 6) (a : Dens κs complement.ps) (code : ℕ) (z : AtExit (ended_of 6 complement.ps complement.r) κs) where
  pub complement_contract : (room : Room a.1.1.0.now a.1.1.1.0.now)
      → ringmatch_complement.Learnt κs a code z ≡ ComplementCall a.0.now a.1.0.now (record {
        sheet = a.1.1.0.now;
        labels = a.1.1.1.0.now;
        words = a.1.1.1.1.0.now;
        bytes = a.1.1.1.1.1.0.now;
        room = room;
        after = outputs_reply code z.1.1.1.1.0.now z.1.1.1.1.1.0.now z.1.1.0.now z.1.1.1.0.now;
      })
  complement_contract room = refl

-- ringmatch_intersection(a, b, out, names, words, bytes)
module _ (κs : Lfts 6) (a : Dens κs intersection.ps) (code : ℕ) (z : AtExit (ended_of 6 intersection.ps intersection.r) κs) where
  pub intersection_contract : (room : Room a.1.1.0.now a.1.1.1.0.now)
      → ringmatch_intersection.Learnt κs a code z ≡ IntersectionCall a.0.now a.1.0.now (record {
        sheet = a.1.1.0.now;
        labels = a.1.1.1.0.now;
        words = a.1.1.1.1.0.now;
        bytes = a.1.1.1.1.1.0.now;
        room = room;
        after = outputs_reply code z.1.1.1.1.0.now z.1.1.1.1.1.0.now z.1.1.0.now z.1.1.1.0.now;
      })
  intersection_contract room = refl

-- ringmatch_has_reachable_accepting_state(sheet, answer)
module _ (κs : Lfts 2) (a : Dens κs reachable.ps) (code : ℕ) (z : AtExit (ended_of 2 reachable.ps reachable.r) κs) where
  pub reachable_contract : ringmatch_reachable.Learnt κs a code z ≡ ReachableCall a.0.now (record { answer = a.1.0.now; after = number_reply code z.1.0.now })
  reachable_contract = refl
