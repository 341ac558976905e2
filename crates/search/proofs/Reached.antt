-- What a start leads to, with no queue in it.
use Prim.Native.Nat.{ℕ, ◌<◌}
use mathlib.Core.List.{List}
use lib.ListN.{length}
use Rattle.lists.specs.Lists.{◌∈◌, Distinct}
use Rattle.search.specs.Search.{Graph}

pub data Reached {X : Type 0} (G : Graph X) : X → Type 0 where
  start : Reached G G.start
  step : {x y : X} → Reached G x → y ∈ G.next x → Reached G y

-- elements that are distinct and reached
pub record ReachedElements {X : Type 0} (G : Graph X) (T : List X) : Type 0 where
  pub distinct : Distinct T
  pub reached : (x : X) → x ∈ T → Reached G x

-- more than k of them
abbrev pub MoreThan : {X : Type 0} → ℕ → Graph X → Type 0
MoreThan {X} k G = (T : List X) × ReachedElements G T × (k < length T)

-- all of them
pub record AllReached {X : Type 0} (G : Graph X) (T : List X) : Type 0 where
  pub good : ReachedElements G T
  pub whole : (x : X) → Reached G x → x ∈ T
