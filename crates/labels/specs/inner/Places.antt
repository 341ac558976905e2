-- For inner contracts. Where the labels of an accepted list stand.
use Rattle.std.specs.Prelude.{ℕ, zero, suc, ◌+◌, List, ◌≡◌, get_or}
use Rattle.labels.specs.Labels.{label_count, labels_fault}

-- an accepted list: one without a fault as the labels of as many states as it announces
pub record LabelList (b : List ℕ) : Type 0 where
  pub accepted : labels_fault (label_count b) b ≡ 0

-- where the length of label i stands: the first behind the count, each other behind the label before it
unfoldable pub label_place : List ℕ → ℕ → ℕ
label_place b zero = 2
label_place b (suc i) = label_place b i + 1 + get_or b (label_place b i) 0
