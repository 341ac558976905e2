-- What is proved of label lists:
--   labels_exact: bytes are the labels of n states without a fault exactly when they are the writing of n labels of 1 to 64 bytes
--   write_read, read_write: each of reading and writing undoes the other
--   fault_write: what is written of labels has no fault
--   size_write: 256 labels fit the output's fixed size
use Prim.Native.Nat.{ℕ, ◌≤◌}
use mathlib.Core.List.{List}
use mathlib.Core.Logic.{◌↔◌}
use mathlib.Core.Path.{◌≡◌, sym, subst, ap, ◌∙◌}
use lib.ListN.{length}
use Rattle.labels.specs.Labels.{AllLabels, labels_fault, read_labels, write_labels}
use Rattle.labels.proofs.Labels

-- bytes without a fault are written again from their labels
pub write_read : (n : ℕ) (b : List ℕ) → labels_fault n b ≡ 0 → write_labels (read_labels b) ≡ b
write_read = Labels.write_read

-- labels are read from what is written of them
pub read_write : (ls : List (List ℕ)) → read_labels (write_labels ls) ≡ ls
read_write = Labels.read_write

-- what is written of labels of 1 to 64 bytes has no fault
pub fault_write : (ls : List (List ℕ)) → AllLabels ls → labels_fault (length ls) (write_labels ls) ≡ 0
fault_write = Labels.fault_write

-- 256 labels take at most 16,642 bytes
pub size_write : (ls : List (List ℕ)) → AllLabels ls → length ls ≤ 256 → length (write_labels ls) ≤ 16642
size_write = Labels.size_write

-- bytes are the labels of n states without a fault exactly when they are the writing of n labels
pub labels_exact : (n : ℕ) (b : List ℕ) → (labels_fault n b ≡ 0) ↔ ((ls : List (List ℕ)) × AllLabels ls × (length ls ≡ n) × (b ≡ write_labels ls))
labels_exact n b = (
  λ f. (read_labels b, Labels.labels_read n b f, Labels.length_read n b f, sym (write_read n b f)),
  λ (ls, a, e, q). ap (labels_fault n) q ∙ subst (λ (k : ℕ). labels_fault k (write_labels ls) ≡ 0) e (fault_write ls a),
)
