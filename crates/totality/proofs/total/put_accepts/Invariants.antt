-- The words before the index are written.
use Rattle.std.proofs.Common.{◌≡◌, ◌+◌, map, take}
use Rattle.stores.specs.Written.{Written}
use Rattle.totality.specs.inner.Merging.{flipped_word_if}
use Rattle.totality.proofs.total.put_accepts.Given as goal

abbrev pub invariant-loop-word : goal.invariant-loop-word
invariant-loop-word l = (l.end ≡ l.at + l.word-index) × Written l.fn.out l.at (map (flipped_word_if l.flip) (take l.word-index l.words)) l.out l.end
