-- `compare` meets its contract: 8 where the input is not two texts, or their verdict.
use Rattle.verdict_line.proofs.Judging.{input_laws}
use Rattle.verdict_line.proofs.compare.Goals as goal

pub slice_bounds-compare_texts-count : goal.slice_bounds-compare_texts-count
slice_bounds-compare_texts-count c = search input_laws

pub slice_bounds-compare_texts-start : goal.slice_bounds-compare_texts-start
slice_bounds-compare_texts-start c = search input_laws

pub returns-in-Some : goal.returns-in-Some
returns-in-Some c = search input_laws

pub returns-in-None : goal.returns-in-None
returns-in-None c = search input_laws
