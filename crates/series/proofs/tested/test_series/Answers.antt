-- The numbers of the line are the series, and what acceptance answers for it is passed on.
use Rattle.std.proofs.Common.{replicate, arith, rules}
use Rattle.std.proofs.lemmas.Result.{err_from_is_err_and}
use Rattle.series.proofs.Series.{series_tested}
use Rattle.series.proofs.tested.test_series.Goals as goal

pub returns-in_err-accepts_words : goal.returns-in_err-accepts_words
returns-in_err-accepts_words c =
    let p = err_from_is_err_and c.from_residual.result c.from_residual.ensures.1 in
    rw (p.1, p.2)
    (series_tested _ _ _ _ c.in-Ok.ensures.answer (replicate 32768 0) _ _ (omega arith) c.in-Ok.ensures.stored (search rules) c.in_err-accepts_words.ensures)

pub returns : goal.returns
returns c = series_tested _ _ _ _ c.in-Ok.ensures.answer (replicate 32768 0) _ _ (omega arith) c.in-Ok.ensures.stored (search rules) c.in_ok-accepts_words.ensures
