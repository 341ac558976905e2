-- `with_names` meets its contract: an accepting name is no state, there are too many records, or they are handed on.
use Rattle.std.proofs.Common.{rules}
use Rattle.parser.proofs.Reading.{recorded_laws, over_33, within_33, accepts_marked, over_22, within_22}
use Rattle.parser.proofs.with_names.Goals as goal

pub returns-then-not-mark_names : goal.returns-then-not-mark_names
returns-then-not-mark_names c = over_33 _ c.args.l _ _ c.requires.spelt_table.0 _ c.mark_names.ensures.0 (search rules) _ _ _

pub returns-then-buf-last : goal.returns-then-buf-last
returns-then-buf-last c =
    within_33 _ c.args.l _ _ c.requires.spelt_table.0 _ c.mark_names.ensures.0 (search rules) _ _ _ _
    (over_22 _ c.args.l _ _ c.args.f c.requires.gathered.0 _ _ c.collect_records-last.ensures c.requires.fitting (search rules) (search rules) _ _ _)

pub write_pattern-requires-clause-recorded : goal.write_pattern-requires-clause-recorded
write_pattern-requires-clause-recorded c =
    (search recorded_laws, accepts_marked _ c.args.l _ _ c.requires.spelt_table.0 _ _ c.requires.gathered.1 c.mark_names.ensures.1)

pub returns : goal.returns
returns c =
    within_33 _ c.args.l _ _ c.requires.spelt_table.0 _ c.mark_names.ensures.0 (search rules) _ _ _ _
    (within_22 _ c.args.l _ _ c.args.f c.requires.gathered.0 _ _ c.collect_records-last.ensures c.if-buf-last.false _ _ _ _ c.write_pattern.ensures)
