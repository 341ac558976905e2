-- `write_pattern` meets its contract: the parts are written one behind the other.
use Rattle.std.proofs.Common.{rules}
use Rattle.parser.proofs.Reading.{pattern_written, words_few}
use Rattle.parser.proofs.write_pattern.Goals as goal

pub write_sheet-w-requires : goal.write_sheet-w-requires
write_sheet-w-requires c = (search rules, words_few _ c.args.l _ _ c.requires.spelt_table _ c.requires.recorded.1, search rules)

pub returns : goal.returns
returns c =
    pattern_written c.args.text.now c.args.l c.args.t.now c.args.n c.requires.spelt_table _ _ _ _ _ _ _ _ _ c.requires.recorded.1 c.requires.recorded.0
    c.write_sheet-w.ensures c.write_labels-k.ensures
