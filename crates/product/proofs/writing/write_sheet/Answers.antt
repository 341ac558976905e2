-- The sections stand one behind the other.
use Rattle.std.proofs.Common.{refl}
use Rattle.product.proofs.Sections.{sheet_count, sheet_records, sheet_done}
use Rattle.product.proofs.writing.write_sheet.Goals as goal

pub put-first-requires : goal.put-first-requires
put-first-requires c = search sheet_count

pub put_all-requires : goal.put_all-requires
put_all-requires c =
    sheet_records c.args.a.now c.args.b.now _ _ c.requires.2 _ _ _ c.put_start-states.ensures _ _ c.put_accept_words-counts.ensures _ _ _ c.put-first.ensures
    c.requires.3 c.requires.6 c.args.records.now c.requires.5

pub returns : goal.returns
returns c =
    sheet_done c.args.a.now c.args.b.now _ _ c.requires.2 _ _ _ c.put_start-states.ensures _ _ c.put_accept_words-counts.ensures _ _ _ c.put-first.ensures
    c.args.records.now _ _ refl c.put_all.ensures
