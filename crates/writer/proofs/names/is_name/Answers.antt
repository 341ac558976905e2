-- By the laws of a name; the bytes behind the first decide.
use Rattle.std.proofs.Common.{◌-◌, length, take, drop, rules, tests, arith}
use Rattle.std.proofs.lemmas.Iterator.{YieldsList-from_slice}
use Rattle.std.proofs.lemmas.Iterator.Search.{all_from_yields_List}
use Rattle.grammar.specs.Bytes.{is_name_byte}
use Rattle.writer.proofs.Naming.{name_laws, name_rest}
use Rattle.writer.proofs.names.is_name.Goals as goal

pub returns-then-label-lt1 : goal.returns-then-label-lt1
returns-then-label-lt1 c = search name_laws

pub returns-then-label-gt64 : goal.returns-then-label-gt64
returns-then-label-gt64 c = search name_laws

pub returns-then-not-is_letter : goal.returns-then-not-is_letter
returns-then-not-is_letter c = search name_laws

pub returns : goal.returns
returns c =
    let rest = take (length c.args.label.now - 1) (drop 1 c.args.label.now) in
    name_rest _ _ c.is_letter.ensures (omega arith) (omega arith) (search rules) _
    (all_from_yields_List is_name_byte _ _ c.all.result c.all.ensures.ran (YieldsList-from_slice rest cc) (λ x b q k. search (rules, tests)))
