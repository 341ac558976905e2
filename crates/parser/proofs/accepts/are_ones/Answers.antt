-- What `all` answers is `all` of lists/Lists.
use Rattle.std.proofs.Common.{◌∙◌, eqb, rules, tests}
use Rattle.std.proofs.lemmas.Iterator.{YieldsList-from_slice}
use Rattle.std.proofs.lemmas.Iterator.Search.{all_from_yields_List}
use Rattle.lists.proofs.Chains.{all_listed}
use Rattle.parser.proofs.accepts.are_ones.Goals as goal

pub returns : goal.returns
returns c =
    all_from_yields_List (λ w. eqb w 1) _ _ _ c.all.ensures.ran (YieldsList-from_slice c.args.words.now cc) (λ x b q k. search (rules, tests)) ∙ all_listed _ c.args.words.now
