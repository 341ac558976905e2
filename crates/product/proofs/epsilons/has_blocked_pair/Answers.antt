-- The words of the queue are the pairs of the table.
use Rattle.std.proofs.Common.{take, ◌∙◌, rules}
use Rattle.std.proofs.lemmas.Iterator.{YieldsList-from_slice}
use Rattle.std.proofs.lemmas.Iterator.Adapters.{serves_from_places}
use Rattle.std.proofs.lemmas.Iterator.Search.{any_from_yields_List}
use Rattle.sheets.specs.Sheet.{read}
use Rattle.product.specs.Product.{blocked_at}
use Rattle.product.specs.inner.Tables.{pair_of}
use Rattle.product.proofs.Blocking.{any_blocked, word_laws}
use Rattle.product.proofs.epsilons.has_blocked_pair.Goals as goal

pub any-requires-clause-callable : goal.any-requires-clause-callable
any-requires-clause-callable c =
    serves_from_places (YieldsList-from_slice (take c.args.n c.args.queue.now) (search rules)) (λ x q h. search rules) (λ x k h e. search word_laws)

pub returns : goal.returns
returns c =
    let f = λ (w : _). blocked_at (read c.args.a.now) (read c.args.b.now) (pair_of w) in
    any_from_yields_List f _ _ _ c.any.ensures.ran (YieldsList-from_slice (take c.args.n c.args.queue.now) (search rules)) (λ x b q k. search rules) ∙ any_blocked c.args.a.now c.args.b.now _ _
