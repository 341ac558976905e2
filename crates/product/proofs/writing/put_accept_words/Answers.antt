-- Each accept word is stored behind those before it.
use Rattle.product.proofs.Sections.{words_laws}
use Rattle.product.proofs.writing.put_accept_words.Goals as goal

pub loop-i-init : goal.loop-i-init
loop-i-init c = search words_laws

pub accept_word-requires : goal.accept_word-requires
accept_word-requires c = search words_laws

pub loop-i-preserved : goal.loop-i-preserved
loop-i-preserved c = search words_laws
