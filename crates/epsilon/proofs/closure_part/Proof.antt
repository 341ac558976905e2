-- `closure_part` meets its contract: the part is that of the same closure, or it is gathered anew.
use borrow.Author.Rules.{rules}
use Rattle.epsilon.proofs.Parts.{part_inside, part_set, part_kept, part_canon, part_row, part_new}
use Rattle.epsilon.proofs.closure_part.Statement.{statement}
use Rattle.epsilon.proofs.closure_part.Tie as tie

pub closure_part_spec : {M : Type 1} → statement M
closure_part_spec =
    tie.close
    (tie.spec (λ c κs. search (part_inside, rules)) (λ c. search rules)
    (λ c. let x = c.requires in
    (part_set _ _ _ x.0 _ x.1 _ _ c.same.ensures c.if-same.true, part_kept _ _ _ x.0 _ x.1 _ _ c.same.ensures c.if-same.true _ _ x.3))
    (λ c κs. search (part_inside, rules))
    (λ c κs. let x = c.requires in
    (search rules, search rules, part_canon _ _ _ x.0 _ x.1 _ _ c.copy_row.ensures x.2, search rules, search rules))
    (λ c κs. search rules) (λ c. search rules) (λ c. search rules)
    (λ c. let x = c.requires in let e = c.copy_row.ensures in
    (part_row _ _ _ x.0 _ x.1 _ _ e x.2, part_new _ _ _ x.0 _ x.1 _ _ e x.2 _ _ _ c.add_set-f.ensures _ _ c.collect_records.ensures)))
