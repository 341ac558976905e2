-- `eliminate_tables` meets its contract: too many for the small memory, or all is written; the small memory is tried once.
use borrow.Author.Rules.{rules}
use native.Mathlib.Omega.{arith}
use Prim.Native.Nat.{ℕ, ◌-◌, ◌<◌}
use borrow.Fn.Kinds.{In}
use borrow.Fn.PlainCycle.{Measures, is, falls, and}
use Rattle.epsilon.proofs.Answers.{memory_laws}
use Rattle.epsilon.proofs.eliminate_tables.Reads as eliminate-tables
use Rattle.epsilon.proofs.eliminate_tables.Kinds as eliminate-tables-kinds
use Rattle.epsilon.proofs.+eliminate_tables.Lts-eliminate_tables as eliminate-tables-lts
use Rattle.epsilon.proofs.eliminate_large.Reads as eliminate-large-reads
use Rattle.epsilon.proofs.gather.Reads as gather-reads
use Rattle.epsilon.proofs.put_result.Reads as put-result-reads
use Rattle.epsilon.proofs.+eliminate_tables.{statement}
use Rattle.epsilon.proofs.+eliminate_tables.Tie.{close}

abbrev μ-eliminate-tables : Measures 6 eliminate-tables-kinds.ps ℕ
μ-eliminate-tables κs a = 641 - a.1.1.1.1.1.1.0

abbrev eliminate-tables-at : ℕ → In 6 eliminate-tables-kinds.ps
eliminate-tables-at t = and 6 eliminate-tables-kinds.ps (is 6 eliminate-tables-kinds.ps μ-eliminate-tables t) eliminate-tables.Pre

abbrev eliminate-tables-below : ℕ → In 6 eliminate-tables-kinds.ps
eliminate-tables-below t = and 6 eliminate-tables-kinds.ps (falls 6 eliminate-tables-kinds.ps ◌<◌ μ-eliminate-tables t) eliminate-tables.Pre

pub +eliminate_tables_spec : {M : Type 1} → statement M
+eliminate_tables_spec =
    close μ-eliminate-tables
    (λ t.
    eliminate-tables-lts.spec
    (eliminate-large-reads.Asked, eliminate-large-reads.Learnt, gather-reads.Asked, gather-reads.Learnt, eliminate-tables-below t, eliminate-tables.Post, put-result-reads.Asked, put-result-reads.Learnt)
    (eliminate-tables-at t) eliminate-tables.Post
    (λ c κs. search rules)
    (λ c. search rules)
    (λ c. search rules)
    (λ c. search rules)
    (λ c. search rules)
    (λ c. search rules)
    (λ c κs. search memory_laws)
    (λ c κs. (omega arith, search rules))
    (λ c. search rules)
    (λ c. search rules)
    (λ c. search rules)
    (λ c. search rules)
    (λ c. search rules)
    (λ c. search rules)
    (λ c κs. search memory_laws)
    (λ c. search rules)
    (λ c. search rules)
    (λ c. search rules))
