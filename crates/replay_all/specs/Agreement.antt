-- Which cases agree, by their kind, and the count of those of a list.
use Rattle.std.specs.Prelude.{ℕ, ◌<◌, Bool, List, ◌≡◌, take}
use Rattle.replay.specs.declared.Tally.{Tally}
use Rattle.replay.specs.Counting.{case_at, count_of, behind_case, begun, tallied}
use Rattle.replay.specs.Lines.{line_at}
use Rattle.replay_all.specs.declared.ListKind.{ListKind}
use Rattle.replay_all.specs.declared.ListKind.TheVariants as kind
use Rattle.replay_all.specs.Decided.{sheet_case, labels_case, word_case, text_case, nfa_case, nonempty_case, equivalent_case, subautomaton_case}
use Rattle.replay_all.specs.Rows.{closures_case}
use Rattle.replay_all.specs.Outcomes.{determinize_case, product_case, Totalize, Complement, EpsilonEliminate, operation_case, parse_case}
use Rattle.replay_all.specs.Spans.{ranges_case}
use Rattle.replay_all.specs.Spelling.{write_case}
use Rattle.replay_all.specs.Verdicts.{EqualityCase}

-- r says whether a case of the kind agrees
unfoldable pub Agrees : ListKind → List ℕ → Bool → Type 0
Agrees kind.Sheets s r = r ≡ sheet_case s
Agrees kind.Labels s r = r ≡ labels_case s
Agrees kind.Accepts s r = r ≡ word_case s
Agrees kind.Text s r = r ≡ text_case s
Agrees kind.Ranges s r = r ≡ ranges_case s
Agrees kind.Closures s r = r ≡ closures_case s
Agrees kind.Determinize s r = r ≡ determinize_case s
Agrees kind.Product s r = r ≡ product_case s
Agrees kind.Totalize s r = r ≡ operation_case Totalize s
Agrees kind.Complement s r = r ≡ operation_case Complement s
Agrees kind.EpsilonEliminate s r = r ≡ operation_case EpsilonEliminate s
Agrees kind.IsNfa s r = r ≡ nfa_case s
Agrees kind.Nonempty s r = r ≡ nonempty_case s
Agrees kind.IsEquivalent s r = r ≡ equivalent_case s
Agrees kind.IsSubautomaton s r = r ≡ subautomaton_case s
Agrees kind.Parse s r = r ≡ parse_case s
Agrees kind.Write s r = r ≡ write_case s
Agrees kind.Equality s r = EqualityCase s r

-- the numbers of the case at a place: at most 4,096, and none where it could not be read
unfoldable pub numbers_at : List ℕ → ℕ → List ℕ
numbers_at text at = take (count_of (case_at 4096 text at)) (line_at text at).numbers

-- the tally u after t with the case at its place
pub record Turned (k : ListKind) (text : List ℕ) (t u : Tally) : Type 0 where
  pub agreement : Bool
  pub agrees : Agrees k (numbers_at text t.at) agreement
  pub is : u ≡ tallied t (behind_case t.at (case_at 4096 text t.at)) agreement

-- the tally after some cases of the text
pub data Counted (k : ListKind) (text : List ℕ) : Tally → Type 0 where
  none : Counted k text (begun text)
  more : {t u : Tally} → Counted k text t → 0 < t.left → Turned k text t u → Counted k text u
