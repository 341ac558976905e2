-- Laws of the cases of a list: each agrees by its kind, and is counted.
use Rattle.std.proofs.Common.{Option, Some, None, Result, Ok, Err}
use Rattle.std.specs.Result.{result_ok}
use Prim.Native.Nat.{ℕ, ◌-◌, ◌<◌}
use mathlib.Core.Bool.{Bool}
use mathlib.Core.List.{List, []}
use mathlib.Core.Path.{◌≡◌, refl, sym, ◌∙◌, ap, subst}
use native.Mathlib.Omega.{arith}
use borrow.Author.Rules.{rules}
use lib.ListN.{length, take, replicate, length-replicate}
use lib.Seq.{sets, take_all}
use Rattle.replay.specs.declared.Numbers.{Numbers}
use Rattle.replay.specs.declared.LineFault.{LineFault}
use Rattle.replay.specs.declared.Tally.{Tally}
use Rattle.replay.specs.Counting.{case_at, count_of, behind_case, begun, tallied}
use Rattle.replay.specs.Lines.{answer, line_at}
use Rattle.replay.proofs.Lines.{LineStored, line_told, line_part}
use Rattle.replay_all.specs.declared.ListKind.{ListKind}
use Rattle.replay_all.specs.declared.ListKind.TheVariants as kind
use Rattle.replay_all.specs.Decided.{sheet_case, labels_case, word_case, text_case, nfa_case, nonempty_case, equivalent_case, subautomaton_case}
use Rattle.replay_all.specs.Rows.{closures_case}
use Rattle.replay_all.specs.Outcomes.{determinize_case, product_case, Totalize, Complement, EpsilonEliminate, operation_case, parse_case}
use Rattle.replay_all.specs.Spans.{ranges_case}
use Rattle.replay_all.specs.Spelling.{write_case}
use Rattle.replay_all.specs.Verdicts.{EqualityCase}
use Rattle.replay_all.specs.Agreement.{Agrees, numbers_at, Turned, Counted, none, more}

-- a case of each kind
module _ (k : ListKind) (s : List ℕ) (b : Bool) where
  by_kind : {j : ListKind} → k ≡ j → Agrees j s b → Agrees k s b
  by_kind e a = subst (λ (x : ListKind). Agrees x s b) (sym e) a

  pub sheets_agree : k ≡ kind.Sheets → b ≡ sheet_case s → Agrees k s b
  unfolding Agrees
  sheets_agree e p = by_kind e p

  pub labels_agree : k ≡ kind.Labels → b ≡ labels_case s → Agrees k s b
  unfolding Agrees
  labels_agree e p = by_kind e p

  pub accepts_agree : k ≡ kind.Accepts → b ≡ word_case s → Agrees k s b
  unfolding Agrees
  accepts_agree e p = by_kind e p

  pub text_agree : k ≡ kind.Text → b ≡ text_case s → Agrees k s b
  unfolding Agrees
  text_agree e p = by_kind e p

  pub ranges_agree : k ≡ kind.Ranges → b ≡ ranges_case s → Agrees k s b
  unfolding Agrees
  ranges_agree e p = by_kind e p

  pub closures_agree : k ≡ kind.Closures → b ≡ closures_case s → Agrees k s b
  unfolding Agrees
  closures_agree e p = by_kind e p

  pub determinize_agree : k ≡ kind.Determinize → b ≡ determinize_case s → Agrees k s b
  unfolding Agrees
  determinize_agree e p = by_kind e p

  pub product_agree : k ≡ kind.Product → b ≡ product_case s → Agrees k s b
  unfolding Agrees
  product_agree e p = by_kind e p

  pub totalize_agree : k ≡ kind.Totalize → b ≡ operation_case Totalize s → Agrees k s b
  unfolding Agrees
  totalize_agree e p = by_kind e p

  pub complement_agree : k ≡ kind.Complement → b ≡ operation_case Complement s → Agrees k s b
  unfolding Agrees
  complement_agree e p = by_kind e p

  pub epsilon_eliminate_agree : k ≡ kind.EpsilonEliminate → b ≡ operation_case EpsilonEliminate s → Agrees k s b
  unfolding Agrees
  epsilon_eliminate_agree e p = by_kind e p

  pub is_nfa_agree : k ≡ kind.IsNfa → b ≡ nfa_case s → Agrees k s b
  unfolding Agrees
  is_nfa_agree e p = by_kind e p

  pub nonempty_agree : k ≡ kind.Nonempty → b ≡ nonempty_case s → Agrees k s b
  unfolding Agrees
  nonempty_agree e p = by_kind e p

  pub is_equivalent_agree : k ≡ kind.IsEquivalent → b ≡ equivalent_case s → Agrees k s b
  unfolding Agrees
  is_equivalent_agree e p = by_kind e p

  pub is_subautomaton_agree : k ≡ kind.IsSubautomaton → b ≡ subautomaton_case s → Agrees k s b
  unfolding Agrees
  is_subautomaton_agree e p = by_kind e p

  pub parse_agree : k ≡ kind.Parse → b ≡ parse_case s → Agrees k s b
  unfolding Agrees
  parse_agree e p = by_kind e p

  pub write_agree : k ≡ kind.Write → b ≡ write_case s → Agrees k s b
  unfolding Agrees
  write_agree e p = by_kind e p

  pub equality_agree : k ≡ kind.Equality → EqualityCase s b → Agrees k s b
  unfolding Agrees
  equality_agree e p = by_kind e p

pub ruleset agree_laws = (
  sheets_agree,
  labels_agree,
  accepts_agree,
  text_agree,
  ranges_agree,
  closures_agree,
  determinize_agree,
  product_agree,
  totalize_agree,
  complement_agree,
  epsilon_eliminate_agree,
  is_nfa_agree,
  nonempty_agree,
  is_equivalent_agree,
  is_subautomaton_agree,
  parse_agree,
  write_agree,
  equality_agree,
  rules,
)

-- the numbers of a case that was read into memory for so many
part_at : (out s : List ℕ) (at room : ℕ) → length out ≡ room
    → take (count_of (case_at room s at)) (sets out 0 (line_at s at).numbers) ≡ take (count_of (case_at room s at)) (line_at s at).numbers
unfolding case_at
part_at out s at room l = go (answer room at (line_at s at)) refl
  where
    go : (r : Result Numbers LineFault) → r ≡ answer room at (line_at s at)
        → take (count_of (result_ok r)) (sets out 0 (line_at s at).numbers) ≡ take (count_of (result_ok r)) (line_at s at).numbers
    go (Ok v) e =
        let t : LineStored room at (line_at s at) v.count v.to = line_told room at v.count v.to (line_at s at) e in
        line_part room at v.count v.to out (line_at s at) t l ∙ sym (take_all v.count (line_at s at).numbers (omega (arith, t.count)))
    go (Err f) e = refl

module _ (k : ListKind) (text m : List ℕ) (t u : Tally) (b : Bool) (f : m ≡ sets (replicate 4096 0) 0 (line_at text t.at).numbers) where
  pub turned : (v : Option Numbers) → v ≡ case_at 4096 text t.at → Agrees k (take (count_of v) m) b → u ≡ tallied t (behind_case t.at v) b → Turned k text t u
  turned v e a p =
      record {
        agreement = b;
        agrees =
            subst (λ (l : List ℕ). Agrees k l b)
            (ap (take (count_of v)) f ∙ rw e (part_at (replicate 4096 0) text t.at 4096 (length-replicate {A = ℕ} 4096 0)) ∙ numbers) a;
        is = p ∙ ap (λ (w : Option Numbers). tallied t (behind_case t.at w) b) e;
      }
    where
      numbers : take (count_of (case_at 4096 text t.at)) (line_at text t.at).numbers ≡ numbers_at text t.at
      numbers = unfold numbers_at in refl

  pub turned_read : (l : Numbers) → Some l ≡ case_at 4096 text t.at → Agrees k (take l.count m) b → u ≡ tallied t l.to b → Turned k text t u
  turned_read l = turned (Some l)

  pub turned_none : None ≡ case_at 4096 text t.at → Agrees k [] b → u ≡ tallied t t.at b → Turned k text t u
  turned_none = turned None

pub ruleset turn_laws = (turned_read, turned_none, rules)

-- the cases so far
pub counted_none : (k : ListKind) (text : List ℕ) (t : Tally) → t ≡ begun text → Counted k text t
counted_none k text t e = subst (Counted k text) (sym e) none

module _ (k : ListKind) (text : List ℕ) (t u : Tally) (p : Turned k text t u) (h : 0 < t.left) where
  pub counted_more : Counted k text t → Counted k text u
  counted_more c = more c h p

  pub counted_less : u.left < t.left
  unfolding tallied
  counted_less = let z : u.left ≡ t.left - 1 = ap (λ (w : Tally). w.left) p.is in omega arith

pub ruleset count_laws = (counted_none, counted_more, counted_less, rules)
