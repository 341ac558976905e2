-- What is proved of `is_nfa` (document 01, "Product, totality, complement, emptiness").
--
-- Of an automaton; `lower` and `upper` are the least and the greatest symbol:
--   nfa_deterministic_at   `is_nfa` is false exactly where no state has an epsilon, an overlap or a hole
-- Of a well-formed one, as an accepted sheet reads:
--   nfa_nondeterministic   and true exactly where there is one of them
--   nfa_exact              it is false exactly where every symbol has one transition in every state and no epsilon stands
--   nfa_sheet              the same of a sheet of 32-bit words
-- Of the call of `is_nfa` on the sheet s, from its contract:
--   is_nfa_yes, is_nfa_no, is_nfa_deterministic, is_nfa_refused
--                          where each answer is given, exactly
use Prim.Native.Nat.{ℕ, ◌≤◌, ◌<◌}
use mathlib.Core.Bool.{Bool, true, false}
use mathlib.Core.List.{List}
use mathlib.Core.Logic.{◌↔◌}
use mathlib.Core.Path.{◌≡◌, sym, ◌∙◌, ap}
use lib.ListN.{get_or}
use Rattle.lists.specs.Lists.{◌∈◌}
use Rattle.automata.specs.Automaton.{Transition, Automaton, leaving}
use Rattle.automata.specs.Deterministic.{Deterministic}
use Rattle.automata.specs.WellFormed.{WellFormed, last_symbol}
use Rattle.refusal.specs.Answer.{refused, given}
use Rattle.std.specs.Prelude.{Result, Ok}
use Rattle.refusal.specs.Decision.{decision_of}
use Rattle.refusal.specs.declared.InputRefusal.{InputRefusal}
use Rattle.sheets.specs.Fault.{fault}
use Rattle.sheets.specs.Sheet.{state_count, read}
use Rattle.sheets.proofs.Decisions.{call_is, given_not}
use Rattle.sheets.proofs.Accepted.{accepted}
use Rattle.sheets.proofs.Meaning.{read_well}
use Rattle.sheets.proofs.Numbers.{sheet_given, sheet_fault}
use Rattle.nondeterminism.specs.Nondeterminism.{is_nfa, is_nfa_answer, DeterministicAt, Nondeterministic}
use Rattle.nondeterminism.proofs.Deterministic.{deterministic_at_exact, nondeterministic_exact, deterministic_exact, read_within}

module _ (lower upper : ℕ) (A : Automaton) where
  -- `is_nfa` is false exactly where no state has an epsilon, an overlap or a hole
  pub nfa_deterministic_at : (is_nfa lower upper A ≡ false) ↔ ((q : ℕ) → q < A.size → DeterministicAt lower upper (leaving A q))
  nfa_deterministic_at = deterministic_at_exact lower upper A

  module _ (v : WellFormed A) where
    -- and true exactly where there is one of them
    pub nfa_nondeterministic : (is_nfa lower upper A ≡ true) ↔ Nondeterministic lower upper A
    nfa_nondeterministic = nondeterministic_exact lower upper A v

    -- it is false exactly where every symbol has one transition in every state and no epsilon stands
    pub nfa_exact : ((e : Transition) → e ∈ A.transitions → e.kind ≡ 1 → (lower ≤ e.first) × (e.last ≤ upper)) → (is_nfa lower upper A ≡ false) ↔ Deterministic lower upper A
    nfa_exact = deterministic_exact lower upper A v

-- of a sheet of 32-bit words `is_nfa` is false exactly where every symbol has one transition in every state and no epsilon stands
pub nfa_sheet : (s : List ℕ) → fault s ≡ 0 → ((i : ℕ) → get_or s i 0 ≤ last_symbol) → (is_nfa 0 last_symbol (read s) ≡ false) ↔ Deterministic 0 last_symbol (read s)
nfa_sheet s f h = nfa_exact 0 last_symbol (read s) (read_well s (accepted s f)) (read_within s h)

-- the call of `is_nfa` on the sheet s: r is its answer
module _ (s : List ℕ) (r : Result Bool InputRefusal) (call : decision_of r ≡ is_nfa_answer 0 last_symbol s) where
  decided : (t : Bool) → (r ≡ Ok t) ↔ ((fault s ≡ 0) × (is_nfa 0 last_symbol (read s) ≡ t))
  unfolding is_nfa_answer
  decided t =
      let c = call_is r (is_nfa_answer 0 last_symbol s) call t in
      let p = sheet_given s (given (is_nfa 0 last_symbol (read s))) t in
      (λ e. let (f, g) = p.0 (c.0 e) in (f, same g), λ (f, g). c.1 (p.1 (f, ap given g)))
    where
      same : {x y : Bool} → given x ≡ given y → x ≡ y
      same e = cc

  -- the answer is yes exactly where the sheet has no fault, and an epsilon, an overlap or a hole
  pub is_nfa_yes : (r ≡ Ok true) ↔ ((fault s ≡ 0) × Nondeterministic 0 last_symbol (read s))
  is_nfa_yes = (
    λ e. let (f, t) = (decided true).0 e in (f, (nfa_nondeterministic 0 last_symbol (read s) (read_well s (accepted s f))).0 t),
    λ (f, u). (decided true).1 (f, (nfa_nondeterministic 0 last_symbol (read s) (read_well s (accepted s f))).1 u),
  )

  -- it is no exactly where the sheet has no fault, and no state has an epsilon, an overlap or a hole
  pub is_nfa_no : (r ≡ Ok false) ↔ ((fault s ≡ 0) × ((q : ℕ) → q < state_count s → DeterministicAt 0 last_symbol (leaving (read s) q)))
  is_nfa_no = (
    λ e. let (f, t) = (decided false).0 e in (f, (nfa_deterministic_at 0 last_symbol (read s)).0 t),
    λ (f, u). (decided false).1 (f, (nfa_deterministic_at 0 last_symbol (read s)).1 u),
  )

  -- on a sheet of 32-bit words it is no exactly where every symbol has one transition in every state and no epsilon stands
  pub is_nfa_deterministic : ((i : ℕ) → get_or s i 0 ≤ last_symbol) → (r ≡ Ok false) ↔ ((fault s ≡ 0) × Deterministic 0 last_symbol (read s))
  is_nfa_deterministic h = (
    λ e. let (f, t) = (decided false).0 e in (f, (nfa_sheet s f h).0 t),
    λ (f, d). (decided false).1 (f, (nfa_sheet s f h).1 d),
  )

  -- it is refused with a number exactly where the sheet has that fault
  pub is_nfa_refused : (m : ℕ) → 0 < m → (decision_of r ≡ refused m) ↔ (fault s ≡ m)
  unfolding is_nfa_answer
  is_nfa_refused m l =
      let p = sheet_fault s (given (is_nfa 0 last_symbol (read s))) m l (given_not _ _) in
      (λ e. p.0 (sym call ∙ e), λ f. call ∙ p.1 f)
