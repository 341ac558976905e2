-- When an automaton is a subautomaton of another (document 01, "Labels"): its states, accepting ones and start are the other's, and each of its
-- transitions is covered by one of the other between equal labels. States of equal label count as one.
use Rattle.std.specs.Prelude.{ℕ, ◌≤◌, ◌<◌, Bool, ◌&&◌, ◌||◌, ◌≡◌, eqb, leb, ltb}
use Rattle.lists.specs.Lists.{◌∈◌, any, all}
use Rattle.automata.specs.Automaton.{Transition, accept_of, states}
use Rattle.labels.specs.Labels.{same_label}
use Rattle.output.specs.Output.{Pattern, label_of}

-- q has the label of p, and accepts if p does
unfoldable pub is_same : Pattern → Pattern → ℕ → ℕ → Bool
is_same P Q p q = same_label (label_of P p) (label_of Q q) && (eqb (accept_of P.automaton p) 0 || ltb 0 (accept_of Q.automaton q))

-- the state p of P is one of Q
unfoldable pub has_state : Pattern → Pattern → ℕ → Bool
has_state P Q p = any (is_same P Q p) (states Q.automaton.size)

-- e leads from and to the labels of d, is an epsilon if d is, and else a range that holds all of d's; first and last of an epsilon are 0
unfoldable pub covers : Pattern → Pattern → Transition → Transition → Bool
covers P Q d e =
    same_label (label_of P d.from) (label_of Q e.from)
    && (same_label (label_of P d.to) (label_of Q e.to) && (eqb e.kind d.kind && (leb e.first d.first && leb d.last e.last)))

-- a transition of Q covers d
unfoldable pub is_covered : Pattern → Pattern → Transition → Bool
is_covered P Q d = any (covers P Q d) Q.automaton.transitions

-- P is a subautomaton of Q
unfoldable pub is_subautomaton : Pattern → Pattern → Bool
is_subautomaton P Q =
    all (has_state P Q) (states P.automaton.size)
    && (same_label (label_of P P.automaton.start) (label_of Q Q.automaton.start) && all (is_covered P Q) P.automaton.transitions)

-- the same in document 01's words, without a test: the theorem `subautomaton_words`
pub record Covers (P Q : Pattern) (d e : Transition) : Type 0 where
  pub from : label_of P d.from ≡ label_of Q e.from
  pub to : label_of P d.to ≡ label_of Q e.to
  pub kind : e.kind ≡ d.kind
  pub first : e.first ≤ d.first
  pub last : d.last ≤ e.last

pub record Sub (P Q : Pattern) : Type 0 where
  pub has_state_lem : (p : ℕ) → p < P.automaton.size → (q : ℕ) × (q < Q.automaton.size) × (label_of P p ≡ label_of Q q)
  pub accepting : (p : ℕ) → p < P.automaton.size → 0 < accept_of P.automaton p → (q : ℕ) × (q < Q.automaton.size) × (label_of P p ≡ label_of Q q) × (0 < accept_of Q.automaton q)
  pub start : label_of P P.automaton.start ≡ label_of Q Q.automaton.start
  pub transitions : (d : Transition) → d ∈ P.automaton.transitions → (e : Transition) × e ∈ Q.automaton.transitions × Covers P Q d e
