-- What `reading_answer` answers, by cases, and the exact condition of each answer.
use Prim.Native.Nat.{ℕ, ◌≤◌, ◌<◌}
use mathlib.Core.List.{List}
use mathlib.Core.Logic.{◌↔◌}
use mathlib.Core.Path.{◌≡◌, refl, sym, ◌∙◌, ap, subst}
use native.Mathlib.Omega.{arith}
use lib.ListN.{length, take}
use Rattle.grammar.specs.Grammar.{ReadResult, nothing, found, TextParts, whole_text}
use Rattle.output.proofs.Left.{Writable}
use Rattle.refusal.specs.Answer.{refused, given}
use Rattle.syntax.specs.Syntax.{Said, Text, BeginsWith}
use Rattle.syntax.specs.Spelled.{spell}
use Rattle.syntax.proofs.Theorems.{sound, untaken, unambiguous, front}
use Rattle.parser.specs.Misspelt.{Misspelt}
use Rattle.parser.specs.Pattern.{states_of, automaton_of, pattern_of, Reading, meant, meaning, reading_answer}
use Rattle.parser.proofs.Said.{text_sayable, said_writable, Limits, no_state, many_states, many_transitions, few, limits}

module _ (t : List ℕ) where
  -- no text stands at the front; or the first n bytes are one that says s, and an accepting name is no state, or it is too large, or read
  pub data Outcome : Type 0 where
    no_text : ((u : List ℕ) (s : Said) → BeginsWith t u s → ⊥) → reading_answer t ≡ refused 8 → Outcome
    misspelt : (n : ℕ) (s : Said) → Text (take n t) s → Misspelt s → reading_answer t ≡ refused 33 → Outcome
    over_states : (n : ℕ) (s : Said) → Text (take n t) s → (Misspelt s → ⊥) → 256 < length (states_of s) → reading_answer t ≡ refused 21 → Outcome
    over_transitions : (n : ℕ) (s : Said) → Text (take n t) s → (Misspelt s → ⊥) → length (states_of s) ≤ 256
        → 2048 < length (automaton_of s (states_of s)).transitions → reading_answer t ≡ refused 22 → Outcome
    reads : (n : ℕ) (s : Said) → n ≤ length t → Text (take n t) s → (Misspelt s → ⊥) → length (states_of s) ≤ 256
        → length (automaton_of s (states_of s)).transitions ≤ 2048 → reading_answer t ≡ given (record { pattern = pattern_of s; read = n }) → Outcome

  pub outcome : Outcome
  unfolding reading_answer
  outcome = by_text (whole_text t) refl
    where
      by_size : (n : ℕ) (s : Said) → n ≤ length t → Text (take n t) s → reading_answer t ≡ meant s n → Limits s n → Outcome
      by_size n s i x e (no_state w q) = misspelt n s x w (e ∙ q)
      by_size n s i x e (many_states w a q) = over_states n s x w a (e ∙ q)
      by_size n s i x e (many_transitions w a b q) = over_transitions n s x w a b (e ∙ q)
      by_size n s i x e (few w a b q) = reads n s i x w a b (e ∙ q)

      by_text : (f : ReadResult TextParts) → whole_text t ≡ f → Outcome
      by_text nothing e = no_text ((untaken t).0 e) (ap (meaning t) e)
      by_text (found g n) e = let x = sound t g n e in by_size n (spell t g) x.0 x.1 (ap (meaning t) e) (limits (spell t g) n)

  -- a text at the front is the one that is there
  same_said : {u : List ℕ} {s : Said} (n : ℕ) (r : Said) → BeginsWith t u s → Text (take n t) r → s ≡ r
  same_said n r b x = (unambiguous b (front t n x)).1

  pub answers_8 : (reading_answer t ≡ refused 8) ↔ ((u : List ℕ) (s : Said) → BeginsWith t u s → ⊥)
  answers_8 = (out outcome, into outcome)
    where
      out : Outcome → reading_answer t ≡ refused 8 → (u : List ℕ) (s : Said) → BeginsWith t u s → ⊥
      out (no_text n e) z = n
      out (misspelt n s x w e) z = let y : ◌≡◌ {A = ℕ} 8 33 = cc in absurd (omega arith)
      out (over_states n s x w a e) z = let y : ◌≡◌ {A = ℕ} 8 21 = cc in absurd (omega arith)
      out (over_transitions n s x w a b e) z = let y : ◌≡◌ {A = ℕ} 8 22 = cc in absurd (omega arith)
      out (reads n s i x w a b e) z = let y : ◌≡◌ {A = ℕ} 0 1 = cc in absurd (omega arith)

      into : Outcome → ((u : List ℕ) (s : Said) → BeginsWith t u s → ⊥) → reading_answer t ≡ refused 8
      into (no_text n e) z = e
      into (misspelt n s x w e) z = absurd (z _ s (front t n x))
      into (over_states n s x w a e) z = absurd (z _ s (front t n x))
      into (over_transitions n s x w a b e) z = absurd (z _ s (front t n x))
      into (reads n s i x w a b e) z = absurd (z _ s (front t n x))

  pub answers_33 : (reading_answer t ≡ refused 33) ↔ ((u : List ℕ) × (s : Said) × BeginsWith t u s × Misspelt s)
  answers_33 = (out outcome, into outcome)
    where
      out : Outcome → reading_answer t ≡ refused 33 → (u : List ℕ) × (s : Said) × BeginsWith t u s × Misspelt s
      out (no_text n e) z = let y : ◌≡◌ {A = ℕ} 8 33 = cc in absurd (omega arith)
      out (misspelt n s x w e) z = (take n t, s, front t n x, w)
      out (over_states n s x w a e) z = let y : ◌≡◌ {A = ℕ} 21 33 = cc in absurd (omega arith)
      out (over_transitions n s x w a b e) z = let y : ◌≡◌ {A = ℕ} 22 33 = cc in absurd (omega arith)
      out (reads n s i x w a b e) z = let y : ◌≡◌ {A = ℕ} 0 1 = cc in absurd (omega arith)

      into : Outcome → ((u : List ℕ) × (s : Said) × BeginsWith t u s × Misspelt s) → reading_answer t ≡ refused 33
      into (no_text n e) (u, r, b, m) = absurd (n u r b)
      into (misspelt n s x w e) (u, r, b, m) = e
      into (over_states n s x w a e) (u, r, b, m) = absurd (w (subst Misspelt (same_said n s b x) m))
      into (over_transitions n s x w a c e) (u, r, b, m) = absurd (w (subst Misspelt (same_said n s b x) m))
      into (reads n s i x w a c e) (u, r, b, m) = absurd (w (subst Misspelt (same_said n s b x) m))

  pub answers_21 : (reading_answer t ≡ refused 21) ↔ ((u : List ℕ) × (s : Said) × BeginsWith t u s × (Misspelt s → ⊥) × (256 < length (states_of s)))
  answers_21 = (out outcome, into outcome)
    where
      out : Outcome → reading_answer t ≡ refused 21 → (u : List ℕ) × (s : Said) × BeginsWith t u s × (Misspelt s → ⊥) × (256 < length (states_of s))
      out (no_text n e) z = let y : ◌≡◌ {A = ℕ} 8 21 = cc in absurd (omega arith)
      out (misspelt n s x w e) z = let y : ◌≡◌ {A = ℕ} 33 21 = cc in absurd (omega arith)
      out (over_states n s x w a e) z = (take n t, s, front t n x, w, a)
      out (over_transitions n s x w a b e) z = let y : ◌≡◌ {A = ℕ} 21 22 = cc in absurd (omega arith)
      out (reads n s i x w a b e) z = let y : ◌≡◌ {A = ℕ} 0 1 = cc in absurd (omega arith)

      into : Outcome → ((u : List ℕ) × (s : Said) × BeginsWith t u s × (Misspelt s → ⊥) × (256 < length (states_of s))) → reading_answer t ≡ refused 21
      into (no_text n e) (u, r, b, v, m) = absurd (n u r b)
      into (misspelt n s x w e) (u, r, b, v, m) = absurd (v (subst Misspelt (sym (same_said n s b x)) w))
      into (over_states n s x w a e) (u, r, b, v, m) = e
      into (over_transitions n s x w a c e) (u, r, b, v, m) = absurd (omega (arith, ap (λ (k : Said). length (states_of k)) (same_said n s b x)))
      into (reads n s i x w a c e) (u, r, b, v, m) = absurd (omega (arith, ap (λ (k : Said). length (states_of k)) (same_said n s b x)))

  pub answers_22 : (reading_answer t ≡ refused 22)
      ↔ ((u : List ℕ) × (s : Said) × BeginsWith t u s × (Misspelt s → ⊥) × (length (states_of s) ≤ 256) × (2048 < length (automaton_of s (states_of s)).transitions))
  answers_22 = (out outcome, into outcome)
    where
      out : Outcome → reading_answer t ≡ refused 22
          → (u : List ℕ) × (s : Said) × BeginsWith t u s × (Misspelt s → ⊥) × (length (states_of s) ≤ 256) × (2048 < length (automaton_of s (states_of s)).transitions)
      out (no_text n e) z = let y : ◌≡◌ {A = ℕ} 8 22 = cc in absurd (omega arith)
      out (misspelt n s x w e) z = let y : ◌≡◌ {A = ℕ} 33 22 = cc in absurd (omega arith)
      out (over_states n s x w a e) z = let y : ◌≡◌ {A = ℕ} 21 22 = cc in absurd (omega arith)
      out (over_transitions n s x w a b e) z = (take n t, s, front t n x, w, a, b)
      out (reads n s i x w a b e) z = let y : ◌≡◌ {A = ℕ} 0 1 = cc in absurd (omega arith)

      into : Outcome → ((u : List ℕ) × (s : Said) × BeginsWith t u s × (Misspelt s → ⊥) × (length (states_of s) ≤ 256) × (2048 < length (automaton_of s (states_of s)).transitions))
          → reading_answer t ≡ refused 22
      into (no_text n e) (u, r, b, v, m, k) = absurd (n u r b)
      into (misspelt n s x w e) (u, r, b, v, m, k) = absurd (v (subst Misspelt (sym (same_said n s b x)) w))
      into (over_states n s x w a e) (u, r, b, v, m, k) = absurd (omega (arith, ap (λ (k : Said). length (states_of k)) (same_said n s b x)))
      into (over_transitions n s x w a c e) (u, r, b, v, m, k) = e
      into (reads n s i x w a c e) (u, r, b, v, m, k) = absurd (omega (arith, ap (λ (k : Said). length (automaton_of k (states_of k)).transitions) (same_said n s b x)))

  -- 20 is none of the answers
  pub answers_20 : reading_answer t ≡ refused 20 → ⊥
  answers_20 z = go outcome
    where
      go : Outcome → ⊥
      go (no_text n e) = let y : ◌≡◌ {A = ℕ} 8 20 = cc in omega arith
      go (misspelt n s x w e) = let y : ◌≡◌ {A = ℕ} 33 20 = cc in omega arith
      go (over_states n s x w a e) = let y : ◌≡◌ {A = ℕ} 21 20 = cc in omega arith
      go (over_transitions n s x w a b e) = let y : ◌≡◌ {A = ℕ} 22 20 = cc in omega arith
      go (reads n s i x w a b e) = let y : ◌≡◌ {A = ℕ} 0 1 = cc in omega arith

  -- what is given is what a text at the front means, and can be written
  pub record Given (R : Reading) : Type 0 where
    pub said : Said
    pub inside : R.read ≤ length t
    pub text : Text (take R.read t) said
    pub spelt : Misspelt said → ⊥
    pub few_states : length (states_of said) ≤ 256
    pub few_transitions_lem : length (automaton_of said (states_of said)).transitions ≤ 2048
    pub is : R.pattern ≡ pattern_of said
    pub writable : Writable R.pattern

  pub answers_given : (R : Reading) → reading_answer t ≡ given R → Given R
  answers_given R z = go outcome
    where
      go : Outcome → Given R
      go (no_text n e) = let y : ◌≡◌ {A = ℕ} 0 1 = cc in absurd (omega arith)
      go (misspelt n s x w e) = let y : ◌≡◌ {A = ℕ} 0 1 = cc in absurd (omega arith)
      go (over_states n s x w a e) = let y : ◌≡◌ {A = ℕ} 0 1 = cc in absurd (omega arith)
      go (over_transitions n s x w a b e) = let y : ◌≡◌ {A = ℕ} 0 1 = cc in absurd (omega arith)
      go (reads n s i x w a b e) =
          let g : given R ≡ given (record { pattern = pattern_of s; read = n }) = sym z ∙ e in
          let h : R ≡ record { pattern = pattern_of s; read = n } = cc in
          subst Given (sym h)
          (record { said = s; inside = i; text = x; spelt = w; few_states = a; few_transitions_lem = b; is = refl; writable = said_writable s (text_sayable x) a b })

  -- and something is given where the accepting names of a text at the front are states, and it is within the limits
  pub answers_some : {u : List ℕ} {s : Said} → BeginsWith t u s → (Misspelt s → ⊥) → length (states_of s) ≤ 256
      → length (automaton_of s (states_of s)).transitions ≤ 2048 → (R : Reading) × (reading_answer t ≡ given R)
  answers_some {u} {s = r} b v m k = go outcome
    where
      go : Outcome → (R : Reading) × (reading_answer t ≡ given R)
      go (no_text n e) = absurd (n u r b)
      go (misspelt n s x w e) = absurd (v (subst Misspelt (sym (same_said n s b x)) w))
      go (over_states n s x w a e) = absurd (omega (arith, ap (λ (k : Said). length (states_of k)) (same_said n s b x)))
      go (over_transitions n s x w a c e) = absurd (omega (arith, ap (λ (k : Said). length (automaton_of k (states_of k)).transitions) (same_said n s b x)))
      go (reads n s i x w a c e) = (_, e)
