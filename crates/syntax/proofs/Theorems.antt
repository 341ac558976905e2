-- What is proved of the rules and the reader, `whole_text` of crate `grammar`:
-- sound: what the reader takes from the front of a text is a text of the rules, and says what was found;
-- complete: where a text of the rules stands at the front it is taken to its end, whatever stands behind it;
-- taken: n bytes that say s are taken exactly where the first n bytes are a text that says s;
-- untaken: nothing is taken exactly where no text of the rules stands at the front;
-- unambiguous: at most one text stands at the front of any bytes, and it says one thing.
use Prim.Native.Nat.{ℕ, ◌≤◌}
use mathlib.Core.List.{List, ◌++◌}
use mathlib.Core.Logic.{◌↔◌}
use mathlib.Core.Path.{◌≡◌, refl, sym, ◌∙◌, ap}
use native.Mathlib.Omega.{arith}
use lib.ListN.{length, take, drop, length-drop, length-append, take-append-drop}
use lib.Seq.{take-append_seam, take_at, length-take-le}
use Rattle.grammar.specs.Grammar.{ReadResult, nothing, found, TextParts, whole_text}
use Rattle.grammar.proofs.Progress.{holds_found, text_inside}
use Rattle.syntax.specs.Syntax.{Text, Said, BeginsWith}
use Rattle.syntax.specs.Spelled.{spell}
use Rattle.syntax.proofs.Complete as Complete
use Rattle.syntax.proofs.Sound as Sound

-- what the reader takes is a text of the rules, and says what was found
pub sound : (t : List ℕ) (g : TextParts) (n : ℕ) → whole_text t ≡ found g n → (n ≤ length t) × Text (take n t) (spell t g)
sound t g n e =
    let h = holds_found _ (Sound.a_text t) e in
    let i : n ≤ length t = holds_found _ (text_inside t) e in
    let b : t ≡ h.part ++ drop n t = h.reads.bytes in
    let l : length h.part ≡ n = omega (arith, ap length b, length-append h.part (drop n t), length-drop n t) in
    (i, rw (take_part h.part n l b) h.holds)
  where
    take_part : (u : List ℕ) (n : ℕ) → length u ≡ n → t ≡ u ++ drop n t → take n t ≡ u
    take_part u n l b = ap (take n) b ∙ take_at u (drop n t) n l

-- a text of the rules is taken to its end, whatever stands behind it
pub complete : {t u : List ℕ} {s : Said} → BeginsWith t u s → (g : TextParts) × (whole_text t ≡ found g (length u)) × (spell t g ≡ s)
complete {t} {u} b =
    let f = Complete.a_text t b.text (record { here = b.whole; inside = omega arith }) in
    let e : f.place ≡ length u = omega (arith, f.behind.inside, ap length f.behind.here, length-drop f.place t, ap length b.whole, length-append u b.rest) in
    (f.what, f.reads ∙ ap (found f.what) e, f.saying)

-- the front of t, where it is a text
pub front : (t : List ℕ) (n : ℕ) {s : Said} → Text (take n t) s → BeginsWith t (take n t) s
front t n x = record { text = x; rest = drop n t; whole = sym (take-append-drop n t) }

-- n bytes that say s are taken exactly where the first n bytes of t are a text that says s
pub taken : (t : List ℕ) (n : ℕ) (s : Said) → ((g : TextParts) × (whole_text t ≡ found g n) × (spell t g ≡ s)) ↔ ((n ≤ length t) × Text (take n t) s)
taken t n s = (
  λ h. let x = sound t h.0 n h.1 in (x.0, rw (← h.2) x.1),
  λ h. let c = complete (front t n h.1) in (c.0, c.1 ∙ ap (found c.0) (length-take-le n t h.0), c.2),
)

-- nothing is taken exactly where t begins with no text
pub untaken : (t : List ℕ) → (whole_text t ≡ nothing) ↔ ((u : List ℕ) (s : Said) → BeginsWith t u s → ⊥)
untaken t = (
  λ e u s b. let c = (complete b).1 in let z : ◌≡◌ {A = ℕ} 0 1 = cc in omega arith,
  go (whole_text t) refl,
)
  where
    go : (f : ReadResult TextParts) → whole_text t ≡ f → ((u : List ℕ) (s : Said) → BeginsWith t u s → ⊥) → whole_text t ≡ nothing
    go nothing e n = e
    go (found g k) e n = absurd (n _ _ (front t k (sound t g k e).1))

-- two readings of one text are the same: it ends at one place, and it says one thing
pub unambiguous : {t u v : List ℕ} {s s' : Said} → BeginsWith t u s → BeginsWith t v s' → (u ≡ v) × (s ≡ s')
unambiguous {t} {u} {v} x y =
    let a = complete x in
    let b = complete y in
    let f : found a.0 (length u) ≡ found b.0 (length v) = sym a.1 ∙ b.1 in
    let l : length u ≡ length v = cc in
    let g : a.0 ≡ b.0 = cc in
    (part x ∙ rw l (sym (part y)), sym a.2 ∙ rw g b.2)
  where
    part : {w : List ℕ} {r : Said} → BeginsWith t w r → w ≡ take (length w) t
    part {w} h = sym (ap (take (length w)) h.whole ∙ take-append_seam w h.rest)
