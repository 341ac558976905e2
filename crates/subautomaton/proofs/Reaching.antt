-- A run up to the first record that starts too late: neither that record nor one behind it covers d, and a record that ends too early doesn't.
use Rattle.std.proofs.Common.{ℕ, ◌≡◌, ◌+◌, ◌<◌, ◌≤◌, Bool, true, false, ◌||◌, List, [], length, get_or, drop, refl, sym, ◌∙◌, ap, subst, arith}
use mathlib.Core.Bool.{and-false, true≢false}
use mathlib.Core.List.Memᴰ
use mathlib.Core.List.{◌∷◌}
use mathlib.Core.Logic.{⊎_elim}
use borrow.Author.Tests.{lt-leb}
use Rattle.lists.specs.Lists.{◌∈◌, any, Ascending}
use Rattle.lists.proofs.Every.{any_cons}
use Rattle.lists.proofs.Lists.{any_out}
use Rattle.lists.proofs.Members.{ascending_first, ascending_rest}
use Rattle.lists.proofs.Tests.{test}
use Rattle.automata.specs.Automaton.{Transition, leaving}
use Rattle.automata.specs.Records.{read_records, write_records}
use Rattle.automata.specs.inner.Chunks.{records_of}
use Rattle.automata.specs.inner.Records.{record_at}
use Rattle.automata.proofs.Chunks.{records_next, records_done}
use Rattle.automata.proofs.Leaving.{leaving_rises}
use Rattle.automata.proofs.Records.{read_write}
use Rattle.sheets.specs.inner.Runs.{IndexedSheet}
use Rattle.sheets.specs.Sheet.{read}
use Rattle.sheets.proofs.Meaning.{read_well}
use Rattle.sheets.proofs.Named.{ready_named}
use Rattle.subautomaton.specs.inner.Tables.{fits, Ordered}

-- a record that ends too early or starts too late doesn't cover d
module _ (cb : List ℕ) (to : ℕ) (d : Transition) where
  fits_short : (e : Transition) → e.last < d.last → fits cb to d e ≡ false
  unfolding fits
  fits_short e h = simp (lt-leb d.last e.last h, and-false)

  fits_late : (e : Transition) → d.first < e.first → fits cb to d e ≡ false
  unfolding fits
  fits_late e h = simp (lt-leb e.first d.first h, and-false)

  late : (es : List Transition) → ((e : Transition) → e ∈ es → d.first < e.first) → any (fits cb to d) es ≡ false
  late es h =
      ⊎_elim (λ (t : any (fits cb to d) es ≡ true). let o = any_out (fits cb to d) es t in absurd (true≢false (sym o.2 ∙ fits_late o.0 (h o.0 o.1))))
      (λ t. t) (test (any (fits cb to d) es))

ordered_rest : (e : Transition) (es : List Transition) → Ordered (e ∷ es) → Ordered es
ordered_rest e es o =
    record {
      named = record { froms = λ d m. o.named.froms d (Memᴰ.tail m); tos = λ d m. o.named.tos d (Memᴰ.tail m) };
      rises = ascending_rest o.rises;
    }

-- the loop over the records of a run, of which those from i on are in order
module _ (rs : List (List ℕ)) (i : ℕ) (o : Ordered (records_of (drop i rs))) (h : i < length rs) where
  here : Ordered (record_at (get_or rs i []) 0 ∷ records_of (drop (i + 1) rs))
  here = subst Ordered (records_next rs i h) o

  pub ordered_next : Ordered (records_of (drop (i + 1) rs))
  ordered_next = ordered_rest _ _ here

  pub ordered_to : get_or (get_or rs i []) 4 0 < 256
  ordered_to = here.named.tos _ (Memᴰ.head refl)

module _ (d cb : List ℕ) (to : ℕ) (es : List Transition) (rs : List (List ℕ)) (i : ℕ) (e : any (fits cb to (record_at d 0)) es ≡ any (fits cb to (record_at d 0)) (records_of (drop i rs))) where
  pub covers_ended : length rs ≤ i → false ≡ any (fits cb to (record_at d 0)) es
  unfolding any
  covers_ended h = sym (e ∙ ap (any (fits cb to (record_at d 0))) (records_done rs i h))

  module _ (h : i < length rs) where
    at_record : (b : Bool) → b ≡ fits cb to (record_at d 0) (record_at (get_or rs i []) 0)
        → any (fits cb to (record_at d 0)) es ≡ (b || any (fits cb to (record_at d 0)) (records_of (drop (i + 1) rs)))
    at_record b g = e ∙ ap (any (fits cb to (record_at d 0))) (records_next rs i h) ∙ any_cons (fits cb to (record_at d 0)) _ _ b g

    pub covers_found : (b : Bool) → b ≡ fits cb to (record_at d 0) (record_at (get_or rs i []) 0) → b ≡ true → true ≡ any (fits cb to (record_at d 0)) es
    covers_found b g s = sym (rw s at (at_record b g))

    pub covers_next : (b : Bool) → b ≡ fits cb to (record_at d 0) (record_at (get_or rs i []) 0) → b ≡ false
        → any (fits cb to (record_at d 0)) es ≡ any (fits cb to (record_at d 0)) (records_of (drop (i + 1) rs))
    covers_next b g s = rw s at (at_record b g)

    pub covers_short : get_or (get_or rs i []) 3 0 < get_or d 3 0 → any (fits cb to (record_at d 0)) es ≡ any (fits cb to (record_at d 0)) (records_of (drop (i + 1) rs))
    covers_short l = covers_next false (sym (fits_short cb to (record_at d 0) (record_at (get_or rs i []) 0) l)) refl

    pub covers_late : Ordered (records_of (drop i rs)) → get_or d 2 0 < get_or (get_or rs i []) 2 0 → false ≡ any (fits cb to (record_at d 0)) es
    covers_late o l =
        sym (e ∙ ap (any (fits cb to (record_at d 0))) (records_next rs i h) ∙ late cb to (record_at d 0) (record_at (get_or rs i []) 0 ∷ records_of (drop (i + 1) rs)) behind)
      where
        behind : (x : Transition) → x ∈ (record_at (get_or rs i []) 0 ∷ records_of (drop (i + 1) rs)) → get_or d 2 0 < x.first
        behind x (Memᴰ.head q) = let z : x.first ≡ get_or (get_or rs i []) 2 0 = ap (λ (y : Transition). y.first) q in omega arith
        behind x (Memᴰ.tail m) = omega (arith, ascending_first (here rs i o h).rises x m)

-- the run of a state
pub ready_ordered : (s starts : List ℕ) (r : IndexedSheet s starts) (q : ℕ) (run : List ℕ) → run ≡ write_records (leaving (read s) q) → Ordered (read_records run)
ready_ordered s starts r q run e =
    record {
      named = ready_named s starts r q run e;
      rises = subst (Ascending (λ d e. d.first ≤ e.first)) (sym (ap read_records e ∙ read_write _)) (leaving_rises (read s) q (read_well s r.accepted));
    }
