-- The tests by numbers are the tests by labels, and the answer in its order.
use Prim.Native.Nat.{ℕ, ◌+◌, ◌-◌, ◌<◌}
use mathlib.Core.Bool.{Bool, true, false, not, ◌&&◌}
use mathlib.Core.List.{List, []}
use mathlib.Core.Path.{◌≡◌, refl, sym, ◌∙◌, ap, subst}
use native.Mathlib.Omega.{arith}
use borrow.Author.Rules.{rules}
use borrow.Author.Tests.{eq-eqb, ne_eqb, eqb-true, not-true, not-false}
use lib.Dec.{eqb}
use lib.ListN.{length, get_or, take, drop}
use lib.Seq.{sets}
use Rattle.output.specs.Output.{label_of, read_pattern}
use Rattle.lists.specs.Lists.{◌∈◌, any, filter, all}
use Rattle.lists.proofs.Lists.{any_out, any_in, any_ext, filter_in, filter_out}
use Rattle.lists.proofs.Index.{same_decides}
use Rattle.lists.proofs.Members.{at_in}
use Rattle.lists.proofs.Parts.{part_all}
use Rattle.lists.proofs.Tests.{true_same, and_parts, and_both}
use Rattle.automata.specs.Automaton.{Transition, leaving, states}
use Rattle.automata.specs.Records.{read_records}
use Rattle.labels.specs.Labels.{same_label, read_labels}
use Rattle.labels.proofs.Labels.{length_read}
use Rattle.name_table.specs.inner.Names.{names_in}
use Rattle.search.proofs.Tables.{meet_in}
use Rattle.sheets.specs.inner.Runs.{starts_of, Named, IndexedSheet}
use Rattle.sheets.specs.Sheet.{state_count, read}
use Rattle.sheets.proofs.Meaning.{read_well}
use Rattle.sheets.proofs.Named.{sheet_named}
use Rattle.sheets.proofs.Runs.{starts_indexed}
use Rattle.subautomaton.specs.Inclusion.{is_same, has_state, covers, is_covered, is_subautomaton}
use Rattle.subautomaton.specs.inner.Tables.{distinct_labels, LabelTable, Numbered, is_held, is_held_in, fits, fits_from, fits_in, LabelledSheets, Tabled}
use Rattle.lists.proofs.Every.{all_ext}
use Rattle.automata.proofs.States.{states_in, states_out}
use Rattle.subautomaton.proofs.Numbering.{same_number}

-- each label of a list is one of the different ones
label_met : (b x : List ℕ) → x ∈ read_labels b → x ∈ distinct_labels b
unfolding distinct_labels
label_met b x m = meet_in same_label same_decides (read_labels b) [] x m

module _ (a al b bl starts ca cb : List ℕ) (t : Tabled a al b bl starts ca cb) where
  -- a state of each sheet: equal numbers for equal labels
  same_label_lem : (p q : ℕ) → p < state_count a → q < state_count b → eqb (get_or cb q 0) (get_or ca p 0) ≡ same_label (label_of (read_pattern a al) p) (label_of (read_pattern b bl) q)
  same_label_lem p q h g =
      let in_b : get_or (read_labels bl) q [] ∈ read_labels bl = at_in (read_labels bl) q [] (omega (arith, length_read (state_count b) bl t.inputs.second_labels)) in
      rw (t.numbered_b.at q g, t.numbered_a.at p h) (sym (same_number (get_or (read_labels al) p []) (get_or (read_labels bl) q []) (distinct_labels bl) (label_met bl _ in_b)))

  held_same : (p q : ℕ) → p < state_count a → q < state_count b → is_held (read b) cb (get_or ca p 0) (get_or (read a).accept p 0) q ≡ is_same (read_pattern a al) (read_pattern b bl) p q
  unfolding is_held is_same
  held_same p q h g = rw (same_label_lem p q h g)

  has_same : (p : ℕ) → p ∈ states (state_count a) → is_held_in (read a) (read b) ca cb p ≡ has_state (read_pattern a al) (read_pattern b bl) p
  unfolding is_held_in has_state
  has_same p m = any_ext _ _ (states (state_count b)) (λ q n. held_same p q (states_out (state_count a) p m) (states_out (state_count b) q n))

  -- two transitions
  module _ (d e : Transition) (md : d ∈ (read a).transitions) (me : e ∈ (read b).transitions) where
    fits_same : (eqb (get_or cb e.from 0) (get_or ca d.from 0) && fits cb (get_or ca d.to 0) d e) ≡ covers (read_pattern a al) (read_pattern b bl) d e
    unfolding fits covers
    fits_same =
        let wa = (read_well a t.inputs.first).states in
        let wb = (read_well b t.inputs.second).states in
        rw (same_label_lem d.from e.from (wa.froms d md) (wb.froms e me), same_label_lem d.to e.to (wa.tos d md) (wb.tos e me))

  -- a state q of the second sheet that has a transition for d, and a transition that covers d
  from_state : (d : Transition) (q : ℕ) → d ∈ (read a).transitions → fits_from (read b) cb (get_or ca d.from 0) (get_or ca d.to 0) d q ≡ true
      → any (covers (read_pattern a al) (read_pattern b bl) d) (read b).transitions ≡ true
  unfolding fits_from leaving
  from_state d q md h =
      let two = and_parts (eqb (get_or cb q 0) (get_or ca d.from 0)) _ h in
      let o = any_out (fits cb (get_or ca d.to 0) d) (filter (λ (e : Transition). eqb e.from q) (read b).transitions) two.1 in
      let e = o.0 in
      let k = filter_out (λ (e : Transition). eqb e.from q) e (read b).transitions o.1 in
      let z : e.from ≡ q = eqb-true e.from q k.1 in
      let y : eqb (get_or cb e.from 0) (get_or ca d.from 0) ≡ true = ap (λ (p : ℕ). eqb (get_or cb p 0) (get_or ca d.from 0)) z ∙ two.0 in
      any_in (covers (read_pattern a al) (read_pattern b bl) d) k.0 (sym (fits_same d e md k.0) ∙ and_both _ _ y o.2)

  from_transition : (d e : Transition) → d ∈ (read a).transitions → e ∈ (read b).transitions → covers (read_pattern a al) (read_pattern b bl) d e ≡ true
      → fits_from (read b) cb (get_or ca d.from 0) (get_or ca d.to 0) d e.from ≡ true
  unfolding fits_from leaving
  from_transition d e md me h =
      let two = and_parts (eqb (get_or cb e.from 0) (get_or ca d.from 0)) _ (fits_same d e md me ∙ h) in
      and_both _ _ two.0 (any_in (fits cb (get_or ca d.to 0) d) (filter_in (λ (x : Transition). eqb x.from e.from) me (eq-eqb e.from e.from refl)) two.1)

  covered_same : (d : Transition) → d ∈ (read a).transitions → fits_in (read b) ca cb d ≡ is_covered (read_pattern a al) (read_pattern b bl) d
  unfolding fits_in is_covered
  covered_same d md =
      true_same _ _
      (λ h. let o = any_out (fits_from (read b) cb (get_or ca d.from 0) (get_or ca d.to 0) d) (states (state_count b)) h in from_state d o.0 md o.2)
      (λ h.
      let o = any_out (covers (read_pattern a al) (read_pattern b bl) d) (read b).transitions h in
      let i = states_in (state_count b) o.0.from ((read_well b t.inputs.second).states.froms o.0 o.1) in
      any_in (fits_from (read b) cb (get_or ca d.from 0) (get_or ca d.to 0) d) i (from_transition d o.0 md o.1 o.2))

  -- the parts of the answer
  all_states : all (is_held_in (read a) (read b) ca cb) (states (state_count a)) ≡ all (has_state (read_pattern a al) (read_pattern b bl)) (states (state_count a))
  all_states = all_ext _ _ (states (state_count a)) has_same

  all_covered : all (fits_in (read b) ca cb) (read a).transitions ≡ all (is_covered (read_pattern a al) (read_pattern b bl)) (read a).transitions
  all_covered = all_ext _ _ (read a).transitions covered_same

  same_start : eqb (get_or cb (get_or b 1 0) 0) (get_or ca (get_or a 1 0) 0) ≡ same_label (label_of (read_pattern a al) (get_or a 1 0)) (label_of (read_pattern b bl) (get_or b 1 0))
  same_start = same_label_lem (get_or a 1 0) (get_or b 1 0) t.inputs.first.start t.inputs.second.start

  by_parts : is_subautomaton (read_pattern a al) (read_pattern b bl) ≡
      (all (is_held_in (read a) (read b) ca cb) (states (state_count a)) && (eqb (get_or cb (get_or b 1 0) 0) (get_or ca (get_or a 1 0) 0) && all (fits_in (read b) ca cb) (read a).transitions))
  unfolding is_subautomaton
  by_parts = rw (all_states, same_start, all_covered)

  module _ (r : Bool) (e : r ≡ all (is_held_in (read a) (read b) ca cb) (states (state_count a))) where
    pub decide_states : not r ≡ true → false ≡ is_subautomaton (read_pattern a al) (read_pattern b bl)
    decide_states h = let z : r ≡ false = not-true r h in sym (by_parts ∙ rw (← e, z))

    module _ (h : not r ≡ false) where
      pub decide_start : (get_or ca (get_or a 1 0) 0 ≡ get_or cb (get_or b 1 0) 0 → ⊥) → false ≡ is_subautomaton (read_pattern a al) (read_pattern b bl)
      decide_start n = let z : r ≡ true = not-false r h in sym (by_parts ∙ rw (← e, z, ne_eqb _ _ (λ (y : get_or cb (get_or b 1 0) 0 ≡ get_or ca (get_or a 1 0) 0). n (sym y))))

      pub decide_covered : get_or ca (get_or a 1 0) 0 ≡ get_or cb (get_or b 1 0) 0 → (x : Bool)
          → x ≡ all (fits_in (read b) ca cb) (read_records (take (length a - (state_count a + 4)) (drop (state_count a + 4) a)))
          → x ≡ is_subautomaton (read_pattern a al) (read_pattern b bl)
      decide_covered n x g =
          let z : r ≡ true = not-false r h in
          g ∙ ap (λ (w : List ℕ). all (fits_in (read b) ca cb) (read_records w)) (part_all (state_count a + 4) a) ∙ sym (by_parts ∙ rw (← e, z, eq-eqb _ _ (sym n)))

  -- what the calls ask
  pub decide_named : Named 256 (read_records (take (length a - (state_count a + 4)) (drop (state_count a + 4) a)))
  decide_named = sheet_named a t.inputs.first

  pub decide_ready : IndexedSheet b starts
  decide_ready = record { accepted = t.inputs.second; indexed = t.indexed }

pub ruleset decide_laws = (decide_states, decide_start, decide_covered, decide_named, decide_ready, rules)

-- the tables
pub tables_made : (a al b bl old starts t : List ℕ) (k : ℕ) (ca cb : List ℕ) → LabelledSheets a al b bl → starts ≡ sets old 0 (starts_of b) → length old ≡ 257 → LabelTable bl t k
    → Numbered (state_count a) (read_labels al) (names_in bl t k) ca → Numbered (state_count b) (read_labels bl) (names_in bl t k) cb → Tabled a al b bl starts ca cb
tables_made a al b bl old starts t k ca cb i e h n x y =
    record {
      inputs = i;
      indexed = starts_indexed b old starts e (omega (arith, i.second.few_states));
      numbered_a = subst (λ (ls : List (List ℕ)). Numbered (state_count a) (read_labels al) ls ca) n.names x;
      numbered_b = subst (λ (ls : List (List ℕ)). Numbered (state_count b) (read_labels bl) ls cb) n.names y;
    }

pub ruleset table_laws = (tables_made, rules)
