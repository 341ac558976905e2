-- Laws of the accept words: how they are filled, and that they are those of the states.
use Prim.Native.Nat.{ℕ, ◌≤◌, ◌<◌}
use mathlib.Core.Bool.{Bool, true, false, cond, ◌||◌}
use mathlib.Core.List.{List, [], ◌∷◌, map}
use mathlib.Core.Logic.{⊎_elim}
use mathlib.Core.Path.{◌≡◌, refl, sym, ◌∙◌, ap, ap₂}
use native.Mathlib.Omega.{arith}
use borrow.Author.Rules.{rules}
use borrow.Author.Tests.{lt-ltb, le-ltb, eqb-true, eqb-false}
use lib.Dec.{ltb, eqb}
use lib.ListN.{length, get_or, take, set, length-set, length-map}
use lib.Seq.{get_or-set_same, get_or-set_other, get_or-take, ext_get_or, length-take-le}
use Rattle.grammar.specs.Grammar.{Items, next_name, next_names}
use Rattle.grammar.specs.Places.{spelled}
use Rattle.grammar.specs.inner.Pieces.{name_of}
use Rattle.grammar.specs.declared.tokens.TextSpan.{TextSpan}
use Rattle.grammar.specs.declared.tokens.Cursor.{Cursor}
use Rattle.std.proofs.Common.{Option, Some, None}
use Rattle.grammar.proofs.Many.{names_ended, names_more}
use Rattle.lists.specs.Lists.{any, Distinct}
use Rattle.lists.proofs.Tests.{test}
use Rattle.lists.proofs.Index.{index_any, index_same, same_decides}
use Rattle.lists.proofs.Lists.{map_at}
use Rattle.labels.specs.Labels.{same_label}
use Rattle.search.specs.Search.{index}
use Rattle.name_table.proofs.Finding.{names_count}
use Rattle.parser.specs.inner.Accepts.{mark_one, mark_all}
use Rattle.parser.specs.inner.Memory.{Zeros}
use Rattle.parser.specs.inner.Names.{SpeltTable, names_in}
use Rattle.parser.specs.Pattern.{accept_word, is_among}

-- the state's word is marked, or there is none
module _ (t b : List ℕ) (n : ℕ) (k : SpeltTable t b n) (x : TextSpan) (ws : List ℕ) (i : ℕ) (e : i ≡ index same_label (spelled t x) (names_in t b n)) where
  pub mark_none : n ≤ i → ws ≡ mark_one t (names_in t b n) ws x
  unfolding mark_one
  mark_none h = sym (rw (← e, names_count t b n, le-ltb i n h))

  pub mark_set : i < n → set ws i 1 ≡ mark_one t (names_in t b n) ws x
  unfolding mark_one
  mark_set h = sym (rw (← e, names_count t b n, lt-ltb i n h))

  among : is_among (names_in t b n) (spelled t x) ≡ ltb i n
  among = index_any same_label (spelled t x) (names_in t b n) ∙ ap₂ ltb (sym e) (names_count t b n)

  pub among_not : n ≤ i → false ≡ is_among (names_in t b n) (spelled t x)
  among_not h = sym (among ∙ le-ltb i n h)

  pub among_is : i < n → true ≡ is_among (names_in t b n) (spelled t x)
  among_is h = sym (among ∙ lt-ltb i n h)

  pub mark_room : length ws ≡ 256 → i < n → i < length ws
  mark_room g h = omega (arith, k.few)

pub ruleset mark_laws = (mark_none, mark_set, among_not, among_is, mark_room, length-set, rules)

-- the words ws are marked up to the place, and p is what is read there
module _ (t : List ℕ) (at : ℕ) (p : Option (TextSpan × Cursor)) (told : name_of p ≡ next_name t at) (ls : List (List ℕ)) (ws all : List ℕ)
    (i : mark_all t ls ws (next_names t at).items ≡ all) where
  pub marks_ended : p ≡ None → ws ≡ all
  unfolding mark_all
  marks_ended h = sym (sym i ∙ ap (λ (m : Items TextSpan). mark_all t ls ws m.items) (names_ended t at p told h))

  pub marks_next : (x : TextSpan) (next : Cursor) → p ≡ Some (x, next) → (m : List ℕ) → m ≡ mark_one t ls ws x → mark_all t ls m (next_names t next.at).items ≡ all
  unfolding mark_all
  marks_next x next h m q = sym (sym i ∙ ap (λ (k : Items TextSpan). mark_all t ls ws k.items) (names_more t at p told x next h) ∙ ap (λ (v : List ℕ). mark_all t ls v (next_names t next.at).items) (sym q))

pub marks_first : (t : List ℕ) (ls : List (List ℕ)) (ws m n : List ℕ) (x : TextSpan) (xs : List TextSpan) → m ≡ mark_one t ls ws x → n ≡ mark_all t ls m xs → n ≡ mark_all t ls ws (x ∷ xs)
unfolding mark_all
marks_first t ls ws m n x xs p q = q ∙ ap (λ (v : List ℕ). mark_all t ls v xs) p

module _ (t : List ℕ) (ls : List (List ℕ)) (d : Distinct ls) where
  -- one name marks the word of its state and no other
  one_mark : (ws : List ℕ) (x : TextSpan) (j : ℕ) → length ls ≤ length ws → j < length ls → get_or (mark_one t ls ws x) j 0 ≡ cond (same_label (get_or ls j []) (spelled t x)) 1 (get_or ws j 0)
  unfolding mark_one
  one_mark ws x j g h = rw (index_same same_label same_decides [] (spelled t x) j d h) (go (index same_label (spelled t x) ls))
    where
      go : (i : ℕ) → get_or (cond (ltb i (length ls)) (set ws i 1) ws) j 0 ≡ cond (eqb i j) 1 (get_or ws j 0)
      go i =
          ⊎_elim
          (λ (e : eqb i j ≡ true). let q : i ≡ j = eqb-true i j e in let l : i < length ls = omega arith in let m : i < length ws = omega arith in rw (e, lt-ltb i (length ls) l, ← q, get_or-set_same ws i 1 0 m))
          (λ (e : eqb i j ≡ false).
          ⊎_elim (λ (f : ltb i (length ls) ≡ true). let q : i ≡ j → ⊥ = eqb-false i j e in rw (e, f, get_or-set_other ws i j 1 0 (λ z. q (sym z)))) (λ (f : ltb i (length ls) ≡ false). rw (e, f))
          (test (ltb i (length ls))))
          (test (eqb i j))

  mark_length : (ws : List ℕ) (x : TextSpan) → length (mark_one t ls ws x) ≡ length ws
  unfolding mark_one
  mark_length ws x = go (ltb (index same_label (spelled t x) ls) (length ls))
    where
      go : (c : Bool) → length (cond c (set ws (index same_label (spelled t x) ls) 1) ws) ≡ length ws
      go true = length-set ws (index same_label (spelled t x) ls) 1
      go false = refl

  pub marks_length : (ws : List ℕ) (xs : List TextSpan) → length (mark_all t ls ws xs) ≡ length ws
  unfolding mark_all
  marks_length ws [] = refl
  marks_length ws (x ∷ xs) = marks_length (mark_one t ls ws x) xs ∙ mark_length ws x

  all_marks : (ws : List ℕ) (xs : List TextSpan) (j : ℕ) → length ls ≤ length ws → j < length ls
      → get_or (mark_all t ls ws xs) j 0 ≡ cond (any (same_label (get_or ls j [])) (map (spelled t) xs)) 1 (get_or ws j 0)
  unfolding mark_all any
  all_marks ws [] j g h = refl
  all_marks ws (x ∷ xs) j g h =
      all_marks (mark_one t ls ws x) xs j (rw (mark_length ws x) g) h
      ∙ ap (cond (any (same_label (get_or ls j [])) (map (spelled t) xs)) 1) (one_mark ws x j g h)
      ∙ either (any (same_label (get_or ls j [])) (map (spelled t) xs)) (same_label (get_or ls j []) (spelled t x)) (get_or ws j 0)
    where
      either : (p q : Bool) (w : ℕ) → cond p 1 (cond q 1 w) ≡ cond (q || p) 1 w
      either true true w = refl
      either true false w = refl
      either false true w = refl
      either false false w = refl

  -- the words are those of the states
  marks_words : (ws : List ℕ) (xs : List TextSpan) → Zeros 256 ws → length ls ≤ 256 → take (length ls) (mark_all t ls ws xs) ≡ map (accept_word (map (spelled t) xs)) ls
  unfolding accept_word
  marks_words ws xs z g =
      let l : length (mark_all t ls ws xs) ≡ 256 = marks_length ws xs ∙ z.long in
      let m : length (take (length ls) (mark_all t ls ws xs)) ≡ length ls = length-take-le (length ls) (mark_all t ls ws xs) (omega arith) in
      ext_get_or 0 _ _ (m ∙ sym (length-map ls (accept_word (map (spelled t) xs)))) λ j h.
      let k : j < length ls = omega arith in
      get_or-take (length ls) (mark_all t ls ws xs) j 0 k ∙ all_marks ws xs j (omega (arith, z.long)) k
      ∙ ap (cond (any (same_label (get_or ls j [])) (map (spelled t) xs)) 1) (z.zero j) ∙ sym (map_at (accept_word (map (spelled t) xs)) ls j [] 0 k)

-- a table's names have some of the 256 words
module _ (t b : List ℕ) (n : ℕ) (k : SpeltTable t b n) where
  pub words_inside : (ws : List ℕ) → length ws ≡ 256 → n ≤ length ws
  words_inside ws h = omega (arith, k.few)

  pub words_counted : (ws : List ℕ) → length ws ≡ 256 → n ≡ length (take n ws)
  words_counted ws h = sym (length-take-le n ws (words_inside ws h))

  -- the names at the places xs are marked
  pub words_marked : (us ws : List ℕ) (xs : List TextSpan) → Zeros 256 us → ws ≡ mark_all t (names_in t b n) us xs
      → take n ws ≡ map (accept_word (map (spelled t) xs)) (names_in t b n)
  words_marked us ws xs z h =
      ap₂ take (sym (names_count t b n)) h ∙ marks_words t (names_in t b n) k.distinct us xs z (omega (arith, names_count t b n, k.few))
