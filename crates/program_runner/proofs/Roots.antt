-- A name's root, as it is found in the table of definitions, is the record of the body that the program has for it.
use Prim.Native.Nat.{ℕ, suc, ◌+◌, ◌*◌, ◌%◌, ◌<◌}
use mathlib.Core.Path.{◌≡◌, refl, sym, ap, subst, ◌∙◌}
use mathlib.Core.Bool.{Bool, true, false, cond}
use mathlib.Core.List.{List, [], ◌∷◌, ◌++◌}
use native.Mathlib.Nat.{add-zero}
use native.Mathlib.Omega.{arith}
use lib.ListN.{length, drop, get_or}
use lib.Seq.{get_or-drop, drop-drop}
use Rattle.language.specs.Bytes.{same_bytes}
use Rattle.language.specs.Forms.{Form, word, name, chain, construct, constant, insert, apply_all, bu, condition, while, Forms, Def, Prog, forms_in, forms_in_all}
use Rattle.language.specs.Accepted.{IsName, AreDefinitions}
use Rattle.language.specs.Evaluation.{lookup}
use Rattle.packing.specs.Packing.{packed}
use Rattle.language.specs.Reading.{Placed, program_of}
use Rattle.tables.specs.Tables.{field}
use Rattle.formtable.specs.Encoding.{low_of, high_of, encode_definitions, named}
use Rattle.formtable.specs.Standing.{parts, bodies}
use Rattle.formtable.proofs.Names.{name_test_back}
use Rattle.linker.specs.Linked.{FormAt, DefAt, no_def, a_def}
use Rattle.linker.specs.Roots.{root_from}
use Rattle.linker.specs.Linking.{Tree, tree, tree_chain, Kids, no_kid, a_kid, Back, no_back, a_back}
use Rattle.linker.proofs.Trees.{form_of, tree_small}

-- ---- a form takes up as many records as it has forms
forms_by_parts : (f : Form) → forms_in f ≡ suc (forms_in_all (parts f))
forms_by_parts (word w) = refl
forms_by_parts (name w) = refl
forms_by_parts (chain fs) = refl
forms_by_parts (construct fs) = refl
forms_by_parts (constant x) = refl
forms_by_parts (insert f) = omega arith
forms_by_parts (apply_all f) = omega arith
forms_by_parts (bu f x) = omega arith
forms_by_parts (condition p f g) = omega arith
forms_by_parts (while p f) = omega arith

mutual
  tree_end : {F C : List ℕ} {n : ℕ} {root : List ℕ → ℕ} {i e : ℕ} {f : Form} → Tree F C n root i f e → e ≡ i + forms_in f
  tree_end (tree {f = f} l r k) = let h = kids_end k in let g = forms_by_parts f in omega arith
  tree_end (tree_chain l q b) = let h = back_end b in omega arith

  kids_end : {F C : List ℕ} {n : ℕ} {root : List ℕ → ℕ} {j e : ℕ} {fs : Forms} → Kids F C n root j fs e → e ≡ j + forms_in_all fs
  kids_end no_kid = omega arith
  kids_end (a_kid t q k) = let h = tree_end t in let g = kids_end k in omega arith

  back_end : {F C : List ℕ} {n : ℕ} {root : List ℕ → ℕ} {b j e z : ℕ} {fs : Forms} → Back F C n root b j fs e z → e ≡ j + forms_in_all fs
  back_end no_back = omega arith
  back_end (a_back t q k) = let h = tree_end t in let g = back_end k in omega arith

-- ---- the table of definitions from definition d on
record Front (D : List ℕ) (d lo hi root : ℕ) (l : List ℕ) : Type 0 where
  low : get_or D (d * 4) 0 ≡ lo
  high : field D d 1 ≡ hi
  body : field D d 2 ≡ root
  rest : drop ((d + 1) * 4) D ≡ l

front : (D : List ℕ) (d lo hi root place : ℕ) (l : List ℕ) → drop (d * 4) D ≡ lo ∷ hi ∷ root ∷ place ∷ l → Front D d lo hi root l
front D d lo hi root place l e = record {
  low = rw add-zero at (at 0);
  high = at 1;
  body = at 2;
  rest =
      let z : (d + 1) * 4 ≡ d * 4 + 4 = omega arith in
      rw (z, ← (drop-drop 4 (d * 4) D), e);
}
  where
    at : (k : ℕ) → get_or D (d * 4 + k) 0 ≡ get_or (lo ∷ hi ∷ root ∷ place ∷ l) k 0
    at k = sym (get_or-drop (d * 4) D k 0) ∙ ap (λ (x : List ℕ). get_or x k 0) e

module _ (F C : List ℕ) (n : ℕ) (root : List ℕ → ℕ) (D w : List ℕ) (i : IsName w) where
  abbrev found : ℕ → ℕ → ℕ
  found left d = root_from D left (low_of (packed w)) (high_of (packed w)) d

  -- the first definition: its root if it has the name, else what the others say
  one_root : (d r left : ℕ) (q : Def) (P : Prog) (l : List ℕ) → IsName q.called → Front D d (low_of (packed q.called)) (high_of (packed q.called)) r l → r < 2048 → FormAt F C n root r q.body → DefAt F C n root (found left (d + 1)) (lookup w P) → DefAt F C n root (found (suc left) d) (lookup w (q ∷ P))
  unfolding root_from named
  one_root d r left q P l j a s f h = rw (a.low, a.high, name_test_back q.called w j i) (go (same_bytes w q.called) refl)
    where
      go : (t : Bool) → same_bytes w q.called ≡ t → DefAt F C n root (cond (same_bytes w q.called) ((field D d 2 + 1) % 4294967296) (found left (d + 1))) (lookup w (q ∷ P))
      go true e = rw (e, lookup, a.body) (a_def {d = (r + 1) % 4294967296} {i = r} (omega arith) f)
      go false e = rw (e, lookup) h

  pub roots : (d r e : ℕ) (ds : List Placed) (l : List ℕ) → AreDefinitions (program_of ds) → drop (d * 4) D ≡ encode_definitions r ds ++ l → Kids F C n root r (bodies (program_of ds)) e → DefAt F C n root (found (length ds) d) (lookup w (program_of ds))
  unfolding root_from encode_definitions
  roots d r e [] l h z k = no_def refl
  roots d r e (q ∷ ds) l h z (a_kid {m = m} t y k) =
      let a = front D d (low_of (packed q.def.called)) (high_of (packed q.def.called)) r q.place (encode_definitions (r + forms_in q.def.body) ds ++ l) z in
      let k₁ = subst (λ (x : ℕ). Kids F C n root x (bodies (program_of ds)) e) (tree_end t) k in
      one_root d r (length ds) q.def (program_of ds) (encode_definitions (r + forms_in q.def.body) ds ++ l) h.0 a (tree_small t) (form_of t)
      (roots (d + 1) (r + forms_in q.def.body) e ds l h.2 a.rest k₁)
