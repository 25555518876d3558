-- Names that are defined twice: packed names are compared for the names, and the first that is found is the definition's.
use Prim.Native.Nat.{ℕ, zero, suc, ◌+◌, ◌*◌, ◌≤◌, ◌<◌}
use mathlib.Core.Path.{◌≡◌, refl, ap, sym, subst, ◌∙◌}
use mathlib.Core.Bool.{Bool, true, false, cond, ◌||◌}
use mathlib.Core.List.{List, [], ◌∷◌}
use native.Mathlib.Numerals.{add-one}
use native.Mathlib.Omega.{arith}
use lib.Dec.{eqb}
use lib.ListN.{length, get_or, drop}
use borrow.Author.Tests.{eqb-true, eqb-false}
use Rattle.language.specs.Bytes.{same_bytes}
use Rattle.language.specs.Forms.{Prog, forms_in}
use Rattle.language.specs.Accepted.{IsName}
use Rattle.packing.specs.Packing.{packed}
use Rattle.language.specs.Reading.{Got, no, Placed, is_in, none_twice}
use Rattle.tables.specs.Tables.{put, field}
use Rattle.tables.proofs.Put.{put_inside}
use Rattle.formtable.proofs.Lengths.{length_definitions}
use Rattle.formtable.proofs.Names.{name_test}
use Rattle.formtable.specs.Encoding.{low_of, high_of, encode_definitions, named}
use Rattle.std.specs.Prelude.{Option, Some, None}
use Rattle.std.specs.Bool.{MatchBool}
use Rattle.std.specs.Option.{MatchOption, option_map}
use Rattle.std.specs.List.{AllWithin, HoldsAt, range_with_len}
use Rattle.std.proofs.lemmas.List.FromFn.{length-range_with_len, get_or-range_with_len}
use Rattle.programs.specs.Definitions.{AllNamed, none_named, more_named, defined_name, place_at, earlier_of, Listed, Compared, TwiceMet}

-- ---- is_earlier
later : (w : List ℕ) (ds : List Placed) (j i : ℕ) → j ≤ i → is_in w (earlier_of ds j) ≡ true → is_in w (earlier_of ds i) ≡ true
unfolding is_in earlier_of
later w ds zero i l h = absurd (let z : ◌≡◌ {A = ℕ} 0 1 = cc in omega arith)
later w ds (suc j) zero l h = absurd (omega arith)
later w ds (suc j) (suc i) l h = go (eqb i j) refl (λ k. later w ds (suc j) i k h)
  where
    right : (a : Bool) {b : Bool} → b ≡ true → (a || b) ≡ true
    right true e = refl
    right false e = e

    go : (t : Bool) → eqb i j ≡ t → (suc j ≤ i → is_in w (earlier_of ds i) ≡ true) → is_in w (earlier_of ds (suc i)) ≡ true
    go true e f = rw (eqb-true i j e) h
    go false e f = let n = eqb-false i j e in right (same_bytes (defined_name ds i) w) (f (omega arith))

-- no definition before j has the name of definition i
record Unlike (d : List ℕ) (i j : ℕ) : Type 0 where
  most : j ≤ i
  means : (ds : List Placed) → Listed d ds → i < length ds → is_in (defined_name ds i) (earlier_of ds j) ≡ false

unlike_starts : {d : List ℕ} {i : ℕ} → Unlike d i 0
unfolding is_in earlier_of
unlike_starts = record { most = omega arith; means = λ ds l h. refl }

module _ {d : List ℕ} {i j lo hi : ℕ} {r : Bool} (a : lo ≡ get_or d (i * 4) 0) (b : hi ≡ field d i 1) (l : j < i) (m : r ≡ named d j lo hi) where
  same_names : (ds : List Placed) → Listed d ds → i < length ds → same_bytes (defined_name ds j) (defined_name ds i) ≡ r
  unfolding named
  same_names ds t h =
      sym (name_test (defined_name ds j) (defined_name ds i) (t.named j (omega arith)) (t.named i h))
      ∙ rw (← (t.low j (omega arith)), ← (t.high j (omega arith)), ← (t.low i h), ← (t.high i h), ← a, ← b) (sym m)

  earlier_found : r ≡ true → Compared d i true
  unfolding is_in earlier_of
  earlier_found e = record { means = λ ds t h. sym (later (defined_name ds i) ds (suc j) i (omega arith) (rw (same_names ds t h ∙ e))) }

  earlier_next : Unlike d i j → r ≡ false → Unlike d i (j + 1)
  unfolding is_in earlier_of
  earlier_next w e = record { most = omega arith; means = λ ds t h. rw (add-one j, same_names ds t h, e) (w.means ds t h) }

earlier_none : {d : List ℕ} {i j : ℕ} → Unlike d i j → i ≤ j → Compared d i false
earlier_none {i = i} {j = j} w l = let z : j ≡ i = omega (arith, w.most) in record { means = λ ds t h. sym (rw z at (w.means ds t h)) }

unlike_before : {d : List ℕ} {i lo hi : ℕ} (j : ℕ) → lo ≡ get_or d (i * 4) 0 → hi ≡ field d i 1 → j ≤ i → ((k : ℕ) → k < j → false ≡ named d k lo hi) → Unlike d i j
unlike_before zero a b l h = unlike_starts
unlike_before {d} {i} {lo} {hi} (suc j) a b l h =
    let z : j + 1 ≡ suc j = omega arith in
    subst (λ (k : ℕ). Unlike d i k) z (earlier_next {r = false} a b (omega arith) (h j (omega arith)) (unlike_before {d = d} {i = i} {lo = lo} {hi = hi} j a b (omega arith) (λ k m. h k (omega arith))) refl)

-- some definition before i has its name, or none has
pub earlier_by : {d : List ℕ} {i lo hi : ℕ} (r : Bool) → lo ≡ get_or d (i * 4) 0 → hi ≡ field d i 1
    → MatchBool r ((k : ℕ) × (k < length (range_with_len 0 i)) × HoldsAt (λ j. true ≡ named d j lo hi) (range_with_len 0 i) k) (AllWithin (λ j. false ≡ named d j lo hi) (range_with_len 0 i) 0 (length (range_with_len 0 i)))
    → Compared d i r
earlier_by {d} {i} {lo} {hi} true a b h =
    let l : h.0 < i = omega (arith, h.1, length-range_with_len 0 i) in
    let z : get_or (range_with_len 0 i) h.0 0 ≡ h.0 = omega (arith, get_or-range_with_len 0 i h.0 0 l) in
    earlier_found {j = h.0} {r = true} a b l (subst (λ (j : ℕ). true ≡ named d j lo hi) z (h.2 0)) refl
earlier_by {d} {i} {lo} {hi} false a b h =
    earlier_none {j = i} (unlike_before {d = d} {i = i} {lo = lo} {hi = hi} i a b (omega arith) (λ k l.
    let z : get_or (range_with_len 0 i) k 0 ≡ k = omega (arith, get_or-range_with_len 0 i k 0 l) in
    subst (λ (j : ℕ). false ≡ named d j lo hi) z (h k 0 (omega arith) (omega (arith, l, length-range_with_len 0 i))))) (omega arith)

-- ---- find_twice
record Split (ds : List Placed) (i : ℕ) : Type 0 where
  here : Placed
  rest : drop i ds ≡ here ∷ drop (suc i) ds
  name : defined_name ds i ≡ here.def.called
  place : place_at ds i ≡ here.place

split : (ds : List Placed) (i : ℕ) → i < length ds → Split ds i
split [] i h = absurd (omega arith)
split (d ∷ ds) zero h = record { here = d; rest = refl; name = refl; place = refl }
split (d ∷ ds) (suc i) h = let q = split ds i (omega arith) in record { here = q.here; rest = q.rest; name = q.name; place = q.place }

-- no name of the first i definitions is defined twice
record Single (d : List ℕ) (n i : ℕ) : Type 0 where
  most : i ≤ n
  means : (ds : List Placed) (good : Got Prog) → Listed d ds → length ds ≡ n → none_twice [] ds good ≡ none_twice (earlier_of ds i) (drop i ds) good

single_starts : {d : List ℕ} {n : ℕ} → Single d n 0
unfolding earlier_of
single_starts = record { most = omega arith; means = λ ds good l h. refl }

module _ {d : List ℕ} {n i : ℕ} {r : Bool} (w : Single d n i) (l : i < n) (m : Compared d i r) where
  twice_step : (ds : List Placed) (good : Got Prog) → Listed d ds → length ds ≡ n → none_twice [] ds good ≡ cond r (no 11 (place_at ds i)) (none_twice (earlier_of ds (suc i)) (drop (suc i) ds) good)
  unfolding none_twice earlier_of
  twice_step ds good t h =
      let q = split ds i (omega arith) in
      w.means ds good t h ∙ rw (q.rest, ← q.name, ← q.place, ← (m.means ds t (omega arith)))

  twice_found : {p : ℕ} → r ≡ true → p ≡ field d i 3 → TwiceMet d n (Some p)
  twice_found {p} e g = record { means = λ ds good t h. twice_step ds good t h ∙ rw (e, g, t.place i (omega arith)) }

  twice_next : r ≡ false → Single d n (i + 1)
  twice_next e = record { most = omega arith; means = λ ds good t h. rw (add-one i) (twice_step ds good t h ∙ rw e) }

drop_all : (ds : List Placed) (i : ℕ) → length ds ≤ i → drop i ds ≡ []
drop_all [] zero h = refl
drop_all [] (suc i) h = refl
drop_all (d ∷ ds) zero h = absurd (omega arith)
drop_all (d ∷ ds) (suc i) h = drop_all ds i (omega arith)

twice_none : {d : List ℕ} {n i : ℕ} → Single d n i → n ≤ i → TwiceMet d n None
unfolding none_twice
twice_none {i = i} w l = record { means = λ ds good t h. w.means ds good t h ∙ rw (drop_all ds i (omega arith)) }

single_before : {d : List ℕ} {n : ℕ} (i : ℕ) → i ≤ n → ((k : ℕ) → k < i → Compared d k false) → Single d n i
single_before zero l h = single_starts
single_before {d} {n} (suc i) l h =
    let z : i + 1 ≡ suc i = omega arith in
    subst (λ (k : ℕ). Single d n k) z (twice_next (single_before {d = d} {n = n} i (omega arith) (λ k m. h k (omega arith))) (omega arith) (h i (omega arith)) refl)

-- the place of the first definition whose name an earlier one has, if any is such
pub twice_by : {d : List ℕ} {n : ℕ} (r : Option ℕ)
    → MatchOption r ((k : ℕ) → 0 ≤ k → k < n → Compared d k false) (λ i. (0 ≤ i) × (i < n) × Compared d i true × ((k : ℕ) → 0 ≤ k → k < i → Compared d k false))
    → TwiceMet d n (option_map (λ i. field d i 3) r)
twice_by {d} {n} None h = twice_none {i = n} (single_before {d = d} {n = n} n (omega arith) (λ k l. h k (omega arith) l)) (omega arith)
twice_by {d} {n} (Some i) h = twice_found (single_before {d = d} {n = n} i (omega (arith, h.1)) (λ k l. h.3 k (omega arith) l)) h.1 h.2 refl refl

-- ---- what the table holds
records : (r : ℕ) (ds : List Placed) (i : ℕ) → i < length ds → (get_or (encode_definitions r ds) (i * 4) 0 ≡ low_of (packed (defined_name ds i))) × (get_or (encode_definitions r ds) (i * 4 + 1) 0 ≡ high_of (packed (defined_name ds i))) × (get_or (encode_definitions r ds) (i * 4 + 3) 0 ≡ place_at ds i)
unfolding encode_definitions
records r [] i h = absurd (omega arith)
records r (d ∷ ds) zero h = (refl, refl, refl)
records r (d ∷ ds) (suc i) h =
    let q = records (r + forms_in d.def.body) ds i (omega arith) in
    let z₀ : suc i * 4 ≡ suc (suc (suc (suc (i * 4)))) = omega arith in
    let z₁ : suc i * 4 + 1 ≡ suc (suc (suc (suc (i * 4 + 1)))) = omega arith in
    let z₃ : suc i * 4 + 3 ≡ suc (suc (suc (suc (i * 4 + 3)))) = omega arith in
    (rw z₀ q.0, rw z₁ q.1, rw z₃ q.2)

named_at : (ds : List Placed) → AllNamed ds → (i : ℕ) → i < length ds → IsName (defined_name ds i)
named_at [] none_named i h = absurd (omega arith)
named_at (d ∷ ds) (more_named e n) zero h = e
named_at (d ∷ ds) (more_named e n) (suc i) h = named_at ds n i (omega arith)

listed_put : (d : List ℕ) (ds : List Placed) → AllNamed ds → Listed (put d 0 (encode_definitions 0 ds)) ds
listed_put d ds n = record {
  low = λ i h. front i (i * 4) h (omega arith) ∙ (records 0 ds i h).0;
  high = λ i h. front i (i * 4 + 1) h (omega arith) ∙ (records 0 ds i h).1;
  place = λ i h. front i (i * 4 + 3) h (omega arith) ∙ (records 0 ds i h).2;
  named = named_at ds n;
}
  where
    front : (i j : ℕ) → i < length ds → j < i * 4 + 4 → get_or (put d 0 (encode_definitions 0 ds)) j 0 ≡ get_or (encode_definitions 0 ds) j 0
    front i j h l =
        let k = length_definitions ds 0 in
        let z : 0 + j ≡ j = omega arith in
        ap (λ (x : ℕ). get_or (put d 0 (encode_definitions 0 ds)) x 0) (sym z) ∙ put_inside d 0 j (encode_definitions 0 ds) (omega arith) (omega arith)

pub listed_of : (d : List ℕ) {d' : List ℕ} (ds : List Placed) → AllNamed ds → d' ≡ put d 0 (encode_definitions 0 ds) → Listed d' ds
listed_of d ds n e = rw e (listed_put d ds n)
