-- The simplifier's result is a series of uses, each at the least place where a law applies and there of the lowest law,
-- after which no law applies at any place.
use Prim.Native.Nat.{ℕ, zero, suc, ◌+◌, ◌-◌, ◌≤◌, ◌<◌}
use mathlib.Core.Path.{◌≡◌, refl, sym, subst, ◌∙◌, ap}
use mathlib.Core.Bool.{Bool, true, false}
use mathlib.Core.List.{List, [], ◌∷◌, ◌++◌}
use mathlib.Core.Option.{Option, some, none}
use native.Mathlib.Omega.{arith}
use lib.Dec.{ltb, leb}
use borrow.Author.Tests.{le-ltb, leb-true, leb-false}
use Rattle.language.specs.Forms.{Prog, forms_in, forms_of}
use Rattle.language.specs.Numbers.{mark_limit}
use Rattle.language.specs.Writing.{marks_of_program}
use Rattle.groundwork.specs.Options.{on_some, when}
use Rattle.language.specs.Laws.{form_of, Law, law1, law2, law3, law4, law5, law6, law7, law8, law9, law10, law11}
use Rattle.language.specs.Uses.{within, use_at, with_body, use_in, apply_law, laws, lowest, least, Simplified, simplify_by, simplify}
use Rattle.theorems.specs.Demand3.{Uses, no_use, use_then}
use Rattle.theorems.specs.Simplifier.{NoneAt, NoneOf, First, FirstUses, none_left, first_then, Simplifies, SimplifierUses, NoneAfter}
use Rattle.theorems.proofs.Inversions.{none_some}
use Rattle.theorems.proofs.Refines.{fewer}

-- ---- no law applies at a place that no form has

pass : {A : Type 0} (j n : ℕ) (first rest : ℕ → Option A) → n ≤ j → rest (j - n) ≡ none → within j n first rest ≡ none
pass j n first rest h u = let t : ltb j n ≡ false = le-ltb j n h in rw (t, within) u

beyond_program : (P : Prog) (l : Law) (i : ℕ) → forms_of P ≤ i → use_in P l i ≡ none
beyond_program [] l i h = refl
beyond_program (d ∷ ds) l i h =
    pass i (forms_in d.body) (λ i. on_some (use_at d.body l i) (λ n. some (with_body d (form_of n) ∷ ds))) (λ i. on_some (use_in ds l i) (λ es. some (d ∷ es))) (omega arith)
    (ap (λ (o : Option Prog). on_some o (λ es. some (d ∷ es))) (beyond_program ds l (i - forms_in d.body) (omega arith)))

none_beyond : (P : Prog) (i : ℕ) → forms_of P ≤ i → NoneAt i P
none_beyond P i h l = ap (λ (o : Option Prog). on_some o (λ Q. when (leb (marks_of_program Q) mark_limit) (some Q))) (beyond_program P l i h)

-- ---- where the search finds nothing

both_none : {A : Type 0} (o q : Option A) → Path (Option A) (elim o as (λ (o : Option A). Option A) [ some R ↦ some R | none ↦ q ]) none → (o ≡ none) × (q ≡ none)
both_none (some a) q u = none_some (sym u)
both_none none q u = (refl, u)

data In (l : Law) : List Law → Type 0 where
  first : {ls : List Law} → In l (l ∷ ls)
  later : {k : Law} {ls : List Law} → In l ls → In l (k ∷ ls)

in_laws : (l : Law) → In l laws
in_laws law1 = first
in_laws law2 = later first
in_laws law3 = later (later first)
in_laws law4 = later (later (later first))
in_laws law5 = later (later (later (later first)))
in_laws law6 = later (later (later (later (later first))))
in_laws law7 = later (later (later (later (later (later first)))))
in_laws law8 = later (later (later (later (later (later (later first))))))
in_laws law9 = later (later (later (later (later (later (later (later first)))))))
in_laws law10 = later (later (later (later (later (later (later (later (later first))))))))
in_laws law11 = later (later (later (later (later (later (later (later (later (later first)))))))))

no_law : {l : Law} {ls : List Law} (i : ℕ) (P : Prog) → In l ls → lowest ls i P ≡ none → apply_law l i P ≡ none
no_law {l} {ls = []} i P x u = elim x [ ]
no_law {l} {ls = k ∷ ls} i P first u = (both_none (apply_law l i P) (lowest ls i P) u).0
no_law {l} {ls = k ∷ ls} i P (later h) u = no_law i P h (both_none (apply_law k i P) (lowest ls i P) u).1

none_at : (i : ℕ) (P : Prog) → lowest laws i P ≡ none → NoneAt i P
none_at i P u l = no_law i P (in_laws l) u

-- none at the places before i and at i is none at the places before the next
none_before : (i : ℕ) (P : Prog) → ((j : ℕ) → j < i → NoneAt j P) → NoneAt i P → (j : ℕ) → j < suc i → NoneAt j P
none_before i P k u j h = go (leb i j) refl
  where
    go : (b : Bool) → leb i j ≡ b → NoneAt j P
    go true t = let z : i ≡ j = omega (arith, leb-true i j t) in subst (λ (j : ℕ). NoneAt j P) z u
    go false t = k j (leb-false i j t)

none_left_lem : (n i : ℕ) (P : Prog) → forms_of P ≤ i + n → ((j : ℕ) → j < i → NoneAt j P) → least n i P ≡ none → (j : ℕ) → NoneAt j P
none_left_lem zero i P h k u j = go (leb i j) refl
  where
    go : (b : Bool) → leb i j ≡ b → NoneAt j P
    go true t = none_beyond P j (omega (arith, leb-true i j t))
    go false t = k j (leb-false i j t)
none_left_lem (suc n) i P h k u j =
    let t = both_none (lowest laws i P) (least n (suc i) P) u in
    none_left_lem n (suc i) P (omega arith) (none_before i P k (none_at i P t.0)) t.1 j

-- ---- what the search finds

record Lowest (ls : List Law) (i : ℕ) (P Q : Prog) : Type 0 where
  law : Law
  gives : apply_law law i P ≡ some Q
  lower : List Law
  higher : List Law
  among : ls ≡ lower ++ law ∷ higher
  none_lower : NoneOf lower i P

lowest_law : (ls : List Law) (i : ℕ) (P Q : Prog) → lowest ls i P ≡ some Q → Lowest ls i P Q
lowest_law [] i P Q u = none_some u
lowest_law (l ∷ ls) i P Q u = go (apply_law l i P) refl u (λ v. lowest_law ls i P Q v)
  where
    go : (o : Option Prog) → apply_law l i P ≡ o → elim o as (λ (o : Option Prog). Option Prog) [ some R ↦ some R | none ↦ lowest ls i P ] ≡ some Q
        → (lowest ls i P ≡ some Q → Lowest ls i P Q) → Lowest (l ∷ ls) i P Q
    go (some R) v u k = record { law = l; gives = v ∙ u; lower = []; higher = ls; among = refl; none_lower = tt }
    go none v u k =
        let K = k u in
        record { law = K.law; gives = K.gives; lower = l ∷ K.lower; higher = K.higher; among = ap (λ (ks : List Law). l ∷ ks) K.among; none_lower = (v, K.none_lower) }

least_place : (n i : ℕ) (P Q : Prog) → ((j : ℕ) → j < i → NoneAt j P) → least n i P ≡ some Q → First P Q
least_place zero i P Q k u = none_some u
least_place (suc n) i P Q k u = go (lowest laws i P) refl u (λ k v. least_place n (suc i) P Q k v)
  where
    go : (o : Option Prog) → lowest laws i P ≡ o
        → elim o as (λ (o : Option Prog). Option Prog) [ some R ↦ some R | none ↦ least n (suc i) P ] ≡ some Q
        → (((j : ℕ) → j < suc i → NoneAt j P) → least n (suc i) P ≡ some Q → First P Q) → First P Q
    go (some R) v u r =
        let L = lowest_law laws i P Q (v ∙ u) in
        record { law = L.law; place = i; gives = L.gives; least = k; lower = L.lower; higher = L.higher; among = L.among; lowest = L.none_lower }
    go none v u r = r (none_before i P k (none_at i P v)) u

-- ---- the rounds

record Rounds (u : ℕ) (P : Prog) (S : Simplified) : Type 0 where
  n : ℕ
  counted : S.uses ≡ u + n
  series : FirstUses P S.program n

by_rounds : (n u : ℕ) (P : Prog) → forms_of P ≤ n → Rounds u P (simplify_by n u P)
by_rounds zero u P h = record { n = 0; counted = omega arith; series = none_left (λ i. none_beyond P i (omega arith)) }
by_rounds (suc n) u P h = go (least (forms_of P) 0 P) refl (λ Q l. by_rounds n (suc u) Q l)
  where
    go : (o : Option Prog) → least (forms_of P) 0 P ≡ o → ((Q : Prog) → forms_of Q ≤ n → Rounds (suc u) Q (simplify_by n (suc u) Q))
        → Rounds u P (elim o as (λ (o : Option Prog). Simplified) [ some Q ↦ simplify_by n (suc u) Q | none ↦ record { program = P; uses = u } ])
    go none v k = record { n = 0; counted = omega arith; series = none_left (none_left_lem (forms_of P) 0 P (omega arith) (λ j t. absurd (omega arith)) v) }
    go (some Q) v k =
        let F = least_place (forms_of P) 0 P Q (λ j t. absurd (omega arith)) v in
        let K = k Q (omega (arith, fewer F.law F.place P Q F.gives)) in
        record { n = suc K.n; counted = omega (arith, K.counted); series = first_then F K.series }

pub simplifies : Simplifies
simplifies P =
    let K = by_rounds (forms_of P) 0 P (omega arith) in
    let z : K.n ≡ (simplify P).uses = omega (arith, K.counted) in
    subst (FirstUses P (simplify P).program) z K.series

uses_of : {P Q : Prog} {n : ℕ} → FirstUses P Q n → Uses P Q
uses_of (none_left k) = no_use
uses_of (first_then F U) = use_then F.law F.place F.gives (uses_of U)

pub simplifier_uses : SimplifierUses
simplifier_uses P = uses_of (simplifies P)

none_behind : {P Q : Prog} {n : ℕ} → FirstUses P Q n → (i : ℕ) → NoneAt i Q
none_behind (none_left k) = k
none_behind (first_then F U) = none_behind U

pub none_after : NoneAfter
none_after P i = none_behind (simplifies P) i
