-- A name's root: found from the first definition on, or along the links of the index.
use Prim.Native.Nat.{ℕ, zero, suc, ◌+◌, ◌-◌, ◌*◌, ◌%◌, ◌≤◌, ◌<◌}
use native.Mathlib.Omega.{arith}
use mathlib.Core.Path.{◌≡◌, refl, sym, ap, subst, ◌∙◌}
use mathlib.Core.Bool.{Bool, true, false, cond}
use mathlib.Core.List.{List}
use lib.Dec.{eqb}
use lib.ListN.{get_or, length, set, replicate, length-set}
use lib.Seq.{get_or-set_same, get_or-set_other}
use borrow.Author.Tests.{ne_eqb, eqb-true, eqb-false}
use Rattle.tables.specs.Tables.{field}
use Rattle.formtable.specs.Encoding.{named}
use Rattle.std.specs.Prelude.{Option, None, Some}
use Rattle.std.specs.Option.{MatchOption}
use Rattle.linker.specs.Roots.{root_by, root_from}
use Rattle.linker.specs.Indexing.{low_at, Leads, Entered, Indexed}

-- what is found from here on is what is found from the start on
record Finding (D : List ℕ) (many lo hi d : ℕ) : Type 0 where
  most : d ≤ many
  whole : root_from D many lo hi 0 ≡ root_from D (many - d) lo hi d

one_here : (D : List ℕ) (left lo hi d : ℕ) → 0 < left → root_from D left lo hi d ≡ cond (named D d lo hi) ((field D d 2 + 1) % 4294967296) (root_from D (left - 1) lo hi (d + 1))
unfolding root_from
one_here D zero lo hi d h = absurd (omega arith)
one_here D (suc left) lo hi d h = let z : suc left - 1 ≡ left = omega arith in rw z

find_next : {D : List ℕ} {many lo hi d : ℕ} {b : Bool} → d < many → Finding D many lo hi d → b ≡ named D d lo hi → b ≡ false → Finding D many lo hi (d + 1)
find_next {D} {many} {lo} {hi} {d} l w e f = record {
  most = omega arith;
  whole = w.whole ∙ one_here D (many - d) lo hi d (omega arith) ∙ ap (λ x. cond x ((field D d 2 + 1) % 4294967296) (root_from D (many - d - 1) lo hi (d + 1))) (sym e ∙ f) ∙ ap (λ (k : ℕ). root_from D k lo hi (d + 1)) (omega arith);
}

find_here : {D : List ℕ} {many lo hi d : ℕ} {b : Bool} → d < many → Finding D many lo hi d → b ≡ named D d lo hi → b ≡ true → root_by D (Some d) ≡ root_from D many lo hi 0
find_here {D} {many} {lo} {hi} {d} l w e f = sym (w.whole ∙ one_here D (many - d) lo hi d (omega arith) ∙ ap (λ x. cond x ((field D d 2 + 1) % 4294967296) (root_from D (many - d - 1) lo hi (d + 1))) (sym e ∙ f))

none_here : (D : List ℕ) (left lo hi d : ℕ) → left ≡ 0 → root_from D left lo hi d ≡ 0
unfolding root_from
none_here D zero lo hi d h = refl
none_here D (suc left) lo hi d h = absurd (omega arith)

find_end : {D : List ℕ} {many lo hi d : ℕ} → many ≤ d → Finding D many lo hi d → 0 ≡ root_from D many lo hi 0
find_end {D} {many} {lo} {hi} {d} l w = sym (w.whole ∙ none_here D (many - d) lo hi d (omega arith))

-- where no definition before d has the name, what is found from d on is what is found from the start on
none_before : (D : List ℕ) (many lo hi d : ℕ) → d ≤ many → ((k : ℕ) → k < d → false ≡ named D k lo hi) → Finding D many lo hi d
none_before D many lo hi zero l h = record { most = omega arith; whole = ap (λ (k : ℕ). root_from D k lo hi 0) (omega arith) }
none_before D many lo hi (suc d) l h =
    let z : d + 1 ≡ suc d = omega arith in
    subst (λ (j : ℕ). Finding D many lo hi j) z (find_next {b = false} (omega arith) (none_before D many lo hi d (omega arith) (λ k m. h k (omega arith))) (h d (omega arith)) refl)

-- the first definition that has the name, if any has it
pub first_root : (D : List ℕ) (many lo hi : ℕ) (r : Option ℕ)
    → MatchOption r ((k : ℕ) → 0 ≤ k → k < many → false ≡ named D k lo hi) (λ i. (0 ≤ i) × (i < many) × (true ≡ named D i lo hi) × ((k : ℕ) → 0 ≤ k → k < i → false ≡ named D k lo hi))
    → root_by D r ≡ root_from D many lo hi 0
first_root D many lo hi None h = find_end {d = many} (omega arith) (none_before D many lo hi many (omega arith) (λ k m. h k (omega arith) m))
first_root D many lo hi (Some i) h = find_here {b = true} h.1 (none_before D many lo hi i (omega (arith, h.1)) (λ k m. h.3 k (omega arith) m)) h.2 refl

-- ---- the index
-- a link that leads to the definitions themselves
leads_here : (D : List ℕ) (many lo hi left : ℕ) → (0 < left → low_at D (many - left) ≡ lo % 256) → Leads D many lo hi left left
leads_here D many lo hi left a = record { most = omega arith; alike = a; found = refl }

-- a definition whose name is not alike is passed over
no_name : (D : List ℕ) (d lo hi : ℕ) → (low_at D d ≡ lo % 256 → ⊥) → named D d lo hi ≡ false
unfolding named
no_name D d lo hi h = rw (ne_eqb (get_or D (d * 4) 0) lo (λ e. h (ap (λ (z : ℕ). z % 256) e)))

passed : (D : List ℕ) (many lo hi left : ℕ) → 0 < left → left ≤ many → named D (many - left) lo hi ≡ false → root_from D left lo hi (many - left) ≡ root_from D (left - 1) lo hi (many - (left - 1))
passed D many lo hi left a b e =
    one_here D left lo hi (many - left) a
    ∙ ap (λ x. cond x ((field D (many - left) 2 + 1) % 4294967296) (root_from D (left - 1) lo hi (many - left + 1))) e
    ∙ ap (λ (d : ℕ). root_from D (left - 1) lo hi d) (omega arith)

-- one more definition before those that a link leads to
leads_on : {D : List ℕ} {many lo hi left x : ℕ} → 0 < left → left ≤ many → named D (many - left) lo hi ≡ false → Leads D many lo hi (left - 1) x → Leads D many lo hi left x
leads_on {D} {many} {lo} {hi} {left} a b e w = record { most = omega (arith, w.most); alike = w.alike; found = passed D many lo hi left a b e ∙ w.found }

zeros : (n i : ℕ) → ◌≡◌ {A = ℕ} (get_or (replicate n 0) i 0) 0
zeros zero i = refl
zeros (suc n) zero = refl
zeros (suc n) (suc i) = zeros n i

length_zeros : (n : ℕ) → length (replicate {A = ℕ} n 0) ≡ n
length_zeros zero = refl
length_zeros (suc n) = ap suc (length_zeros n)

pub index_start : {D X : List ℕ} {many : ℕ} → X ≡ replicate 384 0 → Entered D many 0 X
index_start {D} {X} {many} e = record {
  long = ap length e ∙ length_zeros 384;
  first = λ lo hi. rw (e, zeros 384 (lo % 256)) (leads_here D many lo hi 0 (λ h. absurd (omega arith)));
  behind = λ k lo hi a b c. absurd (omega arith);
}

-- the definition before those that are in: what led to them leads to it, and it leads where that led
module _ {D X : List ℕ} {many left first behind : ℕ} (few : many ≤ 128) (more : left < many) (was : Entered D many left X) (f : first ≡ low_at D (many - (left + 1))) (b : behind ≡ get_or X first 0) where
  abbrev entered : List ℕ
  entered = set (set X (left + 1 + 255) behind) first (left + 1)

  first_here : get_or entered first 0 ≡ left + 1
  first_here =
      let z = length-set X (left + 1 + 255) behind in
      get_or-set_same (set X (left + 1 + 255) behind) first (left + 1) 0 (omega (arith, was.long))

  first_other : (i : ℕ) → i < 256 → (i ≡ first → ⊥) → get_or entered i 0 ≡ get_or X i 0
  first_other i l h = get_or-set_other (set X (left + 1 + 255) behind) first i (left + 1) 0 h ∙ get_or-set_other X (left + 1 + 255) i behind 0 (λ e. omega arith)

  behind_here : get_or entered (left + 1 + 255) 0 ≡ behind
  behind_here = get_or-set_other (set X (left + 1 + 255) behind) first (left + 1 + 255) (left + 1) 0 (λ e. omega arith) ∙ get_or-set_same X (left + 1 + 255) behind 0 (omega (arith, was.long))

  behind_other : (k : ℕ) → 0 < k → k ≤ left → get_or entered (k + 255) 0 ≡ get_or X (k + 255) 0
  behind_other k a l = get_or-set_other (set X (left + 1 + 255) behind) first (k + 255) (left + 1) 0 (λ e. omega arith) ∙ get_or-set_other X (left + 1 + 255) (k + 255) behind 0 (λ e. omega arith)

  leads_more : (lo hi : ℕ) → Leads D many lo hi (left + 1) (get_or entered (lo % 256) 0)
  leads_more lo hi = go (eqb (lo % 256) first) refl
    where
      go : (t : Bool) → eqb (lo % 256) first ≡ t → Leads D many lo hi (left + 1) (get_or entered (lo % 256) 0)
      go true e =
          let h = eqb-true (lo % 256) first e in
          rw (h, first_here) (leads_here D many lo hi (left + 1) (λ z. sym f ∙ sym h))
      go false e =
          let h = eqb-false (lo % 256) first e in
          let z : left + 1 - 1 ≡ left = omega arith in
          rw (first_other (lo % 256) (omega arith) h) (leads_on (omega arith) (omega arith) (no_name D (many - (left + 1)) lo hi (λ q. h (sym q ∙ sym f))) (rw z (was.first lo hi)))

  behind_more : (k lo hi : ℕ) → 0 < k → k ≤ left + 1 → low_at D (many - k) ≡ lo % 256 → Leads D many lo hi (k - 1) (get_or entered (k + 255) 0)
  behind_more k lo hi a l q = go (eqb k (left + 1)) refl
    where
      go : (t : Bool) → eqb k (left + 1) ≡ t → Leads D many lo hi (k - 1) (get_or entered (k + 255) 0)
      go true e =
          let h = eqb-true k (left + 1) e in
          let z : left + 1 - 1 ≡ left = omega arith in
          let i : first ≡ lo % 256 = f ∙ ap (λ (j : ℕ). low_at D (many - j)) (sym h) ∙ q in
          rw (h, behind_here, z, b, i) (was.first lo hi)
      go false e = let h = eqb-false k (left + 1) e in rw (behind_other k a (omega (arith, h))) (was.behind k lo hi a (omega (arith, h)) q)

  entered_more : Entered D many (left + 1) entered
  entered_more = record {
    long = length-set (set X (left + 1 + 255) behind) first (left + 1) ∙ length-set X (left + 1 + 255) behind ∙ was.long;
    first = leads_more;
    behind = behind_more;
  }

-- the definitions from d on are in the index
pub record Indexing (D : List ℕ) (many : ℕ) (X : List ℕ) (d : ℕ) : Type 0 where
  pub few : many ≤ 128
  pub most : d ≤ many
  pub now : Entered D many (many - d) X

pub indexing_start : {D X : List ℕ} {many : ℕ} → many ≤ 128 → X ≡ replicate 384 0 → Indexing D many X many
indexing_start {many = many} l e = let z : many - many ≡ 0 = omega arith in record { few = l; most = omega arith; now = rw z (index_start e) }

pub indexing_next : {D X : List ℕ} {many d low left : ℕ} → 0 < d → Indexing D many X d → low ≡ get_or D ((d - 1) * 4) 0 → left ≡ many - (d - 1) → Indexing D many (set (set X (left + 255) (get_or X (low % 256) 0)) (low % 256) left) (d - 1)
indexing_next {D} {X} {many} {d} {low} {left} h w e f =
    let a : left ≡ many - d + 1 = omega (arith, w.most) in
    let b : many - (d - 1) ≡ many - d + 1 = omega (arith, w.most) in
    let k : d - 1 ≡ many - (many - d + 1) = omega (arith, w.most) in
    let first : low % 256 ≡ low_at D (many - (many - d + 1)) = ap (λ (i : ℕ). i % 256) e ∙ ap (λ (i : ℕ). low_at D i) k in
    rw a (record { few = w.few; most = omega (arith, w.most); now = rw b (entered_more w.few (omega (arith, w.most)) w.now first refl) })

-- ---- along the links
pub record Seeking (D : List ℕ) (many lo hi left : ℕ) : Type 0 where
  pub few : many ≤ 128
  pub leads : Leads D many lo hi many left
  pub most : left ≤ many

pub seek_start : {D X : List ℕ} {many lo hi left : ℕ} → many ≤ 128 → Indexed D many X → left ≡ get_or X (lo % 256) 0 → Seeking D many lo hi left
seek_start {lo = lo} {hi} l w e = let h = (w.entered l).first lo hi in record { few = l; leads = rw e h; most = omega (arith, h.most) }

pub seek_next : {D X : List ℕ} {many lo hi left next : ℕ} {b : Bool} → 0 < left → Indexed D many X → Seeking D many lo hi left → b ≡ named D (many - left) lo hi → b ≡ false → next ≡ get_or X (left + 255) 0 → Seeking D many lo hi next
seek_next {D} {many = many} {lo} {hi} {left} l w s e f g =
    let h = (w.entered s.few).behind left lo hi l s.most (s.leads.alike l) in
    record {
      few = s.few;
      leads = rw g (record { most = omega (arith, h.most, s.most); alike = h.alike; found = s.leads.found ∙ passed D many lo hi left l s.most (sym e ∙ f) ∙ h.found });
      most = omega (arith, h.most, s.most);
    }

-- a definition leads to one behind it
pub seek_less : {D X : List ℕ} {many lo hi left next : ℕ} → 0 < left → Indexed D many X → Seeking D many lo hi left → next ≡ get_or X (left + 255) 0 → next < left
seek_less {lo = lo} {hi} {left} l w s g = let h = (w.entered s.few).behind left lo hi l s.most (s.leads.alike l) in omega (arith, h.most)

from_all : (D : List ℕ) (many lo hi : ℕ) → root_from D many lo hi 0 ≡ root_from D many lo hi (many - many)
from_all D many lo hi = ap (λ (d : ℕ). root_from D many lo hi d) (omega arith)

pub seek_here : {D : List ℕ} {many lo hi left : ℕ} {b : Bool} → 0 < left → Seeking D many lo hi left → b ≡ named D (many - left) lo hi → b ≡ true → root_by D (Some (many - left)) ≡ root_from D many lo hi 0
seek_here {D} {many} {lo} {hi} {left} l s e f =
    sym (from_all D many lo hi ∙ s.leads.found ∙ one_here D left lo hi (many - left) l ∙ ap (λ x. cond x ((field D (many - left) 2 + 1) % 4294967296) (root_from D (left - 1) lo hi (many - left + 1))) (sym e ∙ f))

pub seek_end : {D : List ℕ} {many lo hi left : ℕ} → left ≤ 0 → Seeking D many lo hi left → 0 ≡ root_from D many lo hi 0
seek_end {D} {many} {lo} {hi} {left} l s = sym (from_all D many lo hi ∙ s.leads.found ∙ none_here D left lo hi (many - left) (omega arith))
