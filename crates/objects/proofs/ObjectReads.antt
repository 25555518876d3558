-- The ways out of the object reader's functions, from what the functions that they call promise.
use Rattle.std.proofs.Common.{◌≡◌, ℕ, zero, suc, ◌+◌, ◌-◌, ◌*◌, ◌/◌, ◌%◌, ◌≤◌, List, [], length, pos, negsuc, sym, refl, ap, ◌∙◌, append_assoc, append-nil, add-zero, zero-add, subst, arith, eq-eqb, ne_eqb, Result, Ok, Err}
use lib.Seq.{slice, slice_empty}
use Rattle.std.specs.Prelude.{slice_range}
use Rattle.language.specs.Objects.{Obj, int, symbol, seq, Objs, nil, ◌::◌, length_of, cells_of, cells_of_all}
use Rattle.language.specs.Tokens.{byte_at, place_from, size_at}
use Rattle.language.specs.Judging.{Judged, is, is_not, judge_atom, refusal_of}
use Rattle.language.specs.Numbers.{mark_limit}
use Rattle.language.specs.Reading.{Got, got, no, and_then, word_at, as_judged, refused, opens, inside_sequence, after_object, read_obj, read_objs, read_object, at_end, calls}
use Rattle.language.specs.Writing.{marks_of_obj}
use Rattle.language.specs.declared.Val.{Val}
use Rattle.language.specs.declared.refusals.Refusal.{Refusal}
use Rattle.language.specs.declared.refusals.RefusedText.{RefusedText}
use Rattle.language.specs.Refusals.{refusal, refused_at}
use Rattle.theorems.proofs.Outcomes.{MeetsWord, meets_word, misspelled, out_of_range, too_long}
use Rattle.theorems.proofs.JudgedWords.{IsAtomIn, judged_atom}
use Rattle.theorems.proofs.Refusals.{mark_within}
use Rattle.tables.specs.Tables.{put}
use Rattle.tables.proofs.Put.{put_after, put_before, put_none}
use Rattle.tables.proofs.Records.{record_fits}
use Rattle.cells.specs.Cells.{sequence_val, cell_put}
use Rattle.cells.specs.Encoding.{val_of, cell, cells_from, places_from}
use Rattle.lexer.specs.Readings as L
use Rattle.lexer.specs.Judgements.{atom_val, atom_judged}
use Rattle.cells.proofs.Encoded.{length_cells, length_places}
use Rattle.objects.specs.Readings.{ReadMeets, reads, refuses, Goes, Ahead, AtomReading, ObjectReading, place_cells, PlaceMeets, no_place, last_place, more_places, PlaceReading, PlacesMeet, all_read, not_read, PlacesFrom, PlacesReading, WholeReading}
use Rattle.objects.specs.declared.ObjectRead.{ObjectRead}
use Rattle.objects.specs.declared.PlaceRead.{PlaceRead}
use Rattle.objects.specs.declared.PlaceRead.TheVariants as P
use Rattle.objects.proofs.Refused.{error_of, word_lent, Refuses, refuses_as}

-- a mark stands within the text
pub inside : (s : List ℕ) (p b m : ℕ) → b ≡ byte_at s p → b ≡ m → 1 ≤ m → p + 1 ≤ length s
inside s p b m e f l = mark_within s p m l (eq-eqb (byte_at s p) m (sym e ∙ f))

-- calls that are enough are at least one
by_calls : (R : ℕ → Type 0) (n k : ℕ) → n + 1 ≤ k → ((j : ℕ) → n ≤ j → R (suc j)) → R k
by_calls R n zero h f = absurd (omega arith)
by_calls R n (suc j) h f = f j (omega arith)

-- ---- bounds
-- what was read
abbrev pub read_as : Val → ℕ → ℕ → Result ObjectRead RefusedText
read_as v e n = Ok (record { value = v; next = e; cells = n })

same_read : {x y : ObjectRead} → ◌≡◌ {A = Result ObjectRead RefusedText} (Ok x) (Ok y) → x ≡ y
same_read h = cc

pub no_ahead : {s : List ℕ} {at used : ℕ} {r : Result ObjectRead RefusedText} {e : RefusedText} → r ≡ Err e → Ahead s at used r
no_ahead e = record { ends = λ x f. let z : ◌≡◌ {A = ℕ} 0 1 = cc in absurd (omega arith) }

ahead_of : {s : List ℕ} {at used : ℕ} {r : Result ObjectRead RefusedText} {x : ObjectRead} → r ≡ Ok x → Goes s at used x.next x.cells → Ahead s at used r
ahead_of {s} {at} {used} {x = x} f g = record { ends = λ y h. let i : x ≡ y = cc in subst (λ (t : ObjectRead). Goes s at used t.next t.cells) i g }

later : {s : List ℕ} {at p used : ℕ} {r : Result ObjectRead RefusedText} → at ≤ p → Ahead s p used r → Ahead s at used r
later {s} {at} {p} {used} l h = record { ends = λ x f. go x.next x.cells (h.ends x f) }
  where
    go : (e n : ℕ) → Goes s p used e n → Goes s at used e n
    go e n g = record { behind = omega (arith, g.behind); inside = g.inside; more = g.more; few = omega (arith, g.few) }

-- ---- cells
-- a place's cell is put before the cells of the object there
module _ (C : List ℕ) (c : ℕ) (x : Obj) (next : ℕ) {C₁ C₂ : List ℕ} (v : Val) where
  place_put : v ≡ val_of (c + 1) x → length C₁ ≡ length C → ((c + 1 + cells_of x) * 4 ≤ length C → C₁ ≡ put C ((c + 1) * 4) (cells_from (c + 1) x)) → C₂ ≡ cell_put C₁ c v next → (c + 1 + cells_of x) * 4 ≤ length C → C₂ ≡ put C (c * 4) (place_cells c x next)
  place_put e l f g room =
      let n = length_cells x (c + 1) in
      let i : (c + 1) * 4 ≡ c * 4 + 4 = omega arith in
      g ∙ record_fits C₁ c v.tag next (v.word % 4294967296) (v.word / 4294967296) (omega arith)
      ∙ ap (λ (y : List ℕ). put y (c * 4) (cell v next)) (rw i at (f room)) ∙ rw e (put_before C (c * 4) (cell (val_of (c + 1) x) next) (cells_from (c + 1) x) (omega arith))

-- ---- atoms
atom_val_lem : (x : Obj) (c : ℕ) → marks_of_obj x ≤ 0 → atom_val x ≡ val_of c x
atom_val_lem (int (pos k)) c h = refl
atom_val_lem (int (negsuc k)) c h = refl
atom_val_lem (symbol w) c h = refl
atom_val_lem (seq xs) c h = absurd (omega arith)

atom_cells : (x : Obj) → marks_of_obj x ≤ 0 → cells_of x ≡ 0
atom_cells (int z) h = refl
atom_cells (symbol w) h = refl
atom_cells (seq xs) h = absurd (omega arith)

atom_none : (x : Obj) (c : ℕ) → marks_of_obj x ≤ 0 → cells_from c x ≡ []
unfolding cells_from
atom_none (int z) c h = refl
atom_none (symbol w) c h = refl
atom_none (seq xs) c h = absurd (omega arith)

atom_meets : (C : List ℕ) (used : ℕ) (x : Obj) (v : Val) (e : ℕ) → marks_of_obj x ≤ 0 → v ≡ atom_val x → ReadMeets C used (read_as v e used) C (got x e)
atom_meets C used x v e h f =
    let z = atom_cells x h in
    let n : used ≡ used + cells_of x = omega arith in
    reads {x = x} {e = e} (ap (λ (y : Val). read_as y e used) (f ∙ atom_val_lem x used h) ∙ ap (λ (m : ℕ). read_as (val_of used x) e m) n)
    (λ room. rw (atom_none x used h) (sym (put_none C (used * 4))))

module _ {s : List ℕ} {p n : ℕ} (z : L.WordSized s p n) where
  pub atom_empty : {used : ℕ} → n ≡ 0 → AtomReading s p used (Err (refused_at 6 p))
  unfolding judge_atom
  atom_empty e =
      let m : size_at s p ≡ 0 = sym z.is ∙ e in
      let w : slice p (p + size_at s p) s ≡ [] = rw (m, add-zero) (slice_empty p s) in
      record { ahead = no_ahead {e = refused_at 6 p} refl; means = λ C. rw w (refuses {n = 6} {p = p} refl) }

  module _ {r : Result Val Refusal} (h : r ≡ atom_judged (judge_atom (slice_range s p (p + n)))) where
    -- by cases of what is judged
    judged : (R : Judged Obj → Type 0) → ((w : List ℕ) (J : Judged Obj) → MeetsWord (IsAtomIn (length w)) J → r ≡ atom_judged J → R J) → R (judge_atom (word_at s p))
    judged R f = f (word_at s p) (judge_atom (word_at s p)) (judged_atom (word_at s p)) (h ∙ ap (λ (w : List ℕ). atom_judged (judge_atom w)) (word_lent z))

    pub atom_not : {used : ℕ} {k : Refusal} → r ≡ Err k → AtomReading s p used (Err (record { refusal = k; place = p }))
    atom_not {used} {k} e = record { ahead = no_ahead {e = record { refusal = k; place = p }} refl; means = λ C. judged (λ J. ReadMeets C used (Err (record { refusal = k; place = p })) C (as_judged s p J)) (λ w J m f. go C J f) }
      where
        go : (C : List ℕ) (J : Judged Obj) → r ≡ atom_judged J → ReadMeets C used (Err (record { refusal = k; place = p })) C (as_judged s p J)
        go C (is x) f = let y : ◌≡◌ {A = ℕ} 0 1 = cc in absurd (omega arith)
        go C (is_not i) f = let y : k ≡ refusal i = cc in refuses (ap (λ (q : Refusal). Err (record { refusal = q; place = p })) y)

    pub atom_is : {used : ℕ} {v : Val} → (n ≡ 0 → ⊥) → r ≡ Ok v → AtomReading s p used (read_as v (p + n) used)
    atom_is {used} {v} o e =
        let hi = z.high in
        record {
          ahead = ahead_of refl (record { behind = omega arith; inside = omega arith; more = omega arith; few = omega arith });
          means = λ C. judged (λ J. ReadMeets C used (read_as v (p + n) used) C (as_judged s p J)) (λ w J m f. go C w J m f);
        }
      where
        go : (C : List ℕ) (w : List ℕ) (J : Judged Obj) → MeetsWord (IsAtomIn (length w)) J → r ≡ atom_judged J → ReadMeets C used (read_as v (p + n) used) C (as_judged s p J)
        go C w _ (meets_word {a = x} q) f =
            let y : v ≡ atom_val x = cc in
            let m : p + n ≡ p + size_at s p = ap (λ (i : ℕ). p + i) z.is in
            rw m (atom_meets C used x v (p + size_at s p) q.marks y)
        go C w _ misspelled f = let y : ◌≡◌ {A = ℕ} 0 1 = cc in absurd (omega arith)
        go C w _ out_of_range f = let y : ◌≡◌ {A = ℕ} 0 1 = cc in absurd (omega arith)
        go C w _ too_long f = let y : ◌≡◌ {A = ℕ} 0 1 = cc in absurd (omega arith)

-- ---- what one call of the definitions reads, by the bytes that it meets
module _ (s : List ℕ) (at room j : ℕ) where
  read_word : (byte_at s (place_from s at) ≡ 60 → ⊥) → read_obj (suc j) s at room ≡ as_judged s (place_from s at) (judge_atom (word_at s (place_from s at)))
  unfolding read_obj
  read_word o = rw (ne_eqb (byte_at s (place_from s at)) 60 o)

  module _ (mark : byte_at s (place_from s at) ≡ 60) where
    read_full : room ≡ 0 → read_obj (suc j) s at room ≡ no 7 (place_from s at)
    unfolding read_obj opens
    read_full e = rw (eq-eqb (byte_at s (place_from s at)) 60 mark, eq-eqb room 0 e)

    module _ (some : room ≡ 0 → ⊥) where
      read_empty : byte_at s (place_from s (place_from s at + 1)) ≡ 62 → read_obj (suc j) s at room ≡ got (seq nil) (place_from s (place_from s at + 1) + 1)
      unfolding read_obj opens inside_sequence
      read_empty e = rw (eq-eqb (byte_at s (place_from s at)) 60 mark, ne_eqb room 0 some, eq-eqb (byte_at s (place_from s (place_from s at + 1))) 62 e)

      read_sequence : (byte_at s (place_from s (place_from s at + 1)) ≡ 62 → ⊥) → read_obj (suc j) s at room ≡ and_then (read_objs j s (place_from s at + 1) (room - 1)) (λ xs e. got (seq xs) e)
      unfolding read_obj opens inside_sequence
      read_sequence o = rw (eq-eqb (byte_at s (place_from s at)) 60 mark, ne_eqb room 0 some, ne_eqb (byte_at s (place_from s (place_from s at + 1))) 62 o)

  places_refused : (n p : ℕ) → read_obj j s at room ≡ no n p → read_objs (suc j) s at room ≡ no n p
  unfolding read_objs
  places_refused n p e = rw e

  module _ (x : Obj) (e : ℕ) (first : read_obj j s at room ≡ got x e) where
    places_last : byte_at s (place_from s e) ≡ 62 → read_objs (suc j) s at room ≡ got (x :: nil) (place_from s e + 1)
    unfolding read_objs after_object
    places_last m = rw (first, m)

    places_bad : (byte_at s (place_from s e) ≡ 62 → ⊥) → (byte_at s (place_from s e) ≡ 44 → ⊥) → read_objs (suc j) s at room ≡ no (refusal_of (word_at s (place_from s e))) (place_from s e)
    unfolding read_objs after_object refused
    places_bad m o = rw (first, ne_eqb (byte_at s (place_from s e)) 44 o, ne_eqb (byte_at s (place_from s e)) 62 m)

    places_more : byte_at s (place_from s e) ≡ 44 → read_objs (suc j) s at room ≡ and_then (read_objs j s (place_from s e + 1) room) (λ xs e. got (x :: xs) e)
    unfolding read_objs after_object
    places_more m = rw (first, m)

sequence_is : (C : List ℕ) (used : ℕ) (r : Result ObjectRead RefusedText) (C' : List ℕ) (x : Obj) (xs : Objs) (e : ℕ) → r ≡ read_as (sequence_val (used + 1) (0 + suc (length_of xs))) e (used + cells_of_all (x :: xs))
    → ((used + cells_of_all (x :: xs)) * 4 ≤ length C → C' ≡ put C (used * 4) (places_from used (x :: xs))) → ReadMeets C used r C' (got (seq (x :: xs)) e)
unfolding cells_from
sequence_is C used r C' x xs e f h = reads (f ∙ ap (λ (m : ℕ). read_as (sequence_val (used + 1) m) e (used + cells_of_all (x :: xs))) (zero-add (suc (length_of xs)))) h

-- ---- objects
here : {s : List ℕ} {at p b : ℕ} → L.Skipped s at p → b ≡ byte_at s p → byte_at s (place_from s at) ≡ b
here {s} k byte = ap (λ (q : ℕ). byte_at s q) (sym k.is) ∙ sym byte

second : {s : List ℕ} {at p q : ℕ} → L.Skipped s at p → L.Skipped s (p + 1) q → q ≡ place_from s (place_from s at + 1)
second {s} k l = l.is ∙ ap (λ (i : ℕ). place_from s (i + 1)) k.is

there : {s : List ℕ} {at p q d : ℕ} → L.Skipped s at p → L.Skipped s (p + 1) q → d ≡ byte_at s q → byte_at s (place_from s (place_from s at + 1)) ≡ d
there {s} k l byte = ap (λ (i : ℕ). byte_at s i) (sym (second k l)) ∙ sym byte

module _ {s : List ℕ} {at room : ℕ} {C : List ℕ} {used p b : ℕ} (skipped : L.Skipped s at p) (byte : b ≡ byte_at s p) where
  pub object_word : {r : Result ObjectRead RefusedText} → (b ≡ 60 → ⊥) → AtomReading s p used r → ObjectReading s at room C used r C
  object_word {r} o w = record {
    ahead = later skipped.low w.ahead;
    means = λ k h. by_calls (λ k. ReadMeets C used r C (read_obj k s at room)) (2 * (length s - at)) k h (λ j g. rw (read_word s at room j (λ m. o (sym (here skipped byte) ∙ m))) (rw skipped.is at (w.means C)));
  }

  module _ (mark : b ≡ 60) where
    pub object_full : {C' : List ℕ} → room ≡ 0 → ObjectReading s at room C used (Err (refused_at 7 p)) C'
    object_full {C'} e = record {
      ahead = no_ahead {e = refused_at 7 p} refl;
      means = λ k h. by_calls (λ k. ReadMeets C used (Err (refused_at 7 p)) C' (read_obj k s at room)) (2 * (length s - at)) k h (λ j g. rw (read_full s at room j (here skipped byte ∙ mark) e) (refuses (ap (λ (q : ℕ). Err (refused_at 7 q)) skipped.is)));
    }

    module _ {q d : ℕ} (some : room ≡ 0 → ⊥) (skipped₂ : L.Skipped s (p + 1) q) (byte₂ : d ≡ byte_at s q) where
      pub object_empty : {v : Val} → d ≡ 62 → v ≡ sequence_val 0 0 → ObjectReading s at room C used (read_as v (q + 1) used) C
      unfolding cells_from
      object_empty {v} e f =
          let lo = skipped.low in
          let lo₂ = skipped₂.low in
          let w = inside s q d 62 byte₂ e (omega arith) in
          record {
            ahead = ahead_of refl (record { behind = omega arith; inside = omega arith; more = omega arith; few = omega arith });
            means = λ k h. by_calls (λ k. ReadMeets C used (read_as v (q + 1) used) C (read_obj k s at room)) (2 * (length s - at)) k h
                (λ j g. rw (read_empty s at room j (here skipped byte ∙ mark) some (there skipped skipped₂ byte₂ ∙ e), ← (second skipped skipped₂)) (reads {x = seq nil} {e = q + 1} (rw f (ap (λ (t : ℕ). read_as (sequence_val 0 0) (q + 1) t) (sym (add-zero used)))) (λ room. sym (put_none C (used * 4)))));
          }

      pub object_places : {r : Result ObjectRead RefusedText} {C' : List ℕ} → (d ≡ 62 → ⊥) → PlacesReading s (p + 1) (room - 1) C used r C' → ObjectReading s at room C used r C'
      object_places {r} {C'} o w =
          let lo = skipped.low in
          let i = inside s p b 60 byte mark (omega arith) in
          record {
            ahead = later (omega arith) w.ahead;
            means = λ k h. by_calls (λ k. ReadMeets C used r C' (read_obj k s at room)) (2 * (length s - at)) k h
                (λ j g. rw (read_sequence s at room j (here skipped byte ∙ mark) some (λ m. o (sym (there skipped skipped₂ byte₂) ∙ m)), ← skipped.is) (go (read_objs j s (p + 1) (room - 1)) (w.all.means j (omega arith))));
          }
        where
          go : (g : Got Objs) → PlacesMeet used 0 used C r C' g → ReadMeets C used r C' (and_then g (λ xs e. got (seq xs) e))
          go _ (not_read e) = refuses e
          go _ (all_read {x = x} {xs = xs} {e = e} f h) = sequence_is C used r C' x xs e f h

-- ---- one place
-- what the object reader read, from its answer
read_no : {s : List ℕ} {at room : ℕ} {C : List ℕ} {used : ℕ} {r : Result ObjectRead RefusedText} {C₁ : List ℕ} {e : RefusedText} → ObjectReading s at room C used r C₁ → r ≡ Err e → (k : ℕ) → 2 * (length s - at) + 1 ≤ k → Refuses e (read_obj k s at room)
read_no {s} {at} {room} {C} {used} {r} {C₁} {e} w h k l = go (read_obj k s at room) (w.means k l)
  where
    go : (g : Got Obj) → ReadMeets C used r C₁ g → Refuses e g
    go _ (reads f m) = let y : ◌≡◌ {A = ℕ} 0 1 = cc in absurd (omega arith)
    go _ (refuses {n = a} {p = b} f) = record { number = a; place = b; is = refl; told = error_of (sym h ∙ f) }

with_object : {s : List ℕ} {at room : ℕ} {C : List ℕ} (c : ℕ) {r : Result ObjectRead RefusedText} {C₁ : List ℕ} {y : ObjectRead} → ObjectReading s at room C (c + 1) r C₁ → r ≡ Ok y
    → (R : Type 0) (k : ℕ) → 2 * (length s - at) + 1 ≤ k → ((x : Obj) → read_obj k s at room ≡ got x y.next → y.value ≡ val_of (c + 1) x → y.cells ≡ c + 1 + cells_of x → ((c + 1 + cells_of x) * 4 ≤ length C → C₁ ≡ put C ((c + 1) * 4) (cells_from (c + 1) x)) → R) → R
with_object {s} {at} {room} {C} c {r} {C₁} {y} w f R k h g = go (read_obj k s at room) refl (w.means k h)
  where
    go : (u : Got Obj) → read_obj k s at room ≡ u → ReadMeets C (c + 1) r C₁ u → R
    go _ i (reads {x = x} {e = e₁} a p) =
        let u = same_read (sym f ∙ a) in
        g x (i ∙ ap (λ (t : ObjectRead). got x t.next) (sym u)) (ap (λ (t : ObjectRead). t.value) u) (ap (λ (t : ObjectRead). t.cells) u) p
    go _ i (refuses a) = let z : ◌≡◌ {A = ℕ} 0 1 = cc in absurd (omega arith)

goes : {s : List ℕ} {at room : ℕ} {C : List ℕ} (c : ℕ) {r : Result ObjectRead RefusedText} {C₁ : List ℕ} {y : ObjectRead} {q : ℕ} → ObjectReading s at room C (c + 1) r C₁ → r ≡ Ok y → L.Skipped s y.next q → (d : ℕ) → byte_at s q ≡ d → 1 ≤ d → Goes s at (c + 1) (q + 1) y.cells × (y.cells + at ≤ c + (q + 1))
goes {s} c {y = y} {q = q} w f skipped d i l =
    let g = w.ahead.ends y f in
    let a = g.behind in
    let k = g.more in
    let t = g.few in
    let lo = skipped.low in
    let n = inside s q d d (sym i) refl l in
    (record { behind = omega arith; inside = n; more = k; few = omega arith }, omega arith)

module _ {s : List ℕ} {at room : ℕ} {C : List ℕ} {c : ℕ} {r : Result ObjectRead RefusedText} {C₁ : List ℕ} (w : ObjectReading s at room C (c + 1) r C₁) where
  pub place_no : {e : RefusedText} {r₂ : Result PlaceRead RefusedText} → r ≡ Err e → r₂ ≡ Err e → PlaceReading s at room C c r₂ C₁
  place_no {e} e₁ e₂ = record {
    last = λ e₁ n₁ f. let z : ◌≡◌ {A = ℕ} 0 1 = cc in absurd (omega arith);
    more = λ e₁ n₁ f. let z : ◌≡◌ {A = ℕ} 0 1 = cc in absurd (omega arith);
    means = λ k h. let y = read_no w e₁ k h in no_place (refuses_as y e₂) (places_refused s at room k y.number y.place y.is);
  }

  module _ {y : ObjectRead} {q b : ℕ} (f : r ≡ Ok y) (skipped : L.Skipped s y.next q) (byte : b ≡ byte_at s q) where
    pub place_last : {C₂ : List ℕ} → b ≡ 62 → length C₁ ≡ length C → C₂ ≡ cell_put C₁ c y.value 0 → PlaceReading s at room C c (Ok (P.Last (q + 1) y.cells)) C₂
    place_last {C₂} i l g = record {
      last = λ e₁ n₁ h. let x : e₁ ≡ q + 1 = cc in let z : n₁ ≡ y.cells = cc in rw (x, z) (goes c w f skipped 62 (sym byte ∙ i) (omega arith));
      more = λ e₁ n₁ h. let z : ◌≡◌ {A = ℕ} 0 1 = cc in absurd (omega arith);
      means = λ k h. with_object c w f (PlaceMeets s k at room C c (Ok (P.Last (q + 1) y.cells)) C₂) k h (λ x a u n p.
          last_place x (ap (λ (t : ℕ). Ok (P.Last (q + 1) t)) n) (places_last s at room k x y.next a (here skipped byte ∙ i) ∙ ap (λ (t : ℕ). got (x :: nil) (t + 1)) (sym skipped.is)) (place_put C c x 0 y.value u l p g));
    }

    pub place_bad : {n : Refusal} → (b ≡ 62 → ⊥) → (b ≡ 44 → ⊥) → n ≡ refusal (refusal_of (word_at s q)) → PlaceReading s at room C c (Err (record { refusal = n; place = q })) C₁
    place_bad {n} i o g = record {
      last = λ e₁ n₁ t. let z : ◌≡◌ {A = ℕ} 0 1 = cc in absurd (omega arith);
      more = λ e₁ n₁ t. let z : ◌≡◌ {A = ℕ} 0 1 = cc in absurd (omega arith);
      means = λ k h. with_object c w f (PlaceMeets s k at room C c (Err (record { refusal = n; place = q })) C₁) k h (λ x a u n₁ p.
          no_place (ap (λ (t : Refusal). Err (record { refusal = t; place = q })) g) (places_bad s at room k x y.next a (λ t. i (sym (here skipped byte) ∙ t)) (λ t. o (sym (here skipped byte) ∙ t)) ∙ rw (← skipped.is)));
    }

    pub place_more : {C₂ : List ℕ} → b ≡ 44 → length C₁ ≡ length C → C₂ ≡ cell_put C₁ c y.value (y.cells + 1) → PlaceReading s at room C c (Ok (P.More (q + 1) y.cells)) C₂
    place_more {C₂} i l g = record {
      last = λ e₁ n₁ h. let z : ◌≡◌ {A = ℕ} 0 1 = cc in absurd (omega arith);
      more = λ e₁ n₁ h. let x : e₁ ≡ q + 1 = cc in let z : n₁ ≡ y.cells = cc in rw (x, z) (goes c w f skipped 44 (sym byte ∙ i) (omega arith));
      means = λ k h. with_object c w f (PlaceMeets s k at room C c (Ok (P.More (q + 1) y.cells)) C₂) k h (λ x a u n p.
          more_places x (ap (λ (t : ℕ). Ok (P.More (q + 1) t)) n) (places_more s at room k x y.next a (here skipped byte ∙ i) ∙ ap (λ (t : ℕ). and_then (read_objs k s (t + 1) room) (λ xs e. got (x :: xs) e)) (sym skipped.is))
          (place_put C c x (c + 1 + cells_of x + 1) y.value u l p (g ∙ ap (λ (t : ℕ). cell_put C₁ c y.value (t + 1)) n)));
    }

-- ---- the places of a sequence: what is read from here on is read from the start on
pub record Going (s : List ℕ) (from room used : ℕ) (C₀ C : List ℕ) (at c n : ℕ) : Type 0 where
  pub low : from ≤ at
  pub high : at ≤ length s
  pub few : c + from ≤ used + at
  pub many : used + n ≤ c
  pub len : length C ≡ length C₀
  pub means : (r : Result ObjectRead RefusedText) (C' : List ℕ) → PlacesFrom s at room used n c C r C' → PlacesFrom s from room used 0 used C₀ r C'

pub going_start : {s : List ℕ} {from room used : ℕ} {C : List ℕ} → from ≤ length s → Going s from room used C C from used 0
going_start h = record { low = omega arith; high = h; few = omega arith; many = omega arith; len = refl; means = λ r C' w. w }

-- the first of the places that are left, and those behind it
module _ (first n c : ℕ) (x : Obj) (C C₂ : List ℕ) (r : Result ObjectRead RefusedText) (C' : List ℕ) where
  place_then : length C₂ ≡ length C → ((c + 1 + cells_of x) * 4 ≤ length C → C₂ ≡ put C (c * 4) (place_cells c x (c + 1 + cells_of x + 1))) → (g : Got Objs) → PlacesMeet first (n + 1) (c + 1 + cells_of x) C₂ r C' g → PlacesMeet first n c C r C' (and_then g (λ xs e. got (x :: xs) e))
  unfolding cells_from
  place_then l h _ (not_read e) = not_read e
  place_then l h _ (all_read {x = y} {xs = ys} {e = e} f p) =
      let d = c + 1 + cells_of x in
      let a = place_cells c x (d + 1) in
      let n₁ = length_cells x (c + 1) in
      let n₂ = length_places (y :: ys) d in
      let i : d * 4 ≡ c * 4 + length a = omega arith in
      let q₁ : n + 1 + suc (length_of ys) ≡ n + suc (suc (length_of ys)) = omega arith in
      let q₂ : d + cells_of_all (y :: ys) ≡ c + cells_of_all (x :: y :: ys) = omega arith in
      all_read {x = x} {xs = y :: ys} {e = e} (f ∙ ap (λ (t : ℕ). read_as (sequence_val (first + 1) t) e (d + cells_of_all (y :: ys))) q₁ ∙ ap (λ (t : ℕ). read_as (sequence_val (first + 1) (n + suc (suc (length_of ys)))) e t) q₂)
      (λ room. p (omega arith) ∙ ap (λ (t : List ℕ). put t (d * 4) (places_from d (y :: ys))) (h (omega arith)) ∙ ap (λ (t : ℕ). put (put C (c * 4) a) t (places_from d (y :: ys))) i
      ∙ put_after C (c * 4) a (places_from d (y :: ys)) (omega arith) ∙ rw (append_assoc (cell (val_of (c + 1) x) (d + 1))))

last_meets : (used n c : ℕ) (C C₂ : List ℕ) (v : Val) (e m : ℕ) (x : Obj) {e₁ : ℕ} → e ≡ e₁ → m ≡ c + 1 + cells_of x → v ≡ sequence_val (used + 1) (n + 1) → ((c + 1 + cells_of x) * 4 ≤ length C → C₂ ≡ put C (c * 4) (place_cells c x 0)) → PlacesMeet used n c C (read_as v e m) C₂ (got (x :: nil) e₁)
unfolding cells_from
last_meets used n c C C₂ v e m x {e₁} p q f h =
    let i : m ≡ c + cells_of_all (x :: nil) = omega arith in
    all_read {x = x} {xs = nil} {e = e₁} (rw (f, p, i)) (λ room. h (omega arith) ∙ rw append-nil)

module _ {s : List ℕ} {from room used : ℕ} {C₀ C : List ℕ} {at c n : ℕ} {r : Result PlaceRead RefusedText} {C₂ : List ℕ} (g : Going s from room used C₀ C at c n) (w : PlaceReading s at room C c r C₂) where
  pub going_no : {e : RefusedText} {q : Result ObjectRead RefusedText} → r ≡ Err e → q ≡ Err e → PlacesReading s from room C₀ used q C₂
  going_no {e} {q} e₁ e₂ = record { ahead = no_ahead e₂; all = g.means q C₂ (record { means = λ i h. by_calls (λ i. PlacesMeet used n c C q C₂ (read_objs i s at room)) (2 * (length s - at) + 1) i (omega arith) (λ j h₁. go j (w.means j h₁)) }) }
    where
      go : (j : ℕ) → PlaceMeets s j at room C c r C₂ → PlacesMeet used n c C q C₂ (read_objs (suc j) s at room)
      go j (no_place f h) = rw h (not_read (e₂ ∙ ap (λ (t : RefusedText). Err t) (error_of (sym e₁ ∙ f))))
      go j (last_place x f h i) = let z : ◌≡◌ {A = ℕ} 0 1 = cc in absurd (omega arith)
      go j (more_places x f h i) = let z : ◌≡◌ {A = ℕ} 0 1 = cc in absurd (omega arith)

  pub going_last : {w₀ : PlaceRead} {e m : ℕ} {v : Val} → r ≡ Ok w₀ → w₀ ≡ P.Last e m → v ≡ sequence_val (used + 1) (n + 1) → PlacesReading s from room C₀ used (read_as v e m) C₂
  going_last {w₀} {e} {m} {v} f₀ f₁ q =
      let b = w.last e m (f₀ ∙ ap (λ (t : PlaceRead). Ok t) f₁) in
      let x = b.0.behind in
      let y = b.0.more in
      let z = b.1 in
      let lo = g.low in
      let fe = g.few in
      let ma = g.many in
      record {
        ahead = ahead_of refl (record { behind = omega arith; inside = b.0.inside; more = omega arith; few = omega arith });
        all = g.means (read_as v e m) C₂ (record { means = λ i h. by_calls (λ i. PlacesMeet used n c C (read_as v e m) C₂ (read_objs i s at room)) (2 * (length s - at) + 1) i (omega arith) (λ j h₁. go j (w.means j h₁)) });
      }
    where
      go : (j : ℕ) → PlaceMeets s j at room C c r C₂ → PlacesMeet used n c C (read_as v e m) C₂ (read_objs (suc j) s at room)
      go j (no_place a h) = let z : ◌≡◌ {A = ℕ} 0 1 = cc in absurd (omega arith)
      go j (last_place x a h i) = rw h (last_meets used n c C C₂ v e m x (last_same (sym (f₀ ∙ ap (λ (t : PlaceRead). Ok t) f₁) ∙ a)).0 (last_same (sym (f₀ ∙ ap (λ (t : PlaceRead). Ok t) f₁) ∙ a)).1 q i)
        where
          last_same : {a b : ℕ} → ◌≡◌ {A = Result PlaceRead RefusedText} (Ok (P.Last e m)) (Ok (P.Last a b)) → (e ≡ a) × (m ≡ b)
          last_same t = (cc, cc)
      go j (more_places x a h i) = let z : ◌≡◌ {A = ℕ} 0 1 = cc in absurd (omega arith)

  pub going_on : {w₀ : PlaceRead} {e m : ℕ} → r ≡ Ok w₀ → w₀ ≡ P.More e m → length C₂ ≡ length C → Going s from room used C₀ C₂ e m (n + 1)
  going_on {w₀} {e} {m} f₀ f₁ l =
      let f = f₀ ∙ ap (λ (t : PlaceRead). Ok t) f₁ in
      let b = w.more e m f in
      let x = b.0.behind in
      let y = b.0.more in
      let z = b.1 in
      let lo = g.low in
      let fe = g.few in
      let ma = g.many in
      record {
        low = omega arith;
        high = b.0.inside;
        few = omega arith;
        many = omega arith;
        len = l ∙ g.len;
        means = λ r' C' v. g.means r' C' (record { means = λ i h. by_calls (λ i. PlacesMeet used n c C r' C' (read_objs i s at room)) (2 * (length s - at) + 1) i (omega arith) (λ j h₁. go r' C' j (w.means j h₁) (v.means j (omega arith))) });
      }
    where
      go : (r' : Result ObjectRead RefusedText) (C' : List ℕ) (j : ℕ) → PlaceMeets s j at room C c r C₂ → PlacesMeet used (n + 1) m C₂ r' C' (read_objs j s e room) → PlacesMeet used n c C r' C' (read_objs (suc j) s at room)
      go r' C' j (no_place a h) v = let z : ◌≡◌ {A = ℕ} 0 1 = cc in absurd (omega arith)
      go r' C' j (last_place x a h i) v = let z : ◌≡◌ {A = ℕ} 0 1 = cc in absurd (omega arith)
      go r' C' j (more_places x {e = e₁} a h i) v =
          let p : e ≡ e₁ = cc in
          let q : m ≡ c + 1 + cells_of x = cc in
          rw (h, ← p) (place_then used n c x C C₂ r' C' l i (read_objs j s e room) (rw q at v))

-- ---- a whole text
module _ {s : List ℕ} {C : List ℕ} {used : ℕ} {r : Result ObjectRead RefusedText} {C' : List ℕ} (w : ObjectReading s 0 32 C used r C') where
  enough : 2 * (length s - 0) + 1 ≤ calls s
  enough = omega arith

  whole_is : (r₂ : Result ObjectRead RefusedText) → ((g : Got Obj) → read_obj (calls s) s 0 mark_limit ≡ g → ReadMeets C used r C' g → ReadMeets C used r₂ C' (and_then g (λ x e. at_end s x e))) → ReadMeets C used r₂ C' (read_object s)
  unfolding read_object
  whole_is r₂ f = f (read_obj (calls s) s 0 mark_limit) refl (w.means (calls s) enough)

  pub whole_no : {e : RefusedText} {q : Result ObjectRead RefusedText} → r ≡ Err e → q ≡ Err e → WholeReading s C used q C'
  whole_no {e} {q} e₁ e₂ = record { ends = λ x t. let z : ◌≡◌ {A = ℕ} 0 1 = cc in absurd (omega arith); means = whole_is q (λ g i h. go g h) }
    where
      go : (g : Got Obj) → ReadMeets C used r C' g → ReadMeets C used q C' (and_then g (λ x e. at_end s x e))
      go _ (reads f m) = let z : ◌≡◌ {A = ℕ} 0 1 = cc in absurd (omega arith)
      go _ (refuses f) = refuses (e₂ ∙ ap (λ (t : RefusedText). Err t) (error_of (sym e₁ ∙ f)))

  module _ {y : ObjectRead} {q : ℕ} (f : r ≡ Ok y) (skipped : L.Skipped s y.next q) where
    pub whole_end : q ≡ length s → WholeReading s C used (read_as y.value q y.cells) C'
    unfolding at_end
    whole_end h =
        let g = w.ahead.ends y f in
        let x = g.more in
        let y₁ = g.few in
        let z = g.inside in
        record {
          ends = λ x₁ t. let u : y.cells ≡ x₁.cells = ap (λ (i : ObjectRead). i.cells) (same_read t) in (omega arith, omega arith);
          means = whole_is (read_as y.value q y.cells) (λ g i t. go g t);
        }
      where
        go : (g : Got Obj) → ReadMeets C used r C' g → ReadMeets C used (read_as y.value q y.cells) C' (and_then g (λ x e. at_end s x e))
        go _ (refuses a) = let z : ◌≡◌ {A = ℕ} 0 1 = cc in absurd (omega arith)
        go _ (reads {x = x} {e = e₁} a p) =
            let i = same_read (sym f ∙ a) in
            let u : y.next ≡ e₁ = ap (λ (t : ObjectRead). t.next) i in
            let v : y.value ≡ val_of used x = ap (λ (t : ObjectRead). t.value) i in
            let n : y.cells ≡ used + cells_of x = ap (λ (t : ObjectRead). t.cells) i in
            let k : place_from s e₁ ≡ length s = ap (λ (t : ℕ). place_from s t) (sym u) ∙ sym skipped.is ∙ h in
            rw (eq-eqb (place_from s e₁) (length s) k) (reads {x = x} {e = place_from s e₁} (rw (v, n, ← u, ← skipped.is)) p)

    pub whole_more : {n : Refusal} → (q ≡ length s → ⊥) → n ≡ refusal (refusal_of (word_at s q)) → WholeReading s C used (Err (record { refusal = n; place = q })) C'
    unfolding at_end refused
    whole_more {n} h b = record { ends = λ x₁ t. let z : ◌≡◌ {A = ℕ} 0 1 = cc in absurd (omega arith); means = whole_is (Err (record { refusal = n; place = q })) (λ g i t. go g t) }
      where
        go : (g : Got Obj) → ReadMeets C used r C' g → ReadMeets C used (Err (record { refusal = n; place = q })) C' (and_then g (λ x e. at_end s x e))
        go _ (refuses a) = let z : ◌≡◌ {A = ℕ} 0 1 = cc in absurd (omega arith)
        go _ (reads {x = x} {e = e₁} a p) =
            let u : y.next ≡ e₁ = ap (λ (t : ObjectRead). t.next) (same_read (sym f ∙ a)) in
            let k : place_from s e₁ ≡ q = ap (λ (t : ℕ). place_from s t) (sym u) ∙ sym skipped.is in
            rw (ne_eqb (place_from s e₁) (length s) (λ t. h (sym k ∙ t)), k) (refuses (ap (λ (t : Refusal). Err (record { refusal = t; place = q })) b))
