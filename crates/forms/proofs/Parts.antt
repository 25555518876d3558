-- Parts: a law for each way out of read_part, read_prefix, read_bu and of the readers of parts without forms, and for each call that they make.
use Prim.Native.Nat.{ℕ, zero, suc, ◌+◌, ◌-◌, ◌*◌, ◌≤◌, ◌<◌}
use mathlib.Core.Path.{◌≡◌, refl, ap, sym, ◌∙◌}
use mathlib.Core.Bool.{Bool, true, false, not, cond}
use mathlib.Core.List.{List}
use native.Mathlib.Omega.{arith}
use lib.Dec.{eqb}
use lib.ListN.{length}
use borrow.Author.Tests.{eq-eqb, ne_eqb, eqb-true, eqb-false}
use Rattle.language.specs.declared.Val.{Val}
use Rattle.language.specs.Objects.{Obj}
use Rattle.language.specs.Forms.{Form, insert, apply_all, bu, constant_cells}
use Rattle.language.specs.Tokens.{byte_at}
use Rattle.theorems.proofs.Refusals.{mark_within}
use Rattle.tables.specs.Tables.{record_put}
use Rattle.lexer.specs.Readings.{Skipped}
use Rattle.cells.specs.Encoding.{val_of, cells_from}
use Rattle.formtable.specs.Encoding.{low_of, high_of, encode_form, constants_from}
use Rattle.objects.specs.declared.ObjectRead.{ObjectRead}
use Rattle.std.specs.Prelude.{Result, Ok, Err}
use Rattle.language.specs.declared.refusals.RefusedText.{RefusedText}
use Rattle.language.specs.Refusals.{refused_at}
use Rattle.objects.proofs.Refused.{refuses_as}
use Rattle.forms.specs.declared.Upto.{Upto}
use Rattle.forms.specs.Readers.{part_at, constant_read, prefix_form, prefix_at, construct_at, bound_at, bu_at, round_at, is_opening}
use Rattle.forms.specs.Readings.{Ready, Run, Laid, ObjectMet, FormMet, form_read, form_refused, WordPut, PlainMet}
use Rattle.forms.proofs.Laying.{run_then, run_under, run_as}
use Rattle.forms.proofs.Equations.{part_plain_is, part_deep_is, part_construct_is, part_constant_is, part_insert_is, part_apply_is, part_bu_is, part_round_is}
use Rattle.forms.proofs.Answers.{form_got, form_no, object_got, object_no, part_after}
use Rattle.forms.proofs.Chains.{cells_at}

-- ---- read_part
not-true : (o : Bool) → not o ≡ true → o ≡ false
not-true true h = absurd (let z : ◌≡◌ {A = ℕ} 0 1 = cc in omega arith)
not-true false h = refl

not-false : (o : Bool) → not o ≡ false → o ≡ true
not-false true h = refl
not-false false h = absurd (let z : ◌≡◌ {A = ℕ} 0 1 = cc in omega arith)

opening_some : (b : ℕ) → is_opening b ≡ true → 1 ≤ b
opening_some zero h = absurd (let z : ◌≡◌ {A = ℕ} 0 1 = cc in omega arith)
opening_some (suc b) h = omega arith

-- of the marks that open only the `(` is left
round_byte : (b : ℕ) → is_opening b ≡ true → (b ≡ 91 → ⊥) → (b ≡ 37 → ⊥) → (b ≡ 47 → ⊥) → (b ≡ 64 → ⊥) → (b ≡ 123 → ⊥) → b ≡ 40
round_byte b h o₁ o₂ o₃ o₄ o₅ = eqb-true b 40 (rw (ne_eqb b 91 o₁, ne_eqb b 37 o₂, ne_eqb b 47 o₃, ne_eqb b 64 o₄, ne_eqb b 123 o₅) at h)

module _ (s : List ℕ) (at room : ℕ) {n c p b : ℕ} (a : Ready s at n c) (i : Skipped s at p) (h : b ≡ byte_at s p) where
  module _ {o : Bool} (g : o ≡ is_opening b) where
    pub part_plain_out : {t t' u : List ℕ} {r : Result Upto RefusedText} → not o ≡ true → PlainMet s p n c t r t' → FormMet n c t u r t' u (part_at s at room)
    part_plain_out {u = u} k m = rw (part_plain_is s at room p b a.inside i.is h (sym g ∙ not-true o k)) (m.means u)

    module _ (k : not o ≡ false) where
      opens : is_opening b ≡ true
      opens = sym g ∙ not-false o k

      pub part_deep : {t u t' u' : List ℕ} → room ≡ 0 → FormMet n c t u (Err (refused_at 7 p)) t' u' (part_at s at room)
      part_deep z = rw (part_deep_is s at room p b a.inside i.is h opens z) (form_refused {k = 7} {p = p} refl)

      -- behind the mark
      pub part_ready : Ready s (p + 1) (n + 1) c
      part_ready =
          let w = mark_within s p b (opening_some b opens) (eq-eqb (byte_at s p) b (sym h)) in
          record { short = a.short; inside = w; forms = omega (arith, a.forms, i.low); cells = omega (arith, a.cells, i.low) }

      below : (q j : ℕ) → q ≤ 4 → 5 * (length s - at) ≡ j → 5 * (length s - (p + 1)) + q < j
      below q j l z = omega (arith, part_ready.inside, i.low)

      pub construct_below : {j : ℕ} → 5 * (length s - at) ≡ j → 5 * (length s - (p + 1)) + 3 < j
      construct_below {j} z = below 3 j (omega arith) z

      pub round_below : {j : ℕ} → 5 * (length s - at) ≡ j → 5 * (length s - (p + 1)) + 2 < j
      round_below {j} z = below 2 j (omega arith) z

      pub prefix_below : {j : ℕ} → 5 * (length s - at) ≡ j → 5 * (length s - (p + 1)) + 1 < j
      prefix_below {j} z = below 1 j (omega arith) z

      pub part_round : {t u t' u' : List ℕ} {r : Result Upto RefusedText} → (room ≡ 0 → ⊥) → (b ≡ 91 → ⊥) → (b ≡ 37 → ⊥) → (b ≡ 47 → ⊥) → (b ≡ 64 → ⊥) → (b ≡ 123 → ⊥) → FormMet n c t u r t' u' (round_at s (p + 1) (room - 1)) → FormMet n c t u r t' u' (part_at s at room)
      part_round z o₁ o₂ o₃ o₄ o₅ m = rw (part_round_is s at room p b a.inside i.is h (omega arith) (round_byte b opens o₁ o₂ o₃ o₄ o₅)) m

  module _ {t u t' u' : List ℕ} {r : Result Upto RefusedText} (z : room ≡ 0 → ⊥) where
    pub part_construct : b ≡ 91 → FormMet n c t u r t' u' (construct_at s (p + 1) (room - 1)) → FormMet n c t u r t' u' (part_at s at room)
    part_construct e m = rw (part_construct_is s at room p b a.inside i.is h (omega arith) e) m

    pub part_constant : b ≡ 37 → FormMet n c t u r t' u' (constant_read s (p + 1) (room - 1)) → FormMet n c t u r t' u' (part_at s at room)
    part_constant e m = rw (part_constant_is s at room p b a.inside i.is h (omega arith) e) m

    pub part_insert : b ≡ 47 → FormMet n c t u r t' u' (prefix_at 7 s (p + 1) (room - 1)) → FormMet n c t u r t' u' (part_at s at room)
    part_insert e m = rw (part_insert_is s at room p b a.inside i.is h (omega arith) e) m

    pub part_apply : b ≡ 64 → FormMet n c t u r t' u' (prefix_at 8 s (p + 1) (room - 1)) → FormMet n c t u r t' u' (part_at s at room)
    part_apply e m = rw (part_apply_is s at room p b a.inside i.is h (omega arith) e) m

    pub part_bu : b ≡ 123 → FormMet n c t u r t' u' (bu_at s (p + 1) (room - 1)) → FormMet n c t u r t' u' (part_at s at room)
    part_bu e m = rw (part_bu_is s at room p b a.inside i.is h (omega arith) e) m

-- ---- read_prefix
prefix_laid : (kind : ℕ) (f : Form) {n c m d : ℕ} {t u t₁ u₁ t₂ : List ℕ} → 7 ≤ kind → kind ≤ 8 → Laid (encode_form c f) (constants_from c f) (n + 1) c t u m d t₁ u₁ → t₂ ≡ record_put t₁ n kind 1 0 0 → Laid (encode_form c (prefix_form kind f)) (constants_from c (prefix_form kind f)) n c t u m d t₂ u₁
unfolding prefix_form encode_form constants_from
prefix_laid kind f {n} {c} {m} {d} {t} {u} {t₁} {u₁} {t₂} a b l e = go (eqb kind 7) refl
  where
    go : (q : Bool) → eqb kind 7 ≡ q → Laid (encode_form c (cond q (insert f) (apply_all f))) (constants_from c (cond q (insert f) (apply_all f))) n c t u m d t₂ u₁
    go true h = record { records = run_under l.records (rw (eqb-true kind 7 h) at e); cells = l.cells }
    go false h =
        let i = eqb-false kind 7 h in
        let z : kind ≡ 8 = omega arith in
        record { records = run_under l.records (rw z at e); cells = l.cells }

module _ (kind : ℕ) (s : List ℕ) (at room : ℕ) {n c : ℕ} {t u t₁ u₁ : List ℕ} {r : Result Upto RefusedText} where
  pub prefix_stops : {e : RefusedText} {q : Result Upto RefusedText} {t' u' : List ℕ} → FormMet (n + 1) c t u r t₁ u₁ (part_at s at room) → r ≡ Err e → q ≡ Err e → FormMet n c t u q t' u' (prefix_at kind s at room)
  unfolding prefix_at
  prefix_stops m e o = let y = form_no m e in rw y.is (form_refused (refuses_as y o))

  pub prefix_is : {number : ℕ} {x : Upto} {t₂ : List ℕ} → 7 ≤ kind → kind ≤ 8 → FormMet (n + 1) c t u r t₁ u₁ (part_at s at room) → r ≡ Ok x → number ≡ kind → t₂ ≡ record_put t₁ n number 1 0 0 → FormMet n c t u (Ok x) t₂ u₁ (prefix_at kind s at room)
  unfolding prefix_at
  prefix_is a b m e z w = let y = form_got m e in rw y.is (form_read refl refl (prefix_laid kind y.form a b y.laid (rw z at w)))

-- ---- read_bu
bu_laid : (f : Form) (x : Obj) {n c m d e : ℕ} {v : Val} {t u t₁ u₁ t₂ u₂ : List ℕ} → Laid (encode_form c f) (constants_from c f) (n + 1) c t u m d t₁ u₁ → Run (cells_from d x) d u₁ e u₂ → v ≡ val_of d x → t₂ ≡ record_put t₁ n (16 + v.tag) 1 (low_of v.word) (high_of v.word) → Laid (encode_form c (bu f x)) (constants_from c (bu f x)) n c t u m e t₂ u₂
unfolding encode_form constants_from
bu_laid f x {c = c} {d = d} {v = v} l r h e =
    let z = cells_at f l in
    let w : v ≡ val_of (c + constant_cells f) x = h ∙ ap (λ (q : ℕ). val_of q x) z in
    record { records = run_under l.records (rw w at e); cells = run_then l.cells (run_as (ap (λ (q : ℕ). cells_from q x) z) r) }

module _ (s : List ℕ) (at room n : ℕ) {c : ℕ} {t u t₁ u₁ : List ℕ} {r : Result Upto RefusedText} (m : FormMet (n + 1) c t u r t₁ u₁ (part_at s at room)) where
  pub bu_stops : {e : RefusedText} {q : Result Upto RefusedText} {t' u' : List ℕ} → r ≡ Err e → q ≡ Err e → FormMet n c t u q t' u' (bu_at s at room)
  unfolding bu_at
  bu_stops e o = let y = form_no m e in rw y.is (form_refused (refuses_as y o))

  module _ {x : Upto} (e : r ≡ Ok x) where
    pub bu_bound_requires : Ready s at (n + 1) c → Ready s x.next 0 x.cells
    bu_bound_requires a = let w = part_after room a m e in let y = w.ready in record { short = y.short; inside = y.inside; forms = omega arith; cells = y.cells }

    module _ {q : Result ObjectRead RefusedText} {u₂ : List ℕ} (k : ObjectMet x.cells u₁ q u₂ (bound_at s x.next room)) where
      pub bu_unbound : {o : RefusedText} {q₂ : Result Upto RefusedText} {t' u' : List ℕ} → q ≡ Err o → q₂ ≡ Err o → FormMet n c t u q₂ t' u' (bu_at s at room)
      unfolding bu_at
      bu_unbound g o = let y = form_got m e in let z = object_no k g in rw (y.is, z.is) (form_refused (refuses_as z o))

      module _ {y : ObjectRead} (g : q ≡ Ok y) where
        pub bu_is : {t₂ : List ℕ} → WordPut n (16 + y.value.tag) 1 y.value.word t₁ t₂ → FormMet n c t u (Ok (record { next = y.next; forms = x.forms; cells = y.cells })) t₂ u₂ (bu_at s at room)
        unfolding bu_at
        bu_is w =
            let i = form_got m e in
            let o = object_got k g in
            rw (i.is, o.is) (form_read refl refl (bu_laid i.form o.object i.laid o.laid o.value w.is))
