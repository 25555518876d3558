-- Places copied from the first to the last: those before place q are there, and the rest is ahead.
use Prim.Native.Nat.{ℕ, zero, suc, ◌+◌, ◌*◌, ◌%◌, ◌≤◌, ◌<◌}
use mathlib.Core.Path.{◌≡◌, refl, ◌∙◌}
use mathlib.Core.Bool.{Bool, true, false}
use mathlib.Core.List.{List}
use native.Mathlib.Omega.{arith}
use native.Mathlib.Numerals.{add-one}
use lib.Dec.{ltb}
use borrow.Author.Tests.{ltb-true, ltb-false}
use lib.ListN.{length}
use Rattle.language.specs.Objects.{seq, Objs, length_of, nth_obj}
use Rattle.language.specs.declared.Val.{Val}
use Rattle.cells.specs.Cells.{Rep, cell_put}
use Rattle.cells.specs.Parts.{drop_objs, Headed, Tailed}
use Rattle.cells.proofs.Reps.{same_refl, same_fewer, same_trans, rep_ext, cell_same, length_cell}
use Rattle.sequences.specs.Making.{Space}
use Rattle.sequences.specs.Lines.{link_over, Place, Line, Copies}
use Rattle.cells.proofs.Places.{drop_first}
use Rattle.sequences.proofs.Segments.{place_ext, place_new}

pub link_is : (p d : ℕ) → (d ≡ 0 → ⊥) → ((p + d) % 4294967296 + 1) % 4294967296 ≡ link_over p d
unfolding link_over
link_is p zero h = absurd (h refl)
link_is p (suc d) h = omega arith

pub link_none : (p d : ℕ) → d ≡ 0 → 0 ≡ link_over p d
unfolding link_over
link_none p d z = rw z

-- a new cell at the end of a line
line_next : {C : List ℕ} {p d q : ℕ} {xs : Objs} {x : Val} → (p + q) * 4 + 4 ≤ length C → Rep C p x (nth_obj xs q) → Line C p d xs q → Line (cell_put C (p + q) x (link_over (p + q) d)) p d xs (q + 1)
line_next {C} {p} {d} {q} {xs} {x} h r g = record { place = λ j l. go j l (ltb j q) refl }
  where
    go : (j : ℕ) → j < q + 1 → (b : Bool) → ltb j q ≡ b → Place (cell_put C (p + q) x (link_over (p + q) d)) p (p + j) (nth_obj xs j) (link_over (p + j) d)
    go j l true e =
        let i = ltb-true j q e in
        place_ext (cell_same C (p + q) x (link_over (p + q) d)) (omega arith) (omega arith) (omega arith) (g.place j i)
    go j l false e =
        let i : j ≡ q = omega (arith, ltb-false j q e) in
        rw i (place_new (link_over (p + q) d) (omega arith) h r)

pub record Copying (C₀ : List ℕ) (v : Val) (n p d : ℕ) (C : List ℕ) (ahead : Val) (q : ℕ) : Type 0 where
  pub most : q ≤ n
  pub fits : p + n < 4294967296
  pub len : length C ≡ length C₀
  pub means : (xs : Objs) → n ≤ length_of xs → Space C₀ p (n + d) → Rep C₀ p v (seq xs) → Copies C₀ p d xs q ahead C

pub copy_start : {C : List ℕ} {v : Val} {n p d : ℕ} → p + n < 4294967296 → Copying C v n p d C v 0
unfolding drop_objs
copy_start {C} {p = p} h = record { most = omega arith; fits = h; len = refl; means = λ xs l s rv. record { line = record { place = λ j z. absurd (omega arith) }; rest = rv; same = same_refl C p } }

copy_step : {C₀ C : List ℕ} {v ahead x rest : Val} {n p d q : ℕ} → q < n → Copying C₀ v n p d C ahead q → Headed C ahead x → Tailed C ahead rest → Copying C₀ v n p d (cell_put C (p + q) x (link_over (p + q) d)) rest (q + 1)
copy_step {C₀} {C} {v} {ahead} {x} {rest} {n} {p} {d} {q} h g hd tl = record { most = omega arith; fits = g.fits; len = length_cell C (p + q) x (link_over (p + q) d) ∙ g.len; means = go }
  where
    go : (xs : Objs) → n ≤ length_of xs → Space C₀ p (n + d) → Rep C₀ p v (seq xs) → Copies C₀ p d xs (q + 1) rest (cell_put C (p + q) x (link_over (p + q) d))
    go xs l sp rv =
        let m = g.means xs l sp rv in
        let u : p < 4294967296 = omega (arith, g.fits) in
        let s = same_fewer {n = p} (omega arith) (cell_same C (p + q) x (link_over (p + q) d)) in
        let r = rw (drop_first xs q (omega arith)) at m.rest in
        let t = tl.means p (nth_obj xs q) (drop_objs xs (suc q)) u r in
        record {
          line = line_next (omega (arith, sp.long, g.len)) (hd.means p (nth_obj xs q) (drop_objs xs (suc q)) u r) m.line;
          rest = rw add-one (rep_ext s (omega arith) t);
          same = same_trans (omega arith) m.same s;
        }

pub copy_next : {C₀ C C' : List ℕ} {v ahead x rest : Val} {n p d q : ℕ} → q < n → Copying C₀ v n p d C ahead q → Headed C ahead x → Tailed C ahead rest → C' ≡ cell_put C (p + q) x (link_over (p + q) d) → Copying C₀ v n p d C' rest (q + 1)
copy_next h g hd tl e = rw e (copy_step h g hd tl)
