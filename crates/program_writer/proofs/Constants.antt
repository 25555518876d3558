-- An object that opens at most 32 marks: the scan of its text ends only where there is no room, so its walk is one of a text.
use Prim.Native.Nat.{ℕ, suc, ◌+◌, ◌-◌, ◌≤◌, ◌<◌}
use Prim.Native.Char.{code}
use mathlib.Core.Path.{◌≡◌, refl, ap, sym, ◌∙◌}
use mathlib.Core.Bool.{Bool, true, false, cond, ◌&&◌, and-eq-true_iff}
use mathlib.Core.List.{List, [], ◌∷◌, ◌++◌, append_assoc, append-nil}
use native.Mathlib.Omega.{arith}
use borrow.Author.Tests.{ne_eqb, lt-leb, eqb-true}
use lib.Dec.{leb, eqb}
use lib.IntN.{ℤ, pos, negsuc}
use lib.ListN.{length}
use Rattle.language.specs.Objects.{Obj, int, symbol, seq, Objs, nil, ◌::◌}
use Rattle.language.specs.Tokens.{is_digit}
use Rattle.language.specs.Judging.{all, is_symbol_byte}
use Rattle.language.specs.Accepted.{IsObj, AreObjs}
use Rattle.language.specs.Writing.{decimal, write_integer, write_obj, write_objs, write_more_objs, marks_of_obj, marks_of_objs, short, deep, scan, open_behind}
use Rattle.language.specs.declared.Val.{Val}
use Rattle.theorems.proofs.Texts.{all_weaken}
use Rattle.theorems.proofs.Decimals.{decimal_digits}
use Rattle.cells.specs.Cells.{Rep}
use Rattle.packing.proofs.Packed.{symbol_bytes}
use Rattle.cells.proofs.Inversions.{rep_object}
use Rattle.objects.specs.Writings.{Written, WalkedText, fits, too_long, too_deep, is_flat, ObjectWalked}
use Rattle.objects.proofs.Walks.{flat_of}
use Rattle.objects.proofs.Symbols.{symbol_flat}
use Rattle.objects.proofs.Writes.{digit_flat}
use Rattle.objects.specs.declared.NotWritten.{NotWritten}
use Rattle.std.specs.Prelude.{Ok, Err}
use Rattle.std.specs.Result.{result_unwrap_or}
use Rattle.program_writer.specs.Walks.{Wrote, ConstantWalked}

-- ---- a scan that finds no room has a text longer than the room
scan_long : (s : List ℕ) (d r : ℕ) → scan s d r ≡ short → r < length s
unfolding scan
scan_long [] d r e = let z : ◌≡◌ {A = ℕ} 0 1 = cc in absurd (omega arith)
scan_long (b ∷ s) d r e = go (eqb b (code "<") && leb 32 d) (eqb r 0) (λ q. scan_long s (open_behind b d) (r - 1) q) refl e
  where
    go : (t u : Bool) → (scan s (open_behind b d) (r - 1) ≡ short → r - 1 < length s) → eqb r 0 ≡ u → cond t deep (cond u short (scan s (open_behind b d) (r - 1))) ≡ short → r < length (b ∷ s)
    go true u f q h = let z : ◌≡◌ {A = ℕ} 0 1 = cc in absurd (omega arith)
    go false true f q h = let z = eqb-true r 0 q in omega arith
    go false false f q h = let z = f h in omega arith

-- ---- a scan that finds a mark too many finds it in what follows
record Later (s : List ℕ) (d : ℕ) : Type 0 where
  room : ℕ
  is : scan s d room ≡ deep

-- a byte that opens nothing
next_later : (b : ℕ) (s : List ℕ) (d r : ℕ) → (b ≡ 60 → ⊥) → scan (b ∷ s) d r ≡ deep → Later s (open_behind b d)
unfolding scan
next_later b s d r h e = go (eqb r 0) (sym (ap (λ (t : Bool). cond (t && leb 32 d) deep (cond (eqb r 0) short (scan s (open_behind b d) (r - 1)))) (ne_eqb b 60 h)) ∙ e)
  where
    go : (u : Bool) → cond u short (scan s (open_behind b d) (r - 1)) ≡ deep → Later s (open_behind b d)
    go true q = let z : ◌≡◌ {A = ℕ} 0 1 = cc in absurd (omega arith)
    go false q = record { room = r - 1; is = q }

-- a mark that may open
open_later : (s : List ℕ) (d r : ℕ) → d < 32 → scan (60 ∷ s) d r ≡ deep → Later s (d + 1)
unfolding scan
open_later s d r h e = go (eqb r 0) (rw (lt-leb 32 d h) at e)
  where
    go : (u : Bool) → cond u short (scan s (d + 1) (r - 1)) ≡ deep → Later s (d + 1)
    go true q = let z : ◌≡◌ {A = ℕ} 0 1 = cc in absurd (omega arith)
    go false q = record { room = r - 1; is = q }

-- bytes that open and close nothing
flat_next : (b : ℕ) (s : List ℕ) (d r : ℕ) → (b ≡ 60 → ⊥) → (b ≡ 62 → ⊥) → scan (b ∷ s) d r ≡ deep → Later s d
flat_next b s d r h g e = rw (ne_eqb b 60 h, ne_eqb b 62 g) at (next_later b s d r h e)

flat_later : (w s : List ℕ) (d r : ℕ) → all is_flat w ≡ true → scan (w ++ s) d r ≡ deep → Later s d
flat_later [] s d r f e = record { room = r; is = e }
flat_later (b ∷ w) s d r f e =
    let x = (and-eq-true_iff (is_flat b) (all is_flat w)).0 f in
    let y = flat_of b x.0 in
    let z = flat_next b (w ++ s) d r y.0 y.1 e in
    flat_later w s d z.room x.1 z.is

decimal_flat : (n : ℕ) → all is_flat (decimal n) ≡ true
decimal_flat n = all_weaken is_digit is_flat digit_flat (decimal n) (decimal_digits n)

integer_later : (z : ℤ) (s : List ℕ) (d r : ℕ) → scan (write_integer z ++ s) d r ≡ deep → Later s d
unfolding write_integer
integer_later (pos n) s d r e = flat_later (decimal n) s d r (decimal_flat n) e
integer_later (negsuc n) s d r e =
    let z = flat_next 45 (decimal (suc n) ++ s) d r (λ q. absurd (omega arith)) (λ q. absurd (omega arith)) e in
    flat_later (decimal (suc n)) s d z.room (decimal_flat (suc n)) z.is

close_later : (s : List ℕ) (d r : ℕ) → scan (62 ∷ s) (d + 1) r ≡ deep → Later s d
close_later s d r e = let z : d + 1 - 1 ≡ d = omega arith in rw z at (next_later 62 s (d + 1) r (λ q. absurd (omega arith)) e)

mutual
  unfolding write_obj write_objs write_more_objs

  obj_later : (x : Obj) (s : List ℕ) (d r : ℕ) → IsObj x → d + marks_of_obj x ≤ 32 → scan (write_obj x ++ s) d r ≡ deep → Later s d
  obj_later (int z) s d r i h e = integer_later z s d r e
  obj_later (symbol w) s d r i h e = flat_later w s d r (all_weaken is_symbol_byte is_flat symbol_flat w (symbol_bytes w i)) e
  obj_later (seq xs) s d r i h e =
      let z = open_later (write_objs xs ++ s) d r (omega arith) e in
      objs_later xs s d z.room i (omega arith) z.is

  objs_later : (xs : Objs) (s : List ℕ) (d r : ℕ) → AreObjs xs → d + 1 + marks_of_objs xs ≤ 32 → scan (write_objs xs ++ s) (d + 1) r ≡ deep → Later s d
  objs_later nil s d r i h e = close_later s d r e
  objs_later (x :: xs) s d r i h e =
      let z = obj_later x (write_more_objs xs ++ s) (d + 1) r i.0 (omega arith) (ap (λ (l : List ℕ). scan l (d + 1) r) (sym (append_assoc (write_obj x) (write_more_objs xs) s)) ∙ e) in
      more_later xs s d z.room i.1 (omega arith) z.is

  more_later : (xs : Objs) (s : List ℕ) (d r : ℕ) → AreObjs xs → d + 1 + marks_of_objs xs ≤ 32 → scan (write_more_objs xs ++ s) (d + 1) r ≡ deep → Later s d
  more_later nil s d r i h e = close_later s d r e
  more_later (x :: xs) s d r i h e =
      let y = flat_next 44 ((write_obj x ++ write_more_objs xs) ++ s) (d + 1) r (λ q. absurd (omega arith)) (λ q. absurd (omega arith)) e in
      let z = obj_later x (write_more_objs xs ++ s) (d + 1) y.room i.0 (omega arith) (ap (λ (l : List ℕ). scan l (d + 1) y.room) (sym (append_assoc (write_obj x) (write_more_objs xs) s)) ∙ y.is) in
      more_later xs s d z.room i.1 (omega arith) z.is

-- so it is never too deep
never_deep : (x : Obj) (r : ℕ) → IsObj x → marks_of_obj x ≤ 32 → scan (write_obj x) 0 r ≡ deep → ⊥
unfolding scan
never_deep x r i h e =
    let z = obj_later x [] 0 r i (omega arith) (ap (λ (l : List ℕ). scan l 0 r) (append-nil (write_obj x)) ∙ e) in
    let q = z.is in
    let y : ◌≡◌ {A = ℕ} 0 1 = cc in
    omega arith

-- ---- the walk
module _ {C : List ℕ} {v : Val} {at : ℕ} {out : List ℕ} where
  module _ {r : Written} {out' : List ℕ} (low : at ≤ 16384) (w : ObjectWalked C v at 16384 0 r out out') where
    constant_done : {e : ℕ} → r ≡ Ok e → ConstantWalked C v at e out out'
    constant_done {e} q = record { means = λ n x c m rep. go x (w.means n x c rep) }
      where
        go : (x : Obj) → WalkedText (write_obj x) 0 0 at 16384 r out out' → Wrote (write_obj x) at e out out'
        go x (fits f l s p) = let z : e ≡ at + length (write_obj x) = cc in record { place = omega arith; stands = λ a b. p b }
        go x (too_long f s) = let z : ◌≡◌ {A = ℕ} 0 1 = cc in absurd (omega arith)
        go x (too_deep f s) = let z : ◌≡◌ {A = ℕ} 0 1 = cc in absurd (omega arith)

    -- no room, or a mark too many, which these objects don't have
    long : {k : ℕ} (n : ℕ) (x : Obj) → n < 4294967296 → marks_of_obj x ≤ 32 → Rep C n v x → ((e : ℕ) → r ≡ Ok e → ⊥) → k ≡ 16385 → Wrote (write_obj x) at k out out'
    long {k} n x c m rep not_done e = go (w.means n x c rep)
      where
        go : WalkedText (write_obj x) 0 0 at 16384 r out out' → Wrote (write_obj x) at k out out'
        go (fits f l s p) = absurd (not_done (at + length (write_obj x)) f)
        go (too_long f s) = let z = scan_long (write_obj x) 0 (16384 - at) s in record { place = omega arith; stands = λ a b. absurd (omega arith) }
        go (too_deep f s) = absurd (never_deep x (16384 - at) (rep_object rep) m s)

    constant_err : {why : NotWritten} → r ≡ Err why → ConstantWalked C v at 16385 out out'
    constant_err q = record { means = λ n x c m rep. long n x c m rep (λ e f. let z : ◌≡◌ {A = ℕ} 0 1 = cc in omega arith) refl }

  pub constant_or : {r : Written} {out' : List ℕ} → at ≤ 16384 → ObjectWalked C v at 16384 0 r out out' → ConstantWalked C v at (result_unwrap_or r 16385) out out'
  constant_or {r = Ok e} low w = constant_done low w refl
  constant_or {r = Err why} low w = constant_err low w refl
