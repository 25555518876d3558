-- The ways out of the writer's functions, from what the functions that they call promise.
use Rattle.std.proofs.Common.{◌≡◌, ℕ, negsuc, Result, Ok, Err, subst, suc, ◌+◌, ◌-◌, ◌%◌, ◌^◌, ◌<◌, ◌≤◌, true, List, [], ◌∷◌, ◌++◌, length, take, drop, sym, refl, ap, ◌∙◌, append_assoc, zero-add, arith, length-drop, take_all}
use native.Mathlib.Nat.{sub-zero}
use Rattle.language.specs.Objects.{Obj, seq, Objs, nil, ◌::◌, length_of}
use Rattle.language.specs.Tokens.{is_digit}
use Rattle.language.specs.Writing.{decimal, write_integer, write_obj, write_objs, Scan, on, short, deep, scan, open_behind}
use Rattle.language.specs.declared.Val.{Val}
use Rattle.theorems.proofs.Texts.{all_weaken, digit_range}
use Rattle.theorems.proofs.Decimals.{decimal_digits}
use Rattle.tables.specs.Tables.{put}
use Rattle.cells.specs.Cells.{Rep, rep_pos, rep_neg, rep_symbol, rep_nil, rep_more}
use Rattle.cells.specs.Parts.{Sized, Headed, Tailed}
use Rattle.objects.specs.Writings.{Written, DigitsAt, PutText, placed, WalkedText, fits, too_long, too_deep, is_flat, TextWalked, MarkWalked, DecimalWalked, SymbolWalked, AtomWalked, ObjectWalked, PlaceWalked, PlacesWalked, output_room, ObjectEnd, object_written, no_room, no_mark, ObjectWritten}
use Rattle.objects.specs.declared.NotWritten.{NotWritten}
use Rattle.objects.specs.declared.NotWritten.TheVariants.{NoRoom, TooDeep}
use Rattle.objects.proofs.Walks.{flat_is, walk_err, walk_then, flat_long, flat_walk, mark_long, mark_walk, open_deep, open_long, open_walk, within_err, within_done, within_later, placed_ok, placed_err}

-- ---- texts without marks
module _ {text : List ℕ} {at cap : ℕ} {out out' : List ℕ} where
  pub text_short : at ≤ cap → cap - at < length text → TextWalked text at cap (Err NoRoom) out out'
  text_short k h = record { within = within_err refl; means = λ d f. flat_long k h refl d f }

  pub text_done : at ≤ cap → length text ≤ cap - at → PutText out at text out' → TextWalked text at cap (Ok (at + length text)) out out'
  text_done k h p = record { within = within_done (at + length text) refl (omega arith) (omega arith); means = λ d f. flat_walk k h refl p.is d f }

-- ---- one mark
module _ (b : ℕ) {at cap : ℕ} {out out' : List ℕ} where
  pub mark_short : at ≡ cap → MarkWalked b at cap (Err NoRoom) out out'
  mark_short l = record {
    within = within_err refl;
    means = λ d o. mark_long b [] d (open_behind b d) l refl o;
    opens = λ d e h. subst (λ (x : ℕ). WalkedText (x ∷ []) d (d + 1) at cap (Err NoRoom) out out') (sym e) (open_long [] d (d + 1) h l refl);
  }

  pub mark_done : at ≤ cap → (at ≡ cap → ⊥) → PutText out at (b ∷ []) out' → MarkWalked b at cap (Ok (at + 1)) out out'
  mark_done l ne p = record {
    within = within_done (at + 1) refl (omega arith) (omega arith);
    means = λ d o. mark_walk b d (omega arith) refl p o;
    opens = λ d e h. subst (λ (x : ℕ). WalkedText (x ∷ []) d (d + 1) at cap (Ok (at + 1)) out out') (sym e) (open_walk d h (omega arith) refl (subst (λ (x : ℕ). PutText out at (x ∷ []) out') e p));
  }

pub digit_flat : (b : ℕ) → is_digit b ≡ true → is_flat b ≡ true
digit_flat b h = let r = digit_range b h in flat_is b (λ e. omega (arith, r.1)) (λ e. omega (arith, r.1))

pub decimal_walk : {n first at cap : ℕ} {a : List ℕ} {r : Written} {out out' : List ℕ} → DigitsAt n first a → length a ≡ 20 → TextWalked (take (20 - first) (drop first a)) at cap r out out' → DecimalWalked n at cap r out out'
decimal_walk {n} {first} {at} {cap} {a} {r} {out} {out'} ds l w =
    let e : take (20 - first) (drop first a) ≡ decimal n = take_all (20 - first) (drop first a) (rw length-drop (omega arith)) ∙ ds.is in
    record { within = w.within; means = λ d. rw e at (w.means d (rw e (all_weaken is_digit is_flat digit_flat (decimal n) (decimal_digits n)))) }

-- ---- atoms
module _ {v : Val} {at cap : ℕ} where
  pub atom_symbol : {r : Written} {out out' : List ℕ} → v.tag ≡ 2 → SymbolWalked v.word at cap r out out' → AtomWalked v at cap r out out'
  unfolding write_obj
  atom_symbol {r} {out} {out'} t w = record { within = w.within; means = λ d C n x o rep. go d C n x rep }
    where
      go : (d : ℕ) (C : List ℕ) (n : ℕ) (x : Obj) → Rep C n v x → WalkedText (write_obj x) d d at cap r out out'
      go d C n x (rep_pos e f l) = absurd (omega arith)
      go d C n x (rep_neg e f l) = absurd (omega arith)
      go d C n x (rep_symbol {w = s} e i f) = w.means d s i f
      go d C n x (rep_nil e f) = absurd (omega arith)
      go d C n x (rep_more e f l a b) = absurd (omega arith)

  pub atom_number : {r : Written} {out out' : List ℕ} → v.tag ≡ 0 → DecimalWalked v.word at cap r out out' → AtomWalked v at cap r out out'
  unfolding write_obj write_integer
  atom_number {r} {out} {out'} t w = record { within = w.within; means = λ d C n x o rep. go d C n x rep }
    where
      go : (d : ℕ) (C : List ℕ) (n : ℕ) (x : Obj) → Rep C n v x → WalkedText (write_obj x) d d at cap r out out'
      go d C n x (rep_pos e f l) = rw f at (w.means d)
      go d C n x (rep_neg e f l) = absurd (omega arith)
      go d C n x (rep_symbol e i f) = absurd (omega arith)
      go d C n x (rep_nil e f) = absurd (omega arith)
      go d C n x (rep_more e f l a b) = absurd (omega arith)

  module _ (t : v.tag ≡ 2 → ⊥) (u : v.tag ≡ 0 → ⊥) (q : Result (Unit {0}) NotWritten) (a : ℕ) {out out₁ : List ℕ} (m : MarkWalked 45 at cap (placed q a) out out₁) where
    -- an integer below 0
    negative : {r : Written} {out₂ : List ℕ} → ((k d : ℕ) → v.word ≡ k → k < 2147483648 → WalkedText (write_integer (negsuc k)) d d at cap r out out₂) → (d : ℕ) (C : List ℕ) (n : ℕ) (x : Obj) → (v.tag ≡ 3 → ⊥) → Rep C n v x → WalkedText (write_obj x) d d at cap r out out₂
    unfolding write_obj
    negative f d C n x o (rep_pos e g l) = absurd (u e)
    negative f d C n x o (rep_neg {k = k} e g l) = f k d g l
    negative f d C n x o (rep_symbol e i g) = absurd (t e)
    negative f d C n x o (rep_nil e g) = absurd (o e)
    negative f d C n x o (rep_more e g l a b) = absurd (o e)

    pub atom_err : {why : NotWritten} → q ≡ Err why → AtomWalked v at cap (Err why) out out₁
    unfolding write_integer
    atom_err e = record { within = within_err refl; means = λ d C n x o rep. negative (λ k d g l. walk_err (decimal (suc k)) d (m.means d (λ z. omega arith)) (placed_err a e) refl) d C n x o rep }

    pub atom_negative : {unit : Unit {0}} {k cap₁ : ℕ} {r : Written} {out₂ : List ℕ} → q ≡ Ok unit → length out₁ ≡ length out → cap₁ ≡ cap → k ≡ (v.word + 1) % 2 ^ 64 → DecimalWalked k a cap₁ r out₁ out₂ → AtomWalked v at cap r out out₂
    unfolding write_integer
    atom_negative {k = k} {r = r} {out₂ = out₂} e n c h w₁ =
        let w : DecimalWalked k a cap r out₁ out₂ = subst (λ (x : ℕ). DecimalWalked k a x r out₁ out₂) c w₁ in
        let b = m.within.ends a (placed_ok a e) in
        record {
          within = within_later b.0 w.within;
          means = λ d C n' x o rep. negative (λ j d g l. walk_then (m.means d (λ z. omega arith)) (placed_ok a e) n (let i : k ≡ suc j = omega arith in rw i at (w.means d))) d C n' x o rep;
        }

-- ---- objects
-- a value that is a sequence stands for one
sequence_is : {C : List ℕ} {v : Val} (R : Obj → Type 0) → v.tag ≡ 3 → ((n : ℕ) (xs : Objs) → n < 4294967296 → Rep C n v (seq xs) → R (seq xs)) → (n : ℕ) (x : Obj) → n < 4294967296 → Rep C n v x → R x
sequence_is R t f n x u (rep_pos e g l) = absurd (omega arith)
sequence_is R t f n x u (rep_neg e g l) = absurd (omega arith)
sequence_is R t f n x u (rep_symbol e i g) = absurd (omega arith)
sequence_is R t f n x u (rep_nil e g) = f n nil u (rep_nil e g)
sequence_is R t f n x u (rep_more {x = y} {xs = ys} e g l a b) = f n (y :: ys) u (rep_more e g l a b)

module _ {C : List ℕ} {v : Val} {at cap opened : ℕ} where
  pub obj_deep : {out out' : List ℕ} → v.tag ≡ 3 → 32 ≤ opened → ObjectWalked C v at cap opened (Err TooDeep) out out'
  unfolding write_obj
  obj_deep {out} {out'} t h = record { within = within_err refl; means = sequence_is (λ x. WalkedText (write_obj x) opened opened at cap (Err TooDeep) out out') t (λ n xs u rep. open_deep (write_objs xs) opened opened h refl) }

  module _ (t : v.tag ≡ 3) (h : opened < 32) (q : Result (Unit {0}) NotWritten) (a : ℕ) {out out₁ : List ℕ} (m : MarkWalked 60 at cap (placed q a) out out₁) where
    pub obj_err : {why : NotWritten} → q ≡ Err why → ObjectWalked C v at cap opened (Err why) out out₁
    unfolding write_obj
    obj_err {why} e = record {
      within = within_err refl;
      means = sequence_is (λ x. WalkedText (write_obj x) opened opened at cap (Err why) out out₁) t (λ n xs u rep. walk_err (write_objs xs) opened (m.opens opened refl h) (placed_err a e) refl);
    }

    module _ {unit : Unit {0}} (e : q ≡ Ok unit) (n : length out₁ ≡ length out) {cap₁ : ℕ} (c : cap₁ ≡ cap) {k : ℕ} (s : Sized v k) {r : Written} {out₂ : List ℕ} where
      pub obj_empty : k ≡ 0 → MarkWalked 62 a cap₁ r out₁ out₂ → ObjectWalked C v at cap opened r out out₂
      unfolding write_obj
      obj_empty z w₁ = record {
        within = within_later (m.within.ends a (placed_ok a e)).0 w.within;
        means = sequence_is (λ x. WalkedText (write_obj x) opened opened at cap r out out₂) t (λ i xs u rep. go i xs u rep (s.means C i xs u rep));
      }
        where
          w : MarkWalked 62 a cap r out₁ out₂
          w = subst (λ (x : ℕ). MarkWalked 62 a x r out₁ out₂) c w₁

          go : (i : ℕ) (xs : Objs) → i < 4294967296 → Rep C i v (seq xs) → k ≡ length_of xs → WalkedText (write_obj (seq xs)) opened opened at cap r out out₂
          go i nil u rep f = walk_then (m.opens opened refl h) (placed_ok a e) n (let back : opened + 1 - 1 ≡ opened = omega arith in rw back at (w.means (opened + 1) (λ q. omega arith)))
          go i (x :: xs) u rep f = absurd (omega arith)

      pub obj_places : (k ≡ 0 → ⊥) → PlacesWalked C v a cap₁ (opened + 1) r out₁ out₂ → ObjectWalked C v at cap opened r out out₂
      unfolding write_obj
      obj_places z w₁ = record {
        within = within_later (m.within.ends a (placed_ok a e)).0 w.within;
        means = sequence_is (λ x. WalkedText (write_obj x) opened opened at cap r out out₂) t (λ i xs u rep. go i xs u rep (s.means C i xs u rep));
      }
        where
          w : PlacesWalked C v a cap (opened + 1) r out₁ out₂
          w = subst (λ (x : ℕ). PlacesWalked C v a x (opened + 1) r out₁ out₂) c w₁

          go : (i : ℕ) (xs : Objs) → i < 4294967296 → Rep C i v (seq xs) → k ≡ length_of xs → WalkedText (write_obj (seq xs)) opened opened at cap r out out₂
          go i nil u rep f = absurd (z f)
          go i (x :: xs) u rep f = walk_then (m.opens opened refl h) (placed_ok a e) n (let back : opened + 1 - 1 ≡ opened = omega arith in rw back at (w.means i x xs u rep))

-- ---- a place
module _ {C : List ℕ} {v h : Val} {at cap opened b : ℕ} (q : Result (Unit {0}) NotWritten) (a : ℕ) {out out₁ : List ℕ} (d : Headed C v h) (w : ObjectWalked C h at cap opened (placed q a) out out₁) where
  pub place_err : {why : NotWritten} → q ≡ Err why → PlaceWalked C v at cap opened b (Err why) out out₁
  place_err e = record { within = within_err refl; means = λ n x xs u o rep. walk_err (b ∷ []) (open_behind b opened) (w.means n x u (d.means n x xs u rep)) (placed_err a e) refl }

  pub place_done : {unit : Unit {0}} {cap₁ : ℕ} {r₂ : Written} {out₂ : List ℕ} → q ≡ Ok unit → length out₁ ≡ length out → cap₁ ≡ cap → MarkWalked b a cap₁ r₂ out₁ out₂ → PlaceWalked C v at cap opened b r₂ out out₂
  place_done {r₂ = r₂} {out₂ = out₂} f l c m₁ =
      let m : MarkWalked b a cap r₂ out₁ out₂ = subst (λ (x : ℕ). MarkWalked b a x r₂ out₁ out₂) c m₁ in
      record {
        within = within_later (w.within.ends a (placed_ok a f)).0 m.within;
        means = λ n x xs u o rep. walk_then (w.means n x u (d.means n x xs u rep)) (placed_ok a f) l (m.means opened o);
      }

-- ---- the places of a sequence: the k-th of n is y, and what a walk over them finds the walk over all finds
pub record Rest (C : List ℕ) (n : ℕ) (xs : Objs) (out₀ : List ℕ) (from cap opened total k : ℕ) (s : Val) (at : ℕ) (out : List ℕ) : Type 0 where
  pub y : Obj
  pub ys : Objs
  pub rep : Rep C n s (seq (y :: ys))
  pub size : k + length_of ys ≡ total
  pub so_far : (r : Written) (out' : List ℕ) → WalkedText (write_objs (y :: ys)) opened (opened - 1) at cap r out out' → WalkedText (write_objs xs) opened (opened - 1) from cap r out₀ out'

pub record PlacesLeft (C : List ℕ) (v : Val) (out₀ : List ℕ) (from cap opened total k : ℕ) (s : Val) (at : ℕ) (out : List ℕ) : Type 0 where
  pub low : from ≤ at
  pub high : at ≤ cap
  pub len : length out ≡ length out₀
  pub means : (n : ℕ) (x : Obj) (xs : Objs) → n < 4294967296 → Rep C n v (seq (x :: xs)) → Rest C n (x :: xs) out₀ from cap opened total k s at out

module _ {C : List ℕ} {v : Val} {out₀ : List ℕ} {from cap opened : ℕ} where
  module _ {total k : ℕ} {s : Val} {at : ℕ} {out : List ℕ} (g : PlacesLeft C v out₀ from cap opened total k s at out) where
    -- with an object behind the first of those left
    more_left : (n : ℕ) (xs : Objs) {r : Written} {out₁ : List ℕ} → n < 4294967296 → k < total → PlaceWalked C s at cap opened 44 r out out₁ → (R : Type 0) → Rest C n xs out₀ from cap opened total k s at out
        → ((y z : Obj) (zs : Objs) → Rep C n s (seq (y :: z :: zs)) → k + suc (length_of zs) ≡ total → WalkedText (write_obj y ++ (44 ∷ [])) opened opened at cap r out out₁
        → ((r' : Written) (out' : List ℕ) → WalkedText ((write_obj y ++ (44 ∷ [])) ++ write_objs (z :: zs)) opened (opened - 1) at cap r' out out' → WalkedText (write_objs xs) opened (opened - 1) from cap r' out₀ out') → R) → R
    unfolding write_obj
    more_left n xs {r} {out₁} u h w R q f = go q.y q.ys q.rep q.size q.so_far
      where
        go : (y : Obj) (ys : Objs) → Rep C n s (seq (y :: ys)) → k + length_of ys ≡ total → ((r : Written) (out' : List ℕ) → WalkedText (write_objs (y :: ys)) opened (opened - 1) at cap r out out' → WalkedText (write_objs xs) opened (opened - 1) from cap r out₀ out') → R
        go y nil rep z w' = absurd (omega arith)
        go y (y₂ :: ys) rep z w' = f y y₂ ys rep z (w.means n y (y₂ :: ys) u (λ e. omega arith) rep) (λ r' out' x. w' r' out' (rw append_assoc at x))

    pub places_turn : (e : ℕ) {cap₁ : ℕ} {s₁ : Val} (q : Result (Unit {0}) NotWritten) {unit : Unit {0}} {out₁ : List ℕ} → k < total → cap₁ ≡ cap → PlaceWalked C s at cap₁ opened 44 (placed q e) out out₁ → q ≡ Ok unit → length out₁ ≡ length out → Tailed C s s₁ → PlacesLeft C v out₀ from cap opened total (k + 1) s₁ e out₁
    places_turn e {cap₁} {s₁} q {unit} {out₁} h c w₁ ok l t =
        let w : PlaceWalked C s at cap opened 44 (placed q e) out out₁ = subst (λ (x : ℕ). PlaceWalked C s at x opened 44 (placed q e) out out₁) c w₁ in
        let f = placed_ok e ok in
        let b = w.within.ends e f in
        let lo = g.low in
        record {
          low = omega (arith, b.0);
          high = b.1;
          len = l ∙ g.len;
          means = λ n x xs u rep. more_left n (x :: xs) u h w (Rest C n (x :: xs) out₀ from cap opened total (k + 1) s₁ e out₁) (g.means n x xs u rep) (λ y z zs rep₁ size walked on_all.
              record { y = z; ys = zs; rep = t.means n y (z :: zs) u rep₁; size = omega arith; so_far = λ r' out' w'. on_all r' out' (walk_then walked f l w') });
        }

    pub places_err : {why : NotWritten} (e : ℕ) {cap₁ : ℕ} (q : Result (Unit {0}) NotWritten) {out₁ : List ℕ} → k < total → cap₁ ≡ cap → PlaceWalked C s at cap₁ opened 44 (placed q e) out out₁ → q ≡ Err why → PlacesWalked C v from cap opened (Err why) out₀ out₁
    places_err {why} e {cap₁} q {out₁} h c w₁ err = let w : PlaceWalked C s at cap opened 44 (placed q e) out out₁ = subst (λ (x : ℕ). PlaceWalked C s at x opened 44 (placed q e) out out₁) c w₁ in let f = placed_err e err in record { within = within_err refl; means = λ n x xs u rep. more_left n (x :: xs) u h w (WalkedText (write_objs (x :: xs)) opened (opened - 1) from cap (Err why) out₀ out₁) (g.means n x xs u rep) (λ y z zs rep₁ size walked on_all. on_all (Err why) out₁ (walk_err (write_objs (z :: zs)) (opened - 1) walked f refl)) }

    pub places_end : {r : Written} {cap₁ : ℕ} {out₁ : List ℕ} → total ≤ k → cap₁ ≡ cap → PlaceWalked C s at cap₁ opened 62 r out out₁ → PlacesWalked C v from cap opened r out₀ out₁
    unfolding write_obj
    places_end {r} {cap₁} {out₁} h c w₁ = record { within = within_later g.low w.within; means = λ n x xs u rep. go n (x :: xs) u (g.means n x xs u rep) }
      where
        w : PlaceWalked C s at cap opened 62 r out out₁
        w = subst (λ (x : ℕ). PlaceWalked C s at x opened 62 r out out₁) c w₁

        go : (n : ℕ) (xs : Objs) → n < 4294967296 → Rest C n xs out₀ from cap opened total k s at out → WalkedText (write_objs xs) opened (opened - 1) from cap r out₀ out₁
        go n xs u q = last q.y q.ys q.rep q.size q.so_far
          where
            last : (y : Obj) (ys : Objs) → Rep C n s (seq (y :: ys)) → k + length_of ys ≡ total → ((r : Written) (out' : List ℕ) → WalkedText (write_objs (y :: ys)) opened (opened - 1) at cap r out out' → WalkedText (write_objs xs) opened (opened - 1) from cap r out₀ out') → WalkedText (write_objs xs) opened (opened - 1) from cap r out₀ out₁
            last y nil rep z on_all = on_all r out₁ (w.means n y nil u (λ e. omega arith) rep)
            last y (y₂ :: ys) rep z on_all = absurd (omega arith)

-- ---- the whole object: measured first, then written
measured : (cap : ℕ) {y : Scan} (x : Obj) → scan (write_obj x) 0 (cap - 0) ≡ y → scan (write_obj x) 0 cap ≡ y
measured cap x s = ap (λ (q : ℕ). scan (write_obj x) 0 q) (sym (sub-zero cap)) ∙ s

-- the walk that measures may write to no byte
no_bytes : (a : List ℕ) → length a ≡ 0 → a ≡ []
no_bytes [] h = refl
no_bytes (b ∷ a) h = absurd (omega arith)

module _ {C : List ℕ} {v : Val} {cap : ℕ} {r₁ : Written} {none none₁ out : List ℕ} (empty : length none₁ ≡ 0) where
  pub write_err : {why : NotWritten} → cap ≡ output_room (length out) → ObjectWalked C v 0 cap 0 r₁ none none₁ → r₁ ≡ Err why → ObjectWritten C v (Err why) out (none₁ ++ out)
  write_err {why} c w e = record { within = within_err refl; means = λ n x u rep. rw (← c, no_bytes none₁ empty) (go x (w.means n x u rep)) }
    where
      go : (x : Obj) → WalkedText (write_obj x) 0 0 0 cap r₁ none none₁ → ObjectEnd (write_obj x) (Err why) out out (scan (write_obj x) 0 cap)
      go x (fits f l s p) = let z : ◌≡◌ {A = ℕ} 0 1 = cc in absurd (omega arith)
      go x (too_long f s) = rw (measured cap x s) (no_room (cc) refl)
      go x (too_deep f s) = rw (measured cap x s) (no_mark (cc) refl)

  pub write_done : {e : ℕ} {r₂ : Written} {out₂ : List ℕ} → cap ≡ output_room (length out) → ObjectWalked C v 0 cap 0 r₁ none none₁ → r₁ ≡ Ok e → ObjectWalked C v 0 cap 0 r₂ (none₁ ++ out) out₂ → ObjectWritten C v r₂ out out₂
  unfolding put
  write_done {e} {r₂} {out₂} c w f w₂ = record {
    within = rw (← c) w₂.within;
    means = λ n x u rep. rw (← c) (go x (w.means n x u rep) (rw (no_bytes none₁ empty) at (w₂.means n x u rep)));
  }
    where
      text_put : (t : List ℕ) → put out 0 t ≡ t ++ drop (length t) out
      text_put t = rw zero-add

      go : (x : Obj) → WalkedText (write_obj x) 0 0 0 cap r₁ none none₁ → WalkedText (write_obj x) 0 0 0 cap r₂ out out₂ → ObjectEnd (write_obj x) r₂ out out₂ (scan (write_obj x) 0 cap)
      go x (too_long g s) b = let z : ◌≡◌ {A = ℕ} 0 1 = cc in absurd (omega arith)
      go x (too_deep g s) b = let z : ◌≡◌ {A = ℕ} 0 1 = cc in absurd (omega arith)
      go x (fits g l s p) (too_long g₂ s₂) = let z : ◌≡◌ {A = ℕ} 0 1 = apart (sym s ∙ s₂) in absurd (omega arith)
        where
          apart : {d q : ℕ} → on d q ≡ short → ◌≡◌ {A = ℕ} 0 1
          apart h = cc
      go x (fits g l s p) (too_deep g₂ s₂) = let z : ◌≡◌ {A = ℕ} 0 1 = apart (sym s ∙ s₂) in absurd (omega arith)
        where
          apart : {d q : ℕ} → on d q ≡ deep → ◌≡◌ {A = ℕ} 0 1
          apart h = cc
      go x (fits g l s p) (fits g₂ l₂ s₂ p₂) = rw (measured cap x s) (object_written (g₂ ∙ ap Ok (zero-add (length (write_obj x)))) (p₂ (omega arith) ∙ text_put (write_obj x)))
