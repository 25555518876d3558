-- Laws of walks: one text behind another, bytes that open and close nothing, the marks.
use Rattle.std.proofs.Common.{◌≡◌, ℕ, ◌+◌, ◌-◌, ◌<◌, ◌≤◌, Bool, true, false, cond, not, ◌&&◌, eqb, leb, Result, Ok, Err, List, [], ◌∷◌, ◌++◌, length, sym, refl, ap, ◌∙◌, arith, length-append, eq-eqb, ne_eqb, eqb-true, le-leb}
use Prim.Native.Char.{code}
use mathlib.Core.Bool.{and-eq-true_iff}
use native.Mathlib.Nat.{sub-zero}
use borrow.Author.Tests.{lt-leb, eqb-false}
use Rattle.language.specs.Judging.{all}
use Rattle.language.specs.Writing.{Scan, on, short, deep, open_behind, scan}
use Rattle.tables.specs.Tables.{put}
use Rattle.tables.proofs.Put.{put_after}
use Rattle.objects.specs.Writings.{Written, WalkedText, fits, too_long, too_deep, Within, PutText, placed, is_flat}
use Rattle.objects.specs.declared.NotWritten.{NotWritten}
use Rattle.objects.specs.declared.NotWritten.TheVariants.{NoRoom, TooDeep}

-- ---- scans
abbrev and_scan : Scan → (ℕ → ℕ → Scan) → Scan
and_scan (on d r) f = f d r
and_scan short f = short
and_scan deep f = deep

scan-append : (a b : List ℕ) (d r : ℕ) → scan (a ++ b) d r ≡ and_scan (scan a d r) (λ d r. scan b d r)
unfolding scan
scan-append [] b d r = refl
scan-append (x ∷ a) b d r = go (eqb x (code "<") && leb 32 d) (eqb r 0) (scan-append a b (open_behind x d) (r - 1))
  where
    go : (t u : Bool) → scan (a ++ b) (open_behind x d) (r - 1) ≡ and_scan (scan a (open_behind x d) (r - 1)) (λ d r. scan b d r)
        → cond t deep (cond u short (scan (a ++ b) (open_behind x d) (r - 1))) ≡ and_scan (cond t deep (cond u short (scan a (open_behind x d) (r - 1)))) (λ d r. scan b d r)
    go true u h = refl
    go false true h = refl
    go false false h = h

scan_deep : (l : List ℕ) (d r : ℕ) → 32 ≤ d → scan (60 ∷ l) d r ≡ deep
unfolding scan
scan_deep l d r h = rw (le-leb 32 d h)

scan_full : (l : List ℕ) (d r : ℕ) → d < 32 → r ≡ 0 → scan (60 ∷ l) d r ≡ short
unfolding scan
scan_full l d r h e = rw (lt-leb 32 d h, e)

scan_open : (l : List ℕ) (d r : ℕ) → d < 32 → 0 < r → scan (60 ∷ l) d r ≡ scan l (d + 1) (r - 1)
unfolding scan
scan_open l d r h e = rw (lt-leb 32 d h, ne_eqb r 0 (omega arith))

module _ (b : ℕ) (l : List ℕ) (d r : ℕ) (other : b ≡ 60 → ⊥) where
  scan_out : r ≡ 0 → scan (b ∷ l) d r ≡ short
  unfolding scan
  scan_out e = rw (ne_eqb b 60 other, e)

  scan_next : 0 < r → scan (b ∷ l) d r ≡ scan l (open_behind b d) (r - 1)
  unfolding scan
  scan_next e = rw (ne_eqb b 60 other, ne_eqb r 0 (omega arith))

-- bytes that open and close nothing
pub flat_of : (b : ℕ) → is_flat b ≡ true → (b ≡ 60 → ⊥) × (b ≡ 62 → ⊥)
unfolding is_flat
flat_of b h =
    let x = (and-eq-true_iff (not (eqb b 60)) (not (eqb b 62))).0 h in
    (λ e. bad (rw (eq-eqb b 60 e) at x.0), λ e. bad (rw (eq-eqb b 62 e) at x.1))
  where
    bad : ◌≡◌ {A = Bool} false true → ⊥
    bad z = let y : ◌≡◌ {A = ℕ} 0 1 = cc in omega arith

pub flat_is : (b : ℕ) → (b ≡ 60 → ⊥) → (b ≡ 62 → ⊥) → is_flat b ≡ true
unfolding is_flat
flat_is b h g = rw (ne_eqb b 60 h, ne_eqb b 62 g)

flat_fits : (a : List ℕ) (d r : ℕ) → all is_flat a ≡ true → length a ≤ r → scan a d r ≡ on d (r - length a)
unfolding scan
flat_fits [] d r h e = ap (λ (x : ℕ). on d x) (sym (sub-zero r))
flat_fits (b ∷ a) d r h e =
    let x = (and-eq-true_iff (is_flat b) (all is_flat a)).0 h in
    let f = flat_of b x.0 in
    scan_next b a d r f.0 (omega arith) ∙ rw (ne_eqb b 60 f.0, ne_eqb b 62 f.1) (flat_fits a d (r - 1) x.1 (omega arith) ∙ ap (λ (x : ℕ). on d x) (omega arith))

flat_short : (a : List ℕ) (d r : ℕ) → all is_flat a ≡ true → r < length a → scan a d r ≡ short
flat_short [] d r h e = absurd (omega arith)
flat_short (b ∷ a) d r h e =
    let x = (and-eq-true_iff (is_flat b) (all is_flat a)).0 h in
    let f = flat_of b x.0 in
    go (eqb r 0) refl f (λ k. flat_short a d (r - 1) x.1 k)
  where
    go : (t : Bool) → eqb r 0 ≡ t → (b ≡ 60 → ⊥) × (b ≡ 62 → ⊥) → (r - 1 < length a → scan a d (r - 1) ≡ short) → scan (b ∷ a) d r ≡ short
    go true z f i = scan_out b a d r f.0 (eqb-true r 0 z)
    go false z f i = let p = eqb-false r 0 z in scan_next b a d r f.0 (omega arith) ∙ rw (ne_eqb b 60 f.0, ne_eqb b 62 f.1) (i (omega arith))

-- ---- one text behind another
module _ {a : List ℕ} (b : List ℕ) {d d₁ : ℕ} (d₂ : ℕ) {at cap : ℕ} {r r₂ : Written} {out out₁ out₂ : List ℕ} where
  pub walk_err : {why : NotWritten} → WalkedText a d d₁ at cap r out out₁ → r ≡ Err why → r₂ ≡ Err why → WalkedText (a ++ b) d d₂ at cap r₂ out out₂
  walk_err (fits e l s p) h g = let z : ◌≡◌ {A = ℕ} 0 1 = cc in absurd (omega arith)
  walk_err (too_long e s) h g = too_long (cc) (scan-append a b d (cap - at) ∙ rw s)
  walk_err (too_deep e s) h g = too_deep (cc) (scan-append a b d (cap - at) ∙ rw s)

module _ {a b : List ℕ} {d d₁ d₂ at cap : ℕ} {r r₂ : Written} {out out₁ out₂ : List ℕ} where
  pub walk_then : {e : ℕ} → WalkedText a d d₁ at cap r out out₁ → r ≡ Ok e → length out₁ ≡ length out → WalkedText b d₁ d₂ e cap r₂ out₁ out₂ → WalkedText (a ++ b) d d₂ at cap r₂ out out₂
  walk_then {e} (too_long f s) h n w = let z : ◌≡◌ {A = ℕ} 0 1 = cc in absurd (omega arith)
  walk_then {e} (too_deep f s) h n w = let z : ◌≡◌ {A = ℕ} 0 1 = cc in absurd (omega arith)
  walk_then {e} (fits f l s p) h n w = go e (cc) w
    where
      whole : at + length (a ++ b) ≡ at + length a + length b
      whole = rw length-append (omega arith)

      go : (e : ℕ) → e ≡ at + length a → WalkedText b d₁ d₂ e cap r₂ out₁ out₂ → WalkedText (a ++ b) d d₂ at cap r₂ out out₂
      go e i (too_long f₂ s₂) = too_long f₂ (scan-append a b d (cap - at) ∙ rw (s, ← i) s₂)
      go e i (too_deep f₂ s₂) = too_deep f₂ (scan-append a b d (cap - at) ∙ rw (s, ← i) s₂)
      go e i (fits f₂ l₂ s₂ p₂) =
          fits (rw (whole, ← i) f₂) (rw (whole, ← i) l₂) (scan-append a b d (cap - at) ∙ rw (s, whole, ← i) s₂)
          (λ room. let q : at + length a + length b ≤ length out = rw (← whole) room in
          p₂ (omega arith) ∙ ap (λ (x : List ℕ). put x e b) (p (omega arith)) ∙ rw i (put_after out at a b q))

-- ---- bytes that open and close nothing
module _ {text : List ℕ} {at cap : ℕ} {r : Written} {out out' : List ℕ} where
  pub flat_long : at ≤ cap → cap - at < length text → r ≡ Err NoRoom → (d : ℕ) → all is_flat text ≡ true → WalkedText text d d at cap r out out'
  flat_long l h e d f = too_long e (flat_short text d (cap - at) f h)

  pub flat_walk : at ≤ cap → length text ≤ cap - at → r ≡ Ok (at + length text) → (at + length text ≤ length out → out' ≡ put out at text) → (d : ℕ) → all is_flat text ≡ true → WalkedText text d d at cap r out out'
  flat_walk l h e p d f = fits e (omega arith) (flat_fits text d (cap - at) f h ∙ ap (λ (x : ℕ). on d x) (omega arith)) p

-- ---- marks
module _ {at cap : ℕ} {r : Written} {out out' : List ℕ} where
  pub mark_long : (b : ℕ) (rest : List ℕ) (d d' : ℕ) → at ≡ cap → r ≡ Err NoRoom → (b ≡ 60 → ⊥) → WalkedText (b ∷ rest) d d' at cap r out out'
  mark_long b rest d d' l e o = too_long e (scan_out b rest d (cap - at) o (omega arith))

  pub mark_walk : (b d : ℕ) → at < cap → r ≡ Ok (at + 1) → PutText out at (b ∷ []) out' → (b ≡ 60 → ⊥) → WalkedText (b ∷ []) d (open_behind b d) at cap r out out'
  unfolding scan
  mark_walk b d l e p o = fits e (omega arith) (scan_next b [] d (cap - at) o (omega arith) ∙ ap (λ (x : ℕ). on (open_behind b d) x) (omega arith)) p.is

  pub open_deep : (rest : List ℕ) (d d' : ℕ) → 32 ≤ d → r ≡ Err TooDeep → WalkedText (60 ∷ rest) d d' at cap r out out'
  open_deep rest d d' h e = too_deep e (scan_deep rest d (cap - at) h)

  pub open_long : (rest : List ℕ) (d d' : ℕ) → d < 32 → at ≡ cap → r ≡ Err NoRoom → WalkedText (60 ∷ rest) d d' at cap r out out'
  open_long rest d d' h l e = too_long e (scan_full rest d (cap - at) h (omega arith))

  pub open_walk : (d : ℕ) → d < 32 → at < cap → r ≡ Ok (at + 1) → PutText out at (60 ∷ []) out' → WalkedText (60 ∷ []) d (d + 1) at cap r out out'
  unfolding scan
  open_walk d h l e p = fits e (omega arith) (scan_open [] d (cap - at) h (omega arith) ∙ ap (λ (x : ℕ). on (d + 1) x) (omega arith)) p.is

-- ---- bounds
pub within_err : {at cap : ℕ} {why : NotWritten} {r : Written} → r ≡ Err why → Within at cap r
within_err e = record { ends = λ x f. let z : ◌≡◌ {A = ℕ} 0 1 = cc in absurd (omega arith) }

pub within_done : {at cap : ℕ} {r : Written} (e : ℕ) → r ≡ Ok e → at ≤ e → e ≤ cap → Within at cap r
within_done e f l h = record { ends = λ x g. let z : x ≡ e = cc in (omega arith, omega arith) }

pub within_later : {at at₁ cap : ℕ} {r : Written} → at ≤ at₁ → Within at₁ cap r → Within at cap r
within_later l w = record { ends = λ x g. let z = w.ends x g in (omega (arith, z.0), z.1) }

-- ---- how a walk ended
module _ {q : Result (Unit {0}) NotWritten} where
  pub placed_ok : {u : Unit {0}} (a : ℕ) → q ≡ Ok u → placed q a ≡ Ok a
  placed_ok a e = ap (λ (r : Result (Unit {0}) NotWritten). placed r a) e

  pub placed_err : {why : NotWritten} (a : ℕ) → q ≡ Err why → placed q a ≡ Err why
  placed_err a e = ap (λ (r : Result (Unit {0}) NotWritten). placed r a) e
