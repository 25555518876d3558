-- A harmless form comes to an object, whatever it is applied to.
use Prim.Native.Nat.{ℕ}
use mathlib.Core.Path.{◌≡◌, refl}
use mathlib.Core.Bool.{Bool, true, false, ◌&&◌, false≢true}
use Rattle.language.specs.Objects.{Obj, seq, Objs, nil, ◌::◌}
use Rattle.language.specs.Words.{Op}
use Rattle.language.specs.Forms.{Word, op, Form, word, name, chain, construct, constant, insert, apply_all, bu, condition, while, Forms, stop, ◌&◌, Prog, is_among}
use Rattle.language.specs.Numbers.{Edition}
use Rattle.language.specs.Laws.{harmless_words, harmless, all_harmless}
use Rattle.theorems.proofs.Ends.{just, items, object, bottom, Ends, word_object, construct_object, constant_in, items_stop, items_bottom, items_late, items_go}
use Rattle.theorems.proofs.Determined.{det}
use Rattle.theorems.proofs.Implies.{object_bottom}

pub and_both : (a b : Bool) → (a && b) ≡ true → (a ≡ true) × (b ≡ true)
and_both true b h = (refl, h)
and_both false b h = absurd (false≢true h)

module _ (e : Edition) (Q : Prog) where
  -- a harmless form comes to an object, always
  pub record Calm (f : Form) (x : Obj) : Type 0 where
    pub v : Obj
    pub d : ℕ
    pub s : ℕ
    pub c : ℕ
    pub ends : Ends e Q d (just f x) (object v) s c

  pub record Calms (fs : Forms) (x : Obj) : Type 0 where
    pub vs : Objs
    pub d : ℕ
    pub s : ℕ
    pub c : ℕ
    pub ends : Ends e Q d (items fs x) (object (seq vs)) s c

  calm_op : (o : Op) (x : Obj) → is_among (op o) harmless_words ≡ true → Calm (word (op o)) x
  calm_op Op.id x h = record { v = _; d = _; s = _; c = _; ends = word_object refl }
  calm_op Op.atom x h = record { v = _; d = _; s = _; c = _; ends = word_object refl }
  calm_op Op.null x h = record { v = _; d = _; s = _; c = _; ends = word_object refl }
  calm_op Op.tl x h = absurd (false≢true h)
  calm_op Op.tlr x h = absurd (false≢true h)
  calm_op Op.eq x h = absurd (false≢true h)
  calm_op Op.lt x h = absurd (false≢true h)
  calm_op Op.length x h = absurd (false≢true h)
  calm_op Op.add x h = absurd (false≢true h)
  calm_op Op.sub x h = absurd (false≢true h)
  calm_op Op.mul x h = absurd (false≢true h)
  calm_op Op.div x h = absurd (false≢true h)
  calm_op Op.and x h = absurd (false≢true h)
  calm_op Op.or x h = absurd (false≢true h)
  calm_op Op.not x h = absurd (false≢true h)
  calm_op Op.apndl x h = absurd (false≢true h)
  calm_op Op.apndr x h = absurd (false≢true h)
  calm_op Op.reverse x h = absurd (false≢true h)
  calm_op Op.rotl x h = absurd (false≢true h)
  calm_op Op.rotr x h = absurd (false≢true h)
  calm_op Op.distl x h = absurd (false≢true h)
  calm_op Op.distr x h = absurd (false≢true h)
  calm_op Op.trans x h = absurd (false≢true h)

  mutual
    pub calm : (f : Form) (x : Obj) → harmless f ≡ true → Calm f x
    calm (word (Word.select k)) x h = absurd (false≢true h)
    calm (word (Word.select_right k)) x h = absurd (false≢true h)
    calm (word (op o)) x h = calm_op o x h
    calm (name w) x h = absurd (false≢true h)
    calm (chain fs) x h = absurd (false≢true h)
    calm (construct fs) x h = let C = calms fs x h in record { v = seq C.vs; d = _; s = _; c = _; ends = construct_object C.ends }
    calm (constant y) x h = record { v = y; d = _; s = _; c = _; ends = constant_in }
    calm (insert f) x h = absurd (false≢true h)
    calm (apply_all f) x h = absurd (false≢true h)
    calm (bu f y) x h = absurd (false≢true h)
    calm (condition p f g) x h = absurd (false≢true h)
    calm (while p f) x h = absurd (false≢true h)

    pub calms : (fs : Forms) (x : Obj) → all_harmless fs ≡ true → Calms fs x
    calms stop x h = record { vs = nil; d = _; s = _; c = _; ends = items_stop }
    calms (f & fs) x h =
        let t = and_both (harmless f) (all_harmless fs) h in
        let C = calm f x t.0 in
        let Cs = calms fs x t.1 in
        record { vs = C.v :: Cs.vs; d = _; s = _; c = _; ends = items_go C.ends Cs.ends }

  pub no_bottom : {X : Type 0} {d : ℕ} {f : Form} {x : Obj} {s c : ℕ} → harmless f ≡ true → Ends e Q d (just f x) bottom s c → X
  no_bottom {f = f} {x = x} h D = object_bottom e Q (det (calm f x h).ends D)

  pub no_bottoms : {X : Type 0} {d : ℕ} {x : Obj} {s c : ℕ} (fs : Forms) → all_harmless fs ≡ true → Ends e Q d (items fs x) bottom s c → X
  no_bottoms stop h x = elim x [ ]
  no_bottoms (f & fs) h (items_bottom D) = no_bottom (and_both (harmless f) (all_harmless fs) h).0 D
  no_bottoms (f & fs) h (items_late {d = d} {d' = d'} D E) = no_bottoms {d = d'} fs (and_both (harmless f) (all_harmless fs) h).1 E
