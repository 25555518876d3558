-- The words that make cells: reverse, rotl, rotr, tlr; apndl, apndr, distl, distr.
use Rattle.language.specs.declared.stops.Stop.TheVariants.{Bottom, CellsSpent}
use Rattle.language.specs.declared.stops.Stopped.{Stopped}
use Rattle.std.specs.Prelude.{Ok, Err}
use Rattle.primitives.specs.declared.Reserved.{Reserved}
use Prim.Native.Nat.{ℕ, suc, ◌+◌, ◌-◌, ◌*◌, ◌≤◌, ◌<◌}
use mathlib.Core.Path.{◌≡◌, refl, sym, ap, subst, ◌∙◌}
use mathlib.Core.Bool.{Bool, true, false}
use mathlib.Core.List.{List}
use native.Mathlib.Omega.{arith}
use lib.ListN.{length}
use Rattle.language.specs.Objects.{Obj, int, symbol, seq, Objs, nil, ◌::◌, length_of, ◌+++◌}
use Rattle.language.specs.Words.{Op, entry, cells_by}
use Rattle.language.specs.Forms.{op}
use Rattle.language.specs.Numbers.{one}
use Rattle.language.specs.Meanings.{WordAnswer, gives, meaning, made, on_seq, pair, turned, to_left, to_right, with_left, with_right}
use Rattle.language.specs.Evaluation.{charged}
use Rattle.language.specs.Charging.{stop_at, stopped, cells_taken}
use Rattle.language.specs.declared.Meter.{Meter}
use Rattle.language.specs.declared.Val.{Val}
use Rattle.cells.specs.Cells.{Rep, Room, free, sequence_val}
use Rattle.cells.specs.Parts.{Sized}
use Rattle.cells.proofs.Reps.{rep_ext, same_trans}
use Rattle.lexer.specs.declared.vocabulary.Primitive.{Primitive}
use Rattle.lexer.specs.declared.vocabulary.Primitive.TheVariants as P
use Rattle.lexer.specs.Vocabulary.{op_code, op_of}
use Rattle.sequences.specs.Making.{Space, NewSequence, PutBefore, Prepended, Rearranged, all_but_last, sides, Shared}
use Rattle.sequences.proofs.Parts.{take_all, length_append_one, length_but_last}
use Rattle.sequences.proofs.Building.{nil_rep, stands_as, length_turned}
use Rattle.primitives.specs.Ends.{Ended, reached, Gives, Leaf}
use Rattle.primitives.specs.Asking.{Reserves, reserved, too_few, Kept, Reserving}
use Rattle.primitives.specs.Leaves.{LeafTwo, Orders, order_tlr, order_reverse, order_rotl, order_rotr, Arranged, Ordered}
use Rattle.primitives.proofs.Ending.{end_falls, end_cells, end_short, leaf_falls, two_falls, free_under, free_low}
use Rattle.primitives.proofs.Selected.{no_seq, seq_of, full_none}

-- ---- cells that were asked for
pub record Got (C : List ℕ) (need : ℕ) (m : Meter) (p : ℕ) (k : Meter) : Type 0 where
  pub first : p ≡ free C m
  pub enough : need ≤ m.cells
  pub taken : k ≡ cells_taken need m

got_at : {C : List ℕ} {need : ℕ} {m : Meter} {t : Reserved} → Reserves C need m (Ok t) → Got C need m t.first t.meter
got_at (reserved e h f) = record { first = e; enough = h; taken = f }

short_at : {C : List ℕ} {need : ℕ} {m : Meter} {s : Stopped} → Reserves C need m (Err s) → (m.cells < need) × (s ≡ stop_at CellsSpent m)
short_at (too_few h f) = (h, f)

pub got : {C : List ℕ} {code n w : ℕ} {m : Meter} {t : Reserved} (o : Op) → Reserving C code n w m (Ok t) → op_code o ≡ code → Room C m → Got C (cells_by (entry o).rule n w) m t.first t.meter
got o g f r = got_at (g.means o f r)

pub short : {C : List ℕ} {code n w : ℕ} {m : Meter} {s : Stopped} (o : Op) → Reserving C code n w m (Err s) → op_code o ≡ code → Room C m → (m.cells < cells_by (entry o).rule n w) × (s ≡ stop_at CellsSpent m)
short o g f r = short_at (g.means o f r)

pub kept : {C : List ℕ} {code n w : ℕ} {m : Meter} {t : Reserved} → Reserving C code n w m (Ok t) → Kept t.first t.meter m
kept g = g.keeps

pub kept_sinks : {p : ℕ} {k m : Meter} → Kept p k m → (k.steps ≤ m.steps) × (k.names ≡ m.names)
kept_sinks g = (omega (arith, g.steps), g.names)

pub space_at : {C : List ℕ} {m k : Meter} {need p : ℕ} → Room C m → Got C need m p k → Space C p need
space_at {C} {m} r g = record { far = omega (arith, g.first, g.enough, free_low C m r, r.fits, r.small); long = omega (arith, g.first, g.enough, r.fits) }

-- what stands in the cells that were asked for is what the word gives
pub end_stands : {C C' : List ℕ} {m k : Meter} {r : Val} {a : WordAnswer} {p : ℕ} (need : ℕ) (ys : Objs) → Room C m → a ≡ gives 0 need (seq ys) → Got C need m p k → length C' ≡ length C → NewSequence C p need ys r C' → Gives C m C' (charged a m) (reached r k)
end_stands {C} {C'} {m} {k} {r} {a} {p} need ys o e g l s =
    let t : NewSequence C (free C m) need ys r C' = rw g.first at s in
    end_cells need (seq ys) o e g.enough g.taken l t.rep t.same

-- ---- places in another order
pub arranged_tlr : {C C' : List ℕ} {v r : Val} {word : Primitive} {n p : ℕ} → word ≡ P.Tlr → Rearranged all_but_last C v n p r C' → Arranged C v word n p r C'
arranged_tlr {C} {C'} {v} {r} {word} {n} {p} e b = record { means = λ o f d. go o f (subst (λ (q : Primitive). Orders q o f) e d) }
  where
    go : (o : Op) (f : Objs → Objs) → Orders P.Tlr o f → Rearranged f C v n p r C'
    go o f order_tlr = b

pub arranged_reverse : {C C' : List ℕ} {v r : Val} {word : Primitive} {n p : ℕ} → word ≡ P.Reverse → Rearranged turned C v n p r C' → Arranged C v word n p r C'
arranged_reverse {C} {C'} {v} {r} {word} {n} {p} e b = record { means = λ o f d. go o f (subst (λ (q : Primitive). Orders q o f) e d) }
  where
    go : (o : Op) (f : Objs → Objs) → Orders P.Reverse o f → Rearranged f C v n p r C'
    go o f order_reverse = b

pub arranged_rotl : {C C' : List ℕ} {v r : Val} {word : Primitive} {n p : ℕ} → word ≡ P.Rotl → Rearranged to_left C v n p r C' → Arranged C v word n p r C'
arranged_rotl {C} {C'} {v} {r} {word} {n} {p} e b = record { means = λ o f d. go o f (subst (λ (q : Primitive). Orders q o f) e d) }
  where
    go : (o : Op) (f : Objs → Objs) → Orders P.Rotl o f → Rearranged f C v n p r C'
    go o f order_rotl = b

pub arranged_rotr : {C C' : List ℕ} {v r : Val} {word : Primitive} {n p : ℕ} → (word ≡ P.Tlr → ⊥) → (word ≡ P.Reverse → ⊥) → (word ≡ P.Rotl → ⊥) → Rearranged to_right C v n p r C' → Arranged C v word n p r C'
arranged_rotr {C} {C'} {v} {r} {word} {n} {p} e₁ e₂ e₃ b = record { means = λ o f d. go word o f d e₁ e₂ e₃ }
  where
    go : (word : Primitive) (o : Op) (f : Objs → Objs) → Orders word o f → (word ≡ P.Tlr → ⊥) → (word ≡ P.Reverse → ⊥) → (word ≡ P.Rotl → ⊥) → Rearranged f C v n p r C'
    go word o f order_tlr a b c = absurd (a refl)
    go word o f order_reverse a b c = absurd (b refl)
    go word o f order_rotl a b c = absurd (c refl)
    go word o f order_rotr a d c = b

order_code : {word : Primitive} {o : Op} {f : Objs → Objs} → Orders word o f → op_code o ≡ op_code (op_of word)
order_code order_tlr = refl
order_code order_reverse = refl
order_code order_rotl = refl
order_code order_rotr = refl

but_last_length : (xs : Objs) → length_of (all_but_last xs) ≡ length_of xs - 1
but_last_length nil = omega arith
but_last_length (x :: xs) = length_but_last x xs ∙ (omega arith)

left_length : (xs : Objs) → length_of (to_left xs) ≡ length_of xs
left_length nil = refl
left_length (x :: xs) = length_append_one xs x

right_length : (xs : Objs) → length_of (to_right xs) ≡ length_of xs
right_length nil = refl
right_length (x :: xs) = ap suc (length_but_last x xs)

order_length : {word : Primitive} {o : Op} {f : Objs → Objs} → Orders word o f → (xs : Objs) → length_of (f xs) ≡ cells_by (entry o).rule (length_of xs) 0
order_length order_tlr xs = but_last_length xs
order_length order_reverse xs = length_turned xs
order_length order_rotl xs = left_length xs
order_length order_rotr xs = right_length xs

pub order_atom : {C : List ℕ} {v : Val} {m : Meter} {word : Primitive} → (v.tag ≡ 3 → ⊥) → Ordered C v m word (stopped Bottom m) C
order_atom h = record { sinks = tt; means = λ o f x d room r. end_falls (no_seq h r (λ xs. made o (length_of xs) 0 (seq (f xs)))) }

pub order_short : {C : List ℕ} {v : Val} {m : Meter} {z : Stopped} {word : Primitive} {n : ℕ} → v.tag ≡ 3 → Sized v n → Reserving C (op_code (op_of word)) n 0 m (Err z) → Ordered C v m word (Err z) C
order_short {C} {v} {m} {z} {word} {n} h s g = record { sinks = tt; means = go }
  where
    go : (o : Op) (f : Objs → Objs) (x : Obj) → Orders word o f → Room C m → Rep C (free C m) v x → Gives C m C (charged (on_seq x (λ xs. made o (length_of xs) 0 (seq (f xs)))) m) (Err z)
    go o f x d room r =
        let q = seq_of h r in
        let i : n ≡ length_of q.places = s.means C (free C m) q.places (free_under C m room) q.rep in
        let b = rw i at (short o g (order_code d) room) in
        rw q.is (end_short (cells_by (entry o).rule (length_of q.places) 0) (seq (f q.places)) refl b.0 b.1)

pub order_is : {C C' : List ℕ} {v r : Val} {m : Meter} {t : Reserved} {word : Primitive} {n : ℕ} → v.tag ≡ 3 → Sized v n → Reserving C (op_code (op_of word)) n 0 m (Ok t) → Arranged C v word n t.first r C' → length C' ≡ length C → Ordered C v m word (reached r t.meter) C'
order_is {C} {C'} {v} {r} {m} {t} {word} {n} h s g a l = record { sinks = kept_sinks (kept g); means = go }
  where
    go : (o : Op) (f : Objs → Objs) (x : Obj) → Orders word o f → Room C m → Rep C (free C m) v x → Gives C m C' (charged (on_seq x (λ xs. made o (length_of xs) 0 (seq (f xs)))) m) (reached r t.meter)
    go o f x d room w =
        let q = seq_of h w in
        let i : n ≡ length_of q.places = s.means C (free C m) q.places (free_under C m room) q.rep in
        let b = rw i at (got o g (order_code d) room) in
        let y : length_of (f q.places) ≡ cells_by (entry o).rule (length_of q.places) 0 = order_length d q.places in
        let z : Rep C t.first v (seq q.places) = subst (λ (j : ℕ). Rep C j v (seq q.places)) (sym b.first) q.rep in
        let u = (a.means o f d).means q.places (sym i) (rw y (space_at room b)) z in
        rw q.is (end_stands (cells_by (entry o).rule (length_of q.places) 0) (f q.places) room refl b l (rw y at u))

-- ---- tlr
pub tlr_none : {C : List ℕ} {v : Val} {m : Meter} {n : ℕ} → Sized v n → n ≡ 0 → Leaf C v m (op Op.tlr) (stopped Bottom m) C
tlr_none {C} {m = m} s z = leaf_falls (λ x o r. full_none (free_under C m o) s z r (λ y ys. made Op.tlr (suc (length_of ys)) 0 (seq (all_but_last (y :: ys)))))

pub tlr_is : {C C' : List ℕ} {v : Val} {m : Meter} {n : ℕ} {r : Ended} → Sized v n → (n ≡ 0 → ⊥) → Ordered C v m P.Tlr r C' → Leaf C v m (op Op.tlr) r C'
tlr_is {C} {C'} {v} {m} {n} {r} s z g = record { sinks = g.sinks; means = go }
  where
    go : (x : Obj) (o : Room C m) → Rep C (free C m) v x → Gives C m C' (charged (meaning one (op Op.tlr) x) m) r
    go (int i) o w = g.means Op.tlr all_but_last (int i) order_tlr o w
    go (symbol i) o w = g.means Op.tlr all_but_last (symbol i) order_tlr o w
    go (seq nil) o w = absurd (z (s.means C (free C m) nil (free_under C m o) w))
    go (seq (y :: ys)) o w = g.means Op.tlr all_but_last (seq (y :: ys)) order_tlr o w

-- ---- apndl
pub apndl_atom : {C : List ℕ} {a b : Val} {m : Meter} → (b.tag ≡ 3 → ⊥) → LeafTwo C a b m (op Op.apndl) (stopped Bottom m) C
apndl_atom h = two_falls (λ x y o ra rb. no_seq h rb (λ ys. made Op.apndl (length_of ys) 0 (seq (x :: ys))))

pub distl_atom : {C : List ℕ} {a b : Val} {m : Meter} → (b.tag ≡ 3 → ⊥) → LeafTwo C a b m (op Op.distl) (stopped Bottom m) C
distl_atom h = two_falls (λ x y o ra rb. no_seq h rb (λ ys. made Op.distl (length_of ys) 0 (seq (with_left x ys))))

pub apndr_atom : {C : List ℕ} {a b : Val} {m : Meter} → (a.tag ≡ 3 → ⊥) → LeafTwo C a b m (op Op.apndr) (stopped Bottom m) C
apndr_atom h = two_falls (λ x y o ra rb. no_seq h ra (λ xs. made Op.apndr (length_of xs) 0 (seq (xs +++ (y :: nil)))))

pub distr_atom : {C : List ℕ} {a b : Val} {m : Meter} → (a.tag ≡ 3 → ⊥) → LeafTwo C a b m (op Op.distr) (stopped Bottom m) C
distr_atom h = two_falls (λ x y o ra rb. no_seq h ra (λ xs. made Op.distr (length_of xs) 0 (seq (with_right xs y))))

-- a pair whose second is a sequence of n places
second_seq : {C C' : List ℕ} {a b : Val} {m : Meter} {n : ℕ} {r : Ended} (o : Op) → b.tag ≡ 3 → Sized b n → ((x : Obj) (ys : Objs) → n ≡ length_of ys → Room C m → Rep C (free C m) a x → Rep C (free C m) b (seq ys) → Gives C m C' (charged (meaning one (op o) (pair x (seq ys))) m) r) → (x y : Obj) → Room C m → Rep C (free C m) a x → Rep C (free C m) b y → Gives C m C' (charged (meaning one (op o) (pair x y)) m) r
second_seq {C} {m = m} o h s g x y room ra rb =
    let q = seq_of h rb in
    rw q.is (g x q.places (s.means C (free C m) q.places (free_under C m room) q.rep) room ra q.rep)

first_seq : {C C' : List ℕ} {a b : Val} {m : Meter} {n : ℕ} {r : Ended} (o : Op) → a.tag ≡ 3 → Sized a n → ((xs : Objs) (y : Obj) → n ≡ length_of xs → Room C m → Rep C (free C m) a (seq xs) → Rep C (free C m) b y → Gives C m C' (charged (meaning one (op o) (pair (seq xs) y)) m) r) → (x y : Obj) → Room C m → Rep C (free C m) a x → Rep C (free C m) b y → Gives C m C' (charged (meaning one (op o) (pair x y)) m) r
first_seq {C} {m = m} o h s g x y room ra rb =
    let q = seq_of h ra in
    rw q.is (g q.places y (s.means C (free C m) q.places (free_under C m room) q.rep) room q.rep rb)

pub apndl_short : {C : List ℕ} {a b : Val} {m : Meter} {s : Stopped} {n : ℕ} → b.tag ≡ 3 → Sized b n → Reserving C (op_code Op.apndl) n 0 m (Err s) → LeafTwo C a b m (op Op.apndl) (Err s) C
apndl_short h z g = record { sinks = tt; means = second_seq Op.apndl h z (λ x ys i room ra rb. let b = short Op.apndl g refl room in end_short 1 (seq (x :: ys)) refl b.0 b.1) }

pub apndl_is : {C C' : List ℕ} {a b r : Val} {m : Meter} {t : Reserved} {n : ℕ} → b.tag ≡ 3 → Sized b n → Reserving C (op_code Op.apndl) n 0 m (Ok t) → PutBefore C t.first a b r C' → length C' ≡ length C → LeafTwo C a b m (op Op.apndl) (reached r t.meter) C'
apndl_is h z g t l = record {
  sinks = kept_sinks (kept g);
  means = second_seq Op.apndl h z (λ x ys i room ra rb.
      let b = got Op.apndl g refl room in
      end_stands 1 (x :: ys) room refl b l (t.means x ys (space_at room b) (rw (← b.first) at ra) (rw (← b.first) at rb)));
}

-- ---- apndr
pub apndr_short : {C : List ℕ} {a b : Val} {m : Meter} {s : Stopped} {n : ℕ} → a.tag ≡ 3 → Sized a n → Reserving C (op_code Op.apndr) n 0 m (Err s) → LeafTwo C a b m (op Op.apndr) (Err s) C
apndr_short h z g = record {
  sinks = tt;
  means = first_seq Op.apndr h z (λ xs y i room ra rb.
      let b = rw i at (short Op.apndr g refl room) in
      end_short (length_of xs + 1) (seq (xs +++ (y :: nil))) refl b.0 b.1);
}

apndr_stands : {C C₁ C₂ : List ℕ} {a b o last r : Val} {n p : ℕ} (xs : Objs) (y : Obj) → n ≡ length_of xs → o ≡ sequence_val 0 0 → PutBefore C p b o last C₁ → length C₁ ≡ length C → Prepended C₁ a n (p + 1) last r C₂ → Space C p (length_of xs + 1) → Rep C p a (seq xs) → Rep C p b y → NewSequence C p (length_of xs + 1) (xs +++ (y :: nil)) r C₂
apndr_stands {C} {C₁} {C₂} {a} {b} {o} {last} {r} {n} {p} xs y i f t l g s ra rb =
    let st = t.means y nil (record { far = omega (arith, s.far); long = omega (arith, s.long) }) rb (nil_rep f) in
    let k = g.means xs (y :: nil) (omega arith) (record { far = omega (arith, s.far); long = omega (arith, s.long) }) (rep_ext st.same (omega arith) ra) st.rep in
    let e : p + 1 + n ≡ p + (length_of xs + 1) = omega arith in
    record { rep = subst (λ (z : ℕ). Rep C₂ z r (seq (xs +++ (y :: nil)))) e (subst (λ (t : Objs). Rep C₂ (p + 1 + n) r (seq (t +++ (y :: nil)))) (take_all n xs (omega arith)) k.rep); same = same_trans (omega arith) st.same k.same }

pub apndr_is : {C C₁ C₂ : List ℕ} {a b o last r : Val} {m : Meter} {t : Reserved} {n : ℕ} → a.tag ≡ 3 → Sized a n → Reserving C (op_code Op.apndr) n 0 m (Ok t) → o ≡ sequence_val 0 0 → PutBefore C t.first b o last C₁ → length C₁ ≡ length C → Prepended C₁ a n (t.first + 1) last r C₂ → length C₂ ≡ length C₁ → LeafTwo C a b m (op Op.apndr) (reached r t.meter) C₂
apndr_is h z g f t l u l₂ = record {
  sinks = kept_sinks (kept g);
  means = first_seq Op.apndr h z (λ xs y i room ra rb.
      let b = rw i at (got Op.apndr g refl room) in
      end_stands (length_of xs + 1) (xs +++ (y :: nil)) room refl b (l₂ ∙ l) (apndr_stands xs y i f t l u (space_at room b) (rw (← b.first) at ra) (rw (← b.first) at rb)));
}

pub low_next : {C : List ℕ} {code n w : ℕ} {m : Meter} {t : Reserved} → Reserving C code n w m (Ok t) → t.first + 1 < 4294967296
low_next g = omega (arith, (kept g).low)

-- ---- distl, distr
sides_left : (x : Obj) (ys : Objs) → sides true x ys ≡ with_left x ys
unfolding sides
sides_left x nil = refl
sides_left x (y :: ys) = ap (λ (t : Objs). pair x y :: t) (sides_left x ys)

sides_right : (x : Obj) (ys : Objs) → sides false x ys ≡ with_right ys x
unfolding sides
sides_right x nil = refl
sides_right x (y :: ys) = ap (λ (t : Objs). pair y x :: t) (sides_right x ys)

-- the pairs with one object, on either side of it, are what the word gives
shared_given : {C C' : List ℕ} {a v r : Val} {m k : Meter} {n p : ℕ} {left : Bool} {w : WordAnswer} (x : Obj) (ys zs : Objs) → n ≡ length_of ys → Room C m → Got C (3 * n) m p k → Shared C a v left n p r C' → length C' ≡ length C
    → Rep C (free C m) a x → Rep C (free C m) v (seq ys) → sides left x ys ≡ zs → w ≡ gives 0 (3 * length_of ys) (seq zs) → Gives C m C' (charged w m) (reached r k)
shared_given {n = n} {w = w} x ys zs i room d t l ra rv same e =
    end_stands {a = w} (3 * n) zs room (rw i e) d l (stands_as same (t.means x ys (sym i) (space_at room d) (rw (← d.first) at ra) (rw (← d.first) at rv)))

pub distl_short : {C : List ℕ} {a b : Val} {m : Meter} {s : Stopped} {n : ℕ} → b.tag ≡ 3 → Sized b n → Reserving C (op_code Op.distl) n 0 m (Err s) → LeafTwo C a b m (op Op.distl) (Err s) C
distl_short h z g = record {
  sinks = tt;
  means = second_seq Op.distl h z (λ x ys i room ra rb.
      let b = rw i at (short Op.distl g refl room) in
      end_short (3 * length_of ys) (seq (with_left x ys)) refl b.0 b.1);
}

pub distl_is : {C C' : List ℕ} {a b r : Val} {m : Meter} {t : Reserved} {n : ℕ} → b.tag ≡ 3 → Sized b n → Reserving C (op_code Op.distl) n 0 m (Ok t) → Shared C a b true n t.first r C' → length C' ≡ length C → LeafTwo C a b m (op Op.distl) (reached r t.meter) C'
distl_is h z g t l = record {
  sinks = kept_sinks (kept g);
  means = second_seq Op.distl h z (λ x ys i room ra rb. shared_given x ys (with_left x ys) i room (got Op.distl g refl room) t l ra rb (sides_left x ys) refl);
}

pub distr_short : {C : List ℕ} {a b : Val} {m : Meter} {s : Stopped} {n : ℕ} → a.tag ≡ 3 → Sized a n → Reserving C (op_code Op.distr) n 0 m (Err s) → LeafTwo C a b m (op Op.distr) (Err s) C
distr_short h z g = record {
  sinks = tt;
  means = first_seq Op.distr h z (λ xs y i room ra rb.
      let b = rw i at (short Op.distr g refl room) in
      end_short (3 * length_of xs) (seq (with_right xs y)) refl b.0 b.1);
}

pub distr_is : {C C' : List ℕ} {a b r : Val} {m : Meter} {t : Reserved} {n : ℕ} → a.tag ≡ 3 → Sized a n → Reserving C (op_code Op.distr) n 0 m (Ok t) → Shared C b a false n t.first r C' → length C' ≡ length C → LeafTwo C a b m (op Op.distr) (reached r t.meter) C'
distr_is h z g t l = record {
  sinks = kept_sinks (kept g);
  means = first_seq Op.distr h z (λ xs y i room ra rb. shared_given y xs (with_right xs y) i room (got Op.distr g refl room) t l rb ra (sides_right y xs) refl);
}
