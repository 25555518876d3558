-- Places of a sequence that are let wait in the ring, one after the other.
use Prim.Native.Nat.{ℕ, suc, ◌+◌, ◌-◌, ◌≤◌, ◌<◌}
use native.Mathlib.Omega.{arith}
use native.Mathlib.Numerals.{add-one}
use mathlib.Core.Path.{◌≡◌, refl, ◌∙◌}
use mathlib.Core.Bool.{Bool, true, false}
use mathlib.Core.List.{List}
use borrow.Author.Tests.{ltb-true, ltb-false}
use lib.ListN.{length}
use lib.Dec.{ltb}
use Rattle.language.specs.Objects.{Objs, seq, length_of, nth_obj}
use Rattle.language.specs.declared.Val.{Val}
use Rattle.cells.specs.Cells.{Rep}
use Rattle.cells.specs.Parts.{held_at, hold_at, Headed, Tailed, Nth, drop_objs}
use Rattle.cells.proofs.Places.{drop_first}
use Rattle.cells.proofs.Ring.{hold_length, hold_same, hold_other}
use Rattle.evaluator.specs.Applying.{Spread}

-- s stands for what follows the first q places of v
pub record Along (C : List ℕ) (v : Val) (k : ℕ) (s : Val) (q : ℕ) : Type 0 where
  pub most : q ≤ k
  pub means : (n : ℕ) (xs : Objs) → n < 4294967296 → k < length_of xs → Rep C n v (seq xs) → Rep C n s (seq (drop_objs xs q))

along_start : {C : List ℕ} {v : Val} {k : ℕ} → Along C v k v 0
unfolding drop_objs
along_start = record { most = omega arith; means = λ n xs u l r. r }

-- the place that follows them, and what follows that
along_here : {C : List ℕ} {v s x : Val} {k q : ℕ} (n : ℕ) (xs : Objs) → q ≤ k → Along C v k s q → Headed C s x → n < 4294967296 → k < length_of xs → Rep C n v (seq xs) → Rep C n x (nth_obj xs q)
along_here {q = q} n xs h w t u l r = t.means n (nth_obj xs q) (drop_objs xs (suc q)) u (rw (drop_first xs q (omega arith)) at (w.means n xs u l r))

along_next : {C : List ℕ} {v s s₁ : Val} {k q : ℕ} → q < k → Along C v k s q → Tailed C s s₁ → Along C v k s₁ (q + 1)
along_next {q = q} h w t = record { most = omega arith; means = λ n xs u l r. rw add-one (t.means n (nth_obj xs q) (drop_objs xs (suc q)) u (rw (drop_first xs q (omega arith)) at (w.means n xs u l r))) }

along_end : {C : List ℕ} {v s r : Val} {k q : ℕ} → k ≤ q → Along C v k s q → Headed C s r → Nth C v k r
along_end {k = k} {q = q} h w t =
    let z : q ≡ k = omega (arith, w.most) in
    record { means = λ n xs u l r. rw (← z) (along_here n xs (omega arith) w t u l r) }

-- the first q places of v wait, and s stands for what follows them
pub record Spreading (C W₀ : List ℕ) (top k : ℕ) (v : Val) (W : List ℕ) (s : Val) (q : ℕ) : Type 0 where
  pub walk : Along C v k s q
  pub long : length W ≡ length W₀
  pub held : (n : ℕ) (xs : Objs) → n < 4294967296 → k < length_of xs → Rep C n v (seq xs) → length W₀ ≡ 16384 → (j : ℕ) → j < q → q ≤ j + 4096 → Rep C n (held_at W (top + j)) (nth_obj xs j)
  pub others : (d : ℕ) → 1 ≤ d → d + q ≤ 4096 → held_at W (top + (4096 - d)) ≡ held_at W₀ (top + (4096 - d))

pub spread_start : {C W : List ℕ} {top k : ℕ} {v : Val} → Spreading C W top k v W v 0
spread_start = record { walk = along_start; long = refl; held = λ n xs u l r w j h z. absurd (omega arith); others = λ d h z. refl }

held_next : {C W₀ W : List ℕ} {top k : ℕ} {v s x : Val} (q n : ℕ) (xs : Objs) → q < k → Spreading C W₀ top k v W s q → Headed C s x → n < 4294967296 → k < length_of xs → Rep C n v (seq xs) → length W₀ ≡ 16384 → (j : ℕ) → j < q + 1 → q + 1 ≤ j + 4096 → Rep C n (held_at (hold_at W (top + q) x) (top + j)) (nth_obj xs j)
held_next {C} {W = W} {top} {x = x} q n xs h b t u l r w j a z = go (ltb j q) refl
  where
    go : (c : Bool) → ltb j q ≡ c → Rep C n (held_at (hold_at W (top + q) x) (top + j)) (nth_obj xs j)
    go true e = let f = ltb-true j q e in rw (hold_other W (top + q) x (top + j) (λ y. omega arith)) (b.held n xs u l r w j f (omega arith))
    go false e =
        let f : j ≡ q = omega (arith, ltb-false j q e) in
        rw (f, hold_same W (top + q) x (b.long ∙ w)) (along_here n xs (omega arith) b.walk t u l r)

pub spread_next : {C W₀ W W₁ : List ℕ} {top k q : ℕ} {v s s₁ x : Val} → q < k → Spreading C W₀ top k v W s q → Headed C s x → W₁ ≡ hold_at W (top + q) x → Tailed C s s₁ → Spreading C W₀ top k v W₁ s₁ (q + 1)
spread_next {W = W} {top = top} {q = q} {x = x} h b t e tl =
    rw e (record {
      walk = along_next h b.walk tl;
      long = hold_length W (top + q) x ∙ b.long;
      held = λ n xs u l r w j a z. held_next q n xs h b t u l r w j a z;
      others = λ d a z. hold_other W (top + q) x (top + (4096 - d)) (λ y. omega arith) ∙ b.others d a (omega arith);
    })

pub spread_end : {C W₀ W : List ℕ} {top k q : ℕ} {v s r : Val} → k ≤ q → Spreading C W₀ top k v W s q → Headed C s r → Spread C W₀ top k v r W
spread_end {k = k} {q = q} h b t = record {
  last = along_end h b.walk t;
  long = b.long;
  held = λ n xs u l r w j a z. b.held n xs u l r w j (omega arith) (omega (arith, b.walk.most));
  others = λ d a z. b.others d a (omega (arith, b.walk.most));
}
