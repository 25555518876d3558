-- What ends, free of budgets: a job's result with its exact steps and cells, with the most names open at once below it.
use Prim.Native.Nat.{ℕ, suc, ◌+◌, max}
use mathlib.Core.Path.{◌≡◌, subst₃}
use mathlib.Core.List.{List}
use mathlib.Core.Option.{some, none}
use lib.IntN.{ℤ}
use Rattle.language.specs.Objects.{Obj, int, symbol, seq, Objs, nil, ◌::◌, length_of, truth_of, is_T, is_F, neither}
use Rattle.language.specs.Forms.{Word, Form, word, name, chain, construct, constant, insert, apply_all, bu, condition, while, Forms, stop, ◌&◌, Prog}
use Rattle.language.specs.Numbers.{Edition}
use Rattle.language.specs.Meanings.{falls, gives, meaning, pair}
use Rattle.language.specs.Evaluation.{lookup}
pub use Rattle.theorems.specs.Demand3.{Result, object, bottom}

-- What is done: one application; the parts of a chain, of which the last comes first; the forms of a construction; `@f` on
-- each object; `/f` on a first object and those behind it; the rounds of a while.
pub data Job : Type 0 where
  just : Form → Obj → Job
  parts : Forms → Obj → Job
  items : Forms → Obj → Job
  each : Form → Objs → Job
  fold : Form → Obj → Objs → Job
  loop : Form → Form → Obj → Job

module _ (e : Edition) (P : Prog) where
  -- the most names open at once, the job, its result, the steps, the cells
  pub data Ends : ℕ → Job → Result → ℕ → ℕ → Type 0 where
    word_bottom : {w : Word} {x : Obj} → meaning e w x ≡ falls → Ends 0 (just (word w) x) bottom 1 0
    word_object : {w : Word} {x v : Obj} {s c : ℕ} → meaning e w x ≡ gives s c v → Ends 0 (just (word w) x) (object v) (suc s) c
    name_bottom : {w : List ℕ} {x : Obj} → lookup w P ≡ none → Ends 0 (just (name w) x) bottom 1 0
    name_in : {d : ℕ} {w : List ℕ} {b : Form} {x : Obj} {r : Result} {s c : ℕ} → lookup w P ≡ some b → Ends d (just b x) r s c
        → Ends (suc d) (just (name w) x) r (suc s) c
    chain_in : {d : ℕ} {fs : Forms} {x : Obj} {r : Result} {s c : ℕ} → Ends d (parts fs x) r s c → Ends d (just (chain fs) x) r (suc s) c
    construct_object : {d : ℕ} {fs : Forms} {x : Obj} {ys : Objs} {s c : ℕ} → Ends d (items fs x) (object (seq ys)) s c
        → Ends d (just (construct fs) x) (object (seq ys)) (suc s) (c + length_of ys)
    construct_bottom : {d : ℕ} {fs : Forms} {x : Obj} {s c : ℕ} → Ends d (items fs x) bottom s c → Ends d (just (construct fs) x) bottom (suc s) c
    constant_in : {y x : Obj} → Ends 0 (just (constant y) x) (object y) 1 0
    insert_fold : {d : ℕ} {f : Form} {y : Obj} {ys : Objs} {r : Result} {s c : ℕ} → Ends d (fold f y ys) r s c → Ends d (just (insert f) (seq (y :: ys))) r (suc s) c
    insert-nil : {f : Form} → Ends 0 (just (insert f) (seq nil)) bottom 1 0
    insert_int : {f : Form} {z : ℤ} → Ends 0 (just (insert f) (int z)) bottom 1 0
    insert_symbol : {f : Form} {z : List ℕ} → Ends 0 (just (insert f) (symbol z)) bottom 1 0
    apply_all_object : {d : ℕ} {f : Form} {xs ys : Objs} {s c : ℕ} → Ends d (each f xs) (object (seq ys)) s c
        → Ends d (just (apply_all f) (seq xs)) (object (seq ys)) (suc s) (c + length_of ys)
    apply_all_bottom : {d : ℕ} {f : Form} {xs : Objs} {s c : ℕ} → Ends d (each f xs) bottom s c → Ends d (just (apply_all f) (seq xs)) bottom (suc s) c
    apply_all_int : {f : Form} {z : ℤ} → Ends 0 (just (apply_all f) (int z)) bottom 1 0
    apply_all_symbol : {f : Form} {z : List ℕ} → Ends 0 (just (apply_all f) (symbol z)) bottom 1 0
    bu_in : {d : ℕ} {f : Form} {y x : Obj} {r : Result} {s c : ℕ} → Ends d (just f (pair y x)) r s c → Ends d (just (bu f y) x) r (suc s) (2 + c)
    condition_bottom : {d : ℕ} {p f g : Form} {x : Obj} {s c : ℕ} → Ends d (just p x) bottom s c → Ends d (just (condition p f g) x) bottom (suc s) c
    condition_no : {d : ℕ} {p f g : Form} {x b : Obj} {s c : ℕ} → Ends d (just p x) (object b) s c → truth_of b ≡ neither
        → Ends d (just (condition p f g) x) bottom (suc s) c
    condition_T : {d d' : ℕ} {p f g : Form} {x b : Obj} {r : Result} {s c s' c' : ℕ} → Ends d (just p x) (object b) s c → truth_of b ≡ is_T → Ends d' (just f x) r s' c'
        → Ends (max d d') (just (condition p f g) x) r (suc (s + s')) (c + c')
    condition_F : {d d' : ℕ} {p f g : Form} {x b : Obj} {r : Result} {s c s' c' : ℕ} → Ends d (just p x) (object b) s c → truth_of b ≡ is_F → Ends d' (just g x) r s' c'
        → Ends (max d d') (just (condition p f g) x) r (suc (s + s')) (c + c')
    while_in : {d : ℕ} {p f : Form} {x : Obj} {r : Result} {s c : ℕ} → Ends d (loop p f x) r s c → Ends d (just (while p f) x) r (suc s) c
    parts_stop : {x : Obj} → Ends 0 (parts stop x) (object x) 0 0
    parts_bottom : {d : ℕ} {f : Form} {fs : Forms} {x : Obj} {s c : ℕ} → Ends d (parts fs x) bottom s c → Ends d (parts (f & fs) x) bottom s c
    parts_go : {d d' : ℕ} {f : Form} {fs : Forms} {x y : Obj} {r : Result} {s c s' c' : ℕ} → Ends d (parts fs x) (object y) s c → Ends d' (just f y) r s' c'
        → Ends (max d d') (parts (f & fs) x) r (s + s') (c + c')
    items_stop : {x : Obj} → Ends 0 (items stop x) (object (seq nil)) 0 0
    items_bottom : {d : ℕ} {f : Form} {fs : Forms} {x : Obj} {s c : ℕ} → Ends d (just f x) bottom s c → Ends d (items (f & fs) x) bottom s c
    items_late : {d d' : ℕ} {f : Form} {fs : Forms} {x y : Obj} {s c s' c' : ℕ} → Ends d (just f x) (object y) s c → Ends d' (items fs x) bottom s' c'
        → Ends (max d d') (items (f & fs) x) bottom (s + s') (c + c')
    items_go : {d d' : ℕ} {f : Form} {fs : Forms} {x y : Obj} {ys : Objs} {s c s' c' : ℕ} → Ends d (just f x) (object y) s c
        → Ends d' (items fs x) (object (seq ys)) s' c' → Ends (max d d') (items (f & fs) x) (object (seq (y :: ys))) (s + s') (c + c')
    each_nil : {f : Form} → Ends 0 (each f nil) (object (seq nil)) 0 0
    each_bottom : {d : ℕ} {f : Form} {x : Obj} {xs : Objs} {s c : ℕ} → Ends d (just f x) bottom s c → Ends d (each f (x :: xs)) bottom s c
    each_late : {d d' : ℕ} {f : Form} {x y : Obj} {xs : Objs} {s c s' c' : ℕ} → Ends d (just f x) (object y) s c → Ends d' (each f xs) bottom s' c'
        → Ends (max d d') (each f (x :: xs)) bottom (s + s') (c + c')
    each_go : {d d' : ℕ} {f : Form} {x y : Obj} {xs ys : Objs} {s c s' c' : ℕ} → Ends d (just f x) (object y) s c → Ends d' (each f xs) (object (seq ys)) s' c'
        → Ends (max d d') (each f (x :: xs)) (object (seq (y :: ys))) (s + s') (c + c')
    fold_one : {f : Form} {x : Obj} → Ends 0 (fold f x nil) (object x) 0 0
    fold_bottom : {d : ℕ} {f : Form} {x y : Obj} {ys : Objs} {s c : ℕ} → Ends d (fold f y ys) bottom s c → Ends d (fold f x (y :: ys)) bottom s c
    fold_go : {d d' : ℕ} {f : Form} {x y z : Obj} {ys : Objs} {r : Result} {s c s' c' : ℕ} → Ends d (fold f y ys) (object z) s c → Ends d' (just f (pair x z)) r s' c'
        → Ends (max d d') (fold f x (y :: ys)) r (s + s') (c + (2 + c'))
    loop_bottom : {d : ℕ} {p f : Form} {x : Obj} {s c : ℕ} → Ends d (just p x) bottom s c → Ends d (loop p f x) bottom s c
    loop_no : {d : ℕ} {p f : Form} {x b : Obj} {s c : ℕ} → Ends d (just p x) (object b) s c → truth_of b ≡ neither → Ends d (loop p f x) bottom s c
    loop_F : {d : ℕ} {p f : Form} {x b : Obj} {s c : ℕ} → Ends d (just p x) (object b) s c → truth_of b ≡ is_F → Ends d (loop p f x) (object x) s c
    loop_fell : {d d' : ℕ} {p f : Form} {x b : Obj} {s c s' c' : ℕ} → Ends d (just p x) (object b) s c → truth_of b ≡ is_T → Ends d' (just f x) bottom s' c'
        → Ends (max d d') (loop p f x) bottom (s + s') (c + c')
    loop_go : {d d' d'' : ℕ} {p f : Form} {x b y : Obj} {r : Result} {s c s' c' s'' c'' : ℕ} → Ends d (just p x) (object b) s c → truth_of b ≡ is_T
        → Ends d' (just f x) (object y) s' c' → Ends d'' (loop p f y) r s'' c'' → Ends (max d (max d' d'')) (loop p f x) r (s + (s' + s'')) (c + (c' + c''))

  -- the same end, its counts written in another way
  pub recount : {d s c d₁ s₁ c₁ : ℕ} {j : Job} {r : Result} → d ≡ d₁ → s ≡ s₁ → c ≡ c₁ → Ends d j r s c → Ends d₁ j r s₁ c₁
  recount {j = j} {r = r} h p q D = subst₃ (λ (t u v : ℕ). Ends t j r u v) h p q D
