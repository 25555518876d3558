-- A run on an object of document 01 that reaches an object reaches one of document 01.
use Prim.Native.Nat.{ℕ}
use mathlib.Core.Path.{◌≡◌, refl, subst}
use mathlib.Core.Bool.{Bool, true, false}
use mathlib.Core.List.{List, [], ◌∷◌}
use mathlib.Core.Option.{Option, some, none}
use native.Mathlib.Omega.{arith}
use Rattle.language.specs.declared.Meter.{Meter}
use Rattle.language.specs.Bytes.{same_bytes}
use Rattle.language.specs.Objects.{Obj}
use Rattle.language.specs.Forms.{Form, main_form, Prog}
use Rattle.language.specs.Numbers.{Edition}
use Rattle.language.specs.Meanings.{WordAnswer}
use Rattle.language.specs.Evaluation.{lookup, done, run}
use Rattle.language.specs.Accepted.{IsObj, AreObjs, IsForm, AreForms, AreDefinitions}
use Rattle.theorems.specs.Results.{ResultsAreObjects}
use Rattle.theorems.proofs.MeaningObjects.{Given, given_is, word_given}
use Rattle.theorems.proofs.Accepted.{accepted_means}
use Rattle.theorems.proofs.Reached.{ran_sound}
use Rattle.theorems.proofs.Ends.{Job, just, parts, items, each, fold, loop, Result, object, bottom, Ends, word_bottom, word_object, name_bottom, name_in, chain_in, construct_object, construct_bottom, constant_in, insert_fold, insert-nil, insert_int, insert_symbol, apply_all_object, apply_all_bottom, apply_all_int, apply_all_symbol, bu_in, condition_bottom, condition_no, condition_T, condition_F, while_in, parts_stop, parts_bottom, parts_go, items_stop, items_bottom, items_late, items_go, each_nil, each_bottom, each_late, each_go, fold_one, fold_bottom, fold_go, loop_bottom, loop_no, loop_F, loop_fell, loop_go}

-- the forms and objects of a job are such as texts hold
abbrev IsJob : Job → Type 0
IsJob (just f x) = IsForm f × IsObj x
IsJob (parts fs x) = AreForms fs × IsObj x
IsJob (items fs x) = AreForms fs × IsObj x
IsJob (each f xs) = IsForm f × AreObjs xs
IsJob (fold f x xs) = IsForm f × IsObj x × AreObjs xs
IsJob (loop p f x) = IsForm p × IsForm f × IsObj x

abbrev IsResult : Result → Type 0
IsResult (object v) = IsObj v
IsResult bottom = Unit {0}

data Found : Option Form → Type 0 where
  not_found : Found none
  found : {b : Form} → IsForm b → Found (some b)

found_is : {b : Form} → Found (some b) → IsForm b
found_is (found h) = h

lookup_found : (w : List ℕ) (P : Prog) → AreDefinitions P → Found (lookup w P)
lookup_found w [] h = not_found
lookup_found w (d ∷ ds) h = go (same_bytes w d.called) (lookup_found w ds h.2)
  where
    go : (t : Bool) → Found (lookup w ds) → Found (elim t as (λ (t : Bool). Option Form) [ true ↦ some d.body | false ↦ lookup w ds ])
    go true i = found h.1
    go false i = i

module _ (e : Edition) (P : Prog) (defs : AreDefinitions P) where
  pub keeps : {d : ℕ} {j : Job} {r : Result} {s c : ℕ} → Ends e P d j r s c → IsJob j → IsResult r
  keeps (word_bottom m) h = tt
  keeps (word_object {w = w} {x = x} m) h = given_is (subst (λ (a : WordAnswer). Given a) m (word_given e w x h.1))
  keeps (name_bottom m) h = tt
  keeps (name_in {w = w} m D) h = keeps D (found_is (subst (λ (o : Option Form). Found o) m (lookup_found w P defs)), h.1)
  keeps (chain_in D) h = keeps D (h.0.1, h.1)
  keeps (construct_object D) h = keeps D (h.0.1, h.1)
  keeps (construct_bottom D) h = tt
  keeps constant_in h = h.0
  keeps (insert_fold D) h = keeps D (h.0, h.1.0, h.1.1)
  keeps insert-nil h = tt
  keeps insert_int h = tt
  keeps insert_symbol h = tt
  keeps (apply_all_object D) h = keeps D (h.0, h.1)
  keeps (apply_all_bottom D) h = tt
  keeps apply_all_int h = tt
  keeps apply_all_symbol h = tt
  keeps (bu_in D) h = keeps D (h.0.0, (h.0.1, (h.1, tt)))
  keeps (condition_bottom D) h = tt
  keeps (condition_no D m) h = tt
  keeps (condition_T D m E) h = keeps E (h.0.1, h.1)
  keeps (condition_F D m E) h = keeps E (h.0.2, h.1)
  keeps (while_in D) h = keeps D (h.0.0, h.0.1, h.1)
  keeps parts_stop h = h.1
  keeps (parts_bottom D) h = tt
  keeps (parts_go D E) h = keeps E (h.0.0, keeps D (h.0.1, h.1))
  keeps items_stop h = tt
  keeps (items_bottom D) h = tt
  keeps (items_late D E) h = tt
  keeps (items_go D E) h = (keeps D (h.0.0, h.1), keeps E (h.0.1, h.1))
  keeps each_nil h = tt
  keeps (each_bottom D) h = tt
  keeps (each_late D E) h = tt
  keeps (each_go D E) h = (keeps D (h.0, h.1.0), keeps E (h.0, h.1.1))
  keeps fold_one h = h.1
  keeps (fold_bottom D) h = tt
  keeps (fold_go D E) h = keeps E (h.0, (h.1, (keeps D (h.0, h.2.0, h.2.1), tt)))
  keeps (loop_bottom D) h = tt
  keeps (loop_no D m) h = tt
  keeps (loop_F D m) h = h.2
  keeps (loop_fell D m E) h = tt
  keeps (loop_go D m E F) h = keeps F (h.0, h.1, keeps E (h.1, h.2))

-- `main` as a name that texts hold
main_is : IsForm main_form
main_is = (refl, refl, omega arith, refl)

pub reached_is : (e : Edition) (P : Prog) (x y : Obj) (b : Meter) (s c : ℕ) → AreDefinitions P → IsObj x → run e P x b ≡ done y s c → IsObj y
reached_is e P x y b s c defs h u =
    let K = ran_sound e P x b (object y) s c u in
    keeps e P defs K.ends (main_is, h)

pub results_are_objects : ResultsAreObjects
results_are_objects e P x y b s c A h u = reached_is e P x y b s c ((accepted_means P).0 A).0.definitions h u
