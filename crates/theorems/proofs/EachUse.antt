-- Every use of every law on a well-formed program gives fewer forms, a text that is no longer, no more constants' cells, at
-- most 32 marks, and a well-formed program.
use Prim.Native.Nat.{ℕ, ◌≤◌, ◌<◌}
use mathlib.Core.Path.{◌≡◌, refl}
use mathlib.Core.List.{List, [], ◌∷◌}
use mathlib.Core.Option.{some}
use lib.ListN.{length}
use native.Mathlib.Omega.{arith}
use Rattle.language.specs.Objects.{Obj}
use Rattle.language.specs.Forms.{Form, chain, construct, insert, apply_all, bu, condition, while, Forms, stop, ◌&◌, forms_in_all, constant_cells_all, Prog, forms_of, program_cells}
use Rattle.language.specs.Laws.{join_in, New, form_of, Law}
use Rattle.language.specs.Uses.{use_at}
use Rattle.language.specs.Accepted.{OneOrMore, AreForms, AreDefinitions, Different}
use Rattle.theorems.specs.EachUse.{EachUse}
use Rattle.theorems.proofs.Anywhere.{Passes, anywhere, OneBody, this, later, each_use}
use Rattle.theorems.proofs.WrittenLengths.{forms_bytes, comma_bytes, dotted_put, program_bytes, program-length}
use Rattle.theorems.proofs.ShrinkingLaws.{Shrinks, PartsShrink, behind, has_put, law_shrinks}

-- ---- what stands around the form

-- among the forms of a construction
record ShrunkItems (fs gs : Forms) : Type 0 where
  some_left : OneOrMore gs
  forms : forms_in_all gs < forms_in_all fs
  cells : constant_cells_all gs ≤ constant_cells_all fs
  bytes : forms_bytes gs ≤ forms_bytes fs
  commas : comma_bytes gs ≤ comma_bytes fs
  are_forms : AreForms gs

abbrev ItemsShrink : Forms → Forms → Type 0
ItemsShrink fs gs = AreForms fs → ShrunkItems fs gs

as_part : (f g : Form) (fs : Forms) → Shrinks f g → PartsShrink 0 (f & fs) (g & fs)
as_part f g fs r ok =
    let s = r ok.0 in
    record { parts = omega arith; forms = omega arith; cells = omega arith; bytes = omega arith; are_forms = (s.is_form, ok.1) }

joined_in : (f g : Form) (fs : Forms) → Shrinks f g → PartsShrink 0 (f & fs) (join_in g fs)
joined_in f g fs r ok =
    let s = r ok.0 in
    let j = has_put g fs s.is_form ok.1 in
    let d = dotted_put g fs s.is_form in
    record { parts = omega arith; forms = omega arith; cells = omega arith; bytes = omega arith; are_forms = j.are_forms }

inside_chain : (fs gs : Forms) → PartsShrink 0 fs gs → Shrinks (chain fs) (chain gs)
inside_chain stop gs r ok = absurd ok.0
inside_chain (f & stop) gs r ok = absurd ok.0
inside_chain (f & g & fs) stop r ok = let s = r ok.1 in absurd (omega arith)
inside_chain (f & g & fs) (a & stop) r ok = let s = r ok.1 in absurd (omega arith)
inside_chain (f & g & fs) (a & b & gs) r ok =
    let s = r ok.1 in
    record { forms = omega arith; cells = omega arith; bytes = omega arith; bracketed = omega arith; is_form = (tt, s.are_forms) }

as_item : (f g : Form) (fs : Forms) → Shrinks f g → ItemsShrink (f & fs) (g & fs)
as_item f g fs r ok =
    let s = r ok.0 in
    record { some_left = tt; forms = omega arith; cells = omega arith; bytes = omega arith; commas = omega arith; are_forms = (s.is_form, ok.1) }

behind_item : (f : Form) (fs gs : Forms) → ItemsShrink fs gs → ItemsShrink (f & fs) (f & gs)
behind_item f fs gs r ok =
    let s = r ok.1 in
    record { some_left = tt; forms = omega arith; cells = omega arith; bytes = omega arith; commas = omega arith; are_forms = (ok.0, s.are_forms) }

inside_construct : (fs gs : Forms) → ItemsShrink fs gs → Shrinks (construct fs) (construct gs)
inside_construct fs gs r ok =
    let s = r ok.1 in
    record { forms = omega arith; cells = omega arith; bytes = omega arith; bracketed = omega arith; is_form = (s.some_left, s.are_forms) }

inside_insert : (f g : Form) → Shrinks f g → Shrinks (insert f) (insert g)
inside_insert f g r ok =
    let s = r ok in
    record { forms = omega arith; cells = omega arith; bytes = omega arith; bracketed = omega arith; is_form = s.is_form }

inside_apply_all : (f g : Form) → Shrinks f g → Shrinks (apply_all f) (apply_all g)
inside_apply_all f g r ok =
    let s = r ok in
    record { forms = omega arith; cells = omega arith; bytes = omega arith; bracketed = omega arith; is_form = s.is_form }

inside_bu : (x : Obj) (f g : Form) → Shrinks f g → Shrinks (bu f x) (bu g x)
inside_bu x f g r ok =
    let s = r ok.0 in
    record { forms = omega arith; cells = omega arith; bytes = omega arith; bracketed = omega arith; is_form = (s.is_form, ok.1) }

inside_test : (g h p q : Form) → Shrinks p q → Shrinks (condition p g h) (condition q g h)
inside_test g h p q r ok =
    let s = r ok.0 in
    record { forms = omega arith; cells = omega arith; bytes = omega arith; bracketed = omega arith; is_form = (s.is_form, ok.1, ok.2) }

inside_then : (p h f g : Form) → Shrinks f g → Shrinks (condition p f h) (condition p g h)
inside_then p h f g r ok =
    let s = r ok.1 in
    record { forms = omega arith; cells = omega arith; bytes = omega arith; bracketed = omega arith; is_form = (ok.0, s.is_form, ok.2) }

inside_else : (p f g h : Form) → Shrinks g h → Shrinks (condition p f g) (condition p f h)
inside_else p f g h r ok =
    let s = r ok.2 in
    record { forms = omega arith; cells = omega arith; bytes = omega arith; bracketed = omega arith; is_form = (ok.0, ok.1, s.is_form) }

inside_while_test : (f p q : Form) → Shrinks p q → Shrinks (while p f) (while q f)
inside_while_test f p q r ok =
    let s = r ok.0 in
    record { forms = omega arith; cells = omega arith; bytes = omega arith; bracketed = omega arith; is_form = (s.is_form, ok.1) }

inside_while_body : (p f g : Form) → Shrinks f g → Shrinks (while p f) (while p g)
inside_while_body p f g r ok =
    let s = r ok.1 in
    record { forms = omega arith; cells = omega arith; bytes = omega arith; bracketed = omega arith; is_form = (ok.0, s.is_form) }

shrinking_passes : Passes Shrinks (PartsShrink 0) ItemsShrink
shrinking_passes = record {
  part = λ {f} {g} fs r. as_part f g fs r;
  joined = λ {f} {g} fs r. joined_in f g fs r;
  behind_part = λ f {fs} {gs} r. behind 0 f fs gs r;
  in_chain_lem = λ {fs} {gs} r. inside_chain fs gs r;
  item = λ {f} {g} fs r. as_item f g fs r;
  behind_item = λ f {fs} {gs} r. behind_item f fs gs r;
  in_construct = λ {fs} {gs} r. inside_construct fs gs r;
  in_insert = λ {f} {g} r. inside_insert f g r;
  in_apply_all = λ {f} {g} r. inside_apply_all f g r;
  in_bu = λ x {f} {g} r. inside_bu x f g r;
  in_test = λ g h {p} {q} r. inside_test g h p q r;
  in_then = λ p h {f} {g} r. inside_then p h f g r;
  in_else = λ p f {g} {h} r. inside_else p f g h r;
  in_while_test = λ f {p} {q} r. inside_while_test f p q r;
  in_while_body = λ p {f} {g} r. inside_while_body p f g r;
}

-- at every place
pub use_shrinks : (f : Form) (l : Law) (i : ℕ) (n : New) → use_at f l i ≡ some n → Shrinks f (form_of n)
use_shrinks f l i n u = anywhere Shrinks (PartsShrink 0) ItemsShrink shrinking_passes law_shrinks f l i n u

-- ---- in a program

record ShrunkProgram (P Q : Prog) : Type 0 where
  forms : forms_of Q < forms_of P
  cells : program_cells Q ≤ program_cells P
  bytes : program_bytes Q ≤ program_bytes P
  number : length Q ≡ length P
  definitions : AreDefinitions Q
  different : (earlier : List (List ℕ)) → Different earlier P → Different earlier Q

one_body : {P Q : Prog} → OneBody Shrinks P Q → AreDefinitions P → ShrunkProgram P Q
one_body (this d ds f r) ok =
    let s = r ok.1 in
    record {
      forms = omega arith;
      cells = omega arith;
      bytes = omega arith;
      number = refl;
      definitions = (ok.0, s.is_form, ok.2);
      different = λ earlier h. h;
    }
one_body (later d {ds} {es} c) ok =
    let s = one_body c ok.2 in
    record {
      forms = omega arith;
      cells = omega arith;
      bytes = omega arith;
      number = omega arith;
      definitions = (ok.0, ok.1, s.definitions);
      different = λ earlier h. (h.0, s.different (d.called ∷ earlier) h.1);
    }

pub each_use_shrinks : EachUse
each_use_shrinks l i P Q wf u =
    let U = each_use Shrinks use_shrinks l i P Q u in
    let s = one_body U.change wf.definitions in
    record {
      fewer_forms = s.forms;
      no_longer = omega (arith, program-length P, program-length Q);
      no_more_cells = s.cells;
      marks = U.marks;
      well_formed = record {
        definitions = s.definitions;
        different = s.different [] wf.different;
        few_forms = omega arith;
        few_definitions = omega arith;
        few_marks = U.marks;
      };
    }
