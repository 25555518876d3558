-- What stands in the table goes on to a later record, and a record says how many parts its form has.
use Prim.Native.Nat.{ℕ, ◌≤◌}
use mathlib.Core.Path.{◌≡◌}
use mathlib.Core.List.{List}
use native.Mathlib.Omega.{arith}
use Rattle.language.specs.Forms.{Form, Forms, count}
use Rattle.formtable.specs.Standing.{arity_at, parts, Row, row_op, row_select, row_select_right, row_name, row_chain, row_construct, row_insert, row_apply_all, row_condition, row_while, row_constant, row_bu, Stands, no_form, a_form}

pub stands_up : {t C : List ℕ} {n i e : ℕ} {fs : Forms} → Stands t C n i fs e → i ≤ e
stands_up no_form = omega arith
stands_up (a_form r s) = let h = stands_up s in omega arith

pub arity_of : {t C : List ℕ} {n i : ℕ} {f : Form} → Row t C n i f → arity_at t i ≡ count (parts f)
arity_of (row_op a b c) = b
arity_of (row_select a b c) = b
arity_of (row_select_right a b c) = b
arity_of (row_name a b c) = b
arity_of (row_chain a b c) = b
arity_of (row_construct a b c) = b
arity_of (row_insert a b c) = b
arity_of (row_apply_all a b c) = b
arity_of (row_condition a b c) = b
arity_of (row_while a b c) = b
arity_of (row_constant a b c r) = b
arity_of (row_bu a b c r) = b
