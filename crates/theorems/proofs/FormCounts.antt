-- How many forms, parts and constants' cells there are in parts joined one behind the other; a form counts at least one.
use Prim.Native.Nat.{◌+◌, ◌≤◌}
use mathlib.Core.Path.{◌≡◌}
use native.Mathlib.Omega.{arith}
use Rattle.language.specs.Forms.{Form, word, name, chain, construct, constant, insert, apply_all, bu, condition, while, Forms, stop, ◌&◌, ◌+&◌, count, forms_in, forms_in_all, constant_cells_all}

pub forms_in_all-append : (fs gs : Forms) → forms_in_all (fs +& gs) ≡ forms_in_all fs + forms_in_all gs
forms_in_all-append stop gs = omega arith
forms_in_all-append (f & fs) gs = omega (arith, forms_in_all-append fs gs)

pub constant_cells_all-append : (fs gs : Forms) → constant_cells_all (fs +& gs) ≡ constant_cells_all fs + constant_cells_all gs
constant_cells_all-append stop gs = omega arith
constant_cells_all-append (f & fs) gs = omega (arith, constant_cells_all-append fs gs)

pub count-append : (fs gs : Forms) → count (fs +& gs) ≡ count fs + count gs
count-append stop gs = omega arith
count-append (f & fs) gs = omega (arith, count-append fs gs)

pub form_counted : (f : Form) → 1 ≤ forms_in f
form_counted (word w) = omega arith
form_counted (name w) = omega arith
form_counted (chain fs) = omega arith
form_counted (construct fs) = omega arith
form_counted (constant x) = omega arith
form_counted (insert f) = omega arith
form_counted (apply_all f) = omega arith
form_counted (bu f x) = omega arith
form_counted (condition p f g) = omega arith
form_counted (while p f) = omega arith
