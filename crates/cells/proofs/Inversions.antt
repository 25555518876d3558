-- A value that stands for an object has one of four tags, and the object is one that texts hold.
use Prim.Native.Nat.{ℕ, ◌<◌}
use mathlib.Core.List.{List}
use native.Mathlib.Omega.{arith}
use borrow.Author.Tests.{lt-ltb}
use Rattle.language.specs.Objects.{Obj}
use Rattle.language.specs.Accepted.{IsObj}
use Rattle.language.specs.declared.Val.{Val}
use Rattle.cells.specs.Cells.{Rep, rep_pos, rep_neg, rep_symbol, rep_nil, rep_more}

pub tag_low : {C : List ℕ} {n : ℕ} {v : Val} {x : Obj} → Rep C n v x → v.tag < 4
tag_low (rep_pos t e b) = omega arith
tag_low (rep_neg t e b) = omega arith
tag_low (rep_symbol t i e) = omega arith
tag_low (rep_nil t e) = omega arith
tag_low (rep_more t e l a b) = omega arith

-- what stands in cells is an object of the language
pub rep_object : {C : List ℕ} {n : ℕ} {v : Val} {x : Obj} → Rep C n v x → IsObj x
rep_object (rep_pos {k = k} t e b) = lt-ltb k 2147483648 b
rep_object (rep_neg {k = k} t e b) = lt-ltb k 2147483648 b
rep_object (rep_symbol t i e) = i
rep_object (rep_nil t e) = tt
rep_object (rep_more t e l a b) = (rep_object a, rep_object b)
