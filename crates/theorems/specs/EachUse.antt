-- What each use of a law does to a program's size.
use Rattle.std.specs.Prelude.{ℕ, ◌≤◌, ◌<◌, ◌≡◌, List, length}
use Rattle.std.proofs.Math.Option.{some}
use Rattle.language.specs.Forms.{Prog, forms_of, program_cells}
use Rattle.language.specs.Numbers.{mark_limit, program_limit}
use Rattle.language.specs.Reading.{got, read_program}
use Rattle.language.specs.Writing.{write_program, marks_of_program}
use Rattle.language.specs.Laws.{Law}
use Rattle.language.specs.Uses.{apply_law}
use Rattle.language.specs.Accepted.{Accepted, WellFormed}

-- Fewer forms, a written text that is no longer, no more constants' cells, at most 32 marks; still well formed.
pub record Smaller (P Q : Prog) : Type 0 where
  pub fewer_forms : forms_of Q < forms_of P
  pub no_longer : length (write_program Q) ≤ length (write_program P)
  pub no_more_cells : program_cells Q ≤ program_cells P
  pub marks : marks_of_program Q ≤ mark_limit
  pub well_formed : WellFormed Q

abbrev pub EachUse : Type 0
EachUse = (l : Law) (i : ℕ) (P Q : Prog) → WellFormed P → apply_law l i P ≡ some Q → Smaller P Q

-- So its result is an accepted program.
abbrev pub UsesAccepted : Type 0
UsesAccepted = (l : Law) (i : ℕ) (P Q : Prog) → Accepted P → apply_law l i P ≡ some Q → Accepted Q

-- 8,192 bytes hold at most 4,093 cells of constants, so that 13 can't occur in a law call.
abbrev pub FewConstants : Type 0
FewConstants = (s : List ℕ) (P : Prog) (e : ℕ) → length s ≤ program_limit → read_program s ≡ got P e → program_cells P ≤ 4093
