-- Accepted programs: what they are, that they read back, and that a law's result is one.
use native.Mathlib.Omega.{arith}
use lib.ListN.{length}
use Rattle.language.specs.Writing.{write_program}
use Rattle.theorems.specs.ReadBack.{AcceptedMeans, AcceptedReadBack, UsesReadBack}
use Rattle.theorems.specs.EachUse.{UsesAccepted}
use Rattle.theorems.proofs.ProgramsBack.{programs_read_back}
use Rattle.theorems.proofs.ProgramsRead.{programs_read}
use Rattle.theorems.proofs.EachUse.{each_use_shrinks}

pub accepted_means : AcceptedMeans
accepted_means P = (
  λ A. let R = programs_read A.text P (length A.text) A.reads in (R.well_formed, omega (arith, R.no_longer, A.short)),
  λ W h. record { text = write_program P; short = h; reads = programs_read_back P W },
)

pub accepted_back : AcceptedReadBack
accepted_back P A = programs_read_back P ((accepted_means P).0 A).0

pub uses_accepted : UsesAccepted
uses_accepted l i P Q A u =
    let M = (accepted_means P).0 A in
    let S = each_use_shrinks l i P Q M.0 u in
    (accepted_means Q).1 S.well_formed (omega (arith, S.no_longer, M.1))

pub uses_back : UsesReadBack
uses_back l i P Q A u = accepted_back Q (uses_accepted l i P Q A u)
