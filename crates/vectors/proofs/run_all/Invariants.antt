-- No more agree than were run.
use Rattle.std.proofs.Common.{◌≤◌}
use Rattle.vectors.proofs.run_all.Given as goal

abbrev pub invariant-loop-all : goal.invariant-loop-all
invariant-loop-all l = l.good ≤ l.all
