-- The end of an application and the answer of the run: 20 to 26, with the steps and cells counted.
use Prim.Native.Nat.{ℕ, ◌-◌}
use mathlib.Core.Path.{◌≡◌, refl}
use mathlib.Core.List.{List}
use Rattle.language.specs.Objects.{Obj}
use Rattle.language.specs.Evaluation.{Out, no_step, no_name, no_cell}
use Rattle.language.specs.Answers.{counting}
use Rattle.language.specs.declared.Meter.{Meter}
use Rattle.language.specs.declared.Answer.{Answer}
use Rattle.cells.specs.Cells.{free}
use Rattle.std.specs.Prelude.{Ok, Err}
use Rattle.language.specs.Stops.{number_of_stop}
use Rattle.language.specs.declared.stops.Stopped.{Stopped}
use Rattle.primitives.specs.declared.Reached.{Reached}
use Rattle.primitives.specs.Ends.{Ended, Gives, gives_value, gives_bottom, gives_spent}
use Rattle.primitives.proofs.Ending.{free_under}
use Rattle.nattglod.specs.Calls.{lends, EndAnswered}
use Rattle.nattglod.specs.Stages.{EndMet, WrittenAnswered}

module _ {b : Meter} {output : List ℕ} where
  stopped : {C C' : List ℕ} {m : Meter} {s : Stopped} (forms cells : List ℕ) {o : Out Obj} → Gives C m C' o (Err s)
      → EndAnswered b (lends forms cells output) o (counting (number_of_stop s.why) (b.steps - s.meter.steps) (b.cells - s.meter.cells) 0) output
  stopped forms cells (gives_bottom e g) = record { answer = rw (e, g.steps, g.cells); output_after = refl }
  stopped forms cells (gives_spent {w = no_step} e g) = record { answer = rw (e, g.steps, g.cells); output_after = refl }
  stopped forms cells (gives_spent {w = no_name} e g) = record { answer = rw (e, g.steps, g.cells); output_after = refl }
  stopped forms cells (gives_spent {w = no_cell} e g) = record { answer = rw (e, g.steps, g.cells); output_after = refl }

  pub end_stopped : {C' : List ℕ} {e : Ended} {n s c : ℕ} {z : Stopped} {r : Answer} → e ≡ Err z → n ≡ number_of_stop z.why → s ≡ b.steps - z.meter.steps → c ≡ b.cells - z.meter.cells → r ≡ counting n s c 0 → EndMet b C' e output r output
  end_stopped q h i j a = record { means = λ C m o forms cells g. rw (a, h, i, j) (stopped forms cells (rw q at g)) }

  wrote : {C C' : List ℕ} {m : Meter} {y : Reached} {output' : List ℕ} {r : Answer} (forms cells : List ℕ) {o : Out Obj} → Gives C m C' o (Ok y)
      → WrittenAnswered C' y.value (b.steps - y.meter.steps) (b.cells - y.meter.cells) output r output' → EndAnswered b (lends forms cells output) o r output'
  wrote {C' = C'} {y = y} forms cells (gives_value {x = x} M) W =
      let l = free_under C' y.meter M.room in
      record { answer = W.answer (free C' y.meter) x forms cells l M.rep; output_after = W.output_after (free C' y.meter) x forms cells l M.rep }

  pub end_wrote : {C' : List ℕ} {e : Ended} {s c : ℕ} {y : Reached} {output' : List ℕ} {r : Answer} → e ≡ Ok y → s ≡ b.steps - y.meter.steps → c ≡ b.cells - y.meter.cells
      → WrittenAnswered C' y.value s c output r output' → EndMet b C' e output r output'
  end_wrote q i j W = record { means = λ C m o forms cells g. wrote forms cells (rw q at g) (rw (i, j) at W) }
