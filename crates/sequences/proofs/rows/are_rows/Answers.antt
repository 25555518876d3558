use Rattle.sequences.proofs.Transposing.{rows_atom, rows_uneven, rows_next, rows_end}
use Rattle.sequences.proofs.rows.are_rows.Goals.{then-not-is_sequence-via-then-not-is_sequence, then-not-is_sequence-via-else-not-is_sequence+then-size-w}
use Rattle.sequences.proofs.rows.are_rows.Goals as goal

pub returns-then-not-is_sequence : goal.returns-then-not-is_sequence
returns-then-not-is_sequence c = elim c.then-not-is_sequence.branch [
  | then-not-is_sequence-via-then-not-is_sequence w ↦ search rows_atom
  | then-not-is_sequence-via-else-not-is_sequence+then-size-w w ↦ search rows_uneven
]

pub loop-preserved : goal.loop-preserved
loop-preserved c = search rows_next

pub returns : goal.returns
returns c = search rows_end
