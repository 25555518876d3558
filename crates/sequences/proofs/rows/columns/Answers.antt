-- `columns` gives all columns: the rows are spread, and the columns that begin in the first row are listed.
use Rattle.sequences.proofs.Transposing.{columns_none, columns_is}
use Rattle.sequences.proofs.rows.columns.Goals as goal

pub returns-then-w-eq0 : goal.returns-then-w-eq0
returns-then-w-eq0 c = search columns_none

pub returns : goal.returns
returns c = search columns_is
