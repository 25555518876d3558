-- `cells_by` gives the cells that the rule asks for.
use borrow.Author.Rules.{rules}
use Rattle.primitives.proofs.Asked.{asked_no_cell, asked_one, asked_less, asked_n, asked_more, asked_three, asked_rows, product_fits, rows_fit}
use Rattle.primitives.proofs.asking.cells_by.Goals as goal

pub overflow_mul-result-in-Rows : goal.overflow_mul-result-in-Rows
overflow_mul-result-in-Rows c = record { fits = product_fits _ _ (search rules) (search rules) }

pub overflow_add-result-in-Rows : goal.overflow_add-result-in-Rows
overflow_add-result-in-Rows c = record { fits = rows_fit _ _ (search rules) (search rules) }

pub returns-in-NoCell : goal.returns-in-NoCell
returns-in-NoCell c = search asked_no_cell

pub returns-in-One : goal.returns-in-One
returns-in-One c = search asked_one

pub returns-in-OneLess : goal.returns-in-OneLess
returns-in-OneLess c = rw c.saturating_sub.ensures (search asked_less)

pub returns-in-AsMany : goal.returns-in-AsMany
returns-in-AsMany c = search asked_n

pub returns-in-OneMore : goal.returns-in-OneMore
returns-in-OneMore c = search asked_more

pub returns-in-ThreeEach : goal.returns-in-ThreeEach
returns-in-ThreeEach c = asked_three c.in-ThreeEach.is

pub returns-in-Rows : goal.returns-in-Rows
returns-in-Rows c = search asked_rows
