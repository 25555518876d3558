-- `multiply` gives the product.
use borrow.Author.Rules.{rules}
use Rattle.arithmetic.proofs.Signs.{multiply_alike, multiply_apart, product_fits}
use Rattle.arithmetic.proofs.multiply.Goals as goal

pub overflow_mul-n : goal.overflow_mul-n
overflow_mul-n c = record { fits = product_fits _ _ (search rules) (search rules) }

pub returns-then-a-b : goal.returns-then-a-b
returns-then-a-b c = search multiply_alike

pub returns : goal.returns
returns c = search multiply_apart
