-- `past` stops behind the bytes of a class. Assumes nothing.
use Rattle.std.proofs.Common.{rules, tests, ◌≡◌, true, false}
use Rattle.std.proofs.lemmas.Iterator.{first_from_Range}
use lib.ListN.{get_or}
use Rattle.lexer.specs.Classes.{test_of}
use Rattle.lexer.proofs.Sizes.{spanned_to}
use Rattle.lexer.proofs.reader.past.Goals as goal

pub returns : goal.returns
returns c =
    let s = c.args.s.now in
    let P = test_of c.args.class in
    let m = first_from_Range _ _ _ c.find.result (λ i. P (get_or s i 0) ≡ false) (λ i. P (get_or s i 0) ≡ true) c.find.ensures.ran (λ x q k. search (rules, tests)) (λ x q k. search (rules, tests)) in
    rw c.unwrap_or.ensures (spanned_to c.args.class s c.args.from _ c.find.result c.max.ensures m)
