-- A word's code is its row's place in the table. Assumes nothing.
use Rattle.std.proofs.Common.{rules, Bor}
use Rattle.lexer.specs.declared.vocabulary.Row.{Row}
use Rattle.lexer.proofs.Words.{mapped, by_place}
use Rattle.lexer.proofs.vocabulary.PrimitiveTryFromU32.try_from.Goals as goal

pub returns : goal.returns
returns c =
    let e = mapped (λ (x : Bor Row). x.now.word) c.get.result c.map.result c.map.ensures.cases (λ x y h. search rules) in
    let g = c.get.ensures.lookup in
    rw (c.ok_or.ensures.value, e) (by_place _ c.table-rows.ensures c.args.code c.get.result g.0 g.1)
