-- `find_word` gives the word of the first row that is spelled so. Assumes nothing.
use mathlib.Core.Path.{◌∙◌}
use Rattle.std.proofs.Common.{rules, bytes_eq, Bor}
use Rattle.std.proofs.lemmas.Iterator.{YieldsList-from_slice}
use Rattle.std.proofs.lemmas.Iterator.Search.{find_from_yields_List}
use Rattle.lexer.specs.declared.vocabulary.Row.{Row}
use Rattle.lexer.proofs.Words.{mapped, first_row}
use Rattle.lexer.proofs.vocabulary.find_word.Goals as goal

pub returns : goal.returns
returns c =
    let w = c.args.word.now in
    let e = find_from_yields_List (λ (r : Row). bytes_eq r.letters.now w) _ _ c.find.result c.find.ensures.ran (YieldsList-from_slice _ c.iter.ensures.rest) (λ x b q k. (search rules, search rules)) in
    mapped (λ (x : Bor Row). x.now.word) c.find.result c.map.result c.map.ensures.cases (λ x y h. search rules) ∙ first_row _ c.table-rows.ensures w c.find.result e
