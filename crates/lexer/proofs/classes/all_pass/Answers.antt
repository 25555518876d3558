-- `all_pass` says whether all bytes of a word are of a class. Assumes nothing.
use mathlib.Core.Path.{◌≡◌, ◌∙◌, sym}
use Rattle.std.proofs.Common.{rules, tests}
use Rattle.std.proofs.lemmas.Iterator.{YieldsList-from_slice}
use Rattle.std.proofs.lemmas.Iterator.Search.{all_from_yields_List}
use Rattle.std.specs.List.{list_all}
use Rattle.lexer.specs.Classes.{test_of}
use Rattle.lexer.proofs.Spans.{all_listed}
use Rattle.lexer.proofs.classes.all_pass.Goals as goal

pub returns : goal.returns
returns c =
    let e : c.all.result ≡ list_all (test_of c.args.class) c.args.word.now = all_from_yields_List _ _ _ c.all.result c.all.ensures.ran (YieldsList-from_slice c.args.word.now cc) (λ x b q k. search (rules, tests)) in
    e ∙ sym (all_listed (test_of c.args.class) c.args.word.now)
