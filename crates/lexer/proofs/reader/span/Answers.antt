-- `span` gives how many bytes at the front of a text are of a class. Assumes nothing.
use mathlib.Core.Path.{◌≡◌, ◌∙◌, ap}
use mathlib.Core.Bool.{not}
use Prim.Native.Nat.{ℕ}
use lib.ListN.{length}
use Rattle.std.proofs.Common.{rules, tests}
use Rattle.std.proofs.lemmas.Iterator.{YieldsList-from_slice}
use Rattle.std.proofs.lemmas.Iterator.Search.{position_from_yields_List}
use Rattle.std.specs.Option.{unwrap_or}
use Rattle.std.specs.Prelude.{Option}
use Rattle.std.specs.List.{position}
use Rattle.lexer.specs.Classes.{test_of}
use Rattle.lexer.proofs.Spans.{first_out, span_within}
use Rattle.lexer.proofs.reader.span.Goals as goal

pub returns : goal.returns
returns c =
    let s = c.args.s.now in
    let e : c.position.result ≡ position (λ b. not (test_of c.args.class b)) s = position_from_yields_List _ _ _ c.position.result c.position.ensures.ran (YieldsList-from_slice s cc) (λ x b q k. search (rules, tests)) in
    let f = c.unwrap_or.ensures ∙ ap (λ (o : Option ℕ). unwrap_or o (length s)) e ∙ first_out (test_of c.args.class) s in
    (f, rw f (span_within (test_of c.args.class) s))
