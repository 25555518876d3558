-- `find_twice` asks of each name whether an earlier one is the same.
use Rattle.std.proofs.Common.{rules, true, false, sym, subst}
use Rattle.std.specs.Prelude.{Option, ℕ}
use Rattle.std.proofs.lemmas.Iterator.{first_from_Range}
use Rattle.tables.specs.Tables.{field}
use Rattle.lexer.proofs.Words.{mapped}
use Rattle.programs.proofs.Naming.{twice_by}
use Rattle.programs.specs.Definitions.{Compared, TwiceMet}
use Rattle.programs.proofs.definitions.find_twice.Goals as goal

pub returns : goal.returns
returns c =
    let d = c.args.d.now in
    let n = c.args.n in
    let e = mapped (λ i. field d i 3) c.find.result c.map.result c.map.ensures.cases (λ x y h. search rules) in
    subst (λ (r : Option ℕ). TwiceMet d n r) (sym e) (twice_by c.find.result (first_from_Range _ _ _ _ (λ i. Compared d i true) (λ i. Compared d i false) c.find.ensures.ran (λ x q k. search rules) (λ x q k. search rules)))
