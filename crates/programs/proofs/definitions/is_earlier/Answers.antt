-- `is_earlier` compares a name with each before it.
use Rattle.std.proofs.Common.{rules, arith, ◌≡◌, refl, true, false}
use Rattle.std.proofs.lemmas.Iterator.{YieldsList-from_range, cases_from_any}
use Rattle.formtable.specs.Encoding.{named}
use Rattle.programs.proofs.Naming.{earlier_by}
use Rattle.programs.proofs.definitions.is_earlier.Goals as goal

pub returns : goal.returns
returns c =
    let d = c.args.d.now in
    let lo = c.at-lo.result in
    let hi = c.at-hi.result in
    earlier_by c.any.result c.at-lo.ensures c.at-hi.ensures (cases_from_any _ _ c.any.result (λ j. true ≡ named d j lo hi) (λ j. false ≡ named d j lo hi) c.any.ensures.ran (YieldsList-from_range 0 _ c.args.i refl (omega (arith, c.requires))) (λ x q k. search rules) (λ x q k. search rules))
