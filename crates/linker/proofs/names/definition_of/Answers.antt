-- `definition_of` meets its contract: none before the one that is found has the name.
use Rattle.std.proofs.Common.{rules, ◌≡◌, true, false}
use Rattle.std.proofs.lemmas.Iterator.{first_from_Range}
use Rattle.formtable.specs.Encoding.{named}
use Rattle.linker.proofs.Naming.{first_root}
use Rattle.linker.proofs.names.definition_of.Goals as goal

pub returns : goal.returns
returns c =
    let d = c.args.definitions.now in
    let lo = c.args.lo in
    let hi = c.args.hi in
    first_root d c.args.count lo hi c.find.result (first_from_Range _ _ _ _ (λ i. true ≡ named d i lo hi) (λ i. false ≡ named d i lo hi) c.find.ensures.ran (λ x q k. search rules) (λ x q k. search rules))
