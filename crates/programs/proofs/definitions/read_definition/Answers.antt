-- `read_definition` reads a name and its body, and writes the definition's record. Assumes nothing.
use Rattle.std.proofs.Common.{◌≡◌, ◌∙◌, ◌+◌, ap, rules, slice_range}
use Rattle.language.specs.Judging.{judge_name}
use Rattle.lexer.specs.Judgements.{name_judged}
use Rattle.objects.proofs.Refused.{handed_on, placed, told}
use Rattle.programs.proofs.Bodies.{definition_unnamed, definition_stops, definition_is}
use Rattle.programs.proofs.definitions.read_definition.Goals as goal

pub returns-in_err-name : goal.returns-in_err-name
returns-in_err-name c =
    let h : c.map_err.result ≡ placed c.args.from.next (name_judged (judge_name (slice_range c.args.s.now c.args.from.next (c.args.from.next + c.size_at.result)))) = told c.judge_name.result c.map_err.result c.args.from.next c.map_err.ensures.cases (λ f t k. search rules) ∙ ap (λ j. placed c.args.from.next j) c.judge_name.ensures in
    search (definition_unnamed, handed_on, c.in_err-name.was)

pub returns-in_err-x : goal.returns-in_err-x
returns-in_err-x c =
    let h : c.map_err.result ≡ placed c.args.from.next (name_judged (judge_name (slice_range c.args.s.now c.args.from.next (c.args.from.next + c.size_at.result)))) = told c.judge_name.result c.map_err.result c.args.from.next c.map_err.ensures.cases (λ f t k. search rules) ∙ ap (λ j. placed c.args.from.next j) c.judge_name.ensures in
    search (definition_stops, handed_on, c.in_ok-name.was, c.in_err-x.was)

pub returns : goal.returns
returns c =
    let h : c.map_err.result ≡ placed c.args.from.next (name_judged (judge_name (slice_range c.args.s.now c.args.from.next (c.args.from.next + c.size_at.result)))) = told c.judge_name.result c.map_err.result c.args.from.next c.map_err.ensures.cases (λ f t k. search rules) ∙ ap (λ j. placed c.args.from.next j) c.judge_name.ensures in
    search (definition_is, c.in_ok-name.was, c.in_ok-x.was)
