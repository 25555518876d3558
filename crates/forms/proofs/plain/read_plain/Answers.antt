-- `read_plain` reads a word or a name to a record. Assumes nothing.
use Rattle.std.proofs.Common.{◌≡◌, ◌∙◌, ◌+◌, ap, rules, slice_range}
use Rattle.language.specs.Judging.{judge_part}
use Rattle.lexer.specs.Judgements.{part_judged}
use Rattle.objects.proofs.Refused.{handed_on, placed, told}
use Rattle.forms.proofs.Plains.{plain_is, plain_not}
use Rattle.forms.proofs.plain.read_plain.Goals as goal

pub returns-in_err-part : goal.returns-in_err-part
returns-in_err-part c =
    let h : c.map_err.result ≡ placed c.args.from.next (part_judged (judge_part (slice_range c.args.s.now c.args.from.next (c.args.from.next + c.size_at.result)))) = told c.judge_part.result c.map_err.result c.args.from.next c.map_err.ensures.cases (λ f t k. search rules) ∙ ap (λ j. placed c.args.from.next j) c.judge_part.ensures in
    search (plain_not, handed_on, c.in_err-part.was)

pub returns : goal.returns
returns c =
    let h : c.map_err.result ≡ placed c.args.from.next (part_judged (judge_part (slice_range c.args.s.now c.args.from.next (c.args.from.next + c.size_at.result)))) = told c.judge_part.result c.map_err.result c.args.from.next c.map_err.ensures.cases (λ f t k. search rules) ∙ ap (λ j. placed c.args.from.next j) c.judge_part.ensures in
    search (plain_is, c.in_ok-part.was)
