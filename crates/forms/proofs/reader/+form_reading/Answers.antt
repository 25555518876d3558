use borrow.Author.Rules.{rules}
use Rattle.objects.proofs.Refused.{handed_on}
use Rattle.forms.proofs.Chains.{chain_below, chain_is, chain_ready, chain_stops, count_fits, dot_requires, form_chains, form_one, form_stops}
use Rattle.forms.proofs.Rows.{construct_is, construct_stops, forms_below, forms_comma_requires, forms_count_fits, forms_last, forms_less, forms_next, forms_other, forms_stop, parts_below, parts_count_fits, parts_dot_requires, parts_last, parts_less, parts_next, parts_stop, row_starts}
use Rattle.forms.proofs.Parts.{bu_bound_requires, bu_is, bu_stops, bu_unbound, construct_below, part_apply, part_bu, part_constant, part_construct, part_deep, part_insert, part_plain_out, part_ready, part_round, prefix_below, prefix_is, prefix_stops, round_below}
use Rattle.forms.proofs.Rounds.{branches_are, branches_open, branches_stops, closed_below, closed_is, closed_open, closed_ready, closed_stops, condition_below, condition_is, condition_ready, condition_stops, form_mark_requires, round_condition, round_is, round_no, round_stops, round_test_requires, round_while, while_below, while_is, while_ready, while_stops}
use Rattle.forms.proofs.reader.+form_reading.Goals as goal

pub read_branches-returns-in_err-x : goal.read_branches-returns-in_err-x
read_branches-returns-in_err-x t c = search (branches_stops, handed_on, c.in_err-x.was)

pub read_branches-read_mark-requires : goal.read_branches-read_mark-requires
read_branches-read_mark-requires t c = (search rules, search (form_mark_requires, c.in_ok-x.was))

pub read_branches-read_closed-requires : goal.read_branches-read_closed-requires
read_branches-read_closed-requires t c = (search (closed_below, c.in_ok-x.was, c.in_ok-next.was), search (closed_ready, c.in_ok-x.was, c.in_ok-next.was))

pub read_branches-returns-in_err-next : goal.read_branches-returns-in_err-next
read_branches-returns-in_err-next t c = search (branches_open, handed_on, c.in_ok-x.was, c.in_err-next.was)

pub read_branches-returns : goal.read_branches-returns
read_branches-returns t c = search (branches_are, c.in_ok-x.was, c.in_ok-next.was)

pub read_bu-returns-in_err-x : goal.read_bu-returns-in_err-x
read_bu-returns-in_err-x t c = search (bu_stops, handed_on, c.in_err-x.was)

pub read_bu-read_bound-requires : goal.read_bu-read_bound-requires
read_bu-read_bound-requires t c = search (bu_bound_requires, c.in_ok-x.was)

pub read_bu-returns-in_err-bound : goal.read_bu-returns-in_err-bound
read_bu-returns-in_err-bound t c = search (bu_unbound, handed_on, c.in_ok-x.was, c.in_err-bound.was)

pub read_bu-returns : goal.read_bu-returns
read_bu-returns t c = search (bu_is, c.in_ok-x.was, c.in_ok-bound.was)

pub read_chain-overflow_add-later : goal.read_chain-overflow_add-later
read_chain-overflow_add-later t c = search (count_fits, c.in_ok-later.was)

pub read_chain-returns-in_err-later : goal.read_chain-returns-in_err-later
read_chain-returns-in_err-later t c = search (chain_stops, handed_on, c.in_err-later.was)

pub read_chain-returns : goal.read_chain-returns
read_chain-returns t c = search (chain_is, c.in_ok-later.was)

pub read_closed-returns-in_err-x : goal.read_closed-returns-in_err-x
read_closed-returns-in_err-x t c = search (closed_stops, handed_on, c.in_err-x.was)

pub read_closed-read_mark-requires : goal.read_closed-read_mark-requires
read_closed-read_mark-requires t c = search (form_mark_requires, rules, c.in_ok-x.was)

pub read_closed-returns-in_err-next : goal.read_closed-returns-in_err-next
read_closed-returns-in_err-next t c = search (closed_open, handed_on, c.in_ok-x.was, c.in_err-next.was)

pub read_closed-returns : goal.read_closed-returns
read_closed-returns t c = search (closed_is, c.in_ok-x.was, c.in_ok-next.was)

pub read_condition-returns-in_err-x : goal.read_condition-returns-in_err-x
read_condition-returns-in_err-x t c = search (condition_stops, handed_on, c.in_err-x.was)

pub read_condition-returns : goal.read_condition-returns
read_condition-returns t c = search (condition_is, c.in_ok-x.was)

pub read_construct-returns-in_err-inner : goal.read_construct-returns-in_err-inner
read_construct-returns-in_err-inner t c = search (construct_stops, handed_on, c.in_err-inner.was)

pub read_construct-returns : goal.read_construct-returns
read_construct-returns t c = search (construct_is, c.in_ok-inner.was)

pub read_form-returns-in_err-x : goal.read_form-returns-in_err-x
read_form-returns-in_err-x t c = search (form_stops, handed_on, c.in_err-x.was)

pub read_form-read_dot-requires : goal.read_form-read_dot-requires
read_form-read_dot-requires t c = (search rules, search (dot_requires, c.in_ok-x.was))

pub read_form-read_chain-requires : goal.read_form-read_chain-requires
read_form-read_chain-requires t c = (search (chain_below, c.in_ok-x.was), search (chain_ready, c.in_ok-x.was))

pub read_form-returns-in-None : goal.read_form-returns-in-None
read_form-returns-in-None t c = search (form_one, c.in_ok-x.was)

pub read_form-returns-in-Some : goal.read_form-returns-in-Some
read_form-returns-in-Some t c = search (form_chains, c.in_ok-x.was)

pub read_forms-loop-upto-init : goal.read_forms-loop-upto-init
read_forms-loop-upto-init t c = search row_starts

pub read_forms-read_form-requires : goal.read_forms-read_form-requires
read_forms-read_form-requires t c = search forms_below

pub read_forms-returns-in_err-upto : goal.read_forms-returns-in_err-upto
read_forms-returns-in_err-upto t c = search (forms_stop, handed_on, c.in_err-upto.was)

pub read_forms-overflow_add-count : goal.read_forms-overflow_add-count
read_forms-overflow_add-count t c = search forms_count_fits

pub read_forms-read_comma-requires : goal.read_forms-read_comma-requires
read_forms-read_comma-requires t c = (search rules, search (forms_comma_requires, c.in_ok-upto.was))

pub read_forms-loop-upto-smaller : goal.read_forms-loop-upto-smaller
read_forms-loop-upto-smaller t c = search (forms_less, c.in_ok-upto.was, c.in_ok-next.was)

pub read_forms-loop-upto-preserved : goal.read_forms-loop-upto-preserved
read_forms-loop-upto-preserved t c = search (forms_next, c.in_ok-upto.was, c.in_ok-next.was)

pub read_forms-returns-in-Closed : goal.read_forms-returns-in-Closed
read_forms-returns-in-Closed t c = search (forms_last, c.in_ok-upto.was, c.in_ok-next.was)

pub read_forms-returns-in_err-next : goal.read_forms-returns-in_err-next
read_forms-returns-in_err-next t c = search (forms_other, handed_on, c.in_ok-upto.was, c.in_err-next.was)

pub read_part-returns-then-not-is_opening : goal.read_part-returns-then-not-is_opening
read_part-returns-then-not-is_opening t c = search part_plain_out

pub read_part-returns-then-room-eq0 : goal.read_part-returns-then-room-eq0
read_part-returns-then-room-eq0 t c = search part_deep

pub read_part-read_construct-requires : goal.read_part-read_construct-requires
read_part-read_construct-requires t c = search (part_ready, construct_below)

pub read_part-read_constant-requires : goal.read_part-read_constant-requires
read_part-read_constant-requires t c = search part_ready

pub read_part-read_prefix-requires : goal.read_part-read_prefix-requires
read_part-read_prefix-requires t c = search (part_ready, prefix_below, rules)

pub read_part-read_prefix-requires-in-64 : goal.read_part-read_prefix-requires-in-64
read_part-read_prefix-requires-in-64 t c = search (part_ready, prefix_below, rules)

pub read_part-read_bu-requires : goal.read_part-read_bu-requires
read_part-read_bu-requires t c = search (part_ready, prefix_below)

pub read_part-read_round-requires : goal.read_part-read_round-requires
read_part-read_round-requires t c = search (part_ready, round_below)

pub read_part-returns-in-91 : goal.read_part-returns-in-91
read_part-returns-in-91 t c = search part_construct

pub read_part-returns-in-37 : goal.read_part-returns-in-37
read_part-returns-in-37 t c = search part_constant

pub read_part-returns-in-47 : goal.read_part-returns-in-47
read_part-returns-in-47 t c = search part_insert

pub read_part-returns-in-64 : goal.read_part-returns-in-64
read_part-returns-in-64 t c = search part_apply

pub read_part-returns-in-123 : goal.read_part-returns-in-123
read_part-returns-in-123 t c = search part_bu

pub read_part-returns-in_default : goal.read_part-returns-in_default
read_part-returns-in_default t c = search part_round

pub read_parts-loop-upto-init : goal.read_parts-loop-upto-init
read_parts-loop-upto-init t c = search row_starts

pub read_parts-read_part-requires : goal.read_parts-read_part-requires
read_parts-read_part-requires t c = search parts_below

pub read_parts-returns-in_err-upto : goal.read_parts-returns-in_err-upto
read_parts-returns-in_err-upto t c = search (parts_stop, handed_on, c.in_err-upto.was)

pub read_parts-overflow_add-count : goal.read_parts-overflow_add-count
read_parts-overflow_add-count t c = search parts_count_fits

pub read_parts-read_dot-requires : goal.read_parts-read_dot-requires
read_parts-read_dot-requires t c = (search rules, search (parts_dot_requires, c.in_ok-upto.was))

pub read_parts-returns-in-None : goal.read_parts-returns-in-None
read_parts-returns-in-None t c = search (parts_last, c.in_ok-upto.was)

pub read_parts-loop-upto-smaller : goal.read_parts-loop-upto-smaller
read_parts-loop-upto-smaller t c = search (parts_less, c.in_ok-upto.was)

pub read_parts-loop-upto-preserved : goal.read_parts-loop-upto-preserved
read_parts-loop-upto-preserved t c = search (parts_next, c.in_ok-upto.was)

pub read_prefix-returns-in_err-x : goal.read_prefix-returns-in_err-x
read_prefix-returns-in_err-x t c = search (prefix_stops, handed_on, c.in_err-x.was)

pub read_prefix-returns : goal.read_prefix-returns
read_prefix-returns t c = search (prefix_is, c.in_ok-x.was)

pub read_round-returns-in_err-x : goal.read_round-returns-in_err-x
read_round-returns-in_err-x t c = search (round_stops, handed_on, c.in_err-x.was)

pub read_round-read_test-requires : goal.read_round-read_test-requires
read_round-read_test-requires t c = search (round_test_requires, rules, c.in_ok-x.was)

pub read_round-read_while-requires : goal.read_round-read_while-requires
read_round-read_while-requires t c = (search (while_below, c.in_ok-x.was, c.in_ok-next.was), search (while_ready, c.in_ok-x.was, c.in_ok-next.was))

pub read_round-read_condition-requires : goal.read_round-read_condition-requires
read_round-read_condition-requires t c = (search (condition_below, c.in_ok-x.was, c.in_ok-next.was), search (condition_ready, c.in_ok-x.was, c.in_ok-next.was))

pub read_round-returns-in-Closed : goal.read_round-returns-in-Closed
read_round-returns-in-Closed t c = search (round_is, c.in_ok-x.was, c.in_ok-next.was)

pub read_round-returns-in-While : goal.read_round-returns-in-While
read_round-returns-in-While t c = search (round_while, c.in_ok-x.was, c.in_ok-next.was)

pub read_round-returns-in-Condition : goal.read_round-returns-in-Condition
read_round-returns-in-Condition t c = search (round_condition, c.in_ok-x.was, c.in_ok-next.was)

pub read_round-returns-in_err-next : goal.read_round-returns-in_err-next
read_round-returns-in_err-next t c = search (round_no, handed_on, c.in_ok-x.was, c.in_err-next.was)

pub read_while-returns-in_err-x : goal.read_while-returns-in_err-x
read_while-returns-in_err-x t c = search (while_stops, handed_on, c.in_err-x.was)

pub read_while-returns : goal.read_while-returns
read_while-returns t c = search (while_is, c.in_ok-x.was)
