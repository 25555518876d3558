use Rattle.std.proofs.lemmas.Result.{err_from_is_err_and}
use Rattle.evaluator.proofs.Steps.{below_step, below_open, below_taken, fell_by}
use Rattle.evaluator.proofs.Chains.{chain_start, chain_next, chain_stop, chain_end, ask_stop, ask_says, ask_none, below_says, cond_stop, cond_done, name_none, name_full, name_stop, may_close, name_done}
use Rattle.evaluator.proofs.Builds.{slot_done, slot_stop, build_start, build_turn, build_halt, build_done, map_atom, map_start, map_turn, map_halt, map_done}
use Rattle.evaluator.proofs.Repeats.{repeat_start, repeat_stop, repeat_done, repeat_stop_2, repeat_less, repeat_next, below_turn}
use Rattle.evaluator.proofs.Pairs.{bu_full, bu_done, fold_full, fold_done}
use Rattle.evaluator.proofs.Inserts.{between_start, between_turn, between_halt, between_end, insert_atom, insert_none, insert_done}
use Rattle.evaluator.proofs.Applies.{applied, apply_spent, apply_leaf, on_word, on_name, on_chain, on_construct, on_insert, on_all, on_condition, on_while, on_bu}
use borrow.Author.Rules.{rules}
use Rattle.evaluator.proofs.cycle.+application.Goals as goal

pub ask-returns-in_err-end : goal.ask-returns-in_err-end
ask-returns-in_err-end t c =
    let p = err_from_is_err_and c.from_residual.result c.from_residual.ensures.1 in
    rw (p.1, p.2) (search (ask_stop, c.in_err-end.ensures))

pub ask-returns-in-Some : goal.ask-returns-in-Some
ask-returns-in-Some t c = search (ask_says, c.in_ok-end.ensures, c.in-Some.ensures)

pub ask-returns-in-None : goal.ask-returns-in-None
ask-returns-in-None t c = search (ask_none, c.in_ok-end.ensures, c.in-None.ensures)

pub between-loop-q-init : goal.between-loop-q-init
between-loop-q-init t c = search between_start

pub between-loop-q-preserved : goal.between-loop-q-preserved
between-loop-q-preserved t c = search (between_turn, c.in_ok-end.ensures)

pub between-returns-in_err-end : goal.between-returns-in_err-end
between-returns-in_err-end t c =
    let p = err_from_is_err_and c.from_residual.result c.from_residual.ensures.1 in
    rw (p.1, p.2) (search (between_halt, c.in_err-end.ensures))

pub between-returns : goal.between-returns
between-returns t c = search between_end

pub bu-apply-requires : goal.bu-apply-requires
bu-apply-requires t c = search (below_taken, rules, c.in_ok-k.ensures)

pub bu-returns-in_err-k : goal.bu-returns-in_err-k
bu-returns-in_err-k t c =
    let p = err_from_is_err_and c.from_residual.result c.from_residual.ensures.1 in
    rw (p.1, p.2) (search (bu_full, c.in_err-k.ensures))

pub bu-returns : goal.bu-returns
bu-returns t c = search (bu_done, c.in_ok-k.ensures)

pub chain-loop-j-init : goal.chain-loop-j-init
chain-loop-j-init t c = search chain_start

pub chain-returns-in_err-end : goal.chain-returns-in_err-end
chain-returns-in_err-end t c =
    let p = err_from_is_err_and c.from_residual.result c.from_residual.ensures.1 in
    rw (p.1, p.2) (search (chain_stop, c.in_err-end.ensures))

pub chain-loop-j-smaller : goal.chain-loop-j-smaller
chain-loop-j-smaller t c = search (fell_by, c.in_ok-end.ensures)

pub chain-loop-j-preserved : goal.chain-loop-j-preserved
chain-loop-j-preserved t c = search (chain_next, c.in_ok-end.ensures)

pub chain-returns : goal.chain-returns
chain-returns t c = search chain_end

pub condition-apply-requires : goal.condition-apply-requires
condition-apply-requires t c = search (below_says, rules, c.in_ok-said.ensures)

pub condition-returns-in_err-said : goal.condition-returns-in_err-said
condition-returns-in_err-said t c =
    let p = err_from_is_err_and c.from_residual.result c.from_residual.ensures.1 in
    rw (p.1, p.2) (search (cond_stop, c.in_err-said.ensures))

pub condition-returns : goal.condition-returns
condition-returns t c = search (cond_done, c.in_ok-said.ensures)

pub construct-loop-q-init : goal.construct-loop-q-init
construct-loop-q-init t c = search build_start

pub construct-returns-in_err-n : goal.construct-returns-in_err-n
construct-returns-in_err-n t c =
    let p = err_from_is_err_and c.from_residual.result c.from_residual.ensures.1 in
    rw (p.1, p.2) (search (build_halt, c.in_err-n.ensures))

pub construct-loop-q-preserved : goal.construct-loop-q-preserved
construct-loop-q-preserved t c = search (build_turn, c.in_ok-n.ensures)

pub construct-returns : goal.construct-returns
construct-returns t c = search build_done

pub each-returns-then-v-ne-SEQUENCE : goal.each-returns-then-v-ne-SEQUENCE
each-returns-then-v-ne-SEQUENCE t c = search map_atom

pub each-loop-q-init : goal.each-loop-q-init
each-loop-q-init t c = search map_start

pub each-returns-in_err-n : goal.each-returns-in_err-n
each-returns-in_err-n t c =
    let p = err_from_is_err_and c.from_residual.result c.from_residual.ensures.1 in
    rw (p.1, p.2) (search (map_halt, c.in_err-n.ensures))

pub each-loop-q-preserved : goal.each-loop-q-preserved
each-loop-q-preserved t c = search (map_turn, c.in_ok-n.ensures)

pub each-returns : goal.each-returns
each-returns t c = search map_done

pub fold-apply-requires : goal.fold-apply-requires
fold-apply-requires t c = search (below_taken, rules, c.in_ok-k.ensures)

pub fold-returns-in_err-k : goal.fold-returns-in_err-k
fold-returns-in_err-k t c =
    let p = err_from_is_err_and c.from_residual.result c.from_residual.ensures.1 in
    rw (p.1, p.2) (search (fold_full, c.in_err-k.ensures))

pub fold-returns : goal.fold-returns
fold-returns t c = search (fold_done, c.in_ok-k.ensures)

pub insert-returns-then-v-ne-SEQUENCE : goal.insert-returns-then-v-ne-SEQUENCE
insert-returns-then-v-ne-SEQUENCE t c = search insert_atom

pub insert-returns-then-many-eq0 : goal.insert-returns-then-many-eq0
insert-returns-then-many-eq0 t c = search insert_none

pub insert-returns : goal.insert-returns
insert-returns t c = search insert_done

pub name-returns-then-d-eq0 : goal.name-returns-then-d-eq0
name-returns-then-d-eq0 t c = search name_none

pub name-apply-requires : goal.name-apply-requires
name-apply-requires t c = search (below_open, rules, c.in_ok-k.ensures)

pub name-close_name-back-requires : goal.name-close_name-back-requires
name-close_name-back-requires t c = may_close c.args.m c.in_ok-end.ensures c.in_ok-k.ensures (search rules)

pub name-returns-in_err-k : goal.name-returns-in_err-k
name-returns-in_err-k t c =
    let p = err_from_is_err_and c.from_residual.result c.from_residual.ensures.1 in
    rw (p.1, p.2) (search (name_full, c.in_err-k.ensures))

pub name-returns-in_err-end : goal.name-returns-in_err-end
name-returns-in_err-end t c =
    let p = err_from_is_err_and c.from_residual-in_err-end.result c.from_residual-in_err-end.ensures.1 in
    rw (p.1, p.2) (search (name_stop, c.in_ok-k.ensures, c.in_err-end.ensures))

pub name-returns : goal.name-returns
name-returns t c = name_done c.if-d-eq0.false c.in_ok-k.ensures c.in_ok-end.ensures c.close_name-back.ensures

pub repeat-loop-said-init : goal.repeat-loop-said-init
repeat-loop-said-init t c = search repeat_start

pub repeat-returns-in_err-said : goal.repeat-returns-in_err-said
repeat-returns-in_err-said t c =
    let p = err_from_is_err_and c.from_residual.result c.from_residual.ensures.1 in
    rw (p.1, p.2) (search (repeat_stop, c.in_err-said.ensures))

pub repeat-returns-then-not-said : goal.repeat-returns-then-not-said
repeat-returns-then-not-said t c = search (repeat_done, c.in_ok-said.ensures)

pub repeat-apply-requires : goal.repeat-apply-requires
repeat-apply-requires t c = search (below_turn, rules, c.in_ok-said.ensures)

pub repeat-returns-in_err-end : goal.repeat-returns-in_err-end
repeat-returns-in_err-end t c =
    let p = err_from_is_err_and c.from_residual-in_err-end.result c.from_residual-in_err-end.ensures.1 in
    rw (p.1, p.2) (search (repeat_stop_2, c.in_ok-said.ensures, c.in_err-end.ensures))

pub repeat-loop-said-smaller : goal.repeat-loop-said-smaller
repeat-loop-said-smaller t c = search (repeat_less, c.in_ok-said.ensures, c.in_ok-end.ensures)

pub repeat-loop-said-preserved : goal.repeat-loop-said-preserved
repeat-loop-said-preserved t c = search (repeat_next, c.in_ok-said.ensures, c.in_ok-end.ensures)

pub slot-returns-in_err-end : goal.slot-returns-in_err-end
slot-returns-in_err-end t c =
    let p = err_from_is_err_and c.from_residual.result c.from_residual.ensures.1 in
    rw (p.1, p.2) (search (slot_stop, c.in_err-end.ensures))

pub slot-returns : goal.slot-returns
slot-returns t c = search (slot_done, c.in_ok-end.ensures)

pub step-returns-in_err-k : goal.step-returns-in_err-k
step-returns-in_err-k t c =
    let p = err_from_is_err_and c.from_residual.result c.from_residual.ensures.1 in
    rw (p.1, p.2) (search (apply_spent, c.in_err-k.ensures))

pub step-name-requires : goal.step-name-requires
step-name-requires t c = (below_step _ _ t c.in_ok-k.ensures c.decreases, tt)

pub step-chain-requires : goal.step-chain-requires
step-chain-requires t c = (below_step _ _ t c.in_ok-k.ensures c.decreases, tt)

pub step-construct-requires : goal.step-construct-requires
step-construct-requires t c = (below_step _ _ t c.in_ok-k.ensures c.decreases, tt)

pub step-insert-requires : goal.step-insert-requires
step-insert-requires t c = (below_step _ _ t c.in_ok-k.ensures c.decreases, tt)

pub step-each-requires : goal.step-each-requires
step-each-requires t c = (below_step _ _ t c.in_ok-k.ensures c.decreases, tt)

pub step-condition-requires : goal.step-condition-requires
step-condition-requires t c = (below_step _ _ t c.in_ok-k.ensures c.decreases, tt)

pub step-repeat-requires : goal.step-repeat-requires
step-repeat-requires t c = (below_step _ _ t c.in_ok-k.ensures c.decreases, tt)

pub step-bu-requires : goal.step-bu-requires
step-bu-requires t c = (below_step _ _ t c.in_ok-k.ensures c.decreases, tt)

pub step-returns-in-1 : goal.step-returns-in-1
step-returns-in-1 t c = search (applied, on_word, c.in_ok-k.ensures)

pub step-returns-in-4 : goal.step-returns-in-4
step-returns-in-4 t c = search (applied, on_name, c.in_ok-k.ensures)

pub step-returns-in-5 : goal.step-returns-in-5
step-returns-in-5 t c = search (applied, on_chain, c.in_ok-k.ensures)

pub step-returns-in-6 : goal.step-returns-in-6
step-returns-in-6 t c = search (applied, on_construct, c.in_ok-k.ensures)

pub step-returns-in-7 : goal.step-returns-in-7
step-returns-in-7 t c = search (applied, on_insert, c.in_ok-k.ensures)

pub step-returns-in-8 : goal.step-returns-in-8
step-returns-in-8 t c = search (applied, on_all, c.in_ok-k.ensures)

pub step-returns-in-9 : goal.step-returns-in-9
step-returns-in-9 t c = search (applied, on_condition, c.in_ok-k.ensures)

pub step-returns-in-10 : goal.step-returns-in-10
step-returns-in-10 t c = search (applied, on_while, c.in_ok-k.ensures)

pub step-returns-in-16 : goal.step-returns-in-16
step-returns-in-16 t c = search (applied, on_bu, c.in_ok-k.ensures)

pub step-returns-in_default : goal.step-returns-in_default
step-returns-in_default t c = search (apply_leaf, c.in_ok-k.ensures)
