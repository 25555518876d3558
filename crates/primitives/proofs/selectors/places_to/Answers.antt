-- `places_to` counts the places of a sequence that has a place k.
use Rattle.std.proofs.lemmas.Result.{err_from_is_err_and}
use Rattle.primitives.specs.Shapes.{an_atom, no_first, too_far}
use Rattle.primitives.proofs.selectors.places_to.Goals.{then-k-eq0-via-then-k-eq0, then-k-eq0-via-else-k-eq0+then-n-k}
use Rattle.primitives.proofs.selectors.places_to.Goals as goal

pub returns-in_err-n : goal.returns-in_err-n
returns-in_err-n c =
    let p = err_from_is_err_and c.from_residual.result c.from_residual.ensures.1 in
    let h = c.in_err-n.ensures in
    rw (p.1, p.2) (record { none = an_atom h.tag; is = h.is })

pub returns-then-k-eq0 : goal.returns-then-k-eq0
returns-then-k-eq0 c =
    let h = c.in_ok-n.ensures in
    record {
      none = elim c.then-k-eq0.branch [
        | then-k-eq0-via-then-k-eq0 w ↦ no_first h.tag w.if-k-eq0.true
        | then-k-eq0-via-else-k-eq0+then-n-k w ↦ too_far h.tag h.size w.if-n-k.true
      ];
      is = c.bottom.ensures;
    }

pub returns : goal.returns
returns c =
    let h = c.in_ok-n.ensures in
    record { sequence = h; first = c.if-k-eq0.false; last = c.if-n-k.false }
