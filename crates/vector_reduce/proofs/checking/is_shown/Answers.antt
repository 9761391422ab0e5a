use Rattle.vector_reduce.proofs.checking.is_shown.Goals as goal

pub returns : goal.returns
returns c =
    let parts = c.parts.ensures.0 c.if-not-parts.false in (
      λ t. record {
        within = c.if-shown-vector.false;
        closed = c.is_closed_under_others.ensures.0 t;
        target = parts.0;
        source = parts.1;
      },
      λ shown. c.is_closed_under_others.ensures.1 shown.closed,
    )
