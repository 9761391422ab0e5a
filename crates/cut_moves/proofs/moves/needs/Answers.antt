use Rattle.cut_moves.proofs.moves.needs.Goals as goal

pub returns : goal.returns
returns c =
    let known = c.clock.ensures c.args.at c.requires.at.some in (
      λ so. known.0 (c.covers.ensures.0 so),
      λ need. c.covers.ensures.1 (known.1 need),
    )
