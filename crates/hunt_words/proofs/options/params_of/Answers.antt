use Rattle.hunt_words.proofs.options.params_of.Goals as goal

pub returns-then-cores-limit-clause-fits : goal.returns-then-cores-limit-clause-fits
returns-then-cores-limit-clause-fits c = record {
  some_core = c.in_ok-cores.ensures.within.0;
  cores = c.in_ok-cores.ensures.within.1;
  some_instruction = c.in_ok-limit.ensures.within.0;
  limit = c.in_ok-limit.ensures.within.1;
  instructions = c.if-cores-limit.true;
  some_block = c.in_ok-words.ensures.fits.0;
  words = c.in_ok-words.ensures.fits.1;
  whole_blocks = c.in_ok-words.ensures.fits.2;
}
