use Rattle.words_laws.proofs.Meant as meant
use Rattle.words_laws.proofs.laws.words_by_their_grammar.Goals as goal

pub returns : goal.returns
returns c = record {
  means = meant.words-mean;
  joined = meant.joined-is-apart;
  commute = meant.settings-commute;
  twice = meant.twice-is-nothing;
}
