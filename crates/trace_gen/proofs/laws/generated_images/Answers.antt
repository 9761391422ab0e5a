-- each word that is fetched
use Rattle.trace_gen.proofs.FetchedWords.{fetches}
use Rattle.trace_gen.proofs.laws.generated_images.Goals as goal

pub returns-clause-fetch : goal.returns-clause-fetch
returns-clause-fetch c = λ shape number words k op taken found. fetches shape number words k op taken found
