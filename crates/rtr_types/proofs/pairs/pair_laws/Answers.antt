use Rattle.rtr_types.proofs.PairPlaces as places
use Rattle.rtr_types.proofs.pairs.pair_laws.Goals as goal

pub returns : goal.returns
returns c = record {
  placed = places.pairs-placed;
  paired = places.places-paired;
  by_source = places.sources-rise;
  then_by_target = places.targets-rise;
}
