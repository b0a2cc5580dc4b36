use Rattle.reading_laws.proofs.GivenPlaces.{givens_stand_behind}
use Rattle.reading_laws.proofs.given_places_laws.given_places_law.Goals as goal

pub returns : goal.returns
returns c = givens_stand_behind
