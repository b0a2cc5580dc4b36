use Rattle.twice_readings.proofs.GivenPlaces.{accepted_givens_stand, configured_givens_stand}
use Rattle.twice_readings.proofs.given_places.job_places_law.Goals as goal

pub returns-clause-configured : goal.returns-clause-configured
returns-clause-configured c = configured_givens_stand c.given_places_law.ensures

pub returns-clause-accepted : goal.returns-clause-accepted
returns-clause-accepted c = accepted_givens_stand c.given_places_law.ensures
