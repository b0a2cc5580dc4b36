use Rattle.states_tests.proofs.layers_tests.TableSteps.silent.Goals as goal

pub returns : goal.returns
returns c = rw c.deref.ensures.value at c.listed.ensures
