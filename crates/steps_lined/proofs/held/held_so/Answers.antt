use Rattle.steps_lined.proofs.held.held_so.Goals as goal

pub returns : goal.returns
returns c = record { ready = c.requires.ready; few_lines = c.requires.few_lines; texts = c.known_texts.ensures; places = c.known_places.ensures }
