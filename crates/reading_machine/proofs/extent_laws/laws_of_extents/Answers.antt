use Rattle.reading_machine.proofs.ExtentEnds as ends
use Rattle.reading_machine.proofs.ExtentMarks as marks
use Rattle.reading_machine.proofs.extent_laws.laws_of_extents.Goals as goal

pub returns-clause-local : goal.returns-clause-local
returns-clause-local c = ends.local_text

pub returns-clause-local_definition : goal.returns-clause-local_definition
returns-clause-local_definition c = ends.local_definition

pub returns-clause-none : goal.returns-clause-none
returns-clause-none c = ends.none_follows

pub returns-clause-none_definition : goal.returns-clause-none_definition
returns-clause-none_definition c = ends.none_follows_definition

pub returns-clause-marks : goal.returns-clause-marks
returns-clause-marks c = marks.no_mark_inside

pub returns-clause-marks_definition : goal.returns-clause-marks_definition
returns-clause-marks_definition c = marks.no_mark_inside_definition
