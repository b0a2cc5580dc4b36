use Rattle.std.proofs.Common.{ℕ, List, subst}
use Rattle.states_files.specs.Files.{StateFileSays}
use Rattle.states_files.proofs.LongStates.{states_long}
use Rattle.states_files.proofs.file.read_states.Goals as goal

pub returns-clause-says : goal.returns-clause-says
returns-clause-says c = subst (λ (names : List (List ℕ)). StateFileSays names c.args.bytes.now c.in_ok-said.said) c.items.ensures c.in_ok-said.ensures

pub returns-clause-long : goal.returns-clause-long
returns-clause-long c =
    states_long c.args.variables.now c.args.bytes.now c.in_ok-said.said
    (subst (λ (names : List (List ℕ)). StateFileSays names c.args.bytes.now c.in_ok-said.said) c.items.ensures c.in_ok-said.ensures)
