use Rattle.std.specs.Prelude.{false, true}
use Rattle.states_core.specs.declared.state.Mark.TheVariants.{Init}
use Rattle.states_tests.specs.Table.{Leads, none}
use Rattle.states_tests.proofs.TableLaws.{gives_same}
use Rattle.states_tests.proofs.layers_tests.TableSteps.initial.Goals as goal

pub returns : goal.returns
returns c = gives_same (Leads c.args.self.now.edges.items Init none false) _ (λ t f. Leads c.args.self.now.edges.items Init none true t) (λ t. Unit {0}) c.args.bound c.listed-2.result
    (λ s h. (h, tt)) (λ s h. h.0) (rw (c.deref.ensures.value, c.nowhere.ensures) at c.listed-2.ensures)
