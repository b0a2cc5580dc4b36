use Rattle.std.proofs.Common.{sym, subst}
use Rattle.std.specs.Prelude.{slice_get}
use Rattle.reading_trees.specs.declared.form.DefinitionForm.{DefinitionForm}
use Rattle.names_resolving.specs.Standing.{IsFaultOf}
use Rattle.names_resolving.proofs.Levels.{function_told, noted_told}
use Rattle.names_resolving.proofs.unit_levels.numbered_fault.Goals as goal

pub returns-in-Operator : goal.returns-in-Operator
returns-in-Operator c =
    subst (λ (form : DefinitionForm). IsFaultOf form c.args.table.now.operators (slice_get c.args.table.now.operators c.args.number) c.noted_fault.result) (sym c.in-Operator.is)
    (noted_told c.args.table.now.operators c.args.notes.now c.args.number c.noted_fault.result c.requires.noted c.requires.all c.noted_fault.ensures)

pub returns-in-Function : goal.returns-in-Function
returns-in-Function c =
    subst (λ (form : DefinitionForm). IsFaultOf form c.args.table.now.operators (slice_get c.args.table.now.operators c.args.number) c.noted_fault-in-Function.result) (sym c.in-Function.is)
    (function_told c.args.table.now.operators (slice_get c.args.table.now.operators c.args.number) c.noted_fault-in-Function.result (noted_told c.args.table.now.operators c.args.notes.now c.args.number c.noted_fault-in-Function.result c.requires.noted c.requires.all c.noted_fault-in-Function.ensures))
