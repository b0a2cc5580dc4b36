use Rattle.std.proofs.Common.{◌≡◌, ◌∙◌, sym, ap, subst, ℕ, List, length}
use Rattle.std.specs.Prelude.{Bool, Vec}
use Rattle.std.specs.declared.alloc.Global.{Global}
use Rattle.std.proofs.lemmas.List.{length-map}
use Rattle.base_use_order.specs.Uses.{IsWithin, table_of}
use Rattle.names_program.specs.InUnits.{definitions_in}
use Rattle.names_tables.specs.UnitComplaints.{AreRecursive, AreWrongBy}
use Rattle.names_tables.proofs.Marking.{are_wrong}
use Rattle.names_tables.proofs.fault.wrong_of.Goals as goal

pub recursive-requires : goal.recursive-requires
recursive-requires c = subst (λ (us : List (Vec ℕ Global)). IsWithin (table_of us)) (sym c.deref.ensures.value) c.in_ok-strict.ensures.within

pub wrong_marks-requires : goal.wrong_marks-requires
wrong_marks-requires c =
    let definitions : ℕ = length (definitions_in c.args.program.now.units) in
    let one : length c.deref-2.result.now ≡ definitions = ap length c.deref-2.ensures.value ∙ c.in_ok-strictly.ensures.count ∙ ap length c.deref.ensures.value ∙ c.in_ok-strict.ensures.each in
    let other : length c.deref-3.result.now ≡ definitions = ap length c.deref-3.ensures.value ∙ c.in_ok-itself.ensures.count ∙ sym (length-map c.args.uses.now (λ u. u.items)) ∙ c.requires.used.as_many in
    one ∙ sym other

pub returns : goal.returns
returns c =
    let strictly_are : AreRecursive (table_of c.in_ok-strict.strict.items) c.in_ok-strictly.strictly.items = subst (λ (us : List (Vec ℕ Global)). AreRecursive (table_of us) c.in_ok-strictly.strictly.items) c.deref.ensures.value c.in_ok-strictly.ensures.exact in
    let by : AreWrongBy c.in_ok-strictly.strictly.items c.in_ok-itself.itself.items c.args.levels.now c.in_ok-marks.marks.items =
    subst (λ (l : List Bool). AreWrongBy l c.in_ok-itself.itself.items c.args.levels.now c.in_ok-marks.marks.items) c.deref-2.ensures.value
    (subst (λ (l : List Bool). AreWrongBy c.deref-2.result.now l c.args.levels.now c.in_ok-marks.marks.items) c.deref-3.ensures.value c.in_ok-marks.ensures) in
    are_wrong c.args.program.now c.args.config.now (table_of c.args.uses.now) (table_of c.in_ok-strict.strict.items) c.in_ok-strictly.strictly.items c.in_ok-itself.itself.items c.args.levels.now c.in_ok-marks.marks.items c.requires.used c.in_ok-strict.ensures.leads strictly_are c.in_ok-itself.ensures.exact c.requires.levels by
