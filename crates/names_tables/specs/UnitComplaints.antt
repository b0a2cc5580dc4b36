-- For the prover: what is wrong with a unit, where it is known which definitions use themselves wrongly, and what is wrong with what RECURSIVE declares.
use Rattle.std.specs.Prelude.{◌≡◌, ◌↔◌, ◌&&◌, ◌||◌, ℕ, Bool, false, IsTrue, if◌then◌else◌, List, length, Option, Some, None}
use Rattle.std.specs.List.{slice_index_or}
use Rattle.reading_trees.specs.declared.config.Config.{Config}
use Rattle.reading_trees.specs.declared.expr.Definition.{Definition}
use Rattle.reading_trees.specs.declared.module.Program.{Program}
use Rattle.reading_trees.specs.declared.module.Unit.{Unit as ModuleUnit}
use Rattle.reading_trees.specs.declared.module.Unit.TheVariants.{Variables, Constants, Recursive, Define, Instance, Assume, Passed}
use Rattle.names_meanings.specs.declared.fault.NameFault.{NameFault}
use Rattle.names_meanings.specs.declared.fault.NameFault.TheVariants.{Recursion}
use Rattle.names_meanings.specs.Complaints.{Takes, with_names, complaint}
use Rattle.names_program.specs.Recursion.{MeetsRecursion}
use Rattle.names_tables.specs.NameFaults.{declared_complaints}
use Rattle.base_use_order.specs.Uses as order
use Rattle.names_program.specs.InUnits.{definitions_in}
use Rattle.names_program.specs.Uses.{UsesDefinition, LeadsTo}

abbrev pub unit_complaint : List Definition → Takes → Bool → ModuleUnit → Option NameFault
unit_complaint ds g wrong (Define d) = if wrong then Some (Recursion d.name d.at) else complaint (with_names g d.params) d.body
unit_complaint ds g wrong (Assume e) = complaint g e
unit_complaint ds g wrong (Variables vs) = None
unit_complaint ds g wrong (Constants cs) = None
unit_complaint ds g wrong (Recursive rs) = declared_complaints ds rs
unit_complaint ds g wrong (Instance m) = None
unit_complaint ds g wrong Passed = None

-- the marks say which definitions use themselves wrongly, by their indices
abbrev pub AreWrong : Program → Config → List Bool → Type 0
AreWrong p c marks = (i : ℕ) → IsTrue (slice_index_or marks i false) ↔ MeetsRecursion p c i

-- one does, where it uses itself by uses of which none is allowed, or uses itself and is above level 0
abbrev pub is_wrong : Bool → Bool → Bool → Bool
is_wrong strictly itself above = strictly || (itself && above)

-- the marks are these for each index
abbrev pub AreWrongBy : List Bool → List Bool → List Bool → List Bool → Type 0
AreWrongBy strictly itself above marks =
    (i : ℕ) → slice_index_or marks i false ≡ is_wrong (slice_index_or strictly i false) (slice_index_or itself i false) (slice_index_or above i false)

-- the marks say which definitions use themselves, by their indices
abbrev pub AreRecursive : order.Table → List Bool → Type 0
AreRecursive uses marks = (i : ℕ) → IsTrue (slice_index_or marks i false) ↔ order.UsesItself uses i

-- the numbers are those of the definitions that each uses
pub record AreUses (p : Program) (c : Config) (uses : order.Table) : Type 0 where
  pub as_many : length uses ≡ length (definitions_in p.units)
  pub exact : (i j : ℕ) → order.Uses uses i j ↔ UsesDefinition p c i j
  pub leads : (i j : ℕ) → order.Leads uses i j ↔ LeadsTo p c i j
  pub within : order.IsWithin uses
