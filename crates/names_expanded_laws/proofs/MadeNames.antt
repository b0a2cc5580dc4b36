-- What an instance makes: its definitions have the names of its module's constants and definitions behind a mark, and its trees are those of the grammar.
use Rattle.std.proofs.Common.{◌≡◌, ℕ, Bool, true, false, List, [], ◌∷◌, ◌++◌, append_assoc, Option, Some, None, refl, sym, ap, subst, ◌∙◌}
use Rattle.std.specs.Prelude.{if◌then◌else◌, ◌||◌}
use Rattle.std.specs.Str.{bytes_eq}
use Rattle.reading_trees.specs.Grammar.{qualified}
use Rattle.reading_trees.specs.Trees.{Tree, Name}
use Rattle.reading_trees.specs.declared.module.Declared.{Declared}
use Rattle.reading_trees.specs.declared.module.Made.{Made}
use Rattle.reading_trees.specs.declared.module.Program.{Program}
use Rattle.reading_trees.specs.declared.module.With.{With}
use Rattle.reading_trees.specs.declared.module.Unit.{Unit as ModuleUnit}
use Rattle.reading_trees.specs.declared.module.Unit.TheVariants.{Variables, Constants, Recursive, Define, Instance, Assume, Passed}
use Rattle.names_scopes.specs.declared.meant.Entry.{Entry}
use Rattle.names_program.specs.InUnits.{constants_in, definitions_in, variables_in}
use Rattle.names_program.specs.Names.{first_of, names_declared, names_defined}
use Rattle.names_program.specs.Standard.{brought}
use Rattle.names_instances.specs.Instances.{brings, constant_made, constants_made, instance_units, names_own, stand_ins, substitute_for, units_made}
use Rattle.names_instances.specs.Made.{StandIns}
use Rattle.names_instances.specs.declared.substitutes.Substitute.{Substitute}
use Rattle.names_whole_programs.specs.Given.{given_by, same_name, stands_for, substitute_if, substitutes_for, units_have}
use Rattle.names_specification_laws.specs.Formed.{IsFormed, UnitsAreFormed, WithsAreFormed}
use Rattle.names_load_laws.proofs.NamesDiffer.{IsPart, nothing_left, also, but}
use Rattle.names_expanded_laws.proofs.Differing.{own_names, qualified_each, qualified_join}
use Rattle.names_expanded_laws.proofs.MadeTrees.{formed}

abbrev pub defined : List ModuleUnit → List (List ℕ)
defined us = names_defined (definitions_in us)

pub defined_join : (us vs : List ModuleUnit) → defined (us ++ vs) ≡ defined us ++ defined vs
defined_join [] vs = refl
defined_join (Variables ds ∷ us) vs = defined_join us vs
defined_join (Constants ds ∷ us) vs = defined_join us vs
defined_join (Recursive ds ∷ us) vs = defined_join us vs
defined_join (Define d ∷ us) vs = ap (λ (ns : List (List ℕ)). d.name ∷ ns) (defined_join us vs)
defined_join (Assume e ∷ us) vs = defined_join us vs
defined_join (Instance m ∷ us) vs = defined_join us vs
defined_join (Passed ∷ us) vs = defined_join us vs

-- ---- names

constant_part : (i : List ℕ) (c : Declared) (o : Option Tree) (rest : List ModuleUnit) (ms : List (List ℕ)) → IsPart (defined rest) ms → IsPart (defined (constant_made i c o ++ rest)) (qualified i c.name ∷ ms)
constant_part i c None rest ms p = but (qualified i c.name) _ _ p
constant_part i c (Some e) rest ms p = also (qualified i c.name) _ _ p

constants_part : (i : List ℕ) (given : List Substitute) (cs : List Declared) (rest : List ModuleUnit) (ms : List (List ℕ)) → IsPart (defined rest) ms → IsPart (defined (constants_made i given cs ++ rest)) (qualified_each i (names_declared cs) ++ ms)
constants_part i given [] rest ms p = p
constants_part i given (c ∷ cs) rest ms p =
    subst (λ v. IsPart (defined v) (qualified i c.name ∷ (qualified_each i (names_declared cs) ++ ms))) (sym (append_assoc (constant_made i c (substitute_for given c.name)) (constants_made i given cs) rest))
    (constant_part i c (substitute_for given c.name) (constants_made i given cs ++ rest) (qualified_each i (names_declared cs) ++ ms) (constants_part i given cs rest ms p))

units_part : (i : List ℕ) (by : StandIns) (us : List ModuleUnit) → IsPart (defined (units_made i by us)) (qualified_each i (defined us))
units_part i by [] = nothing_left
units_part i by (Variables ds ∷ us) = units_part i by us
units_part i by (Constants ds ∷ us) = units_part i by us
units_part i by (Recursive ds ∷ us) = units_part i by us
units_part i by (Define d ∷ us) = also (qualified i d.name) _ _ (units_part i by us)
units_part i by (Assume e ∷ us) = units_part i by us
units_part i by (Instance m ∷ us) = units_part i by us
units_part i by (Passed ∷ us) = units_part i by us

pub instance_part : (i : List ℕ) (m : Program) (given : List Substitute) → IsPart (defined (instance_units i m given)) (qualified_each i (own_names m.units))
instance_part i m given =
    let by : StandIns = stand_ins i (variables_in m.units) (names_own m.units) given (brought m.standard) in
    subst (IsPart (defined (instance_units i m given))) (sym (qualified_join i (names_declared (constants_in m.units)) (defined m.units)))
    (constants_part i given (constants_in m.units) (units_made i by m.units) (qualified_each i (defined m.units)) (units_part i by m.units))

-- ---- no variables

constant_no_variables : (i : List ℕ) (c : Declared) (o : Option Tree) (rest : List ModuleUnit) → variables_in (constant_made i c o ++ rest) ≡ variables_in rest
constant_no_variables i c None rest = refl
constant_no_variables i c (Some e) rest = refl

constants_no_variables : (i : List ℕ) (given : List Substitute) (cs : List Declared) (rest : List ModuleUnit) → variables_in (constants_made i given cs ++ rest) ≡ variables_in rest
constants_no_variables i given [] rest = refl
constants_no_variables i given (c ∷ cs) rest =
    ap variables_in (append_assoc (constant_made i c (substitute_for given c.name)) (constants_made i given cs) rest)
    ∙ constant_no_variables i c (substitute_for given c.name) (constants_made i given cs ++ rest) ∙ constants_no_variables i given cs rest

units_no_variables : (i : List ℕ) (by : StandIns) (us rest : List ModuleUnit) → variables_in (units_made i by us ++ rest) ≡ variables_in rest
units_no_variables i by [] rest = refl
units_no_variables i by (Variables ds ∷ us) rest = units_no_variables i by us rest
units_no_variables i by (Constants ds ∷ us) rest = units_no_variables i by us rest
units_no_variables i by (Recursive ds ∷ us) rest = units_no_variables i by us rest
units_no_variables i by (Define d ∷ us) rest = units_no_variables i by us rest
units_no_variables i by (Assume e ∷ us) rest = units_no_variables i by us rest
units_no_variables i by (Instance m ∷ us) rest = units_no_variables i by us rest
units_no_variables i by (Passed ∷ us) rest = units_no_variables i by us rest

pub no_variables : (i : List ℕ) (m : Program) (given : List Substitute) (rest : List ModuleUnit) → variables_in (instance_units i m given ++ rest) ≡ variables_in rest
no_variables i m given rest =
    let by : StandIns = stand_ins i (variables_in m.units) (names_own m.units) given (brought m.standard) in
    ap variables_in (append_assoc (constants_made i given (constants_in m.units)) (units_made i by m.units) rest)
    ∙ constants_no_variables i given (constants_in m.units) (units_made i by m.units ++ rest) ∙ units_no_variables i by m.units rest

-- ---- trees

pub formed_join : (us vs : List ModuleUnit) → UnitsAreFormed us → UnitsAreFormed vs → UnitsAreFormed (us ++ vs)
formed_join [] vs h k = k
formed_join (u ∷ us) vs h k = (h.0, formed_join us vs h.1 k)

-- a tree of the grammar, or none
abbrev MayBeFormed : Option Tree → Type 0
MayBeFormed None = Unit {0}
MayBeFormed (Some e) = IsFormed e

either_formed : (b : Bool) (x y : Option Tree) → MayBeFormed x → MayBeFormed y → MayBeFormed (if b then x else y)
either_formed true x y h g = h
either_formed false x y h g = g

abbrev SubstitutesFormed : List Substitute → Type 0
SubstitutesFormed [] = Unit {0}
SubstitutesFormed (s ∷ ss) = IsFormed s.by × SubstitutesFormed ss

substitute_formed : (given : List Substitute) (n : List ℕ) → SubstitutesFormed given → MayBeFormed (substitute_for given n)
substitute_formed [] n h = tt
substitute_formed (s ∷ ss) n h = either_formed (bytes_eq s.name n) (Some s.by) (substitute_for ss n) h.0 (substitute_formed ss n h.1)

constant_formed : (i : List ℕ) (c : Declared) (o : Option Tree) → MayBeFormed o → UnitsAreFormed (constant_made i c o)
constant_formed i c None h = tt
constant_formed i c (Some e) h = (h, tt)

constants_formed : (i : List ℕ) (given : List Substitute) (cs : List Declared) → SubstitutesFormed given → UnitsAreFormed (constants_made i given cs)
constants_formed i given [] h = tt
constants_formed i given (c ∷ cs) h =
    formed_join (constant_made i c (substitute_for given c.name)) (constants_made i given cs) (constant_formed i c (substitute_for given c.name) (substitute_formed given c.name h)) (constants_formed i given cs h)

units_formed : (i : List ℕ) (by : StandIns) (us : List ModuleUnit) → UnitsAreFormed us → UnitsAreFormed (units_made i by us)
units_formed i by [] h = tt
units_formed i by (Variables ds ∷ us) h = units_formed i by us h.1
units_formed i by (Constants ds ∷ us) h = units_formed i by us h.1
units_formed i by (Recursive ds ∷ us) h = (tt, units_formed i by us h.1)
units_formed i by (Define d ∷ us) h = (formed by d.params d.body h.0, units_formed i by us h.1)
units_formed i by (Assume e ∷ us) h = units_formed i by us h.1
units_formed i by (Instance m ∷ us) h = units_formed i by us h.1
units_formed i by (Passed ∷ us) h = units_formed i by us h.1

-- ---- what WITH gives

given_formed : (ws : List With) (n : List ℕ) → WithsAreFormed ws → MayBeFormed (given_by ws n)
given_formed [] n h = tt
given_formed (w ∷ ws) n h = either_formed (bytes_eq w.name n) (Some w.by) (given_by ws n) h.0 (given_formed ws n h.1)

first_formed : (x y : Option Tree) → MayBeFormed x → MayBeFormed y → MayBeFormed (first_of x y)
first_formed None y h g = g
first_formed (Some e) y h g = h

stands_formed : (units : List ModuleUnit) (standard : List Entry) (m : Made) (n : List ℕ) → WithsAreFormed m.withs → MayBeFormed (stands_for units standard m n)
stands_formed units standard m n h =
    first_formed (given_by m.withs n) (same_name units standard m.at n) (given_formed m.withs n h) (either_formed (units_have units n || brings standard n) (Some (Name m.at n)) None tt tt)

if_formed : (n : List ℕ) (o : Option Tree) (rest : List Substitute) → MayBeFormed o → SubstitutesFormed rest → SubstitutesFormed (substitute_if n o ++ rest)
if_formed n None rest h g = g
if_formed n (Some e) rest h g = (h, g)

substitutes_formed : (units : List ModuleUnit) (standard : List Entry) (m : Made) (ds : List Declared) → WithsAreFormed m.withs → SubstitutesFormed (substitutes_for units standard m ds)
substitutes_formed units standard m [] h = tt
substitutes_formed units standard m (d ∷ ds) h =
    if_formed d.name (stands_for units standard m d.name) (substitutes_for units standard m ds) (stands_formed units standard m d.name h) (substitutes_formed units standard m ds h)

pub instance_formed : (i : List ℕ) (program : Program) (units : List ModuleUnit) (standard : List Entry) (m : Made) (ds : List Declared) → UnitsAreFormed program.units → WithsAreFormed m.withs → UnitsAreFormed (instance_units i program (substitutes_for units standard m ds))
instance_formed i program units standard m ds h g =
    let given : List Substitute = substitutes_for units standard m ds in
    let by : StandIns = stand_ins i (variables_in program.units) (names_own program.units) (substitutes_for units standard m ds) (brought program.standard) in
    formed_join (constants_made i given (constants_in program.units)) (units_made i by program.units) (constants_formed i given (constants_in program.units) (substitutes_formed units standard m ds g)) (units_formed i by program.units h)
