-- The units of a program with what its instances make.
use Rattle.std.proofs.Common.{◌≡◌, ◌≢◌, ℕ, Bool, true, false, List, [], ◌∷◌, ◌++◌, Option, Some, None, Result, Ok, refl, sym, ap, subst, ◌∙◌}
use Rattle.std.specs.Prelude.{AllPairs}
use Rattle.reading_trees.specs.Grammar.{qualified}
use Rattle.reading_trees.specs.declared.module.Declared.{Declared}
use Rattle.reading_trees.specs.declared.module.Instance.{Instance as ModuleInstance}
use Rattle.reading_trees.specs.declared.module.Made.{Made}
use Rattle.reading_trees.specs.declared.module.Program.{Program}
use Rattle.reading_trees.specs.declared.module.Unit.{Unit as ModuleUnit}
use Rattle.reading_trees.specs.declared.module.Unit.TheVariants.{Variables, Constants, Recursive, Define, Instance, Assume, Passed}
use Rattle.reading_trees.specs.declared.module.WholeProgram.{WholeProgram}
use Rattle.names_resolving.specs.declared.fault.ResolveFault.{ResolveFault}
use Rattle.reading_modules.specs.Twice.{declared_in}
use Rattle.names_program.specs.InUnits.{variables_in}
use Rattle.names_program.specs.Names.{names_declared}
use Rattle.names_program.specs.Standard.{brought}
use Rattle.reading_tokens.specs.Shapes.{each, is_word}
use Rattle.names_instances.specs.Instances.{instance_units}
use Rattle.names_whole_programs.specs.Expanded.{expanded, expanded_units}
use Rattle.names_whole_programs.specs.Expansion.{ExpansionBy, IsExpansion, IsWideExpansion, too_many_variables, wrong_instance, too_many_with_it, expands_with_it}
use Rattle.names_whole_programs.specs.Expansion as expansions
use Rattle.names_whole_programs.specs.Given.{substitutes_of}
use Rattle.names_whole_programs.specs.Given as given
use Rattle.names_whole_programs.specs.InstanceFaults.{unit_fault}
use Rattle.names_whole_programs.specs.Wide.{expanded_wide, left_with, wide_units}
use Rattle.names_specification_laws.specs.Formed.{UnitIsFormed, UnitsAreFormed, WithsAreFormed}
use Rattle.names_resolved_laws.specs.InOrder.{IsWellFormed}
use Rattle.names_load_laws.proofs.NamesDiffer.{NoneIs, Differ, IsPart, nothing_left, also, but, pairs_differ, part_differ}
use Rattle.names_expanded_laws.proofs.Differing.{Apart, AreThere, IsName, all_there, differ_behind, differ_join, no_mark, none_behind, none_join, other_apart, own_differ, own_names, part_join, part_there, qualified_differ, qualified_each, qualified_there, there_join, word_apart}
use Rattle.names_expanded_laws.proofs.MadeNames.{defined, defined_join, formed_join, instance_formed, instance_part, no_variables}

-- what a unit defines has a name of a text, and so has an instance
abbrev pub UnitIsNamed : ModuleUnit → Type 0
UnitIsNamed (Define d) = IsName d.name
UnitIsNamed (Instance m) = IsName m.name
UnitIsNamed (Variables ds) = Unit {0}
UnitIsNamed (Constants ds) = Unit {0}
UnitIsNamed (Recursive rs) = Unit {0}
UnitIsNamed (Assume e) = Unit {0}
UnitIsNamed Passed = Unit {0}

abbrev pub UnitsAreNamed : List ModuleUnit → Type 0
UnitsAreNamed [] = Unit {0}
UnitsAreNamed (u ∷ us) = UnitIsNamed u × UnitsAreNamed us

-- of the program of each instance the trees are those of the grammar, and what it declares differs
abbrev pub AreGoodInside : List ModuleInstance → Type 0
AreGoodInside [] = Unit {0}
AreGoodInside (i ∷ is) = UnitsAreFormed i.program.units × Differ (names_declared (declared_in i.program.units)) × AreGoodInside is

-- ---- the names that an expansion may define

-- of each definition its name; of each instance its name, and those of what its module has behind a mark
abbrev pub all_names : List ModuleUnit → List ModuleInstance → List (List ℕ)
all_names [] is = []
all_names (Variables ds ∷ us) is = all_names us is
all_names (Constants ds ∷ us) is = all_names us is
all_names (Define d ∷ us) is = d.name ∷ all_names us is
all_names (Instance m ∷ us) [] = m.name ∷ all_names us []
all_names (Instance m ∷ us) (i ∷ is) = m.name ∷ (qualified_each m.name (own_names i.program.units) ++ all_names us is)
all_names (Assume e ∷ us) is = all_names us is
all_names (Recursive rs ∷ us) is = all_names us is
all_names (Passed ∷ us) is = all_names us is

no_word : (w : List ℕ) → each is_word w ≡ true → (us : List ModuleUnit) (is : List ModuleInstance) → NoneIs w (names_declared (declared_in us)) → NoneIs w (all_names us is)
no_word w e [] is h = tt
no_word w e (Variables ds ∷ us) is h = no_word w e us is (none_behind w ds (declared_in us) h)
no_word w e (Constants ds ∷ us) is h = no_word w e us is (none_behind w ds (declared_in us) h)
no_word w e (Define d ∷ us) is h = (h.0, no_word w e us is h.1)
no_word w e (Instance m ∷ us) [] h = (h.0, no_word w e us [] h.1)
no_word w e (Instance m ∷ us) (i ∷ is) h = (h.0, none_join w (qualified_each m.name (own_names i.program.units)) (all_names us is) (word_apart w m.name (own_names i.program.units) e) (no_word w e us is h.1))
no_word w e (Assume t ∷ us) is h = no_word w e us is h
no_word w e (Recursive rs ∷ us) is h = no_word w e us is h
no_word w e (Passed ∷ us) is h = no_word w e us is h

no_other : (j n : List ℕ) → each is_word j ≡ true → (us : List ModuleUnit) (is : List ModuleInstance) → UnitsAreNamed us → NoneIs j (names_declared (declared_in us)) → NoneIs (qualified j n) (all_names us is)
no_other j n e [] is w h = tt
no_other j n e (Variables ds ∷ us) is w h = no_other j n e us is w.1 (none_behind j ds (declared_in us) h)
no_other j n e (Constants ds ∷ us) is w h = no_other j n e us is w.1 (none_behind j ds (declared_in us) h)
no_other j n e (Define d ∷ us) is w h = (λ q. no_mark j n d.name (sym q) w.0.1, no_other j n e us is w.1 h.1)
no_other j n e (Instance m ∷ us) [] w h = (λ q. no_mark j n m.name (sym q) w.0.1, no_other j n e us [] w.1 h.1)
no_other j n e (Instance m ∷ us) (i ∷ is) w h = (
  λ q. no_mark j n m.name (sym q) w.0.1,
  none_join (qualified j n) (qualified_each m.name (own_names i.program.units)) (all_names us is) (other_apart j n m.name (own_names i.program.units) e w.0.1 h.0) (no_other j n e us is w.1 h.1),
)
no_other j n e (Assume t ∷ us) is w h = no_other j n e us is w.1 h
no_other j n e (Recursive rs ∷ us) is w h = no_other j n e us is w.1 h
no_other j n e (Passed ∷ us) is w h = no_other j n e us is w.1 h

each_other : (j : List ℕ) (ns : List (List ℕ)) → each is_word j ≡ true → (us : List ModuleUnit) (is : List ModuleInstance) → UnitsAreNamed us → NoneIs j (names_declared (declared_in us)) → Apart (qualified_each j ns) (all_names us is)
each_other j [] e us is w h = tt
each_other j (n ∷ ns) e us is w h = (no_other j n e us is w h, each_other j ns e us is w h)

all_differ : (us : List ModuleUnit) (is : List ModuleInstance) → UnitsAreNamed us → Differ (names_declared (declared_in us)) → AreGoodInside is → Differ (all_names us is)
all_differ [] is w h g = tt
all_differ (Variables ds ∷ us) is w h g = all_differ us is w.1 (differ_behind ds (declared_in us) h) g
all_differ (Constants ds ∷ us) is w h g = all_differ us is w.1 (differ_behind ds (declared_in us) h) g
all_differ (Define d ∷ us) is w h g = (no_word d.name w.0.1 us is h.0, all_differ us is w.1 h.1 g)
all_differ (Instance m ∷ us) [] w h g = (no_word m.name w.0.1 us [] h.0, all_differ us [] w.1 h.1 g)
all_differ (Instance m ∷ us) (i ∷ is) w h g =
    let own : List (List ℕ) = own_names i.program.units in (
      none_join m.name (qualified_each m.name (own_names i.program.units)) (all_names us is) (word_apart m.name m.name (own_names i.program.units) w.0.1) (no_word m.name w.0.1 us is h.0),
      differ_join (qualified_each m.name (own_names i.program.units)) (all_names us is) (qualified_differ m.name (own_names i.program.units) (own_differ i.program.units g.1)) (all_differ us is w.1 h.1 g.2)
          (each_other m.name (own_names i.program.units) w.0.1 us is w.1 h.0),
    )
all_differ (Assume t ∷ us) is w h g = all_differ us is w.1 h g
all_differ (Recursive rs ∷ us) is w h g = all_differ us is w.1 h g
all_differ (Passed ∷ us) is w h g = all_differ us is w.1 h g

all_are_there : (us : List ModuleUnit) (is : List ModuleInstance) → UnitsAreNamed us → AreThere (all_names us is)
all_are_there [] is w = tt
all_are_there (Variables ds ∷ us) is w = all_are_there us is w.1
all_are_there (Constants ds ∷ us) is w = all_are_there us is w.1
all_are_there (Define d ∷ us) is w = (w.0.0, all_are_there us is w.1)
all_are_there (Instance m ∷ us) [] w = (w.0.0, all_are_there us [] w.1)
all_are_there (Instance m ∷ us) (i ∷ is) w = (w.0.0, there_join (qualified_each m.name (own_names i.program.units)) (all_names us is) (qualified_there m.name (own_names i.program.units)) (all_are_there us is w.1))
all_are_there (Assume t ∷ us) is w = all_are_there us is w.1
all_are_there (Recursive rs ∷ us) is w = all_are_there us is w.1
all_are_there (Passed ∷ us) is w = all_are_there us is w.1

-- ---- an expansion

-- what is known of the units of an expansion
pub record ExpandsTo (us : List ModuleUnit) (is : List ModuleInstance) (units : List ModuleUnit) : Type 0 where
  pub formed : UnitsAreFormed units
  pub variables : variables_in units ≡ variables_in us
  pub part : IsPart (defined units) (all_names us is)

-- such a program is as the reader gives it
pub well_formed : (us : List ModuleUnit) (is : List ModuleInstance) (q : Program) → UnitsAreNamed us → Differ (names_declared (declared_in us)) → AreGoodInside is → AllPairs (λ a b. a ≢ b) (names_declared (variables_in us)) → ExpandsTo us is q.units → IsWellFormed q
well_formed us is q w h g v e = record {
  formed = e.formed;
  variables_differ = subst (λ ds. AllPairs (λ a b. a ≢ b) (names_declared ds)) (sym e.variables) v;
  definitions_differ = pairs_differ _ (part_differ _ _ e.part (all_differ us is w h g));
  definitions_named = all_there _ (part_there _ _ e.part (all_are_there us is w));
}

module _ (p : Program) where
  -- what an instance among the units makes
  abbrev makes : Made → ModuleInstance → List ModuleUnit
  makes m i = instance_units m.name i.program (substitutes_of p m i.program)

  made_part : (m : Made) (i : ModuleInstance) (us : List ModuleUnit) (is : List ModuleInstance) (rest : List ModuleUnit) → IsPart (defined rest) (all_names us is) → IsPart (defined (makes m i ++ rest)) (qualified_each m.name (own_names i.program.units) ++ all_names us is)
  made_part m i us is rest h =
      subst (λ v. IsPart v (qualified_each m.name (own_names i.program.units) ++ all_names us is)) (sym (defined_join (makes m i) rest)) (part_join _ _ _ _ (instance_part m.name i.program (substitutes_of p m i.program)) h)

  made_formed : (m : Made) (i : ModuleInstance) (rest : List ModuleUnit) → UnitsAreFormed i.program.units → WithsAreFormed m.withs → UnitsAreFormed rest → UnitsAreFormed (makes m i ++ rest)
  made_formed m i rest h g r = formed_join (makes m i) rest (instance_formed m.name i.program p.units (brought p.standard) m (given.declared_in i.program.units) h g) r

  -- ---- without the word

  expands : (us : List ModuleUnit) (is : List ModuleInstance) → UnitsAreFormed us → AreGoodInside is → ExpandsTo us is (expanded_units p us is)
  expands [] is h g = record { formed = tt; variables = refl; part = nothing_left }
  expands (Variables ds ∷ us) is h g = let r = expands us is h.1 g in record { formed = (h.0, r.formed); variables = ap (λ (v : List Declared). ds ++ v) r.variables; part = r.part }
  expands (Constants ds ∷ us) is h g = let r = expands us is h.1 g in record { formed = (h.0, r.formed); variables = r.variables; part = r.part }
  expands (Define d ∷ us) is h g = let r = expands us is h.1 g in record { formed = (h.0, r.formed); variables = r.variables; part = also d.name _ _ r.part }
  expands (Instance m ∷ us) [] h g = let r = expands us [] h.1 g in record { formed = (h.0, r.formed); variables = r.variables; part = but m.name _ _ r.part }
  expands (Instance m ∷ us) (i ∷ is) h g =
      let r = expands us is h.1 g.2 in
      record {
        formed = (h.0, made_formed m i (expanded_units p us is) g.0 h.0 r.formed);
        variables = no_variables m.name i.program (substitutes_of p m i.program) (expanded_units p us is) ∙ r.variables;
        part = but m.name _ _ (made_part m i us is (expanded_units p us is) r.part);
      }
  expands (Assume t ∷ us) is h g = let r = expands us is h.1 g in record { formed = (h.0, r.formed); variables = r.variables; part = r.part }
  expands (Recursive rs ∷ us) is h g = let r = expands us is h.1 g in record { formed = (h.0, r.formed); variables = r.variables; part = r.part }
  expands (Passed ∷ us) is h g = let r = expands us is h.1 g in record { formed = (h.0, r.formed); variables = r.variables; part = r.part }

  -- ---- with it

  -- an instance's unit with what it makes, or what stands in its place
  wide_alone : (m : Made) (us : List ModuleUnit) (o : Option ResolveFault) (rest : List ModuleUnit) → UnitIsFormed (Instance m) → ExpandsTo us [] rest → ExpandsTo (Instance m ∷ us) [] (left_with p (Instance m) None o ++ rest)
  wide_alone m us None rest h r = record { formed = (h, r.formed); variables = r.variables; part = but m.name _ _ r.part }
  wide_alone m us (Some f) rest h r = record { formed = (tt, r.formed); variables = r.variables; part = also m.name _ _ r.part }

  pass_over : (ns ms xs : List (List ℕ)) → IsPart xs ms → IsPart xs (ns ++ ms)
  pass_over [] ms xs h = h
  pass_over (n ∷ ns) ms xs h = but n _ _ (pass_over ns ms xs h)

  wide_made : (m : Made) (i : ModuleInstance) (us : List ModuleUnit) (is : List ModuleInstance) (o : Option ResolveFault) (rest : List ModuleUnit) → UnitIsFormed (Instance m) → UnitsAreFormed i.program.units → ExpandsTo us is rest → ExpandsTo (Instance m ∷ us) (i ∷ is) (left_with p (Instance m) (Some i) o ++ rest)
  wide_made m i us is None rest h g r = record {
    formed = (h, made_formed m i rest g h r.formed);
    variables = no_variables m.name i.program (substitutes_of p m i.program) rest ∙ r.variables;
    part = but m.name _ _ (made_part m i us is rest r.part);
  }
  wide_made m i us is (Some f) rest h g r = record {
    formed = (tt, r.formed);
    variables = r.variables;
    part = also m.name _ _ (pass_over (qualified_each m.name (own_names i.program.units)) (all_names us is) _ r.part);
  }

  wide_expands : (us : List ModuleUnit) (is : List ModuleInstance) → UnitsAreFormed us → AreGoodInside is → ExpandsTo us is (wide_units p us is)
  wide_expands [] is h g = record { formed = tt; variables = refl; part = nothing_left }
  wide_expands (Variables ds ∷ us) is h g = let r = wide_expands us is h.1 g in record { formed = (h.0, r.formed); variables = ap (λ (v : List Declared). ds ++ v) r.variables; part = r.part }
  wide_expands (Constants ds ∷ us) is h g = let r = wide_expands us is h.1 g in record { formed = (h.0, r.formed); variables = r.variables; part = r.part }
  wide_expands (Define d ∷ us) is h g = let r = wide_expands us is h.1 g in record { formed = (h.0, r.formed); variables = r.variables; part = also d.name _ _ r.part }
  wide_expands (Instance m ∷ us) [] h g = wide_alone m us (unit_fault p (Instance m) None) (wide_units p us []) h.0 (wide_expands us [] h.1 g)
  wide_expands (Instance m ∷ us) (i ∷ is) h g = wide_made m i us is (unit_fault p (Instance m) (Some i)) (wide_units p us is) h.0 g.0 (wide_expands us is h.1 g.2)
  wide_expands (Assume t ∷ us) is h g = let r = wide_expands us is h.1 g in record { formed = (h.0, r.formed); variables = r.variables; part = r.part }
  wide_expands (Recursive rs ∷ us) is h g = let r = wide_expands us is h.1 g in record { formed = (h.0, r.formed); variables = r.variables; part = r.part }
  wide_expands (Passed ∷ us) is h g = let r = wide_expands us is h.1 g in record { formed = (h.0, r.formed); variables = r.variables; part = r.part }

-- an expansion with the word or without it
pub expansion : (wide : Bool) (w : WholeProgram) (q : Program) → UnitsAreFormed w.program.units → AreGoodInside w.instances → ExpansionBy wide w (Ok q) → ExpandsTo w.program.units w.instances q.units
expansion true w q h g e = with_it w _ q h g e refl
  where
    with_it : (w : WholeProgram) (r : Result Program ResolveFault) (q : Program) → UnitsAreFormed w.program.units → AreGoodInside w.instances → IsWideExpansion w r → r ≡ Ok q → ExpandsTo w.program.units w.instances q.units
    with_it w _ q h g (too_many_with_it d s) e = absurd (cc)
    with_it w _ q h g (expands_with_it few) e =
        let same : expanded_wide w ≡ q = cc in
        subst (λ (v : Program). ExpandsTo w.program.units w.instances v.units) same (wide_expands w.program w.program.units w.instances h g)
expansion false w q h g e = without_it w _ q h g e refl
  where
    without_it : (w : WholeProgram) (r : Result Program ResolveFault) (q : Program) → UnitsAreFormed w.program.units → AreGoodInside w.instances → IsExpansion w r → r ≡ Ok q → ExpandsTo w.program.units w.instances q.units
    without_it w _ q h g (too_many_variables d s) e = absurd (cc)
    without_it w _ q h g (wrong_instance f few s) e = absurd (cc)
    without_it w _ q h g (expansions.expands few fine) e =
        let same : expanded w ≡ q = cc in
        subst (λ (v : Program). ExpandsTo w.program.units w.instances v.units) same (expands w.program w.program.units w.instances h g)
