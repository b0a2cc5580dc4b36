-- What comes of a whole program before its names are resolved.
use Rattle.std.proofs.Common.{◌≡◌, ◌∙◌, sym, ap, refl, subst, List, [], ◌∷◌, ◌++◌}
use Rattle.std.specs.Prelude.{Bool, true, false, Option, Some, None, Result, Ok, Err, IfErr, IfOk, OnOk, slice_get}
use Rattle.reading_trees.specs.declared.module.Declared.{Declared}
use Rattle.reading_trees.specs.declared.module.Instance.{Instance as ModuleInstance}
use Rattle.reading_trees.specs.declared.module.Program.{Program}
use Rattle.reading_trees.specs.declared.module.Unit.{Unit as ModuleUnit}
use Rattle.reading_trees.specs.declared.module.Unit.TheVariants.{Variables, Constants, Recursive, Define, Instance, Assume, Passed}
use Rattle.reading_trees.specs.declared.module.WholeProgram.{WholeProgram}
use Rattle.names_program.specs.InUnits.{variables_in}
use Rattle.names_program.specs.Names.{first_of}
use Rattle.names_resolving.specs.Resolved.{HasFewVariables}
use Rattle.names_resolving.specs.declared.fault.ResolveFault.{ResolveFault}
use Rattle.names_resolving.specs.declared.fault.ResolveFault.TheVariants.{TooManyVariables, UnknownName, WrongArity, Recursion, NoValue, LevelTooHigh, PrimedArgument, NoOperator, NotTheShape, NotAVariable, NoSubstitute, NoMemory}
use Rattle.names_whole_programs.specs.Expanded.{expanded, expanded_units, has_instances, left_by, made_by, next_of}
use Rattle.names_whole_programs.specs.Expansion.{ExpansionBy, ExpansionRefused, IsExpandableBy, IsExpansion, IsWideExpansion, expands, expands_with_it, too_many_variables, too_many_with_it, wrong_instance}
use Rattle.names_whole_programs.specs.InstanceFaults.{first_instance_fault, unit_fault, units_fault}
use Rattle.names_whole_programs.specs.Wide.{expanded_wide, left_with, wide_units}

-- ---- without an instance

expanded_same : (p : Program) (us : List ModuleUnit) (is : List ModuleInstance) → has_instances us ≡ false → expanded_units p us is ≡ us
expanded_same p [] is h = refl
expanded_same p (Instance m ∷ us) is h = absurd (cc)
expanded_same p (Variables ds ∷ us) is h = ap (λ (l : List ModuleUnit). Variables ds ∷ l) (expanded_same p us is h)
expanded_same p (Constants ds ∷ us) is h = ap (λ (l : List ModuleUnit). Constants ds ∷ l) (expanded_same p us is h)
expanded_same p (Define d ∷ us) is h = ap (λ (l : List ModuleUnit). Define d ∷ l) (expanded_same p us is h)
expanded_same p (Recursive rs ∷ us) is h = ap (λ (l : List ModuleUnit). Recursive rs ∷ l) (expanded_same p us is h)
expanded_same p (Assume e ∷ us) is h = ap (λ (l : List ModuleUnit). Assume e ∷ l) (expanded_same p us is h)
expanded_same p (Passed ∷ us) is h = ap (λ (l : List ModuleUnit). Passed ∷ l) (expanded_same p us is h)

none_wrong : (p : Program) (us : List ModuleUnit) (is : List ModuleInstance) → has_instances us ≡ false → units_fault p us is ≡ None
none_wrong p [] is h = refl
none_wrong p (Instance m ∷ us) is h = absurd (cc)
none_wrong p (Variables ds ∷ us) is h = none_wrong p us is h
none_wrong p (Constants ds ∷ us) is h = none_wrong p us is h
none_wrong p (Define d ∷ us) is h = none_wrong p us is h
none_wrong p (Recursive rs ∷ us) is h = none_wrong p us is h
none_wrong p (Assume e ∷ us) is h = none_wrong p us is h
none_wrong p (Passed ∷ us) is h = none_wrong p us is h

-- a program with these units
abbrev with_units : Program → List ModuleUnit → Program
with_units p us = record { files = p.files; units = us; standard = p.standard }

plain_expanded : (w : WholeProgram) → has_instances w.program.units ≡ false → expanded w ≡ w.program
plain_expanded w h = ap (with_units w.program) (expanded_same w.program w.program.units w.instances h)

-- ---- where nothing is wrong the word changes nothing

first_none : (a b : Option ResolveFault) → first_of a b ≡ None → (a ≡ None) × (b ≡ None)
first_none None b h = (refl, h)
first_none (Some f) b h = absurd (cc)

wide_same : (p : Program) (us : List ModuleUnit) (is : List ModuleInstance) → units_fault p us is ≡ None → wide_units p us is ≡ expanded_units p us is
wide_same p [] is h = refl
wide_same p (u ∷ us) is h =
    let parts = first_none (unit_fault p u (next_of is)) (units_fault p us (left_by u is)) h in
    ap (λ (o : Option ResolveFault). left_with p u (next_of is) o ++ wide_units p us (left_by u is)) parts.0
    ∙ ap (λ (l : List ModuleUnit). u ∷ made_by p u (next_of is) ++ l) (wide_same p us (left_by u is) parts.1)

fine_same : (w : WholeProgram) → first_instance_fault w ≡ None → expanded_wide w ≡ expanded w
fine_same w h = ap (with_units w.program) (wide_same w.program w.program.units w.instances h)

plain_wide : (w : WholeProgram) → has_instances w.program.units ≡ false → expanded_wide w ≡ w.program
plain_wide w h = fine_same w (none_wrong w.program w.program.units w.instances h) ∙ plain_expanded w h

pub plain_both : (w : WholeProgram) → has_instances w.program.units ≡ false → (expanded w ≡ w.program) × (expanded_wide w ≡ w.program)
plain_both w h = (plain_expanded w h, plain_wide w h)

pub strict_is_wide : (w : WholeProgram) (p : Program) → IsExpansion w (Ok p) → IsWideExpansion w (Ok p)
strict_is_wide w _ (expands few fine) = subst (λ (q : Program). IsWideExpansion w (Ok q)) (fine_same w fine) (expands_with_it few)

-- ---- what is answered

refused_so : (wide : Bool) (w : WholeProgram) (f : ResolveFault) → ExpansionBy wide w (Err f) → ExpansionRefused wide w f
refused_so wide w (TooManyVariables at) r = r
refused_so wide w (UnknownName n at) r = r
refused_so wide w (WrongArity n found needed at) r = r
refused_so wide w (Recursion n at) r = r
refused_so wide w (NoValue n at) r = r
refused_so wide w (LevelTooHigh found limit at) r = r
refused_so wide w (PrimedArgument at) r = r
refused_so wide w (NoOperator n) r = r
refused_so wide w (NotTheShape at) r = r
refused_so wide w (NotAVariable n at) r = r
refused_so wide w (NoSubstitute n at) r = r
refused_so wide w NoMemory r = tt

pub refuses_variable : (w : WholeProgram) (o : Option Declared) (d : Declared) → o ≡ slice_get (variables_in w.program.units) 64 → o ≡ Some d → (wide : Bool) → ExpansionRefused wide w (TooManyVariables d.at)
refuses_variable w o d e s true = too_many_with_it d (sym e ∙ s)
refuses_variable w o d e s false = too_many_variables d (sym e ∙ s)

pub refuses_instance : (w : WholeProgram) (o : Option ResolveFault) (f : ResolveFault) → HasFewVariables w.program → o ≡ first_instance_fault w → o ≡ Some f → ExpansionRefused false w f
refuses_instance w o f few e s = refused_so false w f (wrong_instance f few (sym e ∙ s))

pub allowed : (wide b : Bool) (w : WholeProgram) → wide ≡ b → IsExpandableBy b w → IsExpandableBy wide w
allowed wide b w e h = subst (λ (x : Bool). IsExpandableBy x w) (sym e) h

pub if_allowed : {E : Type 0} (wide b : Bool) (w : WholeProgram) (r : Result Unit E) → wide ≡ b → OnOk r (IsExpandableBy b w) → OnOk r (IsExpandableBy wide w)
if_allowed wide b w r e h = subst (λ (x : Bool). OnOk r (IsExpandableBy x w)) (sym e) h

pub if_refused : {A : Type 0} (wide b : Bool) (w : WholeProgram) (r : Result A ResolveFault) → wide ≡ b → IfErr r (ExpansionRefused b w) → IfErr r (ExpansionRefused wide w)
if_refused wide b w r e h = subst (λ (x : Bool). IfErr r (ExpansionRefused x w)) (sym e) h

-- what is expanded with the word is what comes of the program, with it and without it
pub expands_to : (wide : Bool) (w : WholeProgram) (p : Program) → IsExpandableBy wide w → p ≡ expanded_wide w → ExpansionBy wide w (Ok p)
expands_to true w p few e = subst (λ (q : Program). IsWideExpansion w (Ok q)) (sym e) (expands_with_it few)
expands_to false w p h e = subst (λ (q : Program). IsExpansion w (Ok q)) (sym (e ∙ fine_same w h.fine)) (expands h.few h.fine)

pub if_expanded : {E : Type 0} (wide : Bool) (w : WholeProgram) (r : Result Program E) → IsExpandableBy wide w → IfOk r (λ p. p ≡ expanded_wide w) → IfOk r (λ p. ExpansionBy wide w (Ok p))
if_expanded wide w (Ok p) h e = expands_to wide w p h e
if_expanded wide w (Err x) h e = tt

pub plain_to : (wide : Bool) (w : WholeProgram) → IsExpandableBy wide w → has_instances w.program.units ≡ false → ExpansionBy wide w (Ok w.program)
plain_to wide w h e = expands_to wide w w.program h (sym (plain_wide w e))

-- ---- one thing comes of it

module _ (w : WholeProgram) where
  abbrev Outcome : Type 0
  Outcome = Result Program ResolveFault

  abbrev refused_at : Declared → Outcome
  refused_at d = Err (TooManyVariables d.at)

  abbrev refused_by : ResolveFault → Outcome
  refused_by f = Err f

  -- the outcome, for each number of variables and each first fault of instances
  abbrev by_fault : Option ResolveFault → Outcome
  by_fault (Some f) = Err f
  by_fault None = Ok (expanded w)

  abbrev by_variable : Outcome → Option Declared → Outcome
  by_variable r (Some d) = refused_at d
  by_variable r None = r

  is_by : (r : Outcome) → IsExpansion w r → r ≡ by_variable (by_fault (first_instance_fault w)) (slice_get (variables_in w.program.units) 64)
  is_by _ (too_many_variables d e) = sym (ap (by_variable (by_fault (first_instance_fault w))) e)
  is_by _ (wrong_instance f few e) = sym (ap (by_variable (by_fault (first_instance_fault w))) few ∙ ap by_fault e)
  is_by _ (expands few e) = sym (ap (by_variable (by_fault (first_instance_fault w))) few ∙ ap by_fault e)

  abbrev widest : Outcome
  widest = Ok (expanded_wide w)

  is_wide_by : (r : Outcome) → IsWideExpansion w r → r ≡ by_variable widest (slice_get (variables_in w.program.units) 64)
  is_wide_by _ (too_many_with_it d e) = sym (ap (by_variable widest) e)
  is_wide_by _ (expands_with_it few) = sym (ap (by_variable widest) few)

  there_is : (o : Option Declared) → slice_get (variables_in w.program.units) 64 ≡ o → (f : Option ResolveFault) → first_instance_fault w ≡ f → (r : Outcome) × IsExpansion w r
  there_is (Some d) e f q = (refused_at d, too_many_variables d e)
  there_is None e (Some f) q = (refused_by f, wrong_instance f e q)
  there_is None e None q = (Ok (expanded w), expands e q)

  there_is_wide : (o : Option Declared) → slice_get (variables_in w.program.units) 64 ≡ o → (r : Outcome) × IsWideExpansion w r
  there_is_wide (Some d) e = (refused_at d, too_many_with_it d e)
  there_is_wide None e = (widest, expands_with_it e)

pub one_expansion : (wide : Bool) (w : WholeProgram) (r s : Result Program ResolveFault) → ExpansionBy wide w r → ExpansionBy wide w s → r ≡ s
one_expansion true w r s h k = is_wide_by w r h ∙ sym (is_wide_by w s k)
one_expansion false w r s h k = is_by w r h ∙ sym (is_by w s k)

pub an_expansion : (wide : Bool) (w : WholeProgram) → (r : Result Program ResolveFault) × ExpansionBy wide w r
an_expansion true w = there_is_wide w (slice_get (variables_in w.program.units) 64) refl
an_expansion false w = there_is w (slice_get (variables_in w.program.units) 64) refl (first_instance_fault w) refl
