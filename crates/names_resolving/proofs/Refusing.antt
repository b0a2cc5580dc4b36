-- What is refused, and that it is the first thing that is wrong.
use Rattle.std.proofs.Common.{◌≡◌, ◌∙◌, sym, ap, subst, ℕ, List}
use Rattle.std.specs.Prelude.{Option, Some, None, Result, Ok, Err, IfOk, IfErr, IsErrAnd, MatchOption, slice_get}
use Rattle.std.specs.Borrow.{Bor}
use Rattle.base_core.specs.declared.place.Place.{Place}
use Rattle.values_core.specs.Data.{Val}
use Rattle.reading_trees.specs.declared.config.Config.{Config}
use Rattle.reading_trees.specs.declared.config.GivenAt.{GivenAt}
use Rattle.reading_trees.specs.declared.module.Declared.{Declared}
use Rattle.reading_trees.specs.declared.module.Program.{Program}
use Rattle.names_terms.specs.declared.operator.Operator.{Operator}
use Rattle.names_terms.specs.Terms.{Term}
use Rattle.names_term_parts.specs.declared.fault.LevelFault.{LevelFault}
use Rattle.names_meanings.specs.declared.fault.NameFault.{NameFault}
use Rattle.names_program.specs.InUnits.{variables_in}
use Rattle.names_program.specs.Names.{Numbers}
use Rattle.names_tables.specs.NameFaults.{HasFineNames, IsFirstNameFault}
use Rattle.names_tables.specs.Values.{HasAllValues, IsFirstWithoutValue}
use Rattle.names_term_levels.specs.declared.note.Note.{Note}
use Rattle.names_term_levels.specs.Notes.{AreNotes}
use Rattle.names_resolving.specs.declared.fault.ResolveFault.{ResolveFault}
use Rattle.names_resolving.specs.declared.fault.ResolveFault.TheVariants.{TooManyVariables, UnknownName, WrongArity, Recursion, NoValue, LevelTooHigh, PrimedArgument, NoOperator, NotTheShape, NotAVariable, NoSubstitute, NoMemory}
use Rattle.names_resolving.specs.Givens.{first_given_fault}
use Rattle.names_resolving.specs.Refusals.{instance_names, of_level, of_name}
use Rattle.names_resolving.specs.Resolved.{Answers, HasFewVariables, IsConfigured, IsLevelled, IsNamed, Resolved, too_many_variables, wrong_name, no_value, wrong_given, wrong_level, no_operator, no_shape, too_high}
use Rattle.names_resolving.specs.Configured.{HasNoShape, first_too_high, first_without_operator}
use Rattle.names_resolving.specs.Standing.{RefusesName, RefusesShape}
use Rattle.names_resolving.specs.UnitLevels.{HasFineLevels, IsFirstLevelFault}

pub answers : (p : Program) (c : Config) (silent : Option (List ℕ)) (f : ResolveFault) → Resolved p c silent (Err f) → Answers p c silent (Err f)
answers p c silent (TooManyVariables at) r = r
answers p c silent (UnknownName n at) r = r
answers p c silent (WrongArity n found needed at) r = r
answers p c silent (Recursion n at) r = r
answers p c silent (NoValue n at) r = r
answers p c silent (LevelTooHigh found limit at) r = r
answers p c silent (PrimedArgument at) r = r
answers p c silent (NoOperator n) r = r
answers p c silent (NotTheShape at) r = r
answers p c silent (NotAVariable n at) r = r
answers p c silent (NoSubstitute n at) r = r
answers p c silent NoMemory r = tt

pub some_said : {B : Type 0} (A : Type 0) (P : B → Type 0) (o : Option B) (f : B) → MatchOption o A P → o ≡ Some f → P f
some_said A P (Some g) f h e = (let same : g ≡ f = cc in subst P same h)
some_said A P None f h e = absurd (cc)

module _ (p : Program) (c : Config) (number : Numbers) (ops : List Operator) (assumes : List Term) where
  pub refuses_given : (f : ResolveFault) (gs : List GivenAt) (o : Option ResolveFault) → gs ≡ c.givens → o ≡ first_given_fault p number ops gs → o ≡ Some f → (values : List Val) (silent : Option (List ℕ)) → IsNamed p c values number ops assumes → Answers p c silent (Err f)
  refuses_given f gs o g e s values silent h =
      answers p c silent f (wrong_given values number ops assumes f h (ap (first_given_fault p number ops) (sym g) ∙ sym e ∙ s))

  pub refuses_level : (f : LevelFault) (r : ResolveFault) (gs : List GivenAt) (o : Option ResolveFault) (l : Option LevelFault) → gs ≡ c.givens → o ≡ first_given_fault p number ops gs → o ≡ None → MatchOption l (HasFineLevels p number ops assumes) (IsFirstLevelFault p number ops assumes) → l ≡ Some f → r ≡ of_level f → (values : List Val) (silent : Option (List ℕ)) → IsNamed p c values number ops assumes → Answers p c silent (Err r)
  refuses_level f r gs o l g e n m s q values silent h =
      let there : Resolved p c silent (Err (of_level f)) =
      wrong_level values number ops assumes f h (ap (first_given_fault p number ops) (sym g) ∙ sym e ∙ n) (some_said (HasFineLevels p number ops assumes) (IsFirstLevelFault p number ops assumes) l f m s) in
      subst (λ (x : ResolveFault). Answers p c silent (Err x)) (sym q) (answers p c silent (of_level f) there)

pub refuses_variable : (p : Program) (o : Option Declared) (d : Declared) → o ≡ slice_get (variables_in p.units) 64 → o ≡ Some d → (c : Config) (silent : Option (List ℕ)) → Answers p c silent (Err (TooManyVariables d.at))
refuses_variable p o d e s c silent = too_many_variables d (sym e ∙ s)

pub refuses_name : (p : Program) (c : Config) (f : NameFault) (r : ResolveFault) (o : Option NameFault) → HasFewVariables p → MatchOption o (HasFineNames p c) (IsFirstNameFault p c) → o ≡ Some f → r ≡ of_name (instance_names p.units) f → (silent : Option (List ℕ)) → Answers p c silent (Err r)
refuses_name p c f r o few h s q silent =
    let there : Resolved p c silent (Err (of_name (instance_names p.units) f)) = wrong_name f few (some_said (HasFineNames p c) (IsFirstNameFault p c) o f h s) in
    subst (λ (x : ResolveFault). Answers p c silent (Err x)) (sym q) (answers p c silent (of_name (instance_names p.units) f) there)

pub refuses_value : (p : Program) (c : Config) (o : Option (Bor Declared)) (d : Bor Declared) (n : List ℕ) → HasFewVariables p → HasFineNames p c → MatchOption o (HasAllValues p c) (λ x. IsFirstWithoutValue p c x.now) → o ≡ Some d → n ≡ d.now.name → (silent : Option (List ℕ)) → Resolved p c silent (Err (NoValue n d.now.at))
refuses_value p c o d n few fine h s q silent =
    let there : Resolved p c silent (Err (NoValue d.now.name d.now.at)) = no_value d.now few fine (some_said (HasAllValues p c) (λ (x : Bor Declared). IsFirstWithoutValue p c x.now) o d h s) in
    subst (λ (x : List ℕ). Resolved p c silent (Err (NoValue x d.now.at))) (sym q) there

-- what a `?` hands on
pub stopped : {A : Type 0} (r : Result A ResolveFault) (f : ResolveFault) (P : ResolveFault → Type 0) → IsErrAnd r (λ e. e ≡ f) → P f → IfErr r P
stopped (Ok x) f P g h = tt
stopped (Err e) f P g h = subst (λ (x : ResolveFault). P x) (sym g) h

module _ (p : Program) (c : Config) (silent : Option (List ℕ)) (values : List Val) (number : Numbers) (ops : List Operator) (assumes : List Term) where
  without_operator : (f : ResolveFault) → IsLevelled p c values number ops assumes → RefusesName (first_without_operator p c silent) f → Answers p c silent (Err f)
  without_operator (NoOperator n) h e = no_operator values number ops assumes n h e
  without_operator NoMemory h e = tt
  without_operator (TooManyVariables at) h e = absurd e
  without_operator (UnknownName n at) h e = absurd e
  without_operator (WrongArity n found needed at) h e = absurd e
  without_operator (Recursion n at) h e = absurd e
  without_operator (NoValue n at) h e = absurd e
  without_operator (LevelTooHigh found limit at) h e = absurd e
  without_operator (PrimedArgument at) h e = absurd e
  without_operator (NotTheShape at) h e = absurd e
  without_operator (NotAVariable n at) h e = absurd e
  without_operator (NoSubstitute n at) h e = absurd e

  pub refuses_operator : {A : Type 0} (r : Result A ResolveFault) → IsNamed p c values number ops assumes → first_given_fault p number ops c.givens ≡ None → HasFineLevels p number ops assumes → IfErr r (RefusesName (first_without_operator p c silent)) → IfErr r (λ f. Answers p c silent (Err f))
  refuses_operator (Ok x) n g l h = tt
  refuses_operator (Err f) n g l h = without_operator f (record { named = n; givens = g; levels = l }) h

  pub refuses_shape : (f : ResolveFault) → IsConfigured p c silent values number ops assumes → RefusesShape p c number ops f → Answers p c silent (Err f)
  refuses_shape (NotTheShape at) h e = no_shape values number ops assumes at h e
  refuses_shape NoMemory h e = tt
  refuses_shape (NoOperator n) h e = absurd e
  refuses_shape (TooManyVariables at) h e = absurd e
  refuses_shape (UnknownName n at) h e = absurd e
  refuses_shape (WrongArity n found needed at) h e = absurd e
  refuses_shape (Recursion n at) h e = absurd e
  refuses_shape (NoValue n at) h e = absurd e
  refuses_shape (LevelTooHigh found limit at) h e = absurd e
  refuses_shape (PrimedArgument at) h e = absurd e
  refuses_shape (NotAVariable n at) h e = absurd e
  refuses_shape (NoSubstitute n at) h e = absurd e

  pub refuses_limit : (f : ResolveFault) → IsConfigured p c silent values number ops assumes → ((at : Place) → ¬ HasNoShape p c number ops at) → first_too_high p c silent number ops ≡ Some f → Answers p c silent (Err f)
  refuses_limit f h s e = answers p c silent f (too_high values number ops assumes f h s e)

pub noted_there : (items ops : List Operator) (ns ms : List Note) → items ≡ ops → ms ≡ ns → AreNotes items ns → AreNotes ops ms
noted_there items ops ns ms e q h = subst (λ (l : List Note). AreNotes ops l) (sym q) (subst (λ (l : List Operator). AreNotes l ns) e h)
