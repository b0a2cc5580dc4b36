-- The refusals of names and levels as refusals of a program.
use Rattle.std.specs.Prelude.{ℕ, if◌then◌else◌, List, [], ◌∷◌, eqb}
use Rattle.std.specs.List.{before_first}
use Rattle.reading_trees.specs.Grammar.{mark}
use Rattle.reading_trees.specs.declared.module.Unit.{Unit as ModuleUnit}
use Rattle.reading_trees.specs.declared.module.Unit.TheVariants.{Variables, Constants, Recursive, Define, Instance, Assume, Passed}
use Rattle.names_meanings.specs.declared.fault.NameFault.{NameFault}
use Rattle.names_meanings.specs.declared.fault.NameFault.TheVariants as name
use Rattle.names_term_parts.specs.declared.fault.LevelFault.{LevelFault}
use Rattle.names_term_parts.specs.declared.fault.LevelFault.TheVariants as level
use Rattle.names_scopes.specs.Mentions.{is_one_of}
use Rattle.names_resolving.specs.declared.fault.ResolveFault.{ResolveFault}
use Rattle.names_resolving.specs.declared.fault.ResolveFault.TheVariants.{UnknownName, WrongArity, Recursion, LevelTooHigh, PrimedArgument, NoMemory}

-- the names of the instances among units
abbrev pub instance_names : List ModuleUnit → List (List ℕ)
instance_names [] = []
instance_names (Instance m ∷ us) = m.name ∷ instance_names us
instance_names (Variables ds ∷ us) = instance_names us
instance_names (Constants ds ∷ us) = instance_names us
instance_names (Define d ∷ us) = instance_names us
instance_names (Assume e ∷ us) = instance_names us
instance_names (Recursive rs ∷ us) = instance_names us
instance_names (Passed ∷ us) = instance_names us

-- the part of a name before its first mark
abbrev pub before_mark : List ℕ → List ℕ
before_mark n = before_first (λ c. eqb c mark) n

-- a name without the mark that it begins with, as y of `!y`
abbrev pub without_mark : List ℕ → List ℕ
without_mark [] = []
without_mark (c ∷ cs) = if eqb c mark then cs else c ∷ cs

-- Which name is told of one that means nothing: the whole name, as `I!N`, where the program has the instance I. Of another qualified name, that of its
-- instance, since there is no instance of that name. A name `!!n` is the name n of the module of an instance, as that module writes it.
abbrev pub told_name : List (List ℕ) → List ℕ → List ℕ
told_name instances n = if is_one_of (before_mark n) instances then n else before_mark (without_mark (without_mark n))

-- of a variable `!y` that has arguments, y is told
abbrev pub of_name : List (List ℕ) → NameFault → ResolveFault
of_name instances (name.UnknownName n at) = UnknownName (told_name instances n) at
of_name instances (name.WrongArity n found needed at) = WrongArity (without_mark n) found needed at
of_name instances (name.Recursion n at) = Recursion n at
of_name instances name.NoMemory = NoMemory

abbrev pub of_level : LevelFault → ResolveFault
of_level (level.TooHigh found allowed at) = LevelTooHigh found allowed at
of_level (level.PrimedArgument at) = PrimedArgument at
