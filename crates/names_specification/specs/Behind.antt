-- Which operator gives Init and Next where the one behind SPECIFICATION is fairness and the name of another: `LSpec == Spec /\ WF_vars(Next)` stands for
-- Spec. (This project's profile: fairness says nothing of the steps of a log.) A name for which the configuration gives something is not looked through.
use Rattle.std.specs.Prelude.{ℕ, zero, suc, not, List, [], ◌∷◌, Option, Some, None, if◌then◌else◌, option_map}
use Rattle.std.specs.List.{filter}
use Rattle.reading_trees.specs.Trees.{Tree, Name}
use Rattle.reading_trees.specs.declared.config.Config.{Config}
use Rattle.reading_trees.specs.declared.expr.Definition.{Definition}
use Rattle.reading_trees.specs.declared.module.Program.{Program}
use Rattle.names_specification.specs.Fair.{conjuncts, is_fair, is_given, operator_kept}

-- so many levels of names and conjunctions are looked through, and so many names one behind the other
abbrev pub deepest : ℕ
deepest = 16

-- those that are no fairness
abbrev pub unfair : Program → Config → Tree → List Tree
unfair p c t = filter (λ e. not (is_fair deepest p c e)) (conjuncts t)

-- a single one, which is a name that the configuration gives nothing for
abbrev pub only_name : Config → List Tree → Option (List ℕ)
only_name c (Name at n ∷ []) = if is_given c n then None else Some n
only_name c ts = None

abbrev pub name_in : Program → Config → Option Definition → Option (List ℕ)
name_in p c None = None
name_in p c (Some d) = only_name c (unfair p c d.body)

-- The operator of the first name stands for this one: its body is the name, and fairness.
abbrev pub stands_for : Program → Config → List ℕ → Option (List ℕ)
stands_for p c n = name_in p c (operator_kept p c n)

abbrev pub or_last : (List ℕ → List ℕ) → List ℕ → Option (List ℕ) → List ℕ
or_last f n None = n
or_last f n (Some m) = f m

-- the last that is found so
unfoldable pub last_from : ℕ → Program → Config → List ℕ → List ℕ
last_from zero p c n = n
last_from (suc k) p c n = or_last (last_from k p c) n (stands_for p c n)

abbrev pub specification_of : Program → Config → List ℕ → List ℕ
specification_of p c n = last_from deepest p c n

-- the configuration that names that one
abbrev pub looked_through : Program → Config → Config
looked_through p c = record c { specification = option_map (specification_of p c) c.specification }
