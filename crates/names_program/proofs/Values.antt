-- Which definition a name means does not depend on the values of the constants.
use Rattle.std.proofs.Common.{◌≡◌, ◌∙◌, sym, ap, List}
use Rattle.std.specs.Prelude.{ℕ, Option, Some, None}
use Rattle.values_core.specs.Data.{Val}
use Rattle.reading_trees.specs.declared.config.Config.{Config}
use Rattle.reading_trees.specs.declared.module.Program.{Program}
use Rattle.names_scopes.specs.declared.meant.Meant.{Meant}
use Rattle.names_scopes.specs.declared.meant.Meant.TheVariants as meant
use Rattle.names_scopes.specs.declared.meant.Named.{Named}
use Rattle.names_scopes.specs.Scopes.{among, named}
use Rattle.names_program.specs.Names.{by_index, constant_index, constant_means, declared_meaning, definition_index, definition_means, definition_meant, first_of, meant_or, program_meaning, replacement, standard_means, value_at, variable_means, variable_named}
use Rattle.names_program.specs.Standard.{brought}
use Rattle.names_program.proofs.NameLemmas.{by_index_is}

abbrev meaning_of : Option Named → Meant
meaning_of None = meant.Slot 0
meaning_of (Some w) = w.meant

replaced : (v w : Val) (r : Option ℕ) (needed j : ℕ) (rest : Option Named) → first_of (Some (named 0 (meant_or (meant.Known v) r))) rest ≡ Some (named needed (definition_meant j)) → first_of (Some (named 0 (meant_or (meant.Known w) r))) rest ≡ Some (named needed (definition_meant j))
replaced v w None needed j rest h = (let same : meant.Known v ≡ definition_meant j = ap meaning_of h in absurd (cc))
replaced v w (Some i) needed j rest h = h

constants : (p : Program) (c : Config) (vs ws : List Val) (n : List ℕ) (i : Option ℕ) (needed j : ℕ) (rest : Option Named) → first_of (constant_means p c vs n i) rest ≡ Some (named needed (definition_meant j)) → first_of (constant_means p c ws n i) rest ≡ Some (named needed (definition_meant j))
constants p c vs ws n None needed j rest h = h
constants p c vs ws n (Some i) needed j rest h = replaced (value_at vs i) (value_at ws i) (replacement p c n 0) needed j rest h

variables : (p : Program) (c : Config) (vs ws : List Val) (n : List ℕ) (i : Option ℕ) (needed j : ℕ) (rest : Option Named) → first_of (variable_means i) (first_of (constant_means p c vs n (constant_index p n)) rest) ≡ Some (named needed (definition_meant j)) → first_of (variable_means i) (first_of (constant_means p c ws n (constant_index p n)) rest) ≡ Some (named needed (definition_meant j))
variables p c vs ws n None needed j rest h = constants p c vs ws n (constant_index p n) needed j rest h
variables p c vs ws n (Some i) needed j rest h = (let same : meant.Variable (record { 0 = i }) ≡ definition_meant j = ap meaning_of h in absurd (cc))

pub with_other_values : (p : Program) (c : Config) (vs ws : List Val) (n : List ℕ) (needed j : ℕ) → declared_meaning p c vs n ≡ Some (named needed (definition_meant j)) → declared_meaning p c ws n ≡ Some (named needed (definition_meant j))
with_other_values p c vs ws n needed j h =
    variables p c vs ws n (variable_named p n) needed j (first_of (definition_means p c n (definition_index p n)) (standard_means p c n (among (brought p.standard) n))) h

pub means_with_other_values : (p : Program) (c : Config) (vs ws : List Val) (n : List ℕ) (needed j : ℕ) → program_meaning p c vs by_index n ≡ Some (named needed (definition_meant j)) → program_meaning p c ws by_index n ≡ Some (named needed (definition_meant j))
means_with_other_values p c vs ws n needed j h =
    by_index_is (declared_meaning p c ws n) ∙ with_other_values p c vs ws n needed j (sym (by_index_is (declared_meaning p c vs n)) ∙ h)
