-- A definition that a name of a program means is one of the program.
use Rattle.std.proofs.Common.{◌≡◌, ◌∙◌, refl, subst, List, [], ◌∷◌, ◌++◌, length}
use Rattle.std.specs.Prelude.{ℕ, Bool, true, false, if◌then◌else◌, Some}
use Rattle.std.specs.Str.{bytes_eq}
use Rattle.std.proofs.lemmas.List.Elements.{All-head, All-tail}
use Rattle.values_core.specs.Data.{Val}
use Rattle.reading_trees.specs.declared.config.Config.{Config}
use Rattle.reading_trees.specs.declared.module.Program.{Program}
use Rattle.names_scopes.specs.declared.meant.Entry.{Entry}
use Rattle.names_scopes.specs.declared.meant.Named.{Named}
use Rattle.names_scopes.specs.Scopes.{among}
use Rattle.names_scopes.specs.Standing.{AreIn, IsIn}
use Rattle.names_program.specs.Entries.{variable_entries, constant_entries, definition_entries, standard_entries}
use Rattle.names_program.specs.InUnits.{variables_in, constants_in, definitions_in}
use Rattle.names_program.specs.Names.{AreNames, by_index, program_meaning}
use Rattle.names_program.specs.Standard.{brought}
use Rattle.names_program.proofs.NameLemmas.{are_names}
use Rattle.names_program.proofs.WithinLemmas.{names_within}

entry_within : (k : ℕ) (es : List Entry) (n : List ℕ) (w : Named) → AreIn k es → among es n ≡ Some w → IsIn k w.meant
entry_within k [] n w h e = absurd (cc)
entry_within k (x ∷ xs) n w h e = one (bytes_eq x.name n) e (entry_within k xs n w (All-tail (λ (y : Entry). IsIn k y.is.meant) x xs h))
  where
    one : (b : Bool) → (if b then Some x.is else among xs n) ≡ Some w → (among xs n ≡ Some w → IsIn k w.meant) → IsIn k w.meant
    one true q rest =
        let same : x.is ≡ w = cc in
        subst (λ (y : Named). IsIn k y.meant) same (All-head (λ (y : Entry). IsIn k y.is.meant) x xs h)
    one false q rest = rest q

-- a definition that is meant is one of the program
pub meant_within : (p : Program) (c : Config) (values : List Val) (n : List ℕ) (w : Named) → program_meaning p c values by_index n ≡ Some w → IsIn (length (definitions_in p.units)) w.meant
meant_within p c values n w e =
    let vs : List Entry = variable_entries 0 (variables_in p.units) in
    let cs : List Entry = constant_entries c.givens (definitions_in p.units) values 0 (constants_in p.units) in
    let es : List Entry = definition_entries c.givens (definitions_in p.units) 0 (definitions_in p.units) in
    let ss : List Entry = standard_entries c.givens (definitions_in p.units) (brought p.standard) in
    let all : List Entry = ((vs ++ cs) ++ es) ++ ss in
    let are : AreNames p c values by_index all = are_names p c values all vs cs es ss refl refl refl refl refl in
    let within : AreIn (length (definitions_in p.units)) all = names_within (definitions_in p.units) p.standard values c.givens (variables_in p.units) (constants_in p.units) (definitions_in p.units) (definitions_in p.units) (definitions_in p.units) (brought p.standard) [] vs (vs ++ cs) ((vs ++ cs) ++ es) all refl refl refl refl refl refl refl refl refl in
    entry_within (length (definitions_in p.units)) all n w within (are n ∙ e)
