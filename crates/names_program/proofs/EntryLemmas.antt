-- Entries of variables, of constants and of standard names.
use Rattle.std.proofs.Common.{◌≡◌, ◌∙◌, sym, ap, refl, append_assoc, List, [], ◌∷◌, ◌++◌, length, ◌<◌, arith}
use Rattle.std.specs.Prelude.{ℕ, zero, suc, get_or}
use Rattle.values_core.specs.Data.{Val}
use Rattle.reading_trees.specs.declared.config.GivenAt.{GivenAt}
use Rattle.reading_trees.specs.declared.expr.Definition.{Definition}
use Rattle.reading_trees.specs.declared.module.Declared.{Declared}
use Rattle.names_scopes.specs.declared.meant.Entry.{Entry}
use Rattle.names_scopes.specs.declared.meant.Named.{Named}
use Rattle.names_program.specs.Entries.{marked_entries, plain_entries, replaced_is, standard_entries, standard_entry, variable_entries}
use Rattle.names_program.specs.Names.{value_at}

-- variables by their own names, and by those behind a mark
pub both_kinds : (old mid new : List Entry) (ds : List Declared) → mid ≡ old ++ plain_entries 0 ds → new ≡ mid ++ marked_entries 0 ds → new ≡ old ++ variable_entries 0 ds
both_kinds old mid new ds m n =
    n ∙ ap (λ (l : List Entry). l ++ marked_entries 0 ds) m ∙ append_assoc old (plain_entries 0 ds) (marked_entries 0 ds)

-- the value of a constant stands at its index
pub value_here : (values : List Val) (i : ℕ) (v : Val) → i < length values → v ≡ get_or values i v → value_at values i ≡ v
value_here [] i v lt e = absurd (omega arith)
value_here (w ∷ ws) zero v lt e = sym e
value_here (w ∷ ws) (suc i) v lt e = value_here ws i v (omega arith) e

pub standard_behind : (gs : List GivenAt) (all : List Definition) (xs ys : List Entry) → standard_entries gs all (xs ++ ys) ≡ standard_entries gs all xs ++ standard_entries gs all ys
standard_behind gs all [] ys = refl
standard_behind gs all (x ∷ xs) ys = ap (λ (l : List Entry). standard_entry gs all x ∷ l) (standard_behind gs all xs ys)

pub standard_on : (gs : List GivenAt) (all : List Definition) (start old new done : List Entry) (x : Entry) (is : Named) → is ≡ replaced_is gs all x.name x.is → new ≡ old ++ (record { name = x.name; is = is }) ∷ [] → old ≡ start ++ standard_entries gs all done → new ≡ start ++ standard_entries gs all (done ++ x ∷ [])
standard_on gs all start old new done x is e n h =
    n
    ∙ ap (λ (w : Named). old ++ (record { name = x.name; is = w }) ∷ []) e
    ∙ ap (λ (l : List Entry). l ++ standard_entry gs all x ∷ []) h
    ∙ append_assoc start (standard_entries gs all done) (standard_entry gs all x ∷ [])
    ∙ ap (λ (l : List Entry). start ++ l) (sym (standard_behind gs all done (x ∷ [])))
