-- The definitions of a LET, one after another.
use Rattle.std.proofs.Common.{◌≡◌, ◌∙◌, sym, ap, refl, List, [], ◌∷◌, ◌++◌, append_assoc, append-nil}
use Rattle.std.specs.Prelude.{ℕ, false, length, drop, ◌≤◌}
use Rattle.reading_trees.specs.Trees as tree
use Rattle.reading_trees.specs.TreeViews.{definitions_from, definitions_of}
use Rattle.reading_trees.specs.declared.expr.Definition.{Definition}
use Rattle.names_scopes.proofs.LevelLoops.{cut_end}
use Rattle.names_found_levels.specs.Raised.{Marks, marked, names_marked, own, raise, defined_by}
use Rattle.names_least_levels.specs.Rising.{Rising}

-- what is known behind definitions
abbrev pub definitions_items : Rising → Marks → List Definition → Marks
definitions_items g hs [] = hs
definitions_items g hs (x ∷ xs) = definitions_items g (hs ++ marked x.name (raise g ((hs ++ own x.name) ++ names_marked x.params) false x.body) ∷ []) xs

definitions_behind : (g : Rising) (hs : Marks) (l : tree.Definitions) (xs : List Definition) → hs ++ defined_by g hs (definitions_from l xs) ≡ definitions_items g (hs ++ defined_by g hs l) xs
definitions_behind g hs l [] = refl
definitions_behind g hs l (x ∷ xs) =
    definitions_behind g hs (tree.MoreDefinitions l x.name x.at x.params x.form x.body) xs
    ∙ ap (λ (h : Marks). definitions_items g h xs)
    (sym (append_assoc hs (defined_by g hs l) (marked x.name (raise g (((hs ++ defined_by g hs l) ++ own x.name) ++ names_marked x.params) false x.body) ∷ [])))

pub definitions_are : (g : Rising) (hs : Marks) (xs : List Definition) → definitions_items g hs xs ≡ hs ++ defined_by g hs (definitions_of xs)
definitions_are g hs xs = ap (λ (h : Marks). definitions_items g h xs) (sym (append-nil hs)) ∙ sym (definitions_behind g hs tree.NoDefinitions xs)

pub defined_end : (g : Rising) (hs old : Marks) (items : List Definition) (i : ℕ) (all : tree.Definitions) → length items ≤ i → definitions_of items ≡ all → definitions_items g hs (drop i items) ≡ definitions_items g old items → hs ≡ old ++ defined_by g old all
defined_end g hs old items i all le whole e =
    ap (λ l. definitions_items g hs l) (sym (cut_end items i le)) ∙ e ∙ definitions_are g old items ∙ ap (λ l. old ++ defined_by g old l) whole
