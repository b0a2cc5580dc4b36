-- For the prover: what a definition uses that is not allowed, name by name. Marks tell which definitions RECURSIVE declares.
use Rattle.std.specs.Prelude.{◌≡◌, ◌↔◌, ◌==◌, ◌&&◌, ◌||◌, ℕ, suc, Bool, true, false, if◌then◌else◌, List, [], ◌∷◌, ◌++◌, Option, Some, None, Contains}
use Rattle.std.specs.List.{slice_index_or}
use Rattle.std.specs.Str.{bytes_eq}
use Rattle.reading_trees.specs.declared.expr.Definition.{Definition}
use Rattle.reading_trees.specs.declared.form.DefinitionForm.{DefinitionForm}
use Rattle.reading_trees.specs.declared.form.DefinitionForm.TheVariants as forms
use Rattle.names_scopes.specs.declared.meant.Entry.{Entry}
use Rattle.names_scopes.specs.Applied.{applies}
use Rattle.names_scopes.specs.Mentions.{is_one_of, mentions}
use Rattle.names_scopes.specs.Scopes.{among}
use Rattle.names_uses.specs.UsedNames.{number_in}

abbrev pub is_function : DefinitionForm → Bool
is_function forms.Operator = false
is_function forms.Function = true
is_function forms.Constant = false

-- the name is that of a function that only applies it in its own body
abbrev pub applies_itself : Definition → List ℕ → Bool
applies_itself d n = is_function d.form && bytes_eq n d.name && applies n d.body

-- the definition of index i may use that of index j by this name
abbrev pub is_allowed : List Bool → ℕ → Definition → List ℕ → ℕ → Bool
is_allowed declared i d n j = slice_index_or declared j false || ((i == j) && applies_itself d n)

abbrev pub strictly_as : List Bool → ℕ → Definition → List ℕ → Option ℕ → List ℕ
strictly_as declared i d n None = []
strictly_as declared i d n (Some j) = if is_one_of n d.params then [] else (if is_allowed declared i d n j then [] else j ∷ [])

abbrev pub strictly_over : List Bool → List Entry → ℕ → Definition → List (List ℕ) → List ℕ
strictly_over declared names i d [] = []
strictly_over declared names i d (n ∷ ns) = strictly_as declared i d n (number_in (among names n)) ++ strictly_over declared names i d ns

-- a name by which the definition of that index uses another, and may not
pub record StrictlyBy (declared : List Bool) (names : List Entry) (i : ℕ) (d : Definition) (j : ℕ) : Type 0 where
  pub name : List ℕ
  pub no_parameter : is_one_of name d.params ≡ false
  pub mentioned : mentions name d.body ≡ true
  pub number : number_in (among names name) ≡ Some j
  pub not_allowed : is_allowed declared i d name j ≡ false

-- these are what the definition of that index uses so
abbrev pub IsStrict : List Bool → List Entry → ℕ → Definition → List ℕ → Type 0
IsStrict declared names i d js = (j : ℕ) → Contains js j ↔ StrictlyBy declared names i d j

-- what each of the definitions uses so, the first of which has this index
abbrev pub AreStrict : List Bool → List Entry → ℕ → List Definition → List (List ℕ) → Type 0
AreStrict declared names i [] [] = Unit {0}
AreStrict declared names i [] (js ∷ uses) = ⊥
AreStrict declared names i (d ∷ ds) [] = ⊥
AreStrict declared names i (d ∷ ds) (js ∷ uses) = IsStrict declared names i d js × AreStrict declared names (suc i) ds uses
