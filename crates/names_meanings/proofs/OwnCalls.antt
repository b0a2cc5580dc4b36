-- What is asked and answered around the body of a definition of a LET.
use Rattle.std.proofs.Common.{◌≡◌, ◌⊎◌, inl, inr, ◌∙◌, sym, ap, refl, subst, List, [], ◌∷◌, ◌++◌, length}
use Rattle.std.specs.Prelude.{ℕ, Bool, true, false, not, ◌&&◌, if◌then◌else◌, Option, Some, None, option_map, Result, Ok, Err, IfOk, OnOk, set, slice_get}
use Rattle.std.specs.declared.alloc.AllocError.{AllocError}
use Rattle.base_core.specs.declared.place.Place.{Place}
use Rattle.reading_trees.specs.declared.form.DefinitionForm.{DefinitionForm}
use Rattle.reading_trees.specs.declared.form.DefinitionForm.TheVariants as forms
use Rattle.reading_trees.specs.declared.expr.Definition.{Definition}
use Rattle.reading_trees.specs.Trees.{Tree}
use Rattle.names_term_parts.specs.Slots.{MentionsBelow}
use Rattle.names_terms.specs.declared.ids.DefId.{DefId}
use Rattle.names_terms.specs.declared.level.Level.TheVariants as levels
use Rattle.names_terms.specs.declared.operator.Operator.{Operator}
use Rattle.names_terms.specs.declared.operator.Own.TheVariants as owns
use Rattle.names_terms.specs.Levels.{of_operator}
use Rattle.names_terms.specs.Terms.{Term, level_of}
use Rattle.names_scopes.specs.Applied.{applies}
use Rattle.names_scopes.specs.Mentions.{is_one_of, mentions}
use Rattle.names_scopes.specs.Scopes.{bind, slots, meaning_in}
use Rattle.names_scopes.specs.declared.meant.Entry.{Entry}
use Rattle.names_scopes.specs.declared.meant.Named.{Named}
use Rattle.names_scopes.specs.declared.scope.Local.{Local}
use Rattle.names_scopes.specs.declared.scope.Local.TheVariants.{Defined}
use Rattle.names_least_levels.specs.Rising.{rises, with_own, without}
use Rattle.names_meanings.specs.declared.fault.NameFault.TheVariants.{Recursion}
use Rattle.names_meanings.specs.Around.{Around, takes}
use Rattle.names_meanings.specs.Complaints.{Takes, taken_rises, told, itself, may_use_itself}
use Rattle.names_meanings.specs.Means.{Means, local_operator, no_body}
use Rattle.names_meanings.specs.Outcomes.{above, meant_above, taken_by, KeepsOrder}
use Rattle.names_meanings.specs.Owned.{own_in, IsBegun, IsKept, IsEnded}
use Rattle.names_meanings.specs.Owning.{own_of}

-- ---- whether a definition uses itself

pub own_operator : (d : Definition) → (d.form ≡ forms.Operator) ⊎ (d.form ≡ forms.Constant) → own_in d ≡ owns.Apart
own_operator d (inl f) = ap (λ (x : DefinitionForm). own_of x d.name d.params d.body) f
own_operator d (inr f) = ap (λ (x : DefinitionForm). own_of x d.name d.params d.body) f

pub own_hidden : (d : Definition) → d.form ≡ forms.Function → is_one_of d.name d.params ≡ true → own_in d ≡ owns.Apart
own_hidden d f o =
    ap (λ (x : DefinitionForm). own_of x d.name d.params d.body) f ∙ ap (λ (x : Bool). if x then owns.Apart else (if mentions d.name d.body then owns.Function else owns.Apart)) o

pub own_function : (d : Definition) (b : Bool) → d.form ≡ forms.Function → is_one_of d.name d.params ≡ false → b ≡ mentions d.name d.body → own_in d ≡ (if b then owns.Function else owns.Apart)
own_function d b f o m =
    ap (λ (x : DefinitionForm). own_of x d.name d.params d.body) f ∙ ap (λ (x : Bool). if x then owns.Apart else (if mentions d.name d.body then owns.Function else owns.Apart)) o
    ∙ ap (λ (x : Bool). if x then owns.Function else owns.Apart) (sym m)

-- ---- whether it may

pub may_no_operator : (g : Takes) (d : Definition) → (d.form ≡ forms.Operator) ⊎ (d.form ≡ forms.Constant) → false ≡ may_use_itself g d.form d.name d.params d.body
may_no_operator g d (inl f) = ap (λ (x : DefinitionForm). may_use_itself g x d.name d.params d.body) (sym f)
may_no_operator g d (inr f) = ap (λ (x : DefinitionForm). may_use_itself g x d.name d.params d.body) (sym f)

pub may_not_bare : (g : Takes) (d : Definition) → d.form ≡ forms.Function → applies d.name d.body ≡ false → false ≡ may_use_itself g d.form d.name d.params d.body
may_not_bare g d f a =
    sym (ap (λ (x : Bool). x && not (rises (without (with_own (told g) d.name) d.params) d.body)) a) ∙ ap (λ (x : DefinitionForm). may_use_itself g x d.name d.params d.body) (sym f)

pub may_by_level : (g : Takes) (d : Definition) (r : Bool) → d.form ≡ forms.Function → applies d.name d.body ≡ true → r ≡ rises (without (with_own (told g) d.name) d.params) d.body → not r ≡ may_use_itself g d.form d.name d.params d.body
may_by_level g d r f a q =
    ap not q ∙ sym (ap (λ (x : Bool). x && not (rises (without (with_own (told g) d.name) d.params) d.body)) a) ∙ ap (λ (x : DefinitionForm). may_use_itself g x d.name d.params d.body) (sym f)

-- ---- what is wrong with it

pub hidden_fine : (g : Takes) (form : DefinitionForm) (n : List ℕ) (at : Place) (ps : List (List ℕ)) (e : Tree) → is_one_of n ps ≡ true → itself g form n at ps e ≡ None
hidden_fine g form n at ps e o = ap (λ (x : Bool). if x then None else (if mentions n e then (if may_use_itself g form n ps e then None else Some (Recursion n at)) else None)) o

pub apart_fine : (g : Takes) (form : DefinitionForm) (n : List ℕ) (at : Place) (ps : List (List ℕ)) (e : Tree) → is_one_of n ps ≡ false → mentions n e ≡ false → itself g form n at ps e ≡ None
apart_fine g form n at ps e o m =
    ap (λ (x : Bool). if x then None else (if mentions n e then (if may_use_itself g form n ps e then None else Some (Recursion n at)) else None)) o ∙ ap (λ (x : Bool). if x then (if may_use_itself g form n ps e then None else Some (Recursion n at)) else None) m

pub own_is : (g : Takes) (form : DefinitionForm) (n : List ℕ) (at : Place) (ps : List (List ℕ)) (e : Tree) (b : Bool) → is_one_of n ps ≡ false → mentions n e ≡ true → may_use_itself g form n ps e ≡ b → itself g form n at ps e ≡ (if b then None else Some (Recursion n at))
own_is g form n at ps e b o m q =
    ap (λ (x : Bool). if x then None else (if mentions n e then (if may_use_itself g form n ps e then None else Some (Recursion n at)) else None)) o ∙ ap (λ (x : Bool). if x then (if may_use_itself g form n ps e then None else Some (Recursion n at)) else None) m
    ∙ ap (λ (x : Bool). if x then None else Some (Recursion n at)) q

-- ---- whether a name is above level 0

pub row_above : (table : List Operator) (k : ℕ) (r : Option Operator) (o : Operator) (b : Bool) → r ≡ slice_get table k → r ≡ Some o → b ≡ above o.level → b ≡ above (of_operator (slice_get table k))
row_above table k r o b e s q = q ∙ sym (ap (λ (x : Option Operator). above (of_operator x)) s) ∙ ap (λ (x : Option Operator). above (of_operator x)) e

abbrev name_rises : List Operator → Option Named → Bool
name_rises table None = false
name_rises table (Some y) = meant_above table y.meant

rises_so : (table : List Operator) (o : Option Named) → name_rises table o ≡ taken_rises (option_map (taken_by table) o)
rises_so table None = refl
rises_so table (Some y) = refl

pub name_above : (w : Around) (names : List Entry) (sc : List Local) (table : List Operator) (n : List ℕ) (o : Option Named) (b : Bool) → record { here = record { names = names; scope = sc }; table = table } ≡ w → o ≡ meaning_in names sc n → b ≡ name_rises table o → b ≡ told (takes w) n
name_above w names sc table n o b v m q =
    q ∙ rises_so table o ∙ ap (λ (x : Option Named). taken_rises (option_map (taken_by table) x)) m ∙ ap (λ (u : Around). told (takes u) n) v

-- ---- before and behind the body

pub begun : (m p : Around) (d : Definition) (b : Bool) (count : ℕ) (k : DefId) → own_in d ≡ (if b then owns.Function else owns.Apart) → b ≡ true → count ≡ length d.params → k.0 ≡ length m.table → p.here.names ≡ m.here.names → p.here.scope ≡ m.here.scope ++ Defined d.name k count ∷ [] → p.table ≡ m.table ++ local_operator (slots m.here.scope) count owns.Function no_body ∷ [] → KeepsOrder m.table p.table → IsBegun m p d (Some k)
begun m p d b count k o q c n a s t u = (
  o ∙ ap (λ (x : Bool). if x then owns.Function else owns.Apart) q,
  record {
    number = n;
    names = a;
    scope = s ∙ ap (λ (j : ℕ). m.here.scope ++ Defined d.name k j ∷ []) c;
    table = t ∙ ap (λ (j : ℕ). m.table ++ local_operator (slots m.here.scope) j owns.Function no_body ∷ []) c;
    ordered = u;
  },
)

pub not_begun : (m : Around) (d : Definition) (b : Bool) → own_in d ≡ (if b then owns.Function else owns.Apart) → b ≡ false → IsBegun m m d None
not_begun m d b o q = (o ∙ ap (λ (x : Bool). if x then owns.Function else owns.Apart) q, refl)

pub kept_means : (w : Around) (d : Definition) (x : Term) (o : Option DefId) → o ≡ None → IsKept w d x o → (ps : List (List ℕ)) × (t : Tree) × Means w.here.names w.table (bind w.here.scope ps) t x
kept_means w d x o q h = subst (λ (y : Option DefId). IsKept w d x y) q h

-- the row that waits for its body, which the code tells of so many parameters
pub record Waits (w : Around) (count : ℕ) (x : Term) (k : DefId) : Type 0 where
  pub row : slice_get w.table k.0 ≡ Some (local_operator (slots w.here.scope) count owns.Function no_body)
  pub constant : level_of x ≡ levels.Constant
  pub below : MentionsBelow (length w.table) x

pub kept_waits : (w : Around) (d : Definition) (x : Term) (o : Option DefId) (k : DefId) (count : ℕ) → o ≡ Some k → count ≡ length d.params → IsKept w d x o → Waits w count x k
kept_waits w d x o k count q c h =
    let it : IsKept w d x (Some k) = subst (λ (y : Option DefId). IsKept w d x y) q h in
    record { row = it.0 ∙ ap (λ (j : ℕ). Some (local_operator (slots w.here.scope) j owns.Function no_body)) (sym c); constant = it.1; below = it.2 }

pub ended_added : (w v : Around) (d : Definition) (x : Term) (o : Option DefId) (count : ℕ) (r : Result DefId AllocError) → o ≡ None → count ≡ length d.params → IfOk r (λ k. k.0 ≡ length w.table) → OnOk r (v.here.names ≡ w.here.names) → IfOk r (λ k. v.here.scope ≡ w.here.scope ++ Defined d.name k count ∷ []) → OnOk r (v.table ≡ w.table ++ local_operator (slots w.here.scope) count owns.Apart x ∷ []) → OnOk r (KeepsOrder w.table v.table) → IfOk r (IsEnded w v d x o)
ended_added w v d x o count (Err f) q c n a s t u = tt
ended_added w v d x o count (Ok k) q c n a s t u =
    subst (λ (y : Option DefId). IsEnded w v d x y k) (sym q)
    (record {
      number = n;
      names = a;
      scope = s ∙ ap (λ (j : ℕ). w.here.scope ++ Defined d.name k j ∷ []) c;
      table = t ∙ ap (λ (j : ℕ). w.table ++ local_operator (slots w.here.scope) j owns.Apart x ∷ []) c;
      ordered = u;
    })

pub ended_settled : (w v : Around) (d : Definition) (x : Term) (o : Option DefId) (k : DefId) (count : ℕ) → o ≡ Some k → count ≡ length d.params → v.here.names ≡ w.here.names → v.here.scope ≡ w.here.scope ++ Defined d.name k count ∷ [] → v.table ≡ set w.table k.0 (local_operator (slots w.here.scope) count owns.Function x) → KeepsOrder w.table v.table → IsEnded w v d x o k
ended_settled w v d x o k count q c a s t u =
    subst (λ (y : Option DefId). IsEnded w v d x y k) (sym q) (
      refl,
      record {
        names = a;
        scope = s ∙ ap (λ (j : ℕ). w.here.scope ++ Defined d.name k j ∷ []) c;
        table = t ∙ ap (λ (j : ℕ). set w.table k.0 (local_operator (slots w.here.scope) j owns.Function x)) c;
        ordered = u;
      },
    )
