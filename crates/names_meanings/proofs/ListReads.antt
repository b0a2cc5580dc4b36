-- Lists that are read item by item.
use Rattle.std.proofs.Common.{◌≡◌, ◌∙◌, sym, ap, refl, subst, List, [], ◌∷◌, ◌++◌, length, ◌<◌, ◌≤◌}
use Rattle.std.specs.Prelude.{ℕ, ◌+◌, drop, get_or}
use Rattle.reading_trees.specs.Trees as tree
use Rattle.reading_trees.specs.Trees.{Tree, Trees}
use Rattle.reading_trees.specs.TreeViews.{step_view, trees_from, trees_of, operands_from, operands_of, steps_from, steps_of, bounds_from, bounds_of, fields_from, fields_of, changes_from, changes_of, arms_from, arms_of}
use Rattle.reading_trees.specs.declared.expr.Operand.{Operand}
use Rattle.reading_trees.specs.declared.expr.StepAt.{StepAt}
use Rattle.reading_trees.specs.declared.expr.Bound.{Bound}
use Rattle.reading_trees.specs.declared.expr.Field.{Field}
use Rattle.reading_trees.specs.declared.expr.Change.{Change}
use Rattle.reading_trees.specs.declared.expr.Arm.{Arm}
use Rattle.names_terms.specs.Terms as term
use Rattle.names_terms.specs.Terms.{Term}
use Rattle.names_meanings.specs.declared.fault.NameFault.{NameFault}
use Rattle.names_scopes.specs.declared.scope.Local.TheVariants.{Bound as Slot}
use Rattle.names_meanings.specs.Around.{Around, takes}
use Rattle.names_meanings.specs.Complaints.{Takes, bound_name, or_else, with_name, complaint, complaints, operands_complaint, step_complaint, steps_complaint, bounds_complaint, fields_complaint, changes_complaint, arms_complaint}
use Rattle.names_meanings.specs.Means.{Means, MeansStep, MeansSteps}
use Rattle.names_meanings.specs.Outcomes.{Complains}
use Rattle.names_meanings.specs.Reads.{Reads, Resolves, ResolvesEach, ResolvesOperands, ResolvesSteps, ResolvesBounds, ResolvesFields, ResolvesChanges, ResolvesArms, ResolvesOthers, RefusesOthers}
use Rattle.names_scopes.specs.Scopes.{at_sign}
use Rattle.names_scopes.specs.FirstOperands.{first_of}
use Rattle.names_scopes.proofs.FirstLemmas.{first_is}
use Rattle.names_scopes.proofs.LevelLoops.{cut_at, cut_end}
use Rattle.names_meanings.proofs.Reading.{nothing, and_then, so, complains_first, refused_later}

trees_complain_on : (g : Takes) (l : tree.Trees) (xs : List Tree) (f : NameFault) → Complains (complaints g l) f → Complains (complaints g (trees_from l xs)) f
trees_complain_on g l [] f c = c
trees_complain_on g l (x ∷ xs) f c = trees_complain_on g (tree.MoreTrees l x) xs f (complains_first (complaints g l) (complaint g x) f c)

pub record EachRead (w v : Around) (items : List Tree) (i : ℕ) (ys : term.Terms) : Type 0 where
  pub so_far : tree.Trees
  pub whole : trees_from so_far (drop i items) ≡ trees_of items
  pub read : ResolvesEach w v so_far ys

pub trees_begin : (w : Around) (items : List Tree) → EachRead w w items 0 term.NoTerms
trees_begin w items = record { so_far = tree.NoTrees; whole = refl; read = nothing w (λ all g. refl) refl }

pub trees_pushed : (w m v : Around) (items : List Tree) (i : ℕ) (ys new : term.Terms) (x : Tree) (X : Term) → new ≡ term.MoreTerms ys X → i < length items → x ≡ get_or items i x → EachRead w m items i ys → Reads m v (λ g. complaint g x) (λ h all. Means h.names all h.scope x X) → EachRead w v items (i + 1) new
trees_pushed w m v items i ys new x X e lt at h r =
    record {
      so_far = tree.MoreTrees h.so_far x;
      whole = ap (λ ts. trees_from h.so_far ts) (sym (cut_at items i x lt at)) ∙ h.whole;
      read = so w v (and_then w m v h.read r) (λ h all p. (ys, X, e, p.0, p.1));
    }

pub trees_refused : (w m : Around) (items : List Tree) (all : tree.Trees) (i : ℕ) (ys : term.Terms) (x : Tree) (f : NameFault) → trees_of items ≡ all → i < length items → x ≡ get_or items i x → EachRead w m items i ys → Complains (let g : Takes = takes m in complaint g x) f → Complains (complaints (takes w) all) f
trees_refused w m items all i ys x f e lt at h c =
    subst (λ (l : tree.Trees). Complains (complaints (takes w) l) f) (ap (λ ts. trees_from h.so_far ts) (sym (cut_at items i x lt at)) ∙ h.whole ∙ e)
    (trees_complain_on (takes w) (tree.MoreTrees h.so_far x) (drop (i + 1) items) f (refused_later w m (λ (g : Takes). complaint g x) f h.read c))

pub trees_end : (w v : Around) (items : List Tree) (all : tree.Trees) (i : ℕ) (ys : term.Terms) → trees_of items ≡ all → length items ≤ i → EachRead w v items i ys → ResolvesEach w v all ys
trees_end w v items all i ys e le h =
    subst (λ (l : tree.Trees). ResolvesEach w v l ys) (ap (λ ts. trees_from h.so_far ts) (sym (cut_end items i le)) ∙ h.whole ∙ e) h.read

steps_complain_on : (g : Takes) (l : tree.Steps) (xs : List StepAt) (f : NameFault) → Complains (steps_complaint g l) f → Complains (steps_complaint g (steps_from l xs)) f
steps_complain_on g l [] f c = c
steps_complain_on g l (x ∷ xs) f c = steps_complain_on g (tree.MoreSteps l x.at (step_view x.step)) xs f (complains_first (steps_complaint g l) (step_complaint g (step_view x.step)) f c)

pub record StepsRead (w v : Around) (items : List StepAt) (i : ℕ) (ys : term.Steps) : Type 0 where
  pub so_far : tree.Steps
  pub whole : steps_from so_far (drop i items) ≡ steps_of items
  pub read : ResolvesSteps w v so_far ys

pub steps_begin : (w : Around) (items : List StepAt) → StepsRead w w items 0 term.NoSteps
steps_begin w items = record { so_far = tree.NoSteps; whole = refl; read = nothing w (λ all g. refl) refl }

pub steps_pushed : (w m v : Around) (items : List StepAt) (i : ℕ) (ys new : term.Steps) (x : StepAt) (X : term.Step) → new ≡ term.MoreSteps ys x.at X → i < length items → x ≡ get_or items i x → StepsRead w m items i ys → Reads m v (λ g. step_complaint g (step_view x.step)) (λ h all. MeansStep h.names all h.scope (step_view x.step) X) → StepsRead w v items (i + 1) new
steps_pushed w m v items i ys new x X e lt at h r =
    record {
      so_far = tree.MoreSteps h.so_far x.at (step_view x.step);
      whole = ap (λ ts. steps_from h.so_far ts) (sym (cut_at items i x lt at)) ∙ h.whole;
      read = so w v (and_then w m v h.read r) (λ h all p. (ys, X, e, p.0, p.1));
    }

pub steps_refused : (w m : Around) (items : List StepAt) (all : tree.Steps) (i : ℕ) (ys : term.Steps) (x : StepAt) (f : NameFault) → steps_of items ≡ all → i < length items → x ≡ get_or items i x → StepsRead w m items i ys → Complains (let g : Takes = takes m in step_complaint g (step_view x.step)) f → Complains (steps_complaint (takes w) all) f
steps_refused w m items all i ys x f e lt at h c =
    subst (λ (l : tree.Steps). Complains (steps_complaint (takes w) l) f) (ap (λ ts. steps_from h.so_far ts) (sym (cut_at items i x lt at)) ∙ h.whole ∙ e)
    (steps_complain_on (takes w) (tree.MoreSteps h.so_far x.at (step_view x.step)) (drop (i + 1) items) f (refused_later w m (λ (g : Takes). step_complaint g (step_view x.step)) f h.read c))

pub steps_end : (w v : Around) (items : List StepAt) (all : tree.Steps) (i : ℕ) (ys : term.Steps) → steps_of items ≡ all → length items ≤ i → StepsRead w v items i ys → ResolvesSteps w v all ys
steps_end w v items all i ys e le h =
    subst (λ (l : tree.Steps). ResolvesSteps w v l ys) (ap (λ ts. steps_from h.so_far ts) (sym (cut_end items i le)) ∙ h.whole ∙ e) h.read

bounds_complain_on : (g : Takes) (l : tree.Bounds) (xs : List Bound) (f : NameFault) → Complains (bounds_complaint g l) f → Complains (bounds_complaint g (bounds_from l xs)) f
bounds_complain_on g l [] f c = c
bounds_complain_on g l (x ∷ xs) f c = bounds_complain_on g (tree.MoreBounds l x.names x.set) xs f (complains_first (bounds_complaint g l) (complaint g x.set) f c)

pub record BoundsRead (w v : Around) (items : List Bound) (i : ℕ) (ys : term.Bounds) : Type 0 where
  pub so_far : tree.Bounds
  pub whole : bounds_from so_far (drop i items) ≡ bounds_of items
  pub read : ResolvesBounds w v so_far ys

pub bounds_begin : (w : Around) (items : List Bound) → BoundsRead w w items 0 term.NoBounds
bounds_begin w items = record { so_far = tree.NoBounds; whole = refl; read = nothing w (λ all g. refl) refl }

pub bounds_pushed : (w m v : Around) (items : List Bound) (i : ℕ) (ys new : term.Bounds) (x : Bound) (X : Term) → new ≡ term.MoreBounds ys (length x.names) X → i < length items → x ≡ get_or items i x → BoundsRead w m items i ys → Reads m v (λ g. complaint g x.set) (λ h all. Means h.names all h.scope x.set X) → BoundsRead w v items (i + 1) new
bounds_pushed w m v items i ys new x X e lt at h r =
    record {
      so_far = tree.MoreBounds h.so_far x.names x.set;
      whole = ap (λ ts. bounds_from h.so_far ts) (sym (cut_at items i x lt at)) ∙ h.whole;
      read = so w v (and_then w m v h.read r) (λ h all p. (ys, X, e, p.0, p.1));
    }

pub bounds_refused : (w m : Around) (items : List Bound) (all : tree.Bounds) (i : ℕ) (ys : term.Bounds) (x : Bound) (f : NameFault) → bounds_of items ≡ all → i < length items → x ≡ get_or items i x → BoundsRead w m items i ys → Complains (let g : Takes = takes m in complaint g x.set) f → Complains (bounds_complaint (takes w) all) f
bounds_refused w m items all i ys x f e lt at h c =
    subst (λ (l : tree.Bounds). Complains (bounds_complaint (takes w) l) f) (ap (λ ts. bounds_from h.so_far ts) (sym (cut_at items i x lt at)) ∙ h.whole ∙ e)
    (bounds_complain_on (takes w) (tree.MoreBounds h.so_far x.names x.set) (drop (i + 1) items) f (refused_later w m (λ (g : Takes). complaint g x.set) f h.read c))

pub bounds_end : (w v : Around) (items : List Bound) (all : tree.Bounds) (i : ℕ) (ys : term.Bounds) → bounds_of items ≡ all → length items ≤ i → BoundsRead w v items i ys → ResolvesBounds w v all ys
bounds_end w v items all i ys e le h =
    subst (λ (l : tree.Bounds). ResolvesBounds w v l ys) (ap (λ ts. bounds_from h.so_far ts) (sym (cut_end items i le)) ∙ h.whole ∙ e) h.read

fields_complain_on : (g : Takes) (l : tree.Fields) (xs : List Field) (f : NameFault) → Complains (fields_complaint g l) f → Complains (fields_complaint g (fields_from l xs)) f
fields_complain_on g l [] f c = c
fields_complain_on g l (x ∷ xs) f c = fields_complain_on g (tree.MoreFields l x.name x.value) xs f (complains_first (fields_complaint g l) (complaint g x.value) f c)

pub record FieldsRead (w v : Around) (items : List Field) (i : ℕ) (ys : term.Fields) : Type 0 where
  pub so_far : tree.Fields
  pub whole : fields_from so_far (drop i items) ≡ fields_of items
  pub read : ResolvesFields w v so_far ys

pub fields_begin : (w : Around) (items : List Field) → FieldsRead w w items 0 term.NoFields
fields_begin w items = record { so_far = tree.NoFields; whole = refl; read = nothing w (λ all g. refl) refl }

pub fields_pushed : (w m v : Around) (items : List Field) (i : ℕ) (ys new : term.Fields) (x : Field) (X : Term) → new ≡ term.MoreFields ys x.name X → i < length items → x ≡ get_or items i x → FieldsRead w m items i ys → Reads m v (λ g. complaint g x.value) (λ h all. Means h.names all h.scope x.value X) → FieldsRead w v items (i + 1) new
fields_pushed w m v items i ys new x X e lt at h r =
    record {
      so_far = tree.MoreFields h.so_far x.name x.value;
      whole = ap (λ ts. fields_from h.so_far ts) (sym (cut_at items i x lt at)) ∙ h.whole;
      read = so w v (and_then w m v h.read r) (λ h all p. (ys, X, e, p.0, p.1));
    }

pub fields_refused : (w m : Around) (items : List Field) (all : tree.Fields) (i : ℕ) (ys : term.Fields) (x : Field) (f : NameFault) → fields_of items ≡ all → i < length items → x ≡ get_or items i x → FieldsRead w m items i ys → Complains (let g : Takes = takes m in complaint g x.value) f → Complains (fields_complaint (takes w) all) f
fields_refused w m items all i ys x f e lt at h c =
    subst (λ (l : tree.Fields). Complains (fields_complaint (takes w) l) f) (ap (λ ts. fields_from h.so_far ts) (sym (cut_at items i x lt at)) ∙ h.whole ∙ e)
    (fields_complain_on (takes w) (tree.MoreFields h.so_far x.name x.value) (drop (i + 1) items) f (refused_later w m (λ (g : Takes). complaint g x.value) f h.read c))

pub fields_end : (w v : Around) (items : List Field) (all : tree.Fields) (i : ℕ) (ys : term.Fields) → fields_of items ≡ all → length items ≤ i → FieldsRead w v items i ys → ResolvesFields w v all ys
fields_end w v items all i ys e le h =
    subst (λ (l : tree.Fields). ResolvesFields w v l ys) (ap (λ ts. fields_from h.so_far ts) (sym (cut_end items i le)) ∙ h.whole ∙ e) h.read

changes_complain_on : (g : Takes) (l : tree.Changes) (xs : List Change) (f : NameFault) → Complains (changes_complaint g l) f → Complains (changes_complaint g (changes_from l xs)) f
changes_complain_on g l [] f c = c
changes_complain_on g l (x ∷ xs) f c = changes_complain_on g (tree.MoreChanges l x.path x.value) xs f (complains_first (changes_complaint g l) (or_else (steps_complaint g x.path) (complaint (with_name g at_sign bound_name) x.value)) f c)

pub record ChangesRead (w v : Around) (items : List Change) (i : ℕ) (ys : term.Changes) : Type 0 where
  pub so_far : tree.Changes
  pub whole : changes_from so_far (drop i items) ≡ changes_of items
  pub read : ResolvesChanges w v so_far ys

pub changes_begin : (w : Around) (items : List Change) → ChangesRead w w items 0 term.NoChanges
changes_begin w items = record { so_far = tree.NoChanges; whole = refl; read = nothing w (λ all g. refl) refl }

pub changes_pushed : (w m v : Around) (items : List Change) (i : ℕ) (ys new : term.Changes) (x : Change) (P : term.Steps) (X : Term) → new ≡ term.MoreChanges ys P X → i < length items → x ≡ get_or items i x → ChangesRead w m items i ys → Reads m v (λ g. or_else (steps_complaint g x.path) (complaint (with_name g at_sign bound_name) x.value)) (λ h all. MeansSteps h.names all h.scope x.path P × Means h.names all (h.scope ++ Slot at_sign ∷ []) x.value X) → ChangesRead w v items (i + 1) new
changes_pushed w m v items i ys new x P X e lt at h r =
    record {
      so_far = tree.MoreChanges h.so_far x.path x.value;
      whole = ap (λ ts. changes_from h.so_far ts) (sym (cut_at items i x lt at)) ∙ h.whole;
      read = so w v (and_then w m v h.read r) (λ h all p. (ys, P, X, e, p.0, p.1.0, p.1.1));
    }

pub changes_refused : (w m : Around) (items : List Change) (all : tree.Changes) (i : ℕ) (ys : term.Changes) (x : Change) (f : NameFault) → changes_of items ≡ all → i < length items → x ≡ get_or items i x → ChangesRead w m items i ys → Complains (let g : Takes = takes m in or_else (steps_complaint g x.path) (complaint (with_name g at_sign bound_name) x.value)) f → Complains (changes_complaint (takes w) all) f
changes_refused w m items all i ys x f e lt at h c =
    subst (λ (l : tree.Changes). Complains (changes_complaint (takes w) l) f) (ap (λ ts. changes_from h.so_far ts) (sym (cut_at items i x lt at)) ∙ h.whole ∙ e)
    (changes_complain_on (takes w) (tree.MoreChanges h.so_far x.path x.value) (drop (i + 1) items) f (refused_later w m (λ (g : Takes). or_else (steps_complaint g x.path) (complaint (with_name g at_sign bound_name) x.value)) f h.read c))

pub changes_end : (w v : Around) (items : List Change) (all : tree.Changes) (i : ℕ) (ys : term.Changes) → changes_of items ≡ all → length items ≤ i → ChangesRead w v items i ys → ResolvesChanges w v all ys
changes_end w v items all i ys e le h =
    subst (λ (l : tree.Changes). ResolvesChanges w v l ys) (ap (λ ts. changes_from h.so_far ts) (sym (cut_end items i le)) ∙ h.whole ∙ e) h.read

arms_complain_on : (g : Takes) (l : tree.Arms) (xs : List Arm) (f : NameFault) → Complains (arms_complaint g l) f → Complains (arms_complaint g (arms_from l xs)) f
arms_complain_on g l [] f c = c
arms_complain_on g l (x ∷ xs) f c = arms_complain_on g (tree.MoreArms l x.test x.value) xs f (complains_first (arms_complaint g l) (or_else (complaint g x.test) (complaint g x.value)) f c)

pub record ArmsRead (w v : Around) (items : List Arm) (i : ℕ) (ys : term.Arms) : Type 0 where
  pub so_far : tree.Arms
  pub whole : arms_from so_far (drop i items) ≡ arms_of items
  pub read : ResolvesArms w v so_far ys

pub arms_begin : (w : Around) (items : List Arm) → ArmsRead w w items 0 term.NoArms
arms_begin w items = record { so_far = tree.NoArms; whole = refl; read = nothing w (λ all g. refl) refl }

pub arms_pushed : (w m v : Around) (items : List Arm) (i : ℕ) (ys new : term.Arms) (x : Arm) (X : Term) (Y : Term) → new ≡ term.MoreArms ys X Y → i < length items → x ≡ get_or items i x → ArmsRead w m items i ys → Reads m v (λ g. or_else (complaint g x.test) (complaint g x.value)) (λ h all. Means h.names all h.scope x.test X × Means h.names all h.scope x.value Y) → ArmsRead w v items (i + 1) new
arms_pushed w m v items i ys new x X Y e lt at h r =
    record {
      so_far = tree.MoreArms h.so_far x.test x.value;
      whole = ap (λ ts. arms_from h.so_far ts) (sym (cut_at items i x lt at)) ∙ h.whole;
      read = so w v (and_then w m v h.read r) (λ h all p. (ys, X, Y, e, p.0, p.1.0, p.1.1));
    }

pub arms_refused : (w m : Around) (items : List Arm) (all : tree.Arms) (i : ℕ) (ys : term.Arms) (x : Arm) (f : NameFault) → arms_of items ≡ all → i < length items → x ≡ get_or items i x → ArmsRead w m items i ys → Complains (let g : Takes = takes m in or_else (complaint g x.test) (complaint g x.value)) f → Complains (arms_complaint (takes w) all) f
arms_refused w m items all i ys x f e lt at h c =
    subst (λ (l : tree.Arms). Complains (arms_complaint (takes w) l) f) (ap (λ ts. arms_from h.so_far ts) (sym (cut_at items i x lt at)) ∙ h.whole ∙ e)
    (arms_complain_on (takes w) (tree.MoreArms h.so_far x.test x.value) (drop (i + 1) items) f (refused_later w m (λ (g : Takes). or_else (complaint g x.test) (complaint g x.value)) f h.read c))

pub arms_end : (w v : Around) (items : List Arm) (all : tree.Arms) (i : ℕ) (ys : term.Arms) → arms_of items ≡ all → length items ≤ i → ArmsRead w v items i ys → ResolvesArms w v all ys
arms_end w v items all i ys e le h =
    subst (λ (l : tree.Arms). ResolvesArms w v l ys) (ap (λ ts. arms_from h.so_far ts) (sym (cut_end items i le)) ∙ h.whole ∙ e) h.read

-- Operands behind others: of whatever operands stood before.

operands_complain_on : (g : Takes) (l : tree.Operands) (xs : List Operand) (f : NameFault) → Complains (operands_complaint g l) f → Complains (operands_complaint g (operands_from l xs)) f
operands_complain_on g l [] f c = c
operands_complain_on g l (x ∷ xs) f c =
    operands_complain_on g (tree.Next l x.at x.value) xs f (complains_first (operands_complaint g l) (complaint g x.value) f c)

pub record OthersRead (w v : Around) (items : List Operand) (i : ℕ) (before os : term.Operands) : Type 0 where
  pub read : (first : Around) (seen : tree.Operands) → ResolvesOperands first w seen before → (so_far : tree.Operands) × (operands_from so_far (drop i items) ≡ operands_from seen items) × ResolvesOperands first v so_far os

pub others_begin : (w : Around) (items : List Operand) (before : term.Operands) → OthersRead w w items 0 before before
others_begin w items before = record { read = λ first seen r. (seen, refl, r) }

pub others_pushed : (w m v : Around) (items : List Operand) (i : ℕ) (before os new : term.Operands) (x : Operand) (X : Term) → new ≡ term.Next os x.at X → i < length items → x ≡ get_or items i x → OthersRead w m items i before os → Resolves m v x.value X → OthersRead w v items (i + 1) before new
others_pushed w m v items i before os new x X e lt at h r =
    record {
      read = λ first seen b.
          let n : (so_far : tree.Operands) × (operands_from so_far (drop i items) ≡ operands_from seen items) × ResolvesOperands first m so_far os = h.read first seen b in
          (tree.Next n.0 x.at x.value, ap (λ ts. operands_from n.0 ts) (sym (cut_at items i x lt at)) ∙ n.1, so first v (and_then first m v n.2 r) (λ h all p. (os, X, e, p.0, p.1)));
    }

pub others_refused : (w m : Around) (items : List Operand) (all : tree.Operands) (i : ℕ) (before os : term.Operands) (x : Operand) (f : NameFault) → operands_of (first_of all) items ≡ all → i < length items → x ≡ get_or items i x → OthersRead w m items i before os → Complains (complaint (takes m) x.value) f → RefusesOthers w all before f
others_refused w m items all i before os x f e lt at h c = λ first b.
    let n : (so_far : tree.Operands) × (operands_from so_far (drop i items) ≡ operands_of (first_of all) items) × ResolvesOperands first m so_far os = h.read first (tree.First (first_of all)) b in
    subst (λ (l : tree.Operands). Complains (operands_complaint (takes first) l) f) (ap (λ ts. operands_from n.0 ts) (sym (cut_at items i x lt at)) ∙ n.1 ∙ e)
    (operands_complain_on (takes first) (tree.Next n.0 x.at x.value) (drop (i + 1) items) f (refused_later first m (λ (g : Takes). complaint g x.value) f n.2 c))

pub others_end : (w v : Around) (items : List Operand) (all : tree.Operands) (i : ℕ) (before os : term.Operands) → operands_of (first_of all) items ≡ all → length items ≤ i → OthersRead w v items i before os → ResolvesOthers w v all before os
others_end w v items all i before os e le h = λ first b.
    let n : (so_far : tree.Operands) × (operands_from so_far (drop i items) ≡ operands_of (first_of all) items) × ResolvesOperands first v so_far os = h.read first (tree.First (first_of all)) b in
    subst (λ (l : tree.Operands). ResolvesOperands first v l os) (ap (λ ts. operands_from n.0 ts) (sym (cut_end items i le)) ∙ n.1 ∙ e) n.2

-- the first operand
pub first_read : (w v : Around) (first : Tree) (x : Term) (os : term.Operands) → os ≡ term.First x → Resolves w v first x → ResolvesOperands w v (tree.First first) os
first_read w v first x os e r = so w v r (λ h all p. (x, e, p))

pub first_refused : (w : Around) (first : Tree) (xs : List Operand) (all : tree.Operands) (f : NameFault) → operands_of first xs ≡ all → Complains (complaint (takes w) first) f → Complains (operands_complaint (takes w) all) f
first_refused w first xs all f e c =
    subst (λ (l : tree.Operands). Complains (operands_complaint (takes w) l) f) e (operands_complain_on (takes w) (tree.First first) xs f c)

-- the first operand, and those behind it

pub rest_read : (w m v : Around) (first : Tree) (xs : List Operand) (all : tree.Operands) (x : Term) (before os : term.Operands) → operands_of first xs ≡ all → before ≡ term.First x → Resolves w m first x → ResolvesOthers m v all before os → ResolvesOperands w v all os
rest_read w m v first xs all x before os e b r o =
    o w (subst (λ (t : Tree). ResolvesOperands w m (tree.First t) before) (sym (first_is first xs all e)) (first_read w m first x before b r))

pub rest_refused : (w m : Around) (first : Tree) (xs : List Operand) (all : tree.Operands) (x : Term) (before : term.Operands) (f : NameFault) → operands_of first xs ≡ all → before ≡ term.First x → Resolves w m first x → RefusesOthers m all before f → Complains (operands_complaint (takes w) all) f
rest_refused w m first xs all x before f e b r o =
    o w (subst (λ (t : Tree). ResolvesOperands w m (tree.First t) before) (sym (first_is first xs all e)) (first_read w m first x before b r))

-- a tree is refused where a name is bound
abbrev pub IsRefusedUnder : Around → List ℕ → Tree → NameFault → Type 0
IsRefusedUnder w n t f = Complains (complaint (with_name (takes w) n bound_name) t) f
