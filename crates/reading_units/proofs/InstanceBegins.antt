-- The text of an instance begins with three tokens that no definition begins with.
use Rattle.std.proofs.Common.{◌≡◌, ℕ, Bool, true, false, List, [], ◌∷◌, ◌++◌, append_assoc, Some, inl, inr, refl, sym, ap, subst, ◌∙◌}
use Rattle.std.proofs.lemmas.List.{append-nil}
use Rattle.base_core.specs.declared.place.Place.{Place}
use Rattle.reading_trees.specs.declared.laid.Laid.{Laid}
use Rattle.reading_trees.specs.declared.expr.Definition.{Definition as UnitDefinition}
use Rattle.reading_trees.specs.declared.module.Made.{Made}
use Rattle.reading_trees.specs.declared.module.Unit.TheVariants as units
use Rattle.reading_trees.specs.Modules.{UnitText, InstanceText}
use Rattle.reading_machine.specs.Beginnings.{FittingBegunDefinition}
use Rattle.reading_machine.specs.LawsOfExtents.{LocalDefinition}
use Rattle.reading_expressions.specs.Nesting.{AreShallow, ShallowDefinition}
use Rattle.reading_expressions.specs.Refusals.{IsTooNested}
use Rattle.reading_units.specs.Marks.{mark_of, kind_mark, foreign_mark}
use Rattle.reading_units.specs.Refusals.{InstanceHead, InstanceStart, ShallowInstance}
use Rattle.reading_units.specs.Rests.{Definition, InstanceBegins}
use Rattle.reading_units.specs.declared.marks.Mark.TheVariants as marks
use Rattle.reading_units.proofs.InstanceTokens.{NoBoth, no_both_whole}
use Rattle.reading_units.proofs.OfficialBack.{of_mark}
use Rattle.reading_units.proofs.OneModuleTokens.{tail_of}
use Rattle.reading_units.proofs.OpenStarts.{name_token, defined_token, instance_token, names_shallow, no_instance_open}
use Rattle.reading_units.proofs.SameExtents.{name_mark, defined_mark}

-- the first three tokens of an instance
pub instance_begins : (m : Made) (xs ys : List Laid) → InstanceText m xs ys → (ws : List Laid) × InstanceBegins xs ws
instance_begins m xs ys h =
    let s = h.2 in
    let s2 = s.2 in
    (s2.0, (h.0, of_mark marks.Name xs h.0 (m.name, (m.at, h.1)), (s.0, of_mark marks.Defined h.0 s.0 s.1, of_mark marks.Instance s.0 s2.0 s2.1)))

pub no_both_text : NoBoth → (d : UnitDefinition) (m : Made) (xs ys zs : List Laid) → UnitText (units.Define d) xs ys → InstanceText m xs zs → ⊥
no_both_text both d m xs ys zs h g =
    let b = instance_begins m xs zs g in
    no_both_whole both false xs ys b.0 (d.name, d.at, d.params, d.form, d.body, h, tt) b.1

-- ---- the first three tokens

pub start_begins : (xs ys : List Laid) → InstanceStart xs ys → InstanceBegins xs ys
start_begins xs ys h = (h.0, of_mark marks.Name xs h.0 h.1, (h.2.0, of_mark marks.Defined h.0 h.2.0 h.2.1, of_mark marks.Instance h.2.0 ys h.2.2))

-- the tokens of an instance, with what stands behind the first three
pub record Threes (n : List ℕ) (p : Place) (xs rest : List Laid) : Type 0 where
  pub second : Place
  pub third : Place
  pub whole : xs ≡ name_token n p ∷ defined_token second ∷ instance_token third ∷ rest

pub threes : (m : Made) (xs ys : List Laid) → (h : InstanceText m xs ys) → Threes m.name m.at xs h.2.2.0
threes m xs ys h =
    let s = h.2 in
    record { second = s.1.0; third = s.2.1.0; whole = h.1 ∙ ap (λ v. name_token m.name m.at ∷ v) s.1.1 ∙ ap (λ v. name_token m.name m.at ∷ defined_token s.1.0 ∷ v) s.2.1.1 }

instance_mark : (p : Place) → mark_of (instance_token p) ≡ Some marks.Instance
unfolding mark_of kind_mark foreign_mark
instance_mark p = refl

-- ---- no definition

-- a definition is the beginning of no instance
no_head : NoBoth → LocalDefinition → (d : UnitDefinition) (text more ys : List Laid) → UnitText (units.Define d) text [] → InstanceHead (text ++ more) ys → ⊥
no_head both local d text more ys h g =
    let l = local d.name d.at d.params d.form d.body text [] h in
    let same : text ≡ l.0 = l.1 ∙ append-nil l.0 in
    let whole : UnitText (units.Define d) (text ++ more) more = subst (λ v. UnitText (units.Define d) (v ++ more) more) (sym same) (l.2 more) in
    no_both_whole both false (text ++ more) more g.0 (d.name, d.at, d.params, d.form, d.body, whole, tt) (start_begins (text ++ more) g.0 g.1)

pub no_instance : NoBoth → LocalDefinition → (d : UnitDefinition) (text : List Laid) → UnitText (units.Define d) text [] → ShallowInstance text → ⊥
no_instance both local d text h (inl i) = no_head both local d text i.0 [] h i.1
no_instance both local d text h (inr i) = no_head both local d text [] i.0 h (subst (λ v. InstanceHead v i.0) (sym (append-nil text)) i.1)

-- a definition that follows begins no instance
pub no_head_there : NoBoth → (d : UnitDefinition) (xs ys zs : List Laid) → UnitText (units.Define d) xs ys → InstanceHead xs zs → ⊥
no_head_there both d xs ys zs h g = no_both_whole both false xs ys g.0 (d.name, d.at, d.params, d.form, d.body, h, tt) (start_begins xs g.0 g.1)

-- ---- no token of an instance is too deep in a definition

abbrev head_or : Laid → List Laid → Laid
head_or u [] = u
head_or u (x ∷ xs) = x

pub fewer : (unit : Bool) (read more : List Laid) → AreShallow unit (read ++ more) → AreShallow unit read
fewer unit read more s before after x w = s before (after ++ more) x (ap (λ v. v ++ more) w ∙ append_assoc before (x ∷ after) more)

third_there : NoBoth → (n : List ℕ) (p q r : Place) (more read rest last : List Laid) (here x y : Laid) → name_token n p ≡ x → defined_token q ≡ y → instance_token r ∷ more ≡ read ++ here ∷ rest → Definition false (x ∷ y ∷ ((read ++ here ∷ []) ++ last)) [] → ⊥
third_there both n p q r more [] rest last here x y a b e d =
    both false x y here last [] (ap mark_of (sym a) ∙ name_mark n p) (ap mark_of (sym b) ∙ defined_mark q) (ap mark_of (sym (ap (head_or here) e)) ∙ instance_mark r) d
third_there both n p q r more (i ∷ read) rest last here x y a b e d =
    both false x y i ((read ++ here ∷ []) ++ last) [] (ap mark_of (sym a) ∙ name_mark n p) (ap mark_of (sym b) ∙ defined_mark q) (ap mark_of (sym (ap (head_or i) e)) ∙ instance_mark r) d

none_deep : NoBoth → (n : List ℕ) (p q r : Place) (more read rest : List Laid) (here : Laid) → name_token n p ∷ defined_token q ∷ instance_token r ∷ more ≡ read ++ here ∷ rest → FittingBegunDefinition (read ++ here ∷ []) → (ShallowDefinition (read ++ here ∷ []) → ⊥) → ⊥
none_deep both n p q r more [] rest here e f deep =
    let first : name_token n p ≡ here = ap (head_or here) e in
    deep (subst (λ v. ShallowDefinition (v ∷ [])) first (fewer true (name_token n p ∷ []) (defined_token q ∷ []) (names_shallow n p q)))
none_deep both n p q r more (x ∷ []) rest here e f deep =
    let first : name_token n p ≡ x = ap (head_or x) e in
    let second : defined_token q ≡ here = ap (λ v. head_or here (tail_of v)) e in
    deep (subst (λ v. ShallowDefinition (v ∷ here ∷ [])) first (subst (λ v. ShallowDefinition (name_token n p ∷ v ∷ [])) second (names_shallow n p q)))
none_deep both n p q r more (x ∷ y ∷ read) rest here e f deep =
    third_there both n p q r more read rest f.rest here x y (ap (head_or x) e) (ap (λ v. head_or y (tail_of v)) e) (ap (λ v. tail_of (tail_of v)) e) (f.name, f.at, f.parameters, f.form, f.body, f.whole, tt)

pub instance_no_definition : NoBoth → (m : Made) (xs ys : List Laid) (p : Place) → InstanceText m xs ys → IsTooNested FittingBegunDefinition ShallowDefinition xs p → ⊥
instance_no_definition both m xs ys p h t =
    let s = threes m xs ys h in
    none_deep both m.name m.at s.second s.third h.2.2.0 t.read t.rest t.here (sym s.whole ∙ t.whole) t.fits t.deep

-- of an instance not each token is shallow in a definition
pub instance_not_shallow : (m : Made) (xs ys : List Laid) → InstanceText m xs ys → ShallowDefinition xs → ⊥
instance_not_shallow m xs ys h s =
    let t = threes m xs ys h in
    let three : List Laid = name_token m.name m.at ∷ defined_token t.second ∷ instance_token t.third ∷ [] in
    let named = h.2.2.2 in
    let behind : h.2.2.0 ≡ name_token m.module_name named.1.0 ∷ named.0 = named.1.1 in
    no_instance_open m.name m.at t.second t.third (s three named.0 (name_token m.module_name named.1.0) (t.whole ∙ ap (λ v. three ++ v) behind))
