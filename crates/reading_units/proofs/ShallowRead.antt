-- Tokens of units and of headings that stand inside few enough constructs, one part behind another.
use Rattle.std.proofs.Common.{◌≡◌, ℕ, zero, suc, List, [], ◌∷◌, ◌++◌, append_assoc, drop, inl, inr, refl, sym, ap, subst, ◌∙◌}
use Rattle.std.proofs.lemmas.List.{append-nil}
use Rattle.reading_trees.specs.declared.laid.Laid.{Laid}
use Rattle.reading_trees.specs.declared.expr.Definition.{Definition as UnitDefinition}
use Rattle.reading_trees.specs.declared.module.Declared.{Declared}
use Rattle.reading_trees.specs.declared.module.DeclaredOperator.{DeclaredOperator}
use Rattle.reading_trees.specs.declared.module.Unit.{Unit as ModuleUnit}
use Rattle.reading_trees.specs.declared.module.Unit.TheVariants as units
use Rattle.reading_tokens.specs.declared.token.Kind.TheVariants as kinds
use Rattle.reading_trees.specs.Begun.{Begun}
use Rattle.reading_trees.specs.Fits.{Spells}
use Rattle.reading_trees.specs.Trees.{Tree}
use Rattle.reading_trees.specs.Grammar.{Span, ◌⨟◌, either, some_token}
use Rattle.reading_trees.specs.Modules.{DeclaredNamesText, MaybeTitle, UnitText, variable_word, constant_word, recursive_word, assume_word, theorem_word}
use Rattle.reading_machine.specs.Beginnings.{BegunDefinition, FittingBegun, FittingBegunDefinition}
use Rattle.reading_machine.specs.LawsOfExtents.{LocalText, LocalDefinition}
use Rattle.reading_expressions.specs.Nesting.{Shallow, ShallowDefinition}
use Rattle.reading_expressions.specs.Refusals.{GoesAsFar}
use Rattle.reading_units.specs.Reads.{ShallowTitled}
use Rattle.reading_units.specs.Refusals.{Begins, BeginsThen, DeclarationText, RecursiveText, ShallowUnit, ShallowWholeUnit, SoManyUnits, ShallowWholeUnits, ShallowUnits, SomeExtends}
use Rattle.reading_units.specs.Rests.{Listed, Operators, Title, Extended}
use Rattle.reading_units.proofs.Locals.{IsLocal, before_any, all_alone, joined, local_either, local_kind, local_variable, local_constant, local_recursive_word, local_recursive, local_assume, local_theorem, local_title, local_some_extends, local_maybe_title, local_variables, local_constants, local_definition, local_assumption, local_passed, local_whole_units}
use Rattle.reading_units.proofs.MarksTold.{plain}
use Rattle.reading_units.proofs.Official.{listed_of, operators_of, extends_of, title_of}

-- ---- the beginning of a unit

-- nothing stands there
pub shallow_nothing : ShallowUnit []
shallow_nothing = inl (plain kinds.Dashes ∷ [], inr (inr (inl (record { file = 0; line = 0; col = 0 }, refl))))

local_declaring : IsLocal (either variable_word constant_word)
local_declaring = local_either variable_word constant_word local_variable local_constant

local_stating : IsLocal (either assume_word theorem_word)
local_stating = local_either assume_word theorem_word local_assume local_theorem

pub shallow_declared : (xs ws text : List Laid) → either variable_word constant_word xs ws → xs ≡ text ++ ws → (l : List Laid) → Begins Listed l → ShallowUnit (text ++ l)
shallow_declared xs ws text h e l b =
    let whole : DeclarationText (text ++ (l ++ b.0)) [] = (l ++ b.0, before_any (either variable_word constant_word) local_declaring xs ws text h e (l ++ b.0), listed_of (l ++ b.0) [] b.1) in
    inl (b.0, inl (subst (λ v. DeclarationText v []) (sym (append_assoc text l b.0)) whole))

pub shallow_recursive : (xs ws text : List Laid) → recursive_word xs ws → xs ≡ text ++ ws → (l : List Laid) → Begins Operators l → ShallowUnit (text ++ l)
shallow_recursive xs ws text h e l b =
    let whole : RecursiveText (text ++ (l ++ b.0)) [] = (l ++ b.0, before_any recursive_word local_recursive_word xs ws text h e (l ++ b.0), operators_of (l ++ b.0) [] b.1) in
    inl (b.0, inr (inl (subst (λ v. RecursiveText v []) (sym (append_assoc text l b.0)) whole)))

pub shallow_titled : (xs ys text : List Laid) → Title xs ys → xs ≡ text ++ ys → (l : List Laid) → Shallow l → ShallowTitled (text ++ l)
shallow_titled xs ys text h e l s = record { title = text; body = l; whole = refl; titled = inr (all_alone Title local_title xs ys text h e); shallow = s }

pub shallow_stated : (xs ws text : List Laid) → either assume_word theorem_word xs ws → xs ≡ text ++ ws → (l : List Laid) → ShallowTitled l → ShallowUnit (text ++ l)
shallow_stated xs ws text h e l s = inr (inr (inl (record {
  before = text ++ s.title;
  body = s.body;
  whole = ap (λ v. text ++ v) s.whole ∙ sym (append_assoc text s.title s.body);
  stated = (s.title, before_any (either assume_word theorem_word) local_stating xs ws text h e s.title, title_of s.title [] s.titled);
  shallow = s.shallow;
})))

-- ---- whole units

pub whole_unit : (u : ModuleUnit) → IsLocal (UnitText u) → (xs ys text : List Laid) → UnitText u xs ys → xs ≡ text ++ ys → ShallowUnit text → ShallowWholeUnit xs ys
whole_unit u local xs ys text h e s = record { text = text; whole = e; unit = u; spelled = all_alone (UnitText u) local xs ys text h e; shallow = s }

declaration_alone : (ds : List Declared) (text : List Laid) → (either variable_word constant_word ⨟ DeclaredNamesText ds) text [] → ShallowUnit text
declaration_alone ds text h = inl ([], inl (subst (λ v. DeclarationText v []) (sym (append-nil text)) (h.0, h.1, (ds, h.2))))

pub variables_shallow : (ds : List Declared) (xs ys : List Laid) → UnitText (units.Variables ds) xs ys → ShallowWholeUnit xs ys
variables_shallow ds xs ys h =
    let p = local_variables ds xs ys h in
    let w : UnitText (units.Variables ds) p.text [] = all_alone (UnitText (units.Variables ds)) (local_variables ds) xs ys p.text h p.whole in
    whole_unit (units.Variables ds) (local_variables ds) xs ys p.text h p.whole (declaration_alone ds p.text (w.0, inl w.1, w.2))

pub constants_shallow : (ds : List Declared) (xs ys : List Laid) → UnitText (units.Constants ds) xs ys → ShallowWholeUnit xs ys
constants_shallow ds xs ys h =
    let p = local_constants ds xs ys h in
    let w : UnitText (units.Constants ds) p.text [] = all_alone (UnitText (units.Constants ds)) (local_constants ds) xs ys p.text h p.whole in
    whole_unit (units.Constants ds) (local_constants ds) xs ys p.text h p.whole (declaration_alone ds p.text (w.0, inr w.1, w.2))

pub recursive_shallow : (ds : List DeclaredOperator) (xs ys : List Laid) → UnitText (units.Recursive ds) xs ys → ShallowWholeUnit xs ys
recursive_shallow ds xs ys h =
    let p = local_recursive ds xs ys h in
    let w : UnitText (units.Recursive ds) p.text [] = all_alone (UnitText (units.Recursive ds)) (local_recursive ds) xs ys p.text h p.whole in
    whole_unit (units.Recursive ds) (local_recursive ds) xs ys p.text h p.whole (inl ([], inr (inl (subst (λ v. RecursiveText v []) (sym (append-nil p.text)) (w.0, w.1, (ds, w.2))))))

pub dashes_shallow : (xs ys : List Laid) → some_token kinds.Dashes xs ys → ShallowWholeUnit xs ys
dashes_shallow xs ys h =
    let p = local_kind kinds.Dashes xs ys h in
    let w : some_token kinds.Dashes p.text [] = all_alone (some_token kinds.Dashes) (local_kind kinds.Dashes) xs ys p.text h p.whole in
    record { text = p.text; whole = p.whole; unit = units.Passed; spelled = inl w; shallow = inl ([], inr (inr (inl (subst (λ v. some_token kinds.Dashes v []) (sym (append-nil p.text)) w)))) }

-- what was read as far as a text goes
pub as_far : (B F H : List Laid → Type 0) (laid : List Laid) (from behind : ℕ) → GoesAsFar B F H laid from behind → (text : List Laid) × (drop from laid ≡ text ++ drop behind laid) × H text
as_far B F H laid from behind g = (g.3.read, g.3.whole ∙ ap (λ v. g.3.read ++ v) (sym g.2), g.3.shallow)

pub defined_shallow : LocalDefinition → (d : UnitDefinition) (laid : List Laid) (from behind : ℕ) → UnitText (units.Define d) (drop from laid) (drop behind laid) → GoesAsFar BegunDefinition FittingBegunDefinition ShallowDefinition laid from behind → ShallowWholeUnit (drop from laid) (drop behind laid)
defined_shallow local d laid from behind h g =
    let r = as_far BegunDefinition FittingBegunDefinition ShallowDefinition laid from behind g in
    whole_unit (units.Define d) (local_definition local d) (drop from laid) (drop behind laid) r.0 h r.1 (inr (inl r.2))

stated_alone : (xs ws ss text title body : List Laid) → either assume_word theorem_word xs ws → xs ≡ text ++ ws → MaybeTitle ws ss → ws ≡ title ++ ss → Shallow body → ShallowUnit ((text ++ title) ++ body)
stated_alone xs ws ss text title body h e t q s = inr (inr (inl (record {
  before = text ++ title;
  body = body;
  whole = refl;
  stated = (title, before_any (either assume_word theorem_word) local_stating xs ws text h e title, all_alone MaybeTitle local_maybe_title ws ss title t q);
  shallow = s;
})))

stated_unit : (u : ModuleUnit) → IsLocal (UnitText u) → (laid xs ws : List Laid) (start behind : ℕ) → either assume_word theorem_word xs ws → MaybeTitle ws (drop start laid) → UnitText u xs (drop behind laid) → GoesAsFar Begun FittingBegun Shallow laid start behind → ShallowWholeUnit xs (drop behind laid)
stated_unit u local laid xs ws start behind word title h g =
    let w = local_stating xs ws word in
    let t = local_maybe_title ws (drop start laid) title in
    let r = as_far Begun FittingBegun Shallow laid start behind g in
    let whole : xs ≡ ((w.text ++ t.text) ++ r.0) ++ drop behind laid = joined xs (drop start laid) (drop behind laid) (w.text ++ t.text) r.0 (joined xs ws (drop start laid) w.text t.text w.whole t.whole) r.1 in
    whole_unit u local xs (drop behind laid) ((w.text ++ t.text) ++ r.0) h whole (stated_alone xs ws (drop start laid) w.text t.text r.0 word w.whole title t.whole r.2)

pub assumed_shallow : LocalText → (e : Tree) (laid xs ws : List Laid) (start behind : ℕ) → assume_word xs ws → MaybeTitle ws (drop start laid) → Spells e (drop start laid) (drop behind laid) → GoesAsFar Begun FittingBegun Shallow laid start behind → ShallowWholeUnit xs (drop behind laid)
assumed_shallow local e laid xs ws start behind word title s g = stated_unit (units.Assume e) (local_assumption local e) laid xs ws start behind (inl word) title (ws, word, (drop start laid, title, s.text)) g

pub theorem_shallow : LocalText → (e : Tree) (laid xs ws : List Laid) (start behind : ℕ) → theorem_word xs ws → MaybeTitle ws (drop start laid) → Spells e (drop start laid) (drop behind laid) → GoesAsFar Begun FittingBegun Shallow laid start behind → ShallowWholeUnit xs (drop behind laid)
theorem_shallow local e laid xs ws start behind word title s g = stated_unit units.Passed (local_passed local) laid xs ws start behind (inr word) title (inr (ws, word, (drop start laid, title, (e, s)))) g

-- ---- units one behind another

pub no_units_yet : (xs : List Laid) → ShallowWholeUnits xs xs
no_units_yet xs = (zero, refl)

one_more_of : (n : ℕ) (xs ys zs : List Laid) → SoManyUnits n xs ys → ShallowWholeUnit ys zs → SoManyUnits (suc n) xs zs
one_more_of zero xs ys zs h u = (zs, subst (λ v. ShallowWholeUnit v zs) (sym h) u, refl)
one_more_of (suc n) xs ys zs h u = (h.0, h.1, one_more_of n h.0 ys zs h.2 u)

pub one_more_shallow : (xs ys zs : List Laid) → ShallowWholeUnits xs ys → ShallowWholeUnit ys zs → ShallowWholeUnits xs zs
one_more_shallow xs ys zs h u = (suc h.0, one_more_of h.0 xs ys zs h.1 u)

pub shallow_units : (xs ys text : List Laid) → ShallowWholeUnits xs ys → xs ≡ text ++ ys → (l : List Laid) → ShallowUnit l → ShallowUnits (text ++ l)
shallow_units xs ys text h e l s = (l, before_any ShallowWholeUnits local_whole_units xs ys text h e l, s)

-- behind the equals signs
pub shallow_equals : (xs ys text : List Laid) → some_token kinds.Equals xs ys → xs ≡ text ++ ys → (l : List Laid) → l ≡ [] → ShallowUnit (text ++ l)
shallow_equals xs ys text h e l q =
    let w : some_token kinds.Equals (text ++ []) [] = before_any (some_token kinds.Equals) (local_kind kinds.Equals) xs ys text h e [] in
    let there : some_token kinds.Equals (text ++ l) [] = subst (λ v. some_token kinds.Equals (text ++ v) []) (sym q) w in
    inl ([], inr (inr (inr (subst (λ v. some_token kinds.Equals v []) (sym (append-nil (text ++ l))) there))))

-- ---- a part behind another

pub shallow_after : (A B : Span) (J : List Laid → Type 0) → IsLocal A → (xs ys text : List Laid) → A xs ys → xs ≡ text ++ ys → (l : List Laid) → BeginsThen B J l → BeginsThen (A ⨟ B) J (text ++ l)
shallow_after A B J local xs ys text h e l (inl b) =
    let whole : (A ⨟ B) (text ++ (l ++ b.0)) [] = (l ++ b.0, before_any A local xs ys text h e (l ++ b.0), b.1) in
    inl (b.0, subst (λ v. (A ⨟ B) v []) (sym (append_assoc text l b.0)) whole)
shallow_after A B J local xs ys text h e l (inr b) = inr (b.0, (l, before_any A local xs ys text h e l, b.1), b.2)

-- ---- the heading

-- these are the beginning of such a part of the heading, or all of it and units behind it
abbrev pub ShallowBehind : Span → List Laid → Type 0
ShallowBehind R l = BeginsThen R ShallowUnits l

pub shallow_behind : (A B : Span) → IsLocal A → (xs ys text : List Laid) → A xs ys → xs ≡ text ++ ys → (l : List Laid) → ShallowBehind B l → ShallowBehind (A ⨟ B) (text ++ l)
shallow_behind A B local xs ys text h e l s = shallow_after A B ShallowUnits local xs ys text h e l s

pub shallow_extended : (xs ys text : List Laid) → SomeExtends xs ys → xs ≡ text ++ ys → (l : List Laid) → ShallowUnits l → ShallowBehind SomeExtends (text ++ l)
shallow_extended xs ys text h e l s = inr (l, before_any SomeExtends local_some_extends xs ys text h e l, s)

pub extends_begun : (l : List Laid) → Begins Extended l → ShallowBehind SomeExtends l
extends_begun l b = inl (b.0, extends_of (l ++ b.0) [] b.1)
