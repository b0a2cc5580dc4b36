-- Where more names are above level 0, no tree comes down to it.
use Rattle.std.proofs.Common.{refl, List, [], ◌∷◌}
use Rattle.std.specs.Prelude.{◌||◌, ℕ, zero, suc, Bool, true, false, IsTrue, if◌then◌else◌}
use Rattle.std.specs.Str.{bytes_eq}
use Rattle.reading_trees.specs.declared.expr.Definition.{Definition}
use Rattle.reading_trees.specs.Trees.{Tree, Number, Str, Truth, Builtin, Name, Call, Qualified, At, Parenthesized, Junction, Prefix, Infix, Postfix, SetOf, Filter, Map, Tuple, Function, FunctionSet, Record, RecordSet, Except, Quantified, Choose, If, Case, CaseOther, Let, BoxAction, AngleAction, Fairness, Trees, NoTrees, MoreTrees, Operands, First, Next, Step, Prime, Index, Field, Steps, NoSteps, MoreSteps, Bounds, NoBounds, MoreBounds, Fields, NoFields, MoreFields, Changes, NoChanges, MoreChanges, Arms, NoArms, MoreArms, Definitions, NoDefinitions, MoreDefinitions}
use Rattle.names_scopes.specs.Scopes.{at_sign}
use Rattle.names_least_levels.specs.declared.told.NameLevel.{NameLevel}
use Rattle.names_least_levels.specs.declared.told.Told.{Told}
use Rattle.names_least_levels.specs.declared.told.Told.TheVariants.{Above, Constant, OfDefinition}
use Rattle.names_least_levels.specs.Levels.{mark, told_rises, names_rise, each_rises, Implies, AtMost}
use Rattle.names_least_levels.specs.Rising.{Rising, with_name, without, without_bounds, with_own, prefix_rises, infix_rises, rises, rises_each, rises_operands, rises_step, rises_steps, rises_bounds, rises_fields, rises_changes, rises_arms, with_definitions}

pub no_true : IsTrue false → ⊥
no_true h = cc

-- what is above level 0 with the one is so with the other
abbrev pub Below : Rising → Rising → Type 0
Below g h = (n : List ℕ) → Implies (g n) (h n)

or_below : (a b c d : Bool) → Implies a c → Implies b d → Implies (a || b) (c || d)
or_below true b true d f g t = refl
or_below true b false d f g t = absurd (no_true (f refl))
or_below false b true d f g t = refl
or_below false b false d f g t = g t

if_below : (t : Bool) (b c x y : Bool) → Implies b c → Implies x y → Implies (if t then b else x) (if t then c else y)
if_below true b c x y f g = f
if_below false b c x y f g = g

name_below : (g h : Rising) (n : List ℕ) (b c : Bool) → Below g h → Implies b c → Below (with_name g n b) (with_name h n c)
name_below g h n b c le f m = if_below (bytes_eq n m) b c (g m) (h m) f (le m)

without_below : (g h : Rising) (ns : List (List ℕ)) → Below g h → Below (without g ns) (without h ns)
without_below g h [] le = le
without_below g h (n ∷ ns) le = without_below (with_name g n false) (with_name h n false) ns (name_below g h n false false le (λ t. t))

bounds_bound : (g h : Rising) (bs : Bounds) → Below g h → Below (without_bounds g bs) (without_bounds h bs)
bounds_bound g h NoBounds le = le
bounds_bound g h (MoreBounds bs ns e) le = without_below (without_bounds g bs) (without_bounds h bs) ns (bounds_bound g h bs le)

own_below : (g h : Rising) (n : List ℕ) → Below g h → Below (with_own g n) (with_own h n)
own_below g h n le = name_below g h n false false le (λ t. t)

mutual
  pub rises_below : (t : Tree) (g h : Rising) → Below g h → Implies (rises g t) (rises h t)
  rises_below (Number at z) g h le = λ t. t
  rises_below (Str at s) g h le = λ t. t
  rises_below (Truth at b) g h le = λ t. t
  rises_below (Builtin at b) g h le = λ t. t
  rises_below (Name at n) g h le = le n
  rises_below (Call at n es) g h le = or_below (g n) (rises_each g es) (h n) (rises_each h es) (le n) (each_below es g h le)
  rises_below (Qualified at n es) g h le = or_below (g n) (rises_each g es) (h n) (rises_each h es) (le n) (each_below es g h le)
  rises_below (At at) g h le = le at_sign
  rises_below (Parenthesized at e) g h le = rises_below e g h le
  rises_below (Junction at b es) g h le = each_below es g h le
  rises_below (Prefix at o e) g h le = or_below (prefix_rises o) (rises g e) (prefix_rises o) (rises h e) (λ t. t) (rises_below e g h le)
  rises_below (Infix at o os e) g h le = or_below ((infix_rises o) || (rises_operands g os)) (rises g e) ((infix_rises o) || (rises_operands h os)) (rises h e) (or_below (infix_rises o) (rises_operands g os) (infix_rises o) (rises_operands h os) (λ t. t) (operands_below os g h le)) (rises_below e g h le)
  rises_below (Postfix at e ss s) g h le = or_below ((rises g e) || (rises_steps g ss)) (rises_step g s) ((rises h e) || (rises_steps h ss)) (rises_step h s) (or_below (rises g e) (rises_steps g ss) (rises h e) (rises_steps h ss) (rises_below e g h le) (steps_below ss g h le)) (step_below s g h le)
  rises_below (SetOf at es) g h le = each_below es g h le
  rises_below (Filter at n s e) g h le = or_below (rises g s) (rises (with_name g n false) e) (rises h s) (rises (with_name h n false) e) (rises_below s g h le) (rises_below e (with_name g n false) (with_name h n false) (name_below g h n false false le (λ t. t)))
  rises_below (Map at e bs) g h le = or_below (rises_bounds g bs) (rises (without_bounds g bs) e) (rises_bounds h bs) (rises (without_bounds h bs) e) (bounds_below bs g h le) (rises_below e (without_bounds g bs) (without_bounds h bs) (bounds_bound g h bs le))
  rises_below (Tuple at es) g h le = each_below es g h le
  rises_below (Function at bs e) g h le = or_below (rises_bounds g bs) (rises (without_bounds g bs) e) (rises_bounds h bs) (rises (without_bounds h bs) e) (bounds_below bs g h le) (rises_below e (without_bounds g bs) (without_bounds h bs) (bounds_bound g h bs le))
  rises_below (FunctionSet at s e) g h le = or_below (rises g s) (rises g e) (rises h s) (rises h e) (rises_below s g h le) (rises_below e g h le)
  rises_below (Record at fs) g h le = fields_below fs g h le
  rises_below (RecordSet at fs) g h le = fields_below fs g h le
  rises_below (Except at e cs) g h le = or_below (rises g e) (rises_changes g cs) (rises h e) (rises_changes h cs) (rises_below e g h le) (changes_below cs g h le)
  rises_below (Quantified at q bs e) g h le = or_below (rises_bounds g bs) (rises (without_bounds g bs) e) (rises_bounds h bs) (rises (without_bounds h bs) e) (bounds_below bs g h le) (rises_below e (without_bounds g bs) (without_bounds h bs) (bounds_bound g h bs le))
  rises_below (Choose at n s e) g h le = or_below (rises g s) (rises (with_name g n false) e) (rises h s) (rises (with_name h n false) e) (rises_below s g h le) (rises_below e (with_name g n false) (with_name h n false) (name_below g h n false false le (λ t. t)))
  rises_below (If at p e f) g h le = or_below ((rises g p) || (rises g e)) (rises g f) ((rises h p) || (rises h e)) (rises h f) (or_below (rises g p) (rises g e) (rises h p) (rises h e) (rises_below p g h le) (rises_below e g h le)) (rises_below f g h le)
  rises_below (Case at arms) g h le = arms_below arms g h le
  rises_below (CaseOther at arms e) g h le = or_below (rises_arms g arms) (rises g e) (rises_arms h arms) (rises h e) (arms_below arms g h le) (rises_below e g h le)
  rises_below (Let at ds e) g h le = rises_below e (with_definitions g ds) (with_definitions h ds) (definitions_below ds g h le)
  rises_below (BoxAction at e v) g h le = λ t. t
  rises_below (AngleAction at e v) g h le = λ t. t
  rises_below (Fairness at v e) g h le = λ t. t

  pub each_below : (t : Trees) (g h : Rising) → Below g h → Implies (rises_each g t) (rises_each h t)
  each_below NoTrees g h le = λ t. t
  each_below (MoreTrees es e) g h le = or_below (rises_each g es) (rises g e) (rises_each h es) (rises h e) (each_below es g h le) (rises_below e g h le)

  pub operands_below : (t : Operands) (g h : Rising) → Below g h → Implies (rises_operands g t) (rises_operands h t)
  operands_below (First e) g h le = rises_below e g h le
  operands_below (Next os at e) g h le = or_below (rises_operands g os) (rises g e) (rises_operands h os) (rises h e) (operands_below os g h le) (rises_below e g h le)

  pub step_below : (t : Step) (g h : Rising) → Below g h → Implies (rises_step g t) (rises_step h t)
  step_below Prime g h le = λ t. t
  step_below (Index es) g h le = each_below es g h le
  step_below (Field name) g h le = λ t. t

  pub steps_below : (t : Steps) (g h : Rising) → Below g h → Implies (rises_steps g t) (rises_steps h t)
  steps_below NoSteps g h le = λ t. t
  steps_below (MoreSteps ss at s) g h le = or_below (rises_steps g ss) (rises_step g s) (rises_steps h ss) (rises_step h s) (steps_below ss g h le) (step_below s g h le)

  pub bounds_below : (t : Bounds) (g h : Rising) → Below g h → Implies (rises_bounds g t) (rises_bounds h t)
  bounds_below NoBounds g h le = λ t. t
  bounds_below (MoreBounds bs ns e) g h le = or_below (rises_bounds g bs) (rises g e) (rises_bounds h bs) (rises h e) (bounds_below bs g h le) (rises_below e g h le)

  pub fields_below : (t : Fields) (g h : Rising) → Below g h → Implies (rises_fields g t) (rises_fields h t)
  fields_below NoFields g h le = λ t. t
  fields_below (MoreFields fs n e) g h le = or_below (rises_fields g fs) (rises g e) (rises_fields h fs) (rises h e) (fields_below fs g h le) (rises_below e g h le)

  pub changes_below : (t : Changes) (g h : Rising) → Below g h → Implies (rises_changes g t) (rises_changes h t)
  changes_below NoChanges g h le = λ t. t
  changes_below (MoreChanges cs path e) g h le = or_below ((rises_changes g cs) || (rises_steps g path)) (rises (with_name g at_sign false) e) ((rises_changes h cs) || (rises_steps h path)) (rises (with_name h at_sign false) e) (or_below (rises_changes g cs) (rises_steps g path) (rises_changes h cs) (rises_steps h path) (changes_below cs g h le) (steps_below path g h le)) (rises_below e (with_name g at_sign false) (with_name h at_sign false) (name_below g h at_sign false false le (λ t. t)))

  pub arms_below : (t : Arms) (g h : Rising) → Below g h → Implies (rises_arms g t) (rises_arms h t)
  arms_below NoArms g h le = λ t. t
  arms_below (MoreArms arms p e) g h le = or_below ((rises_arms g arms) || (rises g p)) (rises g e) ((rises_arms h arms) || (rises h p)) (rises h e) (or_below (rises_arms g arms) (rises g p) (rises_arms h arms) (rises h p) (arms_below arms g h le) (rises_below p g h le)) (rises_below e g h le)

  pub definitions_below : (ds : Definitions) (g h : Rising) → Below g h → Below (with_definitions g ds) (with_definitions h ds)
  definitions_below NoDefinitions g h le = le
  definitions_below (MoreDefinitions ds n at ps form e) g h le =
      let before : Below (with_definitions g ds) (with_definitions h ds) = definitions_below ds g h le in
      let around : Below (without (with_own (with_definitions g ds) n) ps) (without (with_own (with_definitions h ds) n) ps) =
      without_below (with_own (with_definitions g ds) n) (with_own (with_definitions h ds) n) ps (own_below (with_definitions g ds) (with_definitions h ds) n before) in
      name_below (with_definitions g ds) (with_definitions h ds) n (rises (without (with_own (with_definitions g ds) n) ps) e) (rises (without (with_own (with_definitions h ds) n) ps) e) before
      (rises_below e (without (with_own (with_definitions g ds) n) ps) (without (with_own (with_definitions h ds) n) ps) around)

-- ---- marks

mark_below : (xs bs : List Bool) (i : ℕ) → AtMost xs bs → Implies (mark xs i) (mark bs i)
mark_below [] bs i z = λ t. absurd (no_true t)
mark_below (a ∷ xs) [] i z = absurd z
mark_below (a ∷ xs) (b ∷ bs) zero z = z.0
mark_below (a ∷ xs) (b ∷ bs) (suc i) z = mark_below xs bs i z.1

told_below : (xs bs : List Bool) → AtMost xs bs → (t : Told) → Implies (told_rises xs t) (told_rises bs t)
told_below xs bs z Above = λ t. t
told_below xs bs z Constant = λ t. t
told_below xs bs z (OfDefinition i) = mark_below xs bs i z

names_below : (names : List NameLevel) (xs bs : List Bool) → AtMost xs bs → Below (names_rise names xs) (names_rise names bs)
names_below [] xs bs z n = λ t. t
names_below (w ∷ ws) xs bs z n = if_below (bytes_eq w.name n) (told_rises xs w.told) (told_rises bs w.told) (names_rise ws xs n) (names_rise ws bs n) (told_below xs bs z w.told) (names_below ws xs bs z n)

pub marks_below : (names : List NameLevel) (xs bs : List Bool) → AtMost xs bs → (ds : List Definition) → AtMost (each_rises names xs ds) (each_rises names bs ds)
marks_below names xs bs z [] = tt
marks_below names xs bs z (d ∷ ds) =
    let around : Below (names_rise names xs) (names_rise names bs) = names_below names xs bs z in (
      rises_below d.body (without (names_rise names xs) d.params) (without (names_rise names bs) d.params) (without_below (names_rise names xs) (names_rise names bs) d.params around),
      marks_below names xs bs z ds,
    )
