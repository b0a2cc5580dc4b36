-- What the parts of an action leave fixed where they are seen one level less high than the action, they leave fixed: but for those of a tuple under
-- UNCHANGED they are among the terms of which the action is made, and so they end where it does.
use Rattle.std.proofs.Common.{◌≡◌, refl, sym, subst, ℕ, zero, suc, List, [], ◌∷◌, ◌++◌, length, map}
use Rattle.std.specs.Prelude.{Bool, true, false, Option, Some, slice_get, if◌then◌else◌}
use Rattle.std.specs.List.{AllByRecursion}
use Rattle.base_core.specs.declared.place.Place.{Place}
use Rattle.reading_trees.specs.declared.operators.InfixOperator.{InfixOperator}
use Rattle.reading_trees.specs.declared.operators.InfixOperator.TheVariants as infix_operator
use Rattle.reading_trees.specs.declared.operators.PrefixOperator.TheVariants as prefix
use Rattle.reading_trees.specs.declared.operators.Quantifier.TheVariants as quantifier
use Rattle.names_terms.specs.declared.level.Level.TheVariants as levels
use Rattle.names_terms.specs.Lists.{terms_list, arms_list}
use Rattle.names_terms.specs.Terms as term
use Rattle.names_terms.specs.Terms.{Term, Placed, Meaning, Arms, place_of}
use Rattle.names_term_parts.specs.Parts.{arm_list, set_list}
use Rattle.eval_meanings.specs.Unchanged.{behind}
use Rattle.actions_meanings.specs.declared.which.Which.{Which}
use Rattle.actions_meanings.specs.declared.which.Which.TheVariants as which
use Rattle.actions_meanings.specs.Forms.{Setting, Form, form, infix_form, is_taken, meaning_form, target, unchanged_form, test, assign, choose, both, either, narrowed, some, branch, arms, inside, call, changing}
use Rattle.actions_meanings.specs.Reads.{Ends, body_of, terms_in}
use Rattle.eval_laws.proofs.FineContexts.{all_append}
use Rattle.steps_found_states.specs.Grounds.{FixesWithin, TuplesFix, form_parts, tuple_parts}
use Rattle.steps_found_states.proofs.Lists.{place_by_all}
use Rattle.steps_found_states.proofs.FormParts.{same_form}

all_left : {X : Type 0} (P : X → Type 0) (xs ys : List X) → AllByRecursion P (xs ++ ys) → AllByRecursion P xs
all_left P [] ys h = tt
all_left P (x ∷ xs) ys h = (h.0, all_left P xs ys h.1)

all_right : {X : Type 0} (P : X → Type 0) (xs ys : List X) → AllByRecursion P (xs ++ ys) → AllByRecursion P ys
all_right P [] ys h = h
all_right P (x ∷ xs) ys h = all_right P xs ys h.1

last_arm : (P : Term → Type 0) (cs : List (Term × Term)) (p e : Term) → AllByRecursion P (map (λ q. q.1) cs) → P e → AllByRecursion P (map (λ q. q.1) (cs ++ (p, e) ∷ []))
last_arm P [] p e h k = (k, tt)
last_arm P (c ∷ cs) p e h k = (h.0, last_arm P cs p e h.1 k)

arms_end : (P : Term → Type 0) (cs : Arms) → AllByRecursion P (arm_list cs) → AllByRecursion P (map (λ q. q.1) (arms_list cs))
arms_end P term.NoArms h = tt
arms_end P (term.MoreArms cs p e) h =
    last_arm P (arms_list cs) p e (arms_end P cs (all_left P (arm_list cs) (p ∷ e ∷ []) h)) (all_right P (arm_list cs) (p ∷ e ∷ []) h).1.0

-- the parts of each form but UNCHANGED of a tuple
abbrev EndsIn : Setting → ℕ → Place → Form → Type 0
EndsIn g k at (narrowed n es) = Unit {0}
EndsIn g k at f = AllByRecursion (Ends g.table k) (form_parts g at f)

unchanged_ends : (g : Setting) (k : ℕ) (at : Place) (q : ℕ × Term) → EndsIn g k at (unchanged_form at q)
unchanged_ends g k at (m, Placed p l (term.Variable x)) = tt
unchanged_ends g k at (m, Placed p l (term.Tuple ts)) = tt
unchanged_ends g k at (m, e) = tt

infix_ends : (g : Setting) (k : ℕ) (at : Place) (o : InfixOperator) (x : Option ℕ) (e : Term) → EndsIn g k at (infix_form o x e)
infix_ends g k at infix_operator.Equal (Some x) e = tt
infix_ends g k at infix_operator.Member (Some x) e = tt
infix_ends g k at o x e = tt

meaning_ends : (g : Setting) (n k : ℕ) (at : Place) (m : Meaning) → AllByRecursion (Ends g.table k) (terms_in g.table at m) → EndsIn g k at (meaning_form g n at m)
meaning_ends g n k at (term.All ts) h = h
meaning_ends g n k at (term.Any ts) h = h
meaning_ends g n k at (term.Quantified quantifier.Exists bs e) h = all_right (Ends g.table k) (set_list bs) (e ∷ []) h
meaning_ends g n k at (term.If p e f) h = h.1
meaning_ends g n k at (term.Case cs) h = all_append (Ends g.table k) (map (λ q. q.1) (arms_list cs)) [] (arms_end (Ends g.table k) cs h) tt
meaning_ends g n k at (term.CaseOther cs e) h =
    all_append (Ends g.table k) (map (λ q. q.1) (arms_list cs)) (e ∷ []) (arms_end (Ends g.table k) cs (all_left (Ends g.table k) (arm_list cs) (e ∷ []) h)) (all_right (Ends g.table k) (arm_list cs) (e ∷ []) h)
meaning_ends g n k at (term.Scoped ks e) h = h
meaning_ends g n k at (term.Parenthesized e) h = h
meaning_ends g n k at (term.Use j ts) h = all_right (Ends g.table k) (terms_list ts) (body_of (slice_get g.table j)) h
meaning_ends g n k at (term.BoxAction e v) h = h
meaning_ends g n k at (term.AngleAction e v) h = (h.0, tt)
meaning_ends g n k at (term.Prefix prefix.Unchanged e) h = unchanged_ends g k at (behind g.table (length g.table) n e)
meaning_ends g n k at (term.Infix o (term.First e) f) h = infix_ends g k at o (target g.which e) f
meaning_ends g n k at m h = tt

taken_ends : (g : Setting) (k : ℕ) (at : Place) (b : Bool) (f : Form) → EndsIn g k at f → EndsIn g k at (if b then f else test)
taken_ends g k at true f h = h
taken_ends g k at false f h = tt

constant_untaken : (w : Which) → is_taken w levels.Constant ≡ false
constant_untaken which.Init = refl
constant_untaken which.Action = refl

form_ends : (g : Setting) (n k : ℕ) (a : Term) → Ends g.table (suc k) a → EndsIn g k (place_of a) (form g n a)
form_ends g n k (Placed at levels.Constant m) h = subst (λ (b : Bool). EndsIn g k at (if b then meaning_form g n at m else test)) (sym (constant_untaken g.which)) tt
form_ends g n k (Placed at levels.State m) h = taken_ends g k at (is_taken g.which levels.State) (meaning_form g n at m) (meaning_ends g n k at m (place_by_all (Ends g.table k) (terms_in g.table at m) h))
form_ends g n k (Placed at levels.Action m) h = taken_ends g k at (is_taken g.which levels.Action) (meaning_form g n at m) (meaning_ends g n k at m (place_by_all (Ends g.table k) (terms_in g.table at m) h))
form_ends g n k (Placed at levels.Temporal m) h = taken_ends g k at (is_taken g.which levels.Temporal) (meaning_form g n at m) (meaning_ends g n k at m (place_by_all (Ends g.table k) (terms_in g.table at m) h))

each_fix : (g : Setting) (k : ℕ) (es : List Term) → AllByRecursion (Ends g.table k) es → AllByRecursion (FixesWithin g k) es
each_fix g k [] h = tt
each_fix g k (e ∷ es) h = (λ B C q. (k, h.0, q), each_fix g k es h.1)

with_tuple : (g : Setting) (k : ℕ) (at : Place) (f : Form) → EndsIn g k at f → AllByRecursion (FixesWithin g k) (tuple_parts f) → AllByRecursion (FixesWithin g k) (form_parts g at f)
with_tuple g k at (narrowed n es) h t = t
with_tuple g k at (both es) h t = each_fix g k (form_parts g at (both es)) h
with_tuple g k at (either es) h t = each_fix g k (form_parts g at (either es)) h
with_tuple g k at (some bs e) h t = each_fix g k (form_parts g at (some bs e)) h
with_tuple g k at (branch p e f) h t = each_fix g k (form_parts g at (branch p e f)) h
with_tuple g k at (arms cs other) h t = each_fix g k (form_parts g at (arms cs other)) h
with_tuple g k at (inside e) h t = each_fix g k (form_parts g at (inside e)) h
with_tuple g k at (call j es) h t = each_fix g k (form_parts g at (call j es)) h
with_tuple g k at (changing e v) h t = each_fix g k (form_parts g at (changing e v)) h
with_tuple g k at test h t = each_fix g k (form_parts g at test) h
with_tuple g k at (assign x e) h t = each_fix g k (form_parts g at (assign x e)) h
with_tuple g k at (choose x e) h t = each_fix g k (form_parts g at (choose x e)) h

pub parts_fix : (g : Setting) (d n : ℕ) (a : Term) → TuplesFix g (suc d) a → (k : ℕ) → Ends g.table (suc k) a → AllByRecursion (FixesWithin g k) (form_parts g (place_of a) (form g n a))
parts_fix g d n a h k e =
    with_tuple g k (place_of a) (form g n a) (form_ends g n k a e) (subst (λ (es : List Term). AllByRecursion (FixesWithin g k) es) (same_form tuple_parts (λ m n es. refl) g zero n a) (h.0 k e))

pub tuples_fix_on : (g : Setting) (d n : ℕ) (a : Term) → TuplesFix g (suc d) a → AllByRecursion (TuplesFix g d) (form_parts g (place_of a) (form g n a))
tuples_fix_on g d n a h = subst (λ (es : List Term). AllByRecursion (TuplesFix g d) es) (same_form (form_parts g (place_of a)) (λ m n es. refl) g zero n a) h.1
