-- Functions: their keys, the steps behind a primary, and the changes of EXCEPT.
use Rattle.std.specs.Prelude.{◌⊎◌, List, [], ◌∷◌, Option, Some, None, map}
use Rattle.base_core.specs.declared.place.Place.{Place}
use Rattle.values_core.specs.Data.{Val, string}
use Rattle.values_core.specs.Functions.{IsFunction, InDomain, HasPair}
use Rattle.values_core.specs.FunctionOperations.{GivesSequence, AppliesAt, Excepts}
use Rattle.values_core.specs.declared.fault.EvalKind.TheVariants.{NotFunction}
use Rattle.names_terms.specs.Lists.{terms_list, steps_list}
use Rattle.names_terms.specs.Terms as term
use Rattle.names_terms.specs.Terms.{Term, Step, Steps, place_of}
use Rattle.eval_meanings.specs.Outcomes.{Outcome, Gives, Fails, Then, Each, Operated, place_in}
use Rattle.eval_meanings.specs.Contexts.{Context, Table, Evaluate, Describe, bind, within, primed}
use Rattle.eval_meanings.specs.Recursion.{Recursion, RecursionEvaluates, applied_by}

-- The key that values make: one is itself, and several are their tuple, with its faults at the given place.
abbrev pub KeyOf : Place → List Val → Outcome Val
KeyOf at (v ∷ []) r = Gives v r
KeyOf at vs r = Operated (GivesSequence vs) (λ n. at) r

-- the key that a step asks for: f[x, y] is f[<<x, y>>], and r.h is r["h"]
abbrev pub StepKey : Evaluate → Context → Place → Step → Outcome Val
StepKey evaluate c at term.Prime r = ⊥
StepKey evaluate c at (term.Index ts) r = Then (Each (evaluate c) (terms_list ts)) (KeyOf at) r
StepKey evaluate c at (term.Field h) r = Gives (string h) r

-- the place of a primary with steps behind it, where it stands alone: that of the last step
abbrev pub steps_place : Place → Steps → Place
steps_place at term.NoSteps = at
steps_place at (term.MoreSteps ss p e) = p

-- f[a] and r.h, where f stands at the place base: a function that uses itself is not listed, and what else stands before the step is evaluated first
abbrev pub AtStep : Evaluate → Describe → Context → Place → Place → Step → Option Recursion → Outcome Val → Outcome Val
AtStep evaluate describe c at base s (Some g) P = Then (StepKey evaluate c at s) (RecursionEvaluates evaluate describe (within g.around c) at g)
AtStep evaluate describe c at base s None P = Then P (λ f. Then (StepKey evaluate c at s) (λ key. Operated (AppliesAt f key) (place_in at (base ∷ []))))

-- The value behind the steps. A prime reads all that stands before it in the next state.
abbrev pub StepsEvaluate : Table → Evaluate → Describe → Context → Term → Steps → Outcome Val
StepsEvaluate ops evaluate describe c e term.NoSteps = evaluate c e
StepsEvaluate ops evaluate describe c e (term.MoreSteps ss p term.Prime) = StepsEvaluate ops evaluate describe (primed c) e ss
StepsEvaluate ops evaluate describe c e (term.MoreSteps ss p s) =
    AtStep evaluate describe c p (steps_place (place_of e) ss) s (applied_by ops e ss s) (StepsEvaluate ops evaluate describe c e ss)

-- What stands at a key: what is no function is refused at the place of the base, and where the key is outside the domain the function stays.
abbrev pub AtKey : Place → Val → Val → (Val → Outcome Val) → Outcome Val
AtKey base f key P r = (¬ IsFunction f × Fails NotFunction base r) ⊎ (IsFunction f × ¬ InDomain key f × Gives f r) ⊎ ((old : Val) × HasPair f key old × P old r)

-- The value f with one change: at the end of the path stands the new value, which sees the old one as the innermost bound name. The EXCEPT stands
-- at the place at, and what it changes at the place base.
abbrev pub Changed : Evaluate → Context → Place → Place → List Step → Term → Val → Outcome Val
Changed evaluate c at base [] new f = evaluate (bind c (f ∷ [])) new
Changed evaluate c at base (s ∷ path) new f =
    Then (StepKey evaluate c at s) (λ key. AtKey base f key (λ old. Then (Changed evaluate c at base path new old) (λ v. Operated (Excepts f key v) (λ n. at))))

-- one change after another
abbrev pub AllChanged : Evaluate → Context → Place → Place → List (Steps × Term) → Val → Outcome Val
AllChanged evaluate c at base [] f = Gives f
AllChanged evaluate c at base (change ∷ changes) f =
    Then (Changed evaluate c at base (map (λ s. s.1) (steps_list change.0)) change.1 f) (AllChanged evaluate c at base changes)
