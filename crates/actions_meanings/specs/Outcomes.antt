-- Which variables an action leaves fixed, from left to right, or the first thing that is wrong with its form.
use Rattle.std.specs.Prelude.{◌≡◌, ℕ, zero, suc, Bool, true, false, ◌&&◌, ◌||◌, not, nat_lt, List, [], ◌∷◌, ◌++◌, map, Option, Some, None, Result, Ok, Err, if◌then◌else◌, option_to_list, slice_get, length}
use Rattle.base_core.specs.declared.place.Place.{Place}
use Rattle.reading_trees.specs.declared.operators.PrefixOperator.TheVariants as prefix
use Rattle.names_terms.specs.Lists.{terms_list}
use Rattle.names_terms.specs.Terms as term
use Rattle.names_terms.specs.Terms.{Term, Placed, Meaning, Step, Steps, place_of}
use Rattle.names_term_parts.specs.Parts.{set_list}
use Rattle.eval_meanings.specs.Functions.{steps_place}
use Rattle.eval_meanings.specs.Unchanged.{behind, unchanged_of}
use Rattle.actions_meanings.specs.declared.which.Which.{Which}
use Rattle.actions_meanings.specs.declared.which.Which.TheVariants as which
use Rattle.actions_meanings.specs.declared.fault.FormFault.{FormFault}
use Rattle.actions_meanings.specs.declared.fault.FormFault.TheVariants.{PrimeTooEarly, NotFixed}
use Rattle.actions_meanings.specs.Forms.{Setting, Form, form, is_taken, test, assign, choose, both, either, narrowed, some, branch, arms, inside, call, changing}
use Rattle.actions_meanings.specs.Reads.{VariableSet, Ends, body_of, in_none, reads, reads_primed, terms_in, united, with_variable}
use Rattle.states_core.specs.declared.var_id.VarId.{VarId}

-- What a term leaves fixed, or what is wrong with it.
abbrev pub FormOutcome : Type 0
FormOutcome = Result VariableSet FormFault

abbrev pub next : {A B : Type 0} → Result A FormFault → (A → Result B FormFault) → Result B FormFault
next (Ok x) go = go x
next (Err f) go = Err f

abbrev pub unless : {A : Type 0} → Option FormFault → Result A FormFault → Result A FormFault
unless None r = r
unless (Some f) r = Err f

-- the first of two
abbrev pub or_else : Option FormFault → Option FormFault → Option FormFault
or_else None o = o
or_else (Some f) o = Some f

-- the least variable of a set, of those below v
abbrev pub least : ℕ → VariableSet → Option ℕ
least zero P = None
least (suc v) P = elim (least v P) [
  | Some x ↦ Some x
  | None ↦ if P v then Some v else None
]

abbrev pub outside : VariableSet → VariableSet → VariableSet
outside B P x = P x && not (B x)

abbrev pub too_early : Place → Option ℕ → Option FormFault
too_early at None = None
too_early at (Some x) = Some (PrimeTooEarly (record { 0 = x }) at)

abbrev pub not_fixed : Place → Option ℕ → Option FormFault
not_fixed at None = None
not_fixed at (Some x) = Some (NotFixed (record { 0 = x }) at)

-- Reads that come too early: in a term that is a test, from left to right, the first read of a variable that is not fixed yet.

abbrev pub first_early : (Term → Option FormFault) → List Term → Option FormFault
first_early early [] = None
first_early early (e ∷ es) = or_else (early e) (first_early early es)

-- a variable itself, which in an action is read of the state before
abbrev pub early_variable : Which → VariableSet → Place → ℕ → Option FormFault
early_variable which.Init B at x = too_early at (if B x then None else Some x)
early_variable which.Action B at x = None

-- a primary with steps: what stands before a prime is its operand, and of all that it reads the least variable is named, at the operand
abbrev pub early_steps : (Term → Option FormFault) → (Term → Steps → Option ℕ) → Term → Steps → Option FormFault
early_steps early unfixed e term.NoSteps = early e
early_steps early unfixed e (term.MoreSteps ss at term.Prime) = too_early (steps_place (place_of e) ss) (unfixed e ss)
early_steps early unfixed e (term.MoreSteps ss at (term.Index ts)) = or_else (early_steps early unfixed e ss) (first_early early (terms_list ts))
early_steps early unfixed e (term.MoreSteps ss at (term.Field h)) = early_steps early unfixed e ss

-- UNCHANGED: all that it reads, it reads where it stands
abbrev pub early_unchanged : (Term → Option FormFault) → (Term → Steps → Option ℕ) → VariableSet → Place → Term → ℕ × Term → Option FormFault
early_unchanged early unfixed B at e (m, Placed p l (term.Variable x)) = too_early at (if B x then None else Some x)
early_unchanged early unfixed B at e (m, Placed p l (term.Tuple ts)) = first_early early (map (unchanged_of at) (terms_list ts))
early_unchanged early unfixed B at e (m, f) = too_early at (unfixed e term.NoSteps)

abbrev pub early_meaning : Setting → (Term → Option FormFault) → (Term → Steps → Option ℕ) → VariableSet → Place → Meaning → Option FormFault
early_meaning g early unfixed B at (term.Variable x) = early_variable g.which B at x
early_meaning g early unfixed B at (term.Postfix e ss s) = early_steps early unfixed e (term.MoreSteps ss at s)
early_meaning g early unfixed B at (term.Prefix prefix.Unchanged e) = early_unchanged early unfixed B at e (behind g.table (length g.table) zero e)
early_meaning g early unfixed B at (term.AngleAction e v) = or_else (early e) (too_early at (unfixed v term.NoSteps))
early_meaning g early unfixed B at m = first_early early (terms_in g.table at m)

-- the first read that is too early, in a term that is at most k levels high, where the variables of the set are fixed; in an action a term of a
-- level below reads no next value, and in Init a constant term reads no variable
abbrev pub early : Setting → VariableSet → ℕ → Term → Option FormFault
early g B zero e = None
early g B (suc k) (Placed at l m) =
    if is_taken g.which l then early_meaning g (early g B k) (λ e ss. least g.variables (outside B (reads_primed g.table k e ss))) B at m else None

-- Arms: each starts from the same set, and they must end with the same.

pub record Arm : Type 0 where
  pub at : Place
  pub set : VariableSet

abbrev pub arm : Term → VariableSet → Arm
arm e C = record { at = place_of e; set = C }

abbrev pub through : (Term → VariableSet → FormOutcome) → List Term → VariableSet → FormOutcome
through part [] B = Ok B
through part (e ∷ es) B = next (part e B) (through part es)

abbrev pub arms_of : (Term → VariableSet → FormOutcome) → VariableSet → List Term → Result (List Arm) FormFault
arms_of part B [] = Ok []
arms_of part B (e ∷ es) = next (part e B) (λ C. next (arms_of part B es) (λ cs. Ok (arm e C ∷ cs)))

-- CASE: a test, its arm, the next test, and so on
abbrev pub case_arms : (Term → Option FormFault) → (Term → VariableSet → FormOutcome) → VariableSet → List (Term × Term) → Option Term → Result (List Arm) FormFault
case_arms unread part B [] other = arms_of part B (option_to_list other)
case_arms unread part B (c ∷ cs) other =
    unless (unread c.0) (next (part c.1 B) (λ C. next (case_arms unread part B cs other) (λ rest. Ok (arm c.1 C ∷ rest))))

-- what some arm fixes
abbrev pub fixed_by_some : List Arm → VariableSet
fixed_by_some [] = in_none
fixed_by_some (c ∷ cs) = united c.set (fixed_by_some cs)

-- the first arm that lacks a variable of the set, and the least such variable
abbrev pub lacking : ℕ → VariableSet → List Arm → Option FormFault
lacking v U [] = None
lacking v U (c ∷ cs) = or_else (not_fixed c.at (least v (outside c.set U))) (lacking v U cs)

-- what arms that start from B leave fixed together
abbrev pub together : ℕ → VariableSet → List Arm → FormOutcome
together v B [] = Ok B
together v B (c ∷ cs) = unless (lacking v (fixed_by_some (c ∷ cs)) (c ∷ cs)) (Ok c.set)

abbrev pub form_outcome : Setting → ℕ → (Term → VariableSet → FormOutcome) → Term → VariableSet → Form → FormOutcome
form_outcome g k part a B test = unless (early g B (suc k) a) (Ok B)
form_outcome g k part a B (assign x e) = unless (early g B k e) (Ok (with_variable B x))
form_outcome g k part a B (choose x e) = unless (early g B k e) (Ok (with_variable B x))
form_outcome g k part a B (both es) = through part es B
form_outcome g k part a B (narrowed m es) = through part es B
form_outcome g k part a B (either es) = next (arms_of part B es) (together g.variables B)
form_outcome g k part a B (some bs e) = unless (first_early (early g B k) (set_list bs)) (part e B)
form_outcome g k part a B (branch p e f) = unless (early g B k p) (next (arms_of part B (e ∷ f ∷ [])) (together g.variables B))
form_outcome g k part a B (arms cs other) = next (case_arms (early g B k) part B cs other) (together g.variables B)
form_outcome g k part a B (inside e) = part e B
form_outcome g k part a B (call j es) = unless (first_early (early g B k) es) (through part (body_of (slice_get g.table j)) B)
form_outcome g k part a B (changing e v) =
    next (part e B) (λ C. unless (too_early (place_of a) (least g.variables (outside C (reads_primed g.table k v term.NoSteps)))) (Ok C))

-- what a term leaves fixed that is at most k levels high, where the variables of the set were fixed before
abbrev pub outcome_within : Setting → ℕ → Term → VariableSet → FormOutcome
outcome_within g zero a B = Ok B
outcome_within g (suc k) a B = form_outcome g k (outcome_within g k) a B (form g zero a)

-- What a term leaves fixed, or the first thing that is wrong with its form.
abbrev pub IsOutcome : Setting → Term → VariableSet → FormOutcome → Type 0
IsOutcome g a B r = (k : ℕ) × Ends g.table k a × (outcome_within g k a B ≡ r)

-- run from left to right where B is fixed, the term leaves just C fixed
abbrev pub Fixes : Setting → Term → VariableSet → VariableSet → Type 0
Fixes g a B C = IsOutcome g a B (Ok C)

-- Init and Next must leave each variable fixed: else the least that is not is named, at the whole term
abbrev pub wholly : ℕ → Term → FormOutcome → FormOutcome
wholly v a r = next r (λ C. unless (not_fixed (place_of a) (least v (λ x. not (C x)))) (Ok C))

abbrev pub IsWholeOutcome : Setting → Term → VariableSet → FormOutcome → Type 0
IsWholeOutcome g a B r = (o : FormOutcome) × IsOutcome g a B o × (wholly g.variables a o ≡ r)
