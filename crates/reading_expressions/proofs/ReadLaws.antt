-- What the reader gives is spelled so, and is not nothing.
use Rattle.std.proofs.Common.{◌≡◌, ℕ, ◌<◌, List, length, drop, subst}
use Rattle.reading_trees.specs.declared.laid.Laid.{Laid}
use Rattle.reading_trees.specs.declared.expr.Definition.{Definition}
use Rattle.reading_tokens.specs.declared.token.Kind.TheVariants as kinds
use Rattle.reading_trees.specs.Fits.{Fits, Spells}
use Rattle.reading_trees.specs.Grammar.{◌⨟◌, token, DefinitionRest}
use Rattle.reading_trees.specs.Trees.{Tree}
use Rattle.reading_token_steps.specs.Kept.{kept_run}
use Rattle.reading_expressions.specs.Ended.{IsRead}
use Rattle.reading_machine.specs.declared.frame.Mode.{Mode}
use Rattle.reading_machine.specs.declared.frame.Mode.TheVariants as mode
use Rattle.reading_machine.specs.declared.frame.Scope.TheVariants as scopes
use Rattle.reading_expressions.specs.declared.reader.Ended.{Ended}
use Rattle.reading_expressions.specs.declared.reader.Ended.TheVariants as ended
use Rattle.reading_machine.proofs.Reading.{read_spells, definition_spells}
use Rattle.reading_expressions.proofs.Ahead.{expression_ahead, definition_ahead}
use Rattle.reading_machine.proofs.NoUnits.{no_definition, no_expression}

spelled : (laid : List Laid) (from i : ℕ) (e : Tree) → IsRead laid from mode.Want (ended.Expression e i) → Spells e (drop from laid) (drop i laid)
unfolding kept_run
spelled laid from i e q = read_spells (drop from laid) (drop i laid) e q.ends

ahead : (laid : List Laid) (from i : ℕ) (e : Tree) → from < length laid → IsRead laid from mode.Want (ended.Expression e i) → from < i
unfolding kept_run
ahead laid from i e f q = expression_ahead laid from i e f q.within q.ends

defined : (laid : List Laid) (from i : ℕ) (d : Definition) → IsRead laid from (mode.DefinitionName scopes.Unit) (ended.Definition d i) → (token d.at (kinds.Name d.name) ⨟ DefinitionRest d.params d.form d.body) (drop from laid) (drop i laid)
unfolding kept_run
defined laid from i d q = (definition_spells (drop from laid) (drop i laid) d.name d.at d.params d.form d.body q.ends).0

fits : (laid : List Laid) (from i : ℕ) (d : Definition) → IsRead laid from (mode.DefinitionName scopes.Unit) (ended.Definition d i) → Fits d.body
unfolding kept_run
fits laid from i d q = (definition_spells (drop from laid) (drop i laid) d.name d.at d.params d.form d.body q.ends).1

behind : (laid : List Laid) (from i : ℕ) (d : Definition) → from < length laid → IsRead laid from (mode.DefinitionName scopes.Unit) (ended.Definition d i) → from < i
unfolding kept_run
behind laid from i d f q = definition_ahead laid from i scopes.Unit d.name d.at d.params d.form d.body f q.within q.ends

no_unit : (laid : List Laid) (from i : ℕ) (d : Definition) → IsRead laid from mode.Want (ended.Definition d i) → ⊥
unfolding kept_run
no_unit laid from i d q = no_definition (drop from laid) (drop i laid) d.name d.at d.params d.form d.body q.ends

no_body : (laid : List Laid) (from i : ℕ) (e : Tree) → IsRead laid from (mode.DefinitionName scopes.Unit) (ended.Expression e i) → ⊥
unfolding kept_run
no_body laid from i e q = no_expression (drop from laid) (drop i laid) e q.ends

-- what was read, at its form
at_form : (laid : List Laid) (from : ℕ) (start : Mode) (r s : Ended) → IsRead laid from start r → r ≡ s → IsRead laid from start s
at_form laid from start r s q p = subst (λ t. IsRead laid from start t) p q

pub expression_spelled : (laid : List Laid) (from i : ℕ) (e : Tree) (r : Ended) → IsRead laid from mode.Want r → r ≡ ended.Expression e i → Spells e (drop from laid) (drop i laid)
expression_spelled laid from i e r q p = spelled laid from i e (at_form laid from mode.Want r (ended.Expression e i) q p)

pub expression_on : (laid : List Laid) (from i : ℕ) (e : Tree) (r : Ended) → from < length laid → IsRead laid from mode.Want r → r ≡ ended.Expression e i → from < i
expression_on laid from i e r f q p = ahead laid from i e f (at_form laid from mode.Want r (ended.Expression e i) q p)

pub definition_spelled : (laid : List Laid) (from i : ℕ) (d : Definition) (r : Ended) → IsRead laid from (mode.DefinitionName scopes.Unit) r → r ≡ ended.Definition d i → (token d.at (kinds.Name d.name) ⨟ DefinitionRest d.params d.form d.body) (drop from laid) (drop i laid)
definition_spelled laid from i d r q p = defined laid from i d (at_form laid from (mode.DefinitionName scopes.Unit) r (ended.Definition d i) q p)

pub definition_fits : (laid : List Laid) (from i : ℕ) (d : Definition) (r : Ended) → IsRead laid from (mode.DefinitionName scopes.Unit) r → r ≡ ended.Definition d i → Fits d.body
definition_fits laid from i d r q p = fits laid from i d (at_form laid from (mode.DefinitionName scopes.Unit) r (ended.Definition d i) q p)

pub definition_on : (laid : List Laid) (from i : ℕ) (d : Definition) (r : Ended) → from < length laid → IsRead laid from (mode.DefinitionName scopes.Unit) r → r ≡ ended.Definition d i → from < i
definition_on laid from i d r f q p = behind laid from i d f (at_form laid from (mode.DefinitionName scopes.Unit) r (ended.Definition d i) q p)

pub expression_only : (laid : List Laid) (from i : ℕ) (d : Definition) (r : Ended) → IsRead laid from mode.Want r → r ≡ ended.Definition d i → ⊥
expression_only laid from i d r q p = no_unit laid from i d (at_form laid from mode.Want r (ended.Definition d i) q p)

pub definition_only : (laid : List Laid) (from i : ℕ) (e : Tree) (r : Ended) → IsRead laid from (mode.DefinitionName scopes.Unit) r → r ≡ ended.Expression e i → ⊥
definition_only laid from i e r q p = no_body laid from i e (at_form laid from (mode.DefinitionName scopes.Unit) r (ended.Expression e i) q p)
