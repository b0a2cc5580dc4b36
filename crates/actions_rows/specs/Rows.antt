-- What the parts and rows of Rust stand for: terms, and forms of actions.
use Rattle.std.specs.Prelude.{ℕ, List, [], ◌∷◌, map, Option, Some, None, option_copied}
use Rattle.base_core.specs.declared.place.Place.{Place}
use Rattle.values_core.specs.Data.{Val}
use Rattle.names_terms.specs.declared.level.Level.TheVariants as levels
use Rattle.names_terms.specs.Lists.{terms_list, arms_list}
use Rattle.names_terms.specs.Terms as term
use Rattle.names_terms.specs.Terms.{Term, Placed, Meaning, meaning_of}
use Rattle.eval_meanings.specs.Contexts.{Context}
use Rattle.eval_meanings.specs.Unchanged.{unchanged_of}
use Rattle.actions_meanings.specs.Forms.{Form, Setting, test, assign, choose, both, either, narrowed, some, branch, arms, inside, call, changing}
use Rattle.actions_rows.specs.declared.stage.Stage.{Stage}
use Rattle.actions_rows.specs.declared.part.Part.{Part}
use Rattle.actions_rows.specs.declared.part.Part.TheVariants as part
use Rattle.actions_rows.specs.declared.row.Row.{Row}
use Rattle.actions_rows.specs.declared.row.Row.TheVariants as row

abbrev pub setting : Stage → Setting
setting g = record { which = g.which; variables = g.variables; table = g.operators.now }

-- with these slots, before the state that is made is known
abbrev pub before : Stage → List Val → Context
before g vs = record { slots = vs; now = g.state.now; next = g.state.now }

-- the term that a part is
abbrev pub part_term : Part → Term
part_term (part.Plain e) = e.now
part_term (part.Unchanged at e) = unchanged_of at e.now

-- the form that a row is, of a term at the place
abbrev pub form_of : Place → Row → Form
form_of at row.Test = test
form_of at (row.Assign x e) = assign x.0 e.now
form_of at (row.Keep x) = assign x.0 (Placed at levels.State (term.Variable x.0))
form_of at (row.Choose x e) = choose x.0 e.now
form_of at (row.Both ts) = both (terms_list ts.now)
form_of at (row.Unchanged n ts) = narrowed n (map (unchanged_of at) (terms_list ts.now))
form_of at (row.Either ts) = either (terms_list ts.now)
form_of at (row.Boxed e v) = either (e.now ∷ unchanged_of at v.now ∷ [])
form_of at (row.Angled e v) = changing e.now v.now
form_of at (row.Exists bs e) = some bs.now e.now
form_of at (row.Branch p e f) = branch p.now e.now f.now
form_of at (row.Case cs other) = arms (arms_list cs.now) (option_copied other)
form_of at (row.Inside e) = inside e.now
form_of at (row.Call k ts) = call k.0 (terms_list ts.now)

-- For the prover: the variable that a term with this meaning is, and the one before a prime.
abbrev pub variable_of : Meaning → Option ℕ
variable_of (term.Variable x) = Some x
variable_of m = None

abbrev pub primed_variable_of : Meaning → Option ℕ
primed_variable_of (term.Postfix e term.NoSteps term.Prime) = variable_of (meaning_of e)
primed_variable_of m = None
