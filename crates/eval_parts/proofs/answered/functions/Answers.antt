use Rattle.values_core.specs.Sets.{items_of}
use Rattle.values_sets.specs.DescribedSets.{Functions}
use Rattle.eval_meanings.specs.Binders.{members_at}
use Rattle.eval_meanings.specs.Outcomes.{Gives, Then}
use Rattle.eval_meanings.specs.Sets.{set_at}
use Rattle.eval_meanings.proofs.Telling.{tells_then}
use Rattle.names_terms.specs.Terms.{place_of}
use Rattle.eval_parts.proofs.Rows.{members_of}
use Rattle.eval_parts.proofs.answered.functions.Goals as goal

pub returns-in-Ok-clause-fine : goal.returns-in-Ok-clause-fine
returns-in-Ok-clause-fine c =
    let p = place_of c.args.domain.now in
    tells_then (members_at p c.args.keys) (λ vs. Then (set_at (place_of c.args.range.now) c.args.part) (λ e. Gives (Functions c.args.keys e))) (items_of c.args.keys) c.functions_into.result (members_of p c.args.keys c.in-Ok.ensures) c.functions_into.ensures.fine
