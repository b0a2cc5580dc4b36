use Rattle.std.proofs.Common.{refl, subst, ap, List, inl, Ok}
use Rattle.std.specs.Prelude.{◌↔◌, IsTrue, Contains}
use Rattle.base_core.specs.declared.place.Place.{Place}
use Rattle.values_core.specs.Data.{Val}
use Rattle.values_sets.specs.Membership.{Belongs}
use Rattle.eval_meanings.specs.Sets.{set_at}
use Rattle.names_terms.specs.Terms.{place_of}
use Rattle.eval_parts.proofs.answered.has_part.Goals as goal

pub returns-in-Ok : goal.returns-in-Ok
returns-in-Ok c =
    inl (
      c.in-Ok.set,
      subst (λ (p : Place). set_at p c.args.set (Ok c.in-Ok.set)) (ap place_of c.right.view_is) c.in-Ok.ensures.fine,
      (c.is_within-within.result, subst (λ (xs : List Val). IsTrue c.is_within-within.result ↔ ((w : Val) → Contains xs w → Belongs c.in-Ok.set w)) c.members.ensures c.is_within-within.ensures, refl),
    )
