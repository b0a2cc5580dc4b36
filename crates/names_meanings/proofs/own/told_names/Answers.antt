use Rattle.std.proofs.Common.{◌∙◌, sym, subst, ℕ, List}
use Rattle.std.specs.Prelude.{Contains}
use Rattle.names_least_levels.specs.declared.told.NameLevel.{NameLevel}
use Rattle.names_meanings.specs.Around.{takes}
use Rattle.names_meanings.specs.Complaints.{told}
use Rattle.names_meanings.proofs.ToldNames.{ToldSoFar, told_begin, told_on, told_end, level_tells}
use Rattle.names_meanings.proofs.own.told_names.Goals as goal

pub loop-free_name-init : goal.loop-free_name-init
loop-free_name-init c =
    subst (λ (l : List NameLevel). ToldSoFar (told (takes c.args.walk.now)) c.items-free_name-items.result.now 0 l) (sym c.new-names.ensures.items) (told_begin (told (takes c.args.walk.now)) c.items-free_name-items.result.now)

pub loop-free_name-preserved : goal.loop-free_name-preserved
loop-free_name-preserved c =
    told_on (told (takes c.args.walk.now)) c.items-free_name-items.result.now c.loop-free_name.free_name-index c.loop-free_name.names.items c.push.new.self.items _ c.free_name-item.result c.loop-free_name-test.true c.free_name-item.is c.in_ok-push.ensures.items c.in_ok-name.ensures
    (level_tells c.in_ok-above.above c.level_told.result c.level_told.ensures ∙ c.in_ok-above.ensures) c.loop-free_name.invariant

pub returns : goal.returns
returns c = λ n m.
    told_end (told (takes c.args.walk.now)) c.items-free_name-items.result.now c.loop-free_name.free_name-index c.loop-free_name.names.items c.loop-free_name-test.false c.loop-free_name.invariant n
    (subst (λ (l : List (List ℕ)). Contains l n) (sym c.items-free_name-items.ensures) ((c.in_ok-free.ensures.exact n).1 m))
