use Rattle.std.proofs.Common.{◌≡◌, List, Bool, ap, sym, ◌∙◌, length, arith}
use Rattle.std.specs.Vec.Iter.{into_iter_items}
use Rattle.base_core.specs.declared.place.Place.{Place}
use Rattle.values_sets.specs.DescribedSets.{Described, Product, parts_list}
use Rattle.eval_meanings.specs.Outcomes.{Gives, Outcome}
use Rattle.eval_meanings.specs.Sets.{parts_of, set_at}
use Rattle.eval_parts.proofs.ProductLemmas.{each_before_ends, each_before_more, each_before_stops, product_told, ready_rest, sound_pushed}
use Rattle.eval_parts.proofs.products.product_of.Goals as goal

pub loop-at-preserved : goal.loop-at-preserved
loop-at-preserved c =
    let P : Place × Described → Outcome Described = (λ d. set_at d.0 d.1) in
    let xs = c.args.described.items in
    let rest = into_iter_items c.loop-at.at-iterator in
    let less = into_iter_items c.next.new.self in
    let step = c.in-Some.ensures.steps in
    record {
      told = each_before_more P xs rest less (c.in-Some.at, c.in-Some.set) (parts_list c.loop-at.parts) (parts_list c.push.new.self) c.in-Ok.set step.0 c.in_ok-push-in-Ok.ensures.pushed c.in-Ok.ensures.fine c.loop-at.invariant.told;
      ready = (ready_rest rest less (c.in-Some.at, c.in-Some.set) step.0 c.loop-at.invariant.ready).1;
      sound = sound_pushed c.loop-at.parts c.push.new.self c.in-Ok.set c.in_ok-push-in-Ok.ensures.pushed c.loop-at.invariant.sound c.in-Ok.ensures.sound;
      len = omega (arith, step.1, c.loop-at.invariant.len, ap length step.0);
    }

pub returns-in-Err-clause-fine : goal.returns-in-Err-clause-fine
returns-in-Err-clause-fine c =
    let P : Place × Described → Outcome Described = (λ d. set_at d.0 d.1) in
    each_before_stops P (λ es. Gives (Product (parts_of es))) c.args.described.items (into_iter_items c.loop-at.at-iterator) (into_iter_items c.next.new.self) (c.in-Some.at, c.in-Some.set) (parts_list c.loop-at.parts) c.in-Err.fault c.in-Some.ensures.steps.0 c.in-Err.ensures.fine c.loop-at.invariant.told

pub returns-clause-fine : goal.returns-clause-fine
returns-clause-fine c =
    let P : Place × Described → Outcome Described = (λ d. set_at d.0 d.1) in
    let over = sym c.loop-at.invariant.len ∙ c.in-None.ensures.steps.0 in
    product_told c.args.described.items c.loop-at.parts (each_before_ends P c.args.described.items (into_iter_items c.loop-at.at-iterator) (parts_list c.loop-at.parts) over c.loop-at.invariant.told)
