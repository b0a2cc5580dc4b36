use Rattle.std.proofs.Common.{List, [], length, map, ap, sym, ◌∙◌, subst, arith}
use Rattle.std.proofs.lemmas.List.Elements.{All-head, All-tail}
use Rattle.std.specs.List.{All}
use Rattle.std.specs.Vec.Iter.{into_iter_items}
use Rattle.values_sets.specs.DescribedSets.{Described, fields_list}
use Rattle.values_sets.specs.DescribedViews.{field_item}
use Rattle.eval_meanings.specs.Answers.{IsReady}
use Rattle.values_core.specs.Data.{Val}
use Rattle.eval_parts.specs.ChangePaths.{SetOfField, part_item}
use Rattle.eval_parts.specs.declared.field_sets.Part.{Part}
use Rattle.eval_parts.proofs.RecordSets.{EachLeft, ListIsSound, left_begins, left_ends, left_goes_on, left_stops, list_sound, none_left, sound_more}
use Rattle.eval_parts.proofs.field_sets.sound_fields.Goals as goal

abbrev Ready : Part → Type 0
Ready p = IsReady p.set

pub loop-part-init : goal.loop-part-init
loop-part-init c =
    let whole = map part_item c.args.parts.items in
    let gives = c.into_iter-part-iterator.ensures.into_iter_gives in
    let none = sym (ap fields_list c.new-fields.ensures) in
    let begins = subst (λ (ps : List Part). EachLeft SetOfField whole (map part_item ps) []) (sym gives.0) (left_begins SetOfField whole) in
    record {
      so_far = subst (λ (ys : List (Val × Described)). EachLeft SetOfField whole (map part_item (into_iter_items c.into_iter-part-iterator.result)) ys) none begins;
      ready = subst (λ (ps : List Part). All Ready ps) (sym gives.0) c.requires;
      sound = subst (λ (ys : List (Val × Described)). ListIsSound ys) none tt;
      len = omega (arith, gives.1, ap length gives.0, c.args.parts.ok.0);
    }

pub sound_field-requires : goal.sound_field-requires
sound_field-requires c =
    All-head Ready c.in-Some.part (into_iter_items c.next.new.self) (subst (λ (ps : List Part). All Ready ps) c.in-Some.ensures.steps.0 c.loop-part.invariant.ready)

pub returns-in-Err-clause-fault : goal.returns-in-Err-clause-fault
returns-in-Err-clause-fault c =
    left_stops SetOfField (map part_item c.args.parts.items) (map part_item (into_iter_items c.loop-part.part-iterator)) (part_item c.in-Some.part) (map part_item (into_iter_items c.next.new.self)) (fields_list c.loop-part.fields) c.in-Err.fault
    (ap (map part_item) c.in-Some.ensures.steps.0) c.in-Err.ensures.fault c.loop-part.invariant.so_far

pub loop-part-preserved : goal.loop-part-preserved
loop-part-preserved c =
    let steps = c.in-Some.ensures.steps in
    let left = into_iter_items c.next.new.self in
    let pushed = c.in_ok-push-in-Ok.ensures.pushed in
    record {
      so_far = left_goes_on SetOfField (map part_item c.args.parts.items) (map part_item (into_iter_items c.loop-part.part-iterator)) (part_item c.in-Some.part) (map part_item left) (fields_list c.loop-part.fields) (field_item c.in-Ok.field) (fields_list c.push.new.self) (ap (map part_item) steps.0) c.in-Ok.ensures.field pushed c.loop-part.invariant.so_far;
      ready = All-tail Ready c.in-Some.part left (subst (λ (ps : List Part). All Ready ps) steps.0 c.loop-part.invariant.ready);
      sound = sound_more (fields_list c.loop-part.fields) c.in-Ok.field.name c.in-Ok.field.part (fields_list c.push.new.self) pushed c.in-Ok.ensures.sound.0 c.in-Ok.ensures.sound.1 c.loop-part.invariant.sound;
      len = omega (arith, steps.1, c.loop-part.invariant.len, ap length steps.0);
    }

pub returns-clause-fields : goal.returns-clause-fields
returns-clause-fields c =
    let none = none_left (into_iter_items c.loop-part.part-iterator) (sym c.loop-part.invariant.len ∙ c.in-None.ensures.steps.0) in
    left_ends SetOfField (map part_item c.args.parts.items) (map part_item (into_iter_items c.loop-part.part-iterator)) (fields_list c.loop-part.fields) none c.loop-part.invariant.so_far

pub returns-clause-sound : goal.returns-clause-sound
returns-clause-sound c = list_sound c.loop-part.fields c.loop-part.invariant.sound
