use Rattle.std.proofs.Common.{◌≡◌, ℕ, ◌-◌, ◌<◌, ◌≤◌, ◌+◌, List, length, Bool, true, false, Ok, Err, sym, subst, ap, map, refl, ◌∙◌, [], ◌∷◌, arith, drop, ◌++◌}
use Rattle.std.proofs.lemmas.List.{length-map, map-append}
use Rattle.std.specs.Prelude.{Option, Some, option_copied}
use Rattle.values_core.specs.Data.{Val}
use Rattle.values_core.specs.Sets.{items_of}
use Rattle.values_core.specs.declared.fault.EvalKind.TheVariants.{NoCase, NoChoice, OutsideDomain}
use Rattle.eval_meanings.specs.declared.fault.EvalFault.TheVariants.{Refused}
use Rattle.names_terms.specs.declared.term.TermNode.{TermNode}
use denote.Ref.{Bor}
use Rattle.eval_meanings.specs.Answers.{Tells, is_joining, IsReady}
use Rattle.values_sets.specs.DescribedSets.{Functions, Described, Records, Product}
use Rattle.eval_meanings.specs.Binders.{FirstThat, MembersOf, Passing, members_at, BoundValues, combinations, ranges}
use Rattle.eval_meanings.specs.Contexts.{Context, Table, bind, within}
use Rattle.eval_meanings.specs.Evaluates.{Evaluates, Describes}
use Rattle.eval_meanings.specs.Meanings.{IsValueOf, MeaningDescribes, MeaningEvaluates, ChainEvaluates, FieldEvaluates, FirstArm, FunctionOfAll, FunctionsDescribed, SetOfAll, UseDescribed, UseEvaluates, both_or_neither, PairOf, QuantifiedEvaluates, InfixDescribed, InfixEvaluates}
use Rattle.eval_meanings.specs.Operations.{InfixAnswers}
use Rattle.eval_meanings.specs.Sets.{ChainDescribed, IntervalDescribed, IsIn, IsWithin, Joined, first_operand, other_operands, list_at, set_at, FieldDescribed, RecordsDescribed, fields_of, ListedAt, PartDescribed, ProductDescribed, parts_of}
use Rattle.eval_meanings.proofs.Telling.{tells_then, tells_stop}
use Rattle.eval_meanings.specs.Outcomes.{Outcome, AllTrue, Each, Either, Fails, fault, Gives, Operated, SomeTrue, Then, place_in, truth_at, Decides}
use Rattle.eval_meanings.specs.Unchanged.{HoldsAndChanges, TruthOf, changed_of, prime_of, HoldsOrStutters, MeansUnchanged, unchanged_of}
use Rattle.reading_trees.specs.declared.operators.InfixOperator.TheVariants as infix_operator
use Rattle.names_terms.specs.declared.level.Level.TheVariants as levels
use Rattle.names_terms.specs.Terms as term
use Rattle.names_terms.specs.Terms.{Meaning, Term, Terms, Next, place_of, Step, Steps, Placed, width}
use Rattle.names_terms.specs.TermViews.{arm_item, field_item, node_view, bound_item, change_item, step_item, step_view}
use Rattle.eval_terms.proofs.RecordLemmas.{fields_are, fields_once, fields_read}
use Rattle.names_terms.specs.Lists.{bounds_list, fields_list, changes_list, terms_list}
use Rattle.eval_meanings.specs.Reads.{ArmsRead, Reads, ReadsEach, ReadsUnder, ChangesRead, PathReads, RecursionReads, StepsRead, MeansUnchangedReads}
use Rattle.eval_parts.specs.Scenes.{OtherEvaluates, Stops, context, operand_item, table}
use Rattle.eval_terms.proofs.Levels.{reads_node, evaluates_node, describes_node}
use Rattle.eval_terms.proofs.JoinedLoops.{joined_ends, joined_goes_on, joined_stops, joined_whole, joins_described, joins_told}
use Rattle.eval_parts.proofs.Loops.{arm_passed, arm_stops, arm_taken, arms_are, arms_end, arms_read, chain_ends, chain_goes_on, chain_reads, chain_stops, chain_whole, cut_mapped, PassingSoFar, first_found, first_none, first_passed, first_stops, passing_ends, passing_goes_on, passing_stops, EachSoFar, cut_at, reads_at, to_items, of_items, each_begins, each_goes_on, each_stops, each_ends, each_length, none_is, all_denied, all_stops, all_ends, some_granted, some_stops, some_ends, all_goes_on}
use Rattle.eval_parts.proofs.Rows.{joined_told, chain_told, gives_it, joined_described, made_described, next_told, one_true, plain_described, truth_told, is_plain, pair_told, stops_then}
use Rattle.eval_terms.proofs.+evaluate.Goals as goal
use Rattle.base_core.specs.declared.place.Place.{Place}
use Rattle.eval_parts.specs.BoundSets.{BoundEvaluates, HasMembers, bound_members, bound_value}
use Rattle.eval_parts.specs.Walks.{AllDiffer, AreWithin, Decided, at_places, left_from}
use Rattle.eval_parts.specs.declared.bound_values.BoundSet.{BoundSet}
use Rattle.eval_parts.proofs.BoundLemmas.{as_many_lists, bound_stops, bound_values, bounds_are, bounds_read, first_stage_stops, quantified_told, second_stage_stops}
use Rattle.eval_terms.proofs.BoundLoops.{EachFrom, all_decided, any_begins, any_ends, any_found, any_goes_on, any_stops, each_from_begins, each_from_ends, each_from_goes_on, each_from_stops, every_begins, every_denied, every_ends, every_goes_on, every_stops, some_decided}
use Rattle.eval_terms.proofs.KeysDiffer.{keys_once}
use Rattle.eval_terms.proofs.KnownTerms.{known_reads, known_told}
use Rattle.eval_terms.proofs.OneKey.{one_key}
use Rattle.eval_parts.proofs.Walking.{chosen_length, fewer, left_begins, left_is, none_more, some_left, within_begins}
use Rattle.std.proofs.lemmas.List.Elements.{All-nil, All-push}
use Rattle.std.specs.List.{All}
use Rattle.eval_meanings.specs.Functions.{AllChanged, AtStep, Changed, KeyOf, StepKey, StepsEvaluate, steps_place}
use Rattle.eval_meanings.specs.Recursion.{Recursion as Seen, KeysDescribed, RecursionEvaluates, names_at, sets_of_names}
use Rattle.eval_parts.specs.Recursions.{FirstMakes, FirstReads, first_applied, seen}
use Rattle.eval_parts.proofs.RecursionLemmas.{is_key, many_sets, one_set, sets_read, sets_width}
use Rattle.eval_terms.proofs.Recursions.{behind_first, cut_first, key_primes, member_told, only_set, outside_told, product_sound, some_steps}
use Rattle.values_core.specs.FunctionOperations.{AppliesAt}
use Rattle.names_terms.specs.declared.term.Step.{Step as StepGiven}
use Rattle.eval_terms.proofs.PrefixRows.{makes_subsets, value_described}
use Rattle.eval_parts.specs.ChangePaths.{HasKey, InsideAt, StepReads, StepsMakeReads, SetOfField, StepMakes, StepsMake, part_item, primes_in, under}
use Rattle.eval_parts.specs.declared.changing.Layer.{Layer}
use Rattle.eval_parts.specs.declared.field_sets.Part.{Part}
use Rattle.eval_parts.proofs.ChangeWalk.{ChangeSoFar, bare, change_goes_on, change_made, change_refused, change_stays, change_stops, change_unmade, changes_are, changes_end, changes_go_on, changes_read, changes_stop, path_is, path_reads}
use Rattle.eval_parts.proofs.RecordSets.{parts_differ, stops_tells}
use Rattle.eval_parts.proofs.StepWalk.{first_read, first_told, last_reads, last_told, step_told, primes_from, steps_are, steps_end, steps_go_on, steps_read, steps_reads, steps_stop, steps_told}
use Rattle.reading_trees.specs.declared.operators.InfixOperator.{InfixOperator}
use Rattle.reading_trees.specs.declared.operators.PrefixOperator.TheVariants as prefix
use Rattle.eval_parts.proofs.FollowingLemmas.{else_true, reads_behind, same_value, unchanged_above, unchanged_behind, unchanged_parts}
use Rattle.eval_parts.proofs.ProductLemmas.{chain_terms, ready_pushed}

abbrev members : Bor (List Val) → List Val
members x = x.now

abbrev seen_term : Bor Term → Term
seen_term x = x.now

pub evaluate::eval-eval_node-requires : goal.evaluate::eval-eval_node-requires
evaluate::eval-eval_node-requires t c =
    let some : 0 < c.args.depth = omega (arith, c.if-depth-eq0.false) in
    (omega (arith, c.if-depth-eq0.false, c.decreases), reads_node (table c.args.scene) c.args.depth (context c.args.scene) c.term.inside.at c.term.inside.level (node_view c.deref.result.now) c.args.term.now (ap (λ n. Placed c.term.inside.at c.term.inside.level (node_view n)) c.deref.ensures ∙ c.term.view_is) some c.requires)

pub evaluate::eval-returns : goal.evaluate::eval-returns
evaluate::eval-returns t c =
    let some : 0 < c.args.depth = omega (arith, c.if-depth-eq0.false) in
    evaluates_node (table c.args.scene) c.args.depth (context c.args.scene) c.term.inside.at c.term.inside.level (node_view c.deref.result.now) c.args.term.now c.eval_node.result (ap (λ n. Placed c.term.inside.at c.term.inside.level (node_view n)) c.deref.ensures ∙ c.term.view_is) some c.eval_node.ensures

pub evaluate::are_all_true-loop-term-init : goal.evaluate::are_all_true-loop-term-init
evaluate::are_all_true-loop-term-init t c =
    ((λ r h. h), to_items (ReadsEach (Reads (table c.args.scene) c.args.depth) (context c.args.scene)) _ _ c.items-term-items.ensures c.requires)

pub evaluate::are_all_true-returns-in-Ok-false : goal.evaluate::are_all_true-returns-in-Ok-false
evaluate::are_all_true-returns-in-Ok-false t c =
    let P = TruthOf (Evaluates (table c.args.scene) c.args.depth) (context c.args.scene) in
    let xs = c.items-term-items.result.now in
    let below : c.loop-term.term-index < length c.items-term-items.result.now = omega arith in
    of_items (λ es. AllTrue P es (Ok false)) xs c.args.terms.now c.items-term-items.ensures (all_denied P xs c.loop-term.term-index c.term-item.result (cut_at xs c.loop-term.term-index c.term-item.result below c.term-item.is) (subst (λ (b : Bool). P c.term-item.result (Ok b)) c.in-Ok-false.field-0-test c.in-Ok-false.ensures) c.loop-term.invariant.0)

pub evaluate::are_all_true-returns-in-Err : goal.evaluate::are_all_true-returns-in-Err
evaluate::are_all_true-returns-in-Err t c =
    let P = TruthOf (Evaluates (table c.args.scene) c.args.depth) (context c.args.scene) in
    let xs = c.items-term-items.result.now in
    let below : c.loop-term.term-index < length c.items-term-items.result.now = omega arith in
    of_items (λ es. Tells (Err c.in-Err.fault) (AllTrue P es)) xs c.args.terms.now c.items-term-items.ensures (all_stops P xs c.loop-term.term-index c.term-item.result c.in-Err.fault (cut_at xs c.loop-term.term-index c.term-item.result below c.term-item.is) c.in-Err.ensures c.loop-term.invariant.0)

pub evaluate::are_all_true-returns : goal.evaluate::are_all_true-returns
evaluate::are_all_true-returns t c =
    let P = TruthOf (Evaluates (table c.args.scene) c.args.depth) (context c.args.scene) in
    let xs = c.items-term-items.result.now in
    let passed : length c.items-term-items.result.now ≤ c.loop-term.term-index = omega arith in
    of_items (λ es. AllTrue P es (Ok true)) xs c.args.terms.now c.items-term-items.ensures (all_ends P xs c.loop-term.term-index passed c.loop-term.invariant.0)

pub evaluate::is_some_true-loop-term-init : goal.evaluate::is_some_true-loop-term-init
evaluate::is_some_true-loop-term-init t c =
    ((λ r h. h), to_items (ReadsEach (Reads (table c.args.scene) c.args.depth) (context c.args.scene)) _ _ c.items-term-items.ensures c.requires)

pub evaluate::is_some_true-returns-in-Ok-true : goal.evaluate::is_some_true-returns-in-Ok-true
evaluate::is_some_true-returns-in-Ok-true t c =
    let P = TruthOf (Evaluates (table c.args.scene) c.args.depth) (context c.args.scene) in
    let xs = c.items-term-items.result.now in
    let below : c.loop-term.term-index < length c.items-term-items.result.now = omega arith in
    of_items (λ es. SomeTrue P es (Ok true)) xs c.args.terms.now c.items-term-items.ensures (some_granted P xs c.loop-term.term-index c.term-item.result (cut_at xs c.loop-term.term-index c.term-item.result below c.term-item.is) (subst (λ (b : Bool). P c.term-item.result (Ok b)) c.in-Ok-true.field-0-test c.in-Ok-true.ensures) c.loop-term.invariant.0)

pub evaluate::is_some_true-returns-in-Err : goal.evaluate::is_some_true-returns-in-Err
evaluate::is_some_true-returns-in-Err t c =
    let P = TruthOf (Evaluates (table c.args.scene) c.args.depth) (context c.args.scene) in
    let xs = c.items-term-items.result.now in
    let below : c.loop-term.term-index < length c.items-term-items.result.now = omega arith in
    of_items (λ es. Tells (Err c.in-Err.fault) (SomeTrue P es)) xs c.args.terms.now c.items-term-items.ensures (some_stops P xs c.loop-term.term-index c.term-item.result c.in-Err.fault (cut_at xs c.loop-term.term-index c.term-item.result below c.term-item.is) c.in-Err.ensures c.loop-term.invariant.0)

pub evaluate::is_some_true-returns : goal.evaluate::is_some_true-returns
evaluate::is_some_true-returns t c =
    let P = TruthOf (Evaluates (table c.args.scene) c.args.depth) (context c.args.scene) in
    let xs = c.items-term-items.result.now in
    let passed : length c.items-term-items.result.now ≤ c.loop-term.term-index = omega arith in
    of_items (λ es. SomeTrue P es (Ok false)) xs c.args.terms.now c.items-term-items.ensures (some_ends P xs c.loop-term.term-index passed c.loop-term.invariant.0)

pub evaluate::eval_each-loop-term-init : goal.evaluate::eval_each-loop-term-init
evaluate::eval_each-loop-term-init t c =
    let P = Evaluates (table c.args.scene) c.args.depth (context c.args.scene) in (
      subst (λ (ys : List Val). EachSoFar P c.items-term-items.result.now 0 ys) (sym c.new-values.ensures.items) (each_begins P c.items-term-items.result.now),
      to_items (ReadsEach (Reads (table c.args.scene) c.args.depth) (context c.args.scene)) _ _ c.items-term-items.ensures c.requires,
    )

pub evaluate::eval_each-returns-in-Err-clause-fault : goal.evaluate::eval_each-returns-in-Err-clause-fault
evaluate::eval_each-returns-in-Err-clause-fault t c =
    let P = Evaluates (table c.args.scene) c.args.depth (context c.args.scene) in
    let xs = c.items-term-items.result.now in
    let below : c.loop-term.term-index < length c.items-term-items.result.now = omega arith in
    of_items (λ es. Stops (Each P es) c.in-Err.fault) xs c.args.terms.now c.items-term-items.ensures (each_stops P xs c.loop-term.term-index c.term-item.result c.loop-term.values.items c.in-Err.fault (cut_at xs c.loop-term.term-index c.term-item.result below c.term-item.is) c.in-Err.ensures c.loop-term.invariant.0)

pub evaluate::eval_each-loop-term-preserved : goal.evaluate::eval_each-loop-term-preserved
evaluate::eval_each-loop-term-preserved t c =
    let P = Evaluates (table c.args.scene) c.args.depth (context c.args.scene) in
    let xs = c.items-term-items.result.now in
    let i = c.loop-term.term-index in
    let below : c.loop-term.term-index < length c.items-term-items.result.now = omega arith in
    let cut = cut_at xs i c.term-item.result below c.term-item.is in (
      subst (λ (ys : List Val). EachSoFar P xs (i + 1) ys) (sym c.in_ok-push-in-Ok.ensures) (each_goes_on P xs i c.term-item.result c.loop-term.values.items c.in-Ok.value cut c.in-Ok.ensures c.loop-term.invariant.0),
      (reads_at (Reads (table c.args.scene) c.args.depth) (context c.args.scene) xs i c.term-item.result c.loop-term.invariant.1 cut).1,
    )

pub evaluate::eval_each-returns-clause-values : goal.evaluate::eval_each-returns-clause-values
evaluate::eval_each-returns-clause-values t c =
    let P = Evaluates (table c.args.scene) c.args.depth (context c.args.scene) in
    let xs = c.items-term-items.result.now in
    let passed : length c.items-term-items.result.now ≤ c.loop-term.term-index = omega arith in
    of_items (λ es. Each P es (Ok c.loop-term.values.items)) xs c.args.terms.now c.items-term-items.ensures (each_ends P xs c.loop-term.term-index c.loop-term.values.items passed c.loop-term.invariant.0)

pub evaluate::eval_each-returns-clause-many : goal.evaluate::eval_each-returns-clause-many
evaluate::eval_each-returns-clause-many t c =
    let P = Evaluates (table c.args.scene) c.args.depth (context c.args.scene) in
    let xs = c.items-term-items.result.now in
    let passed : length c.items-term-items.result.now ≤ c.loop-term.term-index = omega arith in
    of_items (λ es. length c.loop-term.values.items ≡ length es) xs c.args.terms.now c.items-term-items.ensures (each_length P xs c.loop-term.values.items (each_ends P xs c.loop-term.term-index c.loop-term.values.items passed c.loop-term.invariant.0))

pub evaluate::describe-describe_node-requires : goal.evaluate::describe-describe_node-requires
evaluate::describe-describe_node-requires t c =
    let some : 0 < c.args.depth = omega (arith, c.if-depth-eq0.false) in
    (omega (arith, c.if-depth-eq0.false, c.decreases), reads_node (table c.args.scene) c.args.depth (context c.args.scene) c.term.inside.at c.term.inside.level (node_view c.deref.result.now) c.args.term.now (ap (λ n. Placed c.term.inside.at c.term.inside.level (node_view n)) c.deref.ensures ∙ c.term.view_is) some c.requires)

pub evaluate::describe-returns-clause-fine : goal.evaluate::describe-returns-clause-fine
evaluate::describe-returns-clause-fine t c =
    let some : 0 < c.args.depth = omega (arith, c.if-depth-eq0.false) in
    describes_node (table c.args.scene) c.args.depth (context c.args.scene) c.term.inside.at c.term.inside.level (node_view c.deref.result.now) c.args.term.now c.describe_node.result (ap (λ n. Placed c.term.inside.at c.term.inside.level (node_view n)) c.deref.ensures ∙ c.term.view_is) some c.describe_node.ensures.fine

pub describing::describe_functions-returns-in-Ok-describe-clause-fine : goal.describing::describe_functions-returns-in-Ok-describe-clause-fine
describing::describe_functions-returns-in-Ok-describe-clause-fine t c =
    let ev = Evaluates (table c.args.scene) c.args.depth (context c.args.scene) c.args.domain.now in
    let de = Describes (table c.args.scene) c.args.depth (context c.args.scene) c.args.range.now in
    tells_then ev (λ v. Then de (λ d. Then (members_at (place_of c.args.domain.now) v) (λ vs. Then (set_at (place_of c.args.range.now) d) (λ e. Gives (Functions v e))))) c.in-Ok.keys c.functions.result c.in-Ok.ensures
    (tells_then de (λ d. Then (members_at (place_of c.args.domain.now) c.in-Ok.keys) (λ vs. Then (set_at (place_of c.args.range.now) d) (λ e. Gives (Functions c.in-Ok.keys e)))) c.in-Ok-describe.part c.functions.result c.in-Ok-describe.ensures.fine c.functions.ensures.fine)

pub evaluate::describe_node-returns-in-FunctionSet-clause-fine : goal.evaluate::describe_node-returns-in-FunctionSet-clause-fine
evaluate::describe_node-returns-in-FunctionSet-clause-fine t c =
    rw (c.in-FunctionSet.is) c.describe_functions.ensures.fine

pub operations::equivalent-returns-in-Ok-eval : goal.operations::equivalent-returns-in-Ok-eval
operations::equivalent-returns-in-Ok-eval t c =
    let a = Evaluates (table c.args.scene) c.args.depth (context c.args.scene) c.args.left.now in
    let b = Evaluates (table c.args.scene) c.args.depth (context c.args.scene) c.args.right.now in
    tells_then a (λ v. Then b (λ w. Then (truth_at (place_of c.args.left.now) v) (λ x. Then (truth_at (place_of c.args.right.now) w) (λ y. Gives (both_or_neither x y))))) c.in-Ok.first c.are_equivalent.result c.in-Ok.ensures
    (tells_then b (λ w. Then (truth_at (place_of c.args.left.now) c.in-Ok.first) (λ x. Then (truth_at (place_of c.args.right.now) w) (λ y. Gives (both_or_neither x y)))) c.in-Ok-eval.second c.are_equivalent.result c.in-Ok-eval.ensures c.are_equivalent.ensures)

pub operations::is_subset-returns-in-Ok-describe : goal.operations::is_subset-returns-in-Ok-describe
operations::is_subset-returns-in-Ok-describe t c =
    let a = Evaluates (table c.args.scene) c.args.depth (context c.args.scene) c.args.left.now in
    let b = Describes (table c.args.scene) c.args.depth (context c.args.scene) c.args.right.now in
    tells_then a (λ u. Then b (λ d. Then (members_at (place_of c.args.left.now) u) (λ us. Then (set_at (place_of c.args.right.now) d) (λ e. IsWithin e u)))) c.in-Ok.value c.is_part.result c.in-Ok.ensures
    (tells_then b (λ d. Then (members_at (place_of c.args.left.now) c.in-Ok.value) (λ us. Then (set_at (place_of c.args.right.now) d) (λ e. IsWithin e c.in-Ok.value))) c.in-Ok-describe.set c.is_part.result c.in-Ok-describe.ensures.fine c.is_part.ensures)

pub operations::eval_two-returns-in-Ok-eval : goal.operations::eval_two-returns-in-Ok-eval
operations::eval_two-returns-in-Ok-eval t c =
    let a = Evaluates (table c.args.scene) c.args.depth (context c.args.scene) c.args.first.now in
    let b = Evaluates (table c.args.scene) c.args.depth (context c.args.scene) c.args.last.now in
    let p = place_in c.args.at (place_of c.args.first.now ∷ place_of c.args.last.now ∷ []) in
    tells_then a (λ v. Then b (λ w. Then (Operated (InfixAnswers c.args.operator v w) p) (λ u. Gives u))) c.in-Ok.left c.infix_on.result c.in-Ok.ensures
    (tells_then b (λ w. Then (Operated (InfixAnswers c.args.operator c.in-Ok.left w) p) (λ u. Gives u)) c.in-Ok-eval.right c.infix_on.result c.in-Ok-eval.ensures (gives_it (Operated (InfixAnswers c.args.operator c.in-Ok.left c.in-Ok-eval.right) p) c.infix_on.result c.infix_on.ensures))

pub evaluate::eval_use-returns-in-Ok : goal.evaluate::eval_use-returns-in-Ok
evaluate::eval_use-returns-in-Ok t c =
    let ops = table c.args.scene in
    let none = none_is c.args.arguments.now (sym c.len.ensures ∙ c.if-len-eq0.true) in
    let told = tells_then (UseDescribed ops (Evaluates ops c.args.depth) (Describes ops c.args.depth) (context c.args.scene) c.args.number.0) (list_at c.args.at) c.in-Ok.set c.list_at.result c.in-Ok.ensures.fine c.list_at.ensures in
    subst (λ (ts : Terms). Tells c.list_at.result (UseEvaluates ops (Evaluates ops c.args.depth) (Describes ops c.args.depth) (context c.args.scene) c.args.number.0 ts c.args.at)) (sym none) told

pub evaluate::eval_use-eval_body-requires : goal.evaluate::eval_use-eval_body-requires
evaluate::eval_use-eval_body-requires t c = (
  omega (arith, c.decreases),
  (c.requires.0, c.requires.1, c.requires.2, c.requires.4 _ (ap length c.deref.ensures.value ∙ c.in-Ok-eval_each.ensures.many)),
)

pub evaluate::eval_operation-standard-requires-clause-arguments : goal.evaluate::eval_operation-standard-requires-clause-arguments
evaluate::eval_operation-standard-requires-clause-arguments t c = ap length c.deref.ensures.value ∙ c.in-Ok.ensures.many ∙ c.requires.many

pub operations::eval_pair-returns-in-Equal : goal.operations::eval_pair-returns-in-Equal
operations::eval_pair-returns-in-Equal t c =
    pair_told (Evaluates (table c.args.scene) c.args.depth) (Describes (table c.args.scene) c.args.depth) (context c.args.scene) c.args.operator c.args.first.now c.args.last.now c.args.at c.eval_two.result (ap is_plain c.in-Equal.is) c.eval_two.ensures

pub operations::eval_pair-returns-in-NotEqual : goal.operations::eval_pair-returns-in-NotEqual
operations::eval_pair-returns-in-NotEqual t c =
    pair_told (Evaluates (table c.args.scene) c.args.depth) (Describes (table c.args.scene) c.args.depth) (context c.args.scene) c.args.operator c.args.first.now c.args.last.now c.args.at c.eval_two-in-NotEqual.result (ap is_plain c.in-NotEqual.is) c.eval_two-in-NotEqual.ensures

pub operations::eval_pair-returns-in-Less : goal.operations::eval_pair-returns-in-Less
operations::eval_pair-returns-in-Less t c =
    pair_told (Evaluates (table c.args.scene) c.args.depth) (Describes (table c.args.scene) c.args.depth) (context c.args.scene) c.args.operator c.args.first.now c.args.last.now c.args.at c.eval_two-in-Less.result (ap is_plain c.in-Less.is) c.eval_two-in-Less.ensures

pub operations::eval_pair-returns-in-Greater : goal.operations::eval_pair-returns-in-Greater
operations::eval_pair-returns-in-Greater t c =
    pair_told (Evaluates (table c.args.scene) c.args.depth) (Describes (table c.args.scene) c.args.depth) (context c.args.scene) c.args.operator c.args.first.now c.args.last.now c.args.at c.eval_two-in-Greater.result (ap is_plain c.in-Greater.is) c.eval_two-in-Greater.ensures

pub operations::eval_pair-returns-in-LessOrEqual : goal.operations::eval_pair-returns-in-LessOrEqual
operations::eval_pair-returns-in-LessOrEqual t c =
    pair_told (Evaluates (table c.args.scene) c.args.depth) (Describes (table c.args.scene) c.args.depth) (context c.args.scene) c.args.operator c.args.first.now c.args.last.now c.args.at c.eval_two-in-LessOrEqual.result (ap is_plain c.in-LessOrEqual.is) c.eval_two-in-LessOrEqual.ensures

pub operations::eval_pair-returns-in-GreaterOrEqual : goal.operations::eval_pair-returns-in-GreaterOrEqual
operations::eval_pair-returns-in-GreaterOrEqual t c =
    pair_told (Evaluates (table c.args.scene) c.args.depth) (Describes (table c.args.scene) c.args.depth) (context c.args.scene) c.args.operator c.args.first.now c.args.last.now c.args.at c.eval_two-in-GreaterOrEqual.result (ap is_plain c.in-GreaterOrEqual.is) c.eval_two-in-GreaterOrEqual.ensures

pub operations::eval_pair-returns-in-MergedFunctions : goal.operations::eval_pair-returns-in-MergedFunctions
operations::eval_pair-returns-in-MergedFunctions t c =
    pair_told (Evaluates (table c.args.scene) c.args.depth) (Describes (table c.args.scene) c.args.depth) (context c.args.scene) c.args.operator c.args.first.now c.args.last.now c.args.at c.eval_two-in-MergedFunctions.result (ap is_plain c.in-MergedFunctions.is) c.eval_two-in-MergedFunctions.ensures

pub operations::eval_pair-returns-in-SingleFunction : goal.operations::eval_pair-returns-in-SingleFunction
operations::eval_pair-returns-in-SingleFunction t c =
    pair_told (Evaluates (table c.args.scene) c.args.depth) (Describes (table c.args.scene) c.args.depth) (context c.args.scene) c.args.operator c.args.first.now c.args.last.now c.args.at c.eval_two-in-SingleFunction.result (ap is_plain c.in-SingleFunction.is) c.eval_two-in-SingleFunction.ensures

pub operations::eval_pair-returns-in-Plus : goal.operations::eval_pair-returns-in-Plus
operations::eval_pair-returns-in-Plus t c =
    pair_told (Evaluates (table c.args.scene) c.args.depth) (Describes (table c.args.scene) c.args.depth) (context c.args.scene) c.args.operator c.args.first.now c.args.last.now c.args.at c.eval_two-in-Plus.result (ap is_plain c.in-Plus.is) c.eval_two-in-Plus.ensures

pub operations::eval_pair-returns-in-Minus : goal.operations::eval_pair-returns-in-Minus
operations::eval_pair-returns-in-Minus t c =
    pair_told (Evaluates (table c.args.scene) c.args.depth) (Describes (table c.args.scene) c.args.depth) (context c.args.scene) c.args.operator c.args.first.now c.args.last.now c.args.at c.eval_two-in-Minus.result (ap is_plain c.in-Minus.is) c.eval_two-in-Minus.ensures

pub operations::eval_pair-returns-in-Times : goal.operations::eval_pair-returns-in-Times
operations::eval_pair-returns-in-Times t c =
    pair_told (Evaluates (table c.args.scene) c.args.depth) (Describes (table c.args.scene) c.args.depth) (context c.args.scene) c.args.operator c.args.first.now c.args.last.now c.args.at c.eval_two-in-Times.result (ap is_plain c.in-Times.is) c.eval_two-in-Times.ensures

pub operations::eval_pair-returns-in-Quotient : goal.operations::eval_pair-returns-in-Quotient
operations::eval_pair-returns-in-Quotient t c =
    pair_told (Evaluates (table c.args.scene) c.args.depth) (Describes (table c.args.scene) c.args.depth) (context c.args.scene) c.args.operator c.args.first.now c.args.last.now c.args.at c.eval_two-in-Quotient.result (ap is_plain c.in-Quotient.is) c.eval_two-in-Quotient.ensures

pub operations::eval_pair-returns-in-Remainder : goal.operations::eval_pair-returns-in-Remainder
operations::eval_pair-returns-in-Remainder t c =
    pair_told (Evaluates (table c.args.scene) c.args.depth) (Describes (table c.args.scene) c.args.depth) (context c.args.scene) c.args.operator c.args.first.now c.args.last.now c.args.at c.eval_two-in-Remainder.result (ap is_plain c.in-Remainder.is) c.eval_two-in-Remainder.ensures

pub operations::eval_pair-returns-in-Power : goal.operations::eval_pair-returns-in-Power
operations::eval_pair-returns-in-Power t c =
    pair_told (Evaluates (table c.args.scene) c.args.depth) (Describes (table c.args.scene) c.args.depth) (context c.args.scene) c.args.operator c.args.first.now c.args.last.now c.args.at c.eval_two-in-Power.result (ap is_plain c.in-Power.is) c.eval_two-in-Power.ensures

pub operations::eval_pair-returns-in-Concatenation : goal.operations::eval_pair-returns-in-Concatenation
operations::eval_pair-returns-in-Concatenation t c =
    pair_told (Evaluates (table c.args.scene) c.args.depth) (Describes (table c.args.scene) c.args.depth) (context c.args.scene) c.args.operator c.args.first.now c.args.last.now c.args.at c.eval_two-in-Concatenation.result (ap is_plain c.in-Concatenation.is) c.eval_two-in-Concatenation.ensures

pub binding::chosen-returns-in-Ok-true : goal.binding::chosen-returns-in-Ok-true
binding::chosen-returns-in-Ok-true t c =
    let P : Val → Outcome Bool = (λ v. TruthOf (Evaluates (table c.args.scene) c.args.depth) (bind (context c.args.scene) (v ∷ [])) c.args.test.now) in
    let xs = c.members-members.result.now in
    let i = c.loop-member.member-index in
    let below : c.loop-member.member-index < length c.members-members.result.now = omega arith in
    let cut = cut_at xs i c.member-item.result below c.member-item.is in
    let holds = subst (λ (b : Bool). P c.member-item.result (Ok b)) c.in-Ok-true.field-0-test c.in-Ok-true.ensures in
    subst (λ (us : List Val). FirstThat c.args.at P us (Ok c.in_ok-copy-in-Ok-true.field-0)) c.members-members.ensures
    (subst (λ (v : Val). FirstThat c.args.at P xs (Ok v)) (sym c.in_ok-copy-in-Ok-true.ensures) (first_found c.args.at P xs i c.member-item.result cut holds c.loop-member.invariant))

pub binding::chosen-returns-in-Err : goal.binding::chosen-returns-in-Err
binding::chosen-returns-in-Err t c =
    let P : Val → Outcome Bool = (λ v. TruthOf (Evaluates (table c.args.scene) c.args.depth) (bind (context c.args.scene) (v ∷ [])) c.args.test.now) in
    let xs = c.members-members.result.now in
    let i = c.loop-member.member-index in
    let below : c.loop-member.member-index < length c.members-members.result.now = omega arith in
    let cut = cut_at xs i c.member-item.result below c.member-item.is in
    subst (λ (us : List Val). Tells {A = Val} (Err c.in-Err.fault) (FirstThat c.args.at P us)) c.members-members.ensures (first_stops c.args.at P xs i c.member-item.result c.in-Err.fault cut c.in-Err.ensures c.loop-member.invariant)

pub binding::chosen-loop-member-preserved : goal.binding::chosen-loop-member-preserved
binding::chosen-loop-member-preserved t c =
    let P : Val → Outcome Bool = (λ v. TruthOf (Evaluates (table c.args.scene) c.args.depth) (bind (context c.args.scene) (v ∷ [])) c.args.test.now) in
    let xs = c.members-members.result.now in
    let i = c.loop-member.member-index in
    let below : c.loop-member.member-index < length c.members-members.result.now = omega arith in
    let cut = cut_at xs i c.member-item.result below c.member-item.is in
    first_passed c.args.at P xs i c.member-item.result cut (subst (λ (b : Bool). P c.member-item.result (Ok b)) c.in-Ok-false.field-0-test c.in-Ok-false.ensures) c.loop-member.invariant

pub binding::chosen-returns : goal.binding::chosen-returns
binding::chosen-returns t c =
    let P : Val → Outcome Bool = (λ v. TruthOf (Evaluates (table c.args.scene) c.args.depth) (bind (context c.args.scene) (v ∷ [])) c.args.test.now) in
    let xs = c.members-members.result.now in
    let i = c.loop-member.member-index in
    let passed : length c.members-members.result.now ≤ c.loop-member.member-index = omega arith in
    subst (λ (us : List Val). FirstThat c.args.at P us (Err (fault NoChoice c.args.at))) c.members-members.ensures (first_none c.args.at P xs i passed c.loop-member.invariant)

pub binding::eval_choose-returns-in-Ok : goal.binding::eval_choose-returns-in-Ok
binding::eval_choose-returns-in-Ok t c =
    let P : Val → Outcome Bool = (λ v. TruthOf (Evaluates (table c.args.scene) c.args.depth) (bind (context c.args.scene) (v ∷ [])) c.args.test.now) in
    tells_then (MembersOf (Evaluates (table c.args.scene) c.args.depth) (context c.args.scene) c.args.set.now) (FirstThat c.args.at P) (items_of c.in-Ok.all) c.chosen.result c.in-Ok.ensures.values c.chosen.ensures

pub binding::eval_filter-returns-in-Ok : goal.binding::eval_filter-returns-in-Ok
binding::eval_filter-returns-in-Ok t c =
    let P : Val → Outcome Bool = (λ v. TruthOf (Evaluates (table c.args.scene) c.args.depth) (bind (context c.args.scene) (v ∷ [])) c.args.test.now) in
    tells_then (MembersOf (Evaluates (table c.args.scene) c.args.depth) (context c.args.scene) c.args.set.now) (λ vs. Then (Passing P vs) (SetOfAll c.args.at)) (items_of c.in-Ok.all) c.filtered.result c.in-Ok.ensures.values c.filtered.ensures

pub binding::filtered-returns-in-Ok : goal.binding::filtered-returns-in-Ok
binding::filtered-returns-in-Ok t c =
    let P : Val → Outcome Bool = (λ v. TruthOf (Evaluates (table c.args.scene) c.args.depth) (bind (context c.args.scene) (v ∷ [])) c.args.test.now) in
    tells_then (Passing P (items_of c.args.all.now)) (SetOfAll c.args.at) c.in-Ok.values.items c.set_of.result c.in-Ok.ensures.values c.set_of.ensures

pub binding::filtered-returns-in-Err : goal.binding::filtered-returns-in-Err
binding::filtered-returns-in-Err t c =
    let P : Val → Outcome Bool = (λ v. TruthOf (Evaluates (table c.args.scene) c.args.depth) (bind (context c.args.scene) (v ∷ [])) c.args.test.now) in
    stops_then (Passing P (items_of c.args.all.now)) (SetOfAll c.args.at) c.in-Err.fault c.in-Err.ensures.fault

pub binding::passing-returns-in-Err-clause-fault : goal.binding::passing-returns-in-Err-clause-fault
binding::passing-returns-in-Err-clause-fault t c =
    let P : Val → Outcome Bool = (λ v. TruthOf (Evaluates (table c.args.scene) c.args.depth) (bind (context c.args.scene) (v ∷ [])) c.args.test.now) in
    let xs = c.members-members.result.now in
    let i = c.loop-member.member-index in
    let below : c.loop-member.member-index < length c.members-members.result.now = omega arith in
    let cut = cut_at xs i c.member-item.result below c.member-item.is in
    subst (λ (us : List Val). Stops (Passing P us) c.in-Err.fault) c.members-members.ensures (passing_stops P xs i c.member-item.result c.loop-member.values.items c.in-Err.fault cut c.in-Err.ensures c.loop-member.invariant)

pub binding::passing-loop-member-preserved : goal.binding::passing-loop-member-preserved
binding::passing-loop-member-preserved t c =
    let P : Val → Outcome Bool = (λ v. TruthOf (Evaluates (table c.args.scene) c.args.depth) (bind (context c.args.scene) (v ∷ [])) c.args.test.now) in
    let xs = c.members-members.result.now in
    let i = c.loop-member.member-index in
    let below : c.loop-member.member-index < length c.members-members.result.now = omega arith in
    let cut = cut_at xs i c.member-item.result below c.member-item.is in
    subst (λ (ys : List Val). PassingSoFar P xs (i + 1) ys) (sym c.in_ok-push_if-in-Ok.ensures) (passing_goes_on P xs i c.member-item.result c.loop-member.values.items c.in-Ok.passes cut c.in-Ok.ensures c.loop-member.invariant)

pub binding::passing-returns-clause-values : goal.binding::passing-returns-clause-values
binding::passing-returns-clause-values t c =
    let P : Val → Outcome Bool = (λ v. TruthOf (Evaluates (table c.args.scene) c.args.depth) (bind (context c.args.scene) (v ∷ [])) c.args.test.now) in
    let xs = c.members-members.result.now in
    let i = c.loop-member.member-index in
    let passed : length c.members-members.result.now ≤ c.loop-member.member-index = omega arith in
    subst (λ (us : List Val). Passing P us (Ok c.loop-member.values.items)) c.members-members.ensures (passing_ends P xs i c.loop-member.values.items passed c.loop-member.invariant)

pub operations::eval_functions-returns-in-Ok : goal.operations::eval_functions-returns-in-Ok
operations::eval_functions-returns-in-Ok t c =
    tells_then (FunctionsDescribed (Evaluates (table c.args.scene) c.args.depth) (Describes (table c.args.scene) c.args.depth) (context c.args.scene) c.args.domain.now c.args.range.now) (list_at c.args.at) c.in-Ok.set c.list_at.result c.in-Ok.ensures.fine c.list_at.ensures

pub evaluate::eval_node-returns-in-FunctionSet : goal.evaluate::eval_node-returns-in-FunctionSet
evaluate::eval_node-returns-in-FunctionSet t c = rw (c.in-FunctionSet.is) c.eval_functions.ensures

pub evaluate::eval_node-returns-in-Filter : goal.evaluate::eval_node-returns-in-Filter
evaluate::eval_node-returns-in-Filter t c = rw (c.in-Filter.is) c.eval_filter.ensures

pub evaluate::eval_node-returns-in-Choose : goal.evaluate::eval_node-returns-in-Choose
evaluate::eval_node-returns-in-Choose t c = rw (c.in-Choose.is) c.eval_choose.ensures

pub operations::eval_chain-returns-in-Ok : goal.operations::eval_chain-returns-in-Ok
operations::eval_chain-returns-in-Ok t c =
    let ev = Evaluates (table c.args.scene) c.args.depth in
    let b = subst (λ (e : Term). ev (context c.args.scene) e (Ok c.in-Ok.value)) c.first_of-first.ensures c.in-Ok.ensures in
    tells_then (ev (context c.args.scene) (first_operand c.args.operands.now)) (λ v. ChainEvaluates ev (context c.args.scene) c.args.operator (place_of (first_operand c.args.operands.now)) v (other_operands (Next c.args.operands.now c.args.at c.args.last.now))) c.in-Ok.value c.eval_rest.result b c.eval_rest.ensures

pub operations::eval_long-returns-in-Equal : goal.operations::eval_long-returns-in-Equal
operations::eval_long-returns-in-Equal t c =
    chain_told (Evaluates (table c.args.scene) c.args.depth) (Describes (table c.args.scene) c.args.depth) (context c.args.scene) c.args.operator c.args.operands.now c.args.last.now c.args.at c.eval_chain.result (ap is_plain c.in-Equal.is) c.eval_chain.ensures

pub operations::eval_long-returns-in-NotEqual : goal.operations::eval_long-returns-in-NotEqual
operations::eval_long-returns-in-NotEqual t c =
    chain_told (Evaluates (table c.args.scene) c.args.depth) (Describes (table c.args.scene) c.args.depth) (context c.args.scene) c.args.operator c.args.operands.now c.args.last.now c.args.at c.eval_chain-in-NotEqual.result (ap is_plain c.in-NotEqual.is) c.eval_chain-in-NotEqual.ensures

pub operations::eval_long-returns-in-Less : goal.operations::eval_long-returns-in-Less
operations::eval_long-returns-in-Less t c =
    chain_told (Evaluates (table c.args.scene) c.args.depth) (Describes (table c.args.scene) c.args.depth) (context c.args.scene) c.args.operator c.args.operands.now c.args.last.now c.args.at c.eval_chain-in-Less.result (ap is_plain c.in-Less.is) c.eval_chain-in-Less.ensures

pub operations::eval_long-returns-in-Greater : goal.operations::eval_long-returns-in-Greater
operations::eval_long-returns-in-Greater t c =
    chain_told (Evaluates (table c.args.scene) c.args.depth) (Describes (table c.args.scene) c.args.depth) (context c.args.scene) c.args.operator c.args.operands.now c.args.last.now c.args.at c.eval_chain-in-Greater.result (ap is_plain c.in-Greater.is) c.eval_chain-in-Greater.ensures

pub operations::eval_long-returns-in-LessOrEqual : goal.operations::eval_long-returns-in-LessOrEqual
operations::eval_long-returns-in-LessOrEqual t c =
    chain_told (Evaluates (table c.args.scene) c.args.depth) (Describes (table c.args.scene) c.args.depth) (context c.args.scene) c.args.operator c.args.operands.now c.args.last.now c.args.at c.eval_chain-in-LessOrEqual.result (ap is_plain c.in-LessOrEqual.is) c.eval_chain-in-LessOrEqual.ensures

pub operations::eval_long-returns-in-GreaterOrEqual : goal.operations::eval_long-returns-in-GreaterOrEqual
operations::eval_long-returns-in-GreaterOrEqual t c =
    chain_told (Evaluates (table c.args.scene) c.args.depth) (Describes (table c.args.scene) c.args.depth) (context c.args.scene) c.args.operator c.args.operands.now c.args.last.now c.args.at c.eval_chain-in-GreaterOrEqual.result (ap is_plain c.in-GreaterOrEqual.is) c.eval_chain-in-GreaterOrEqual.ensures

pub operations::eval_long-returns-in-MergedFunctions : goal.operations::eval_long-returns-in-MergedFunctions
operations::eval_long-returns-in-MergedFunctions t c =
    chain_told (Evaluates (table c.args.scene) c.args.depth) (Describes (table c.args.scene) c.args.depth) (context c.args.scene) c.args.operator c.args.operands.now c.args.last.now c.args.at c.eval_chain-in-MergedFunctions.result (ap is_plain c.in-MergedFunctions.is) c.eval_chain-in-MergedFunctions.ensures

pub operations::eval_long-returns-in-SingleFunction : goal.operations::eval_long-returns-in-SingleFunction
operations::eval_long-returns-in-SingleFunction t c =
    chain_told (Evaluates (table c.args.scene) c.args.depth) (Describes (table c.args.scene) c.args.depth) (context c.args.scene) c.args.operator c.args.operands.now c.args.last.now c.args.at c.eval_chain-in-SingleFunction.result (ap is_plain c.in-SingleFunction.is) c.eval_chain-in-SingleFunction.ensures

pub operations::eval_long-returns-in-Plus : goal.operations::eval_long-returns-in-Plus
operations::eval_long-returns-in-Plus t c =
    chain_told (Evaluates (table c.args.scene) c.args.depth) (Describes (table c.args.scene) c.args.depth) (context c.args.scene) c.args.operator c.args.operands.now c.args.last.now c.args.at c.eval_chain-in-Plus.result (ap is_plain c.in-Plus.is) c.eval_chain-in-Plus.ensures

pub operations::eval_long-returns-in-Minus : goal.operations::eval_long-returns-in-Minus
operations::eval_long-returns-in-Minus t c =
    chain_told (Evaluates (table c.args.scene) c.args.depth) (Describes (table c.args.scene) c.args.depth) (context c.args.scene) c.args.operator c.args.operands.now c.args.last.now c.args.at c.eval_chain-in-Minus.result (ap is_plain c.in-Minus.is) c.eval_chain-in-Minus.ensures

pub operations::eval_long-returns-in-Times : goal.operations::eval_long-returns-in-Times
operations::eval_long-returns-in-Times t c =
    chain_told (Evaluates (table c.args.scene) c.args.depth) (Describes (table c.args.scene) c.args.depth) (context c.args.scene) c.args.operator c.args.operands.now c.args.last.now c.args.at c.eval_chain-in-Times.result (ap is_plain c.in-Times.is) c.eval_chain-in-Times.ensures

pub operations::eval_long-returns-in-Quotient : goal.operations::eval_long-returns-in-Quotient
operations::eval_long-returns-in-Quotient t c =
    chain_told (Evaluates (table c.args.scene) c.args.depth) (Describes (table c.args.scene) c.args.depth) (context c.args.scene) c.args.operator c.args.operands.now c.args.last.now c.args.at c.eval_chain-in-Quotient.result (ap is_plain c.in-Quotient.is) c.eval_chain-in-Quotient.ensures

pub operations::eval_long-returns-in-Remainder : goal.operations::eval_long-returns-in-Remainder
operations::eval_long-returns-in-Remainder t c =
    chain_told (Evaluates (table c.args.scene) c.args.depth) (Describes (table c.args.scene) c.args.depth) (context c.args.scene) c.args.operator c.args.operands.now c.args.last.now c.args.at c.eval_chain-in-Remainder.result (ap is_plain c.in-Remainder.is) c.eval_chain-in-Remainder.ensures

pub operations::eval_long-returns-in-Power : goal.operations::eval_long-returns-in-Power
operations::eval_long-returns-in-Power t c =
    chain_told (Evaluates (table c.args.scene) c.args.depth) (Describes (table c.args.scene) c.args.depth) (context c.args.scene) c.args.operator c.args.operands.now c.args.last.now c.args.at c.eval_chain-in-Power.result (ap is_plain c.in-Power.is) c.eval_chain-in-Power.ensures

pub operations::eval_long-returns-in-Concatenation : goal.operations::eval_long-returns-in-Concatenation
operations::eval_long-returns-in-Concatenation t c =
    chain_told (Evaluates (table c.args.scene) c.args.depth) (Describes (table c.args.scene) c.args.depth) (context c.args.scene) c.args.operator c.args.operands.now c.args.last.now c.args.at c.eval_chain-in-Concatenation.result (ap is_plain c.in-Concatenation.is) c.eval_chain-in-Concatenation.ensures

pub operations::eval_rest-eval_next-requires : goal.operations::eval_rest-eval_next-requires
operations::eval_rest-eval_next-requires t c =
    let ev = Evaluates (table c.args.scene) c.args.depth in
    let ctx = context c.args.scene in
    let others = c.others_of-others.result.now in
    let xs = map operand_item c.others_of-others.result.now in
    let end = (c.args.at, c.args.last.now) ∷ [] in
    let i = c.loop-other.other-index in
    let below : c.loop-other.other-index < length c.others_of-others.result.now = omega arith in
    let cut = cut_mapped operand_item others i c.other-item.result (cut_at others i c.other-item.result below c.other-item.is) in
    (omega (arith, c.decreases), (c.requires.operation, (chain_reads (Reads (table c.args.scene) c.args.depth) ctx xs end i c.other-item.result.at c.other-item.result.value cut c.loop-other.invariant.1).0))

pub operations::eval_rest-returns-in-Err : goal.operations::eval_rest-returns-in-Err
operations::eval_rest-returns-in-Err t c =
    let ev = Evaluates (table c.args.scene) c.args.depth in
    let ctx = context c.args.scene in
    let others = c.others_of-others.result.now in
    let xs = map operand_item c.others_of-others.result.now in
    let end = (c.args.at, c.args.last.now) ∷ [] in
    let i = c.loop-other.other-index in
    let below : c.loop-other.other-index < length c.others_of-others.result.now = omega arith in
    let cut = cut_mapped operand_item others i c.other-item.result (cut_at others i c.other-item.result below c.other-item.is) in
    let start = c.place_at-place.ensures ∙ ap place_of c.first_of.ensures in
    chain_whole ev ctx c.args.operator c.args.operands.now xs end c.place_at-place.result c.args.value (Err c.in-Err.fault) start c.others_of-others.ensures
    (chain_stops ev ctx c.args.operator xs end c.place_at-place.result c.args.value i c.loop-other.place c.loop-other.value c.other-item.result.at c.other-item.result.value c.in-Err.fault cut c.in-Err.ensures c.loop-other.invariant.0)

pub operations::eval_rest-loop-other-preserved : goal.operations::eval_rest-loop-other-preserved
operations::eval_rest-loop-other-preserved t c =
    let ev = Evaluates (table c.args.scene) c.args.depth in
    let ctx = context c.args.scene in
    let others = c.others_of-others.result.now in
    let xs = map operand_item c.others_of-others.result.now in
    let end = (c.args.at, c.args.last.now) ∷ [] in
    let i = c.loop-other.other-index in
    let below : c.loop-other.other-index < length c.others_of-others.result.now = omega arith in
    let cut = cut_mapped operand_item others i c.other-item.result (cut_at others i c.other-item.result below c.other-item.is) in (
      chain_goes_on ev ctx c.args.operator xs end c.place_at-place.result c.args.value i c.loop-other.place c.loop-other.value c.other-item.result.at c.other-item.result.value c.in-Ok.made cut c.in-Ok.ensures c.loop-other.invariant.0,
      (chain_reads (Reads (table c.args.scene) c.args.depth) ctx xs end i c.other-item.result.at c.other-item.result.value cut c.loop-other.invariant.1).1,
    )

pub operations::eval_rest-returns : goal.operations::eval_rest-returns
operations::eval_rest-returns t c =
    let ev = Evaluates (table c.args.scene) c.args.depth in
    let ctx = context c.args.scene in
    let others = c.others_of-others.result.now in
    let xs = map operand_item c.others_of-others.result.now in
    let end = (c.args.at, c.args.last.now) ∷ [] in
    let i = c.loop-other.other-index in
    let start = c.place_at-place.ensures ∙ ap place_of c.first_of.ensures in
    let passed : length c.others_of-others.result.now ≤ c.loop-other.other-index = omega arith in
    let over : length xs ≤ c.loop-other.other-index = omega (arith, passed, length-map c.others_of-others.result.now operand_item) in
    chain_whole ev ctx c.args.operator c.args.operands.now xs end c.place_at-place.result c.args.value c.eval_next-2.result start c.others_of-others.ensures
    (chain_ends ev ctx c.args.operator xs c.args.at c.args.last.now c.place_at-place.result c.args.value i c.loop-other.place c.loop-other.value c.eval_next-2.result over c.eval_next-2.ensures c.loop-other.invariant.0)

pub describing::describe_interval-returns-in-Ok-eval-clause-fine : goal.describing::describe_interval-returns-in-Ok-eval-clause-fine
describing::describe_interval-returns-in-Ok-eval-clause-fine t c =
    let a = Evaluates (table c.args.scene) c.args.depth (context c.args.scene) c.args.first.now in
    let b = Evaluates (table c.args.scene) c.args.depth (context c.args.scene) c.args.last.now in
    let p = place_of c.args.first.now in
    let q = place_of c.args.last.now in
    tells_then a (λ v. Then b (IntervalDescribed c.args.at p q v)) c.in-Ok.left c.interval_of.result c.in-Ok.ensures
    (tells_then b (IntervalDescribed c.args.at p q c.in-Ok.left) c.in-Ok-eval.right c.interval_of.result c.in-Ok-eval.ensures (c.interval_of.ensures.fine c.args.at))

pub describing::describe_two-returns-in-Ok-describe-clause-fine : goal.describing::describe_two-returns-in-Ok-describe-clause-fine
describing::describe_two-returns-in-Ok-describe-clause-fine t c =
    let a = Describes (table c.args.scene) c.args.depth (context c.args.scene) c.args.first.now in
    let b = Describes (table c.args.scene) c.args.depth (context c.args.scene) c.args.last.now in
    let p = place_of c.args.first.now in
    let q = place_of c.args.last.now in
    let o = c.args.operator in
    tells_then a (λ d. Then b (λ f. Then (Joined o c.args.at p q d f) (λ g. Gives g))) c.in-Ok.left c.joined_of.result c.in-Ok.ensures.fine
    (tells_then b (λ f. Then (Joined o c.args.at p q c.in-Ok.left f) (λ g. Gives g)) c.in-Ok-describe.right c.joined_of.result c.in-Ok-describe.ensures.fine (gives_it (Joined o c.args.at p q c.in-Ok.left c.in-Ok-describe.right) c.joined_of.result c.joined_of.ensures.fine))

pub operations::eval_pair-returns-in-Union : goal.operations::eval_pair-returns-in-Union
operations::eval_pair-returns-in-Union t c =
    joined_told (Evaluates (table c.args.scene) c.args.depth) (Describes (table c.args.scene) c.args.depth) (context c.args.scene) c.args.operator c.args.first.now c.args.last.now c.args.at c.eval_joined.result (ap is_joining c.in-Union.is) c.eval_joined.ensures

pub operations::eval_pair-returns-in-Intersection : goal.operations::eval_pair-returns-in-Intersection
operations::eval_pair-returns-in-Intersection t c =
    joined_told (Evaluates (table c.args.scene) c.args.depth) (Describes (table c.args.scene) c.args.depth) (context c.args.scene) c.args.operator c.args.first.now c.args.last.now c.args.at c.eval_joined-in-Intersection.result (ap is_joining c.in-Intersection.is) c.eval_joined-in-Intersection.ensures

pub operations::eval_pair-returns-in-Difference : goal.operations::eval_pair-returns-in-Difference
operations::eval_pair-returns-in-Difference t c =
    joined_told (Evaluates (table c.args.scene) c.args.depth) (Describes (table c.args.scene) c.args.depth) (context c.args.scene) c.args.operator c.args.first.now c.args.last.now c.args.at c.eval_joined-in-Difference.result (ap is_joining c.in-Difference.is) c.eval_joined-in-Difference.ensures

pub evaluate::eval_case-loop-arm-init : goal.evaluate::eval_case-loop-arm-init
evaluate::eval_case-loop-arm-init t c =
    ((λ r h. h), subst (λ (es : List (Term × Term)). ArmsRead (Reads (table c.args.scene) c.args.depth) (context c.args.scene) es) (sym (arms_are c.items-arm-items.result.now c.args.arms.now c.items-arm-items.ensures)) c.requires.arms)

pub evaluate::eval_case-eval_truth-requires : goal.evaluate::eval_case-eval_truth-requires
evaluate::eval_case-eval_truth-requires t c =
    let ev = Evaluates (table c.args.scene) c.args.depth in
    let ctx = context c.args.scene in
    let other : Outcome Val = OtherEvaluates (Evaluates (table c.args.scene) c.args.depth) (context c.args.scene) c.args.at (option_copied c.args.other) in
    let items = c.items-arm-items.result.now in
    let xs = map arm_item c.items-arm-items.result.now in
    let are = arms_are c.items-arm-items.result.now c.args.arms.now c.items-arm-items.ensures in
    let i = c.loop-arm.arm-index in
    let below : c.loop-arm.arm-index < length c.items-arm-items.result.now = omega arith in
    let cut = cut_mapped arm_item items i c.arm-item.result (cut_at items i c.arm-item.result below c.arm-item.is) in
    (omega (arith, c.decreases), (arms_read (Reads (table c.args.scene) c.args.depth) ctx xs i (arm_item c.arm-item.result) cut c.loop-arm.invariant.1).0)

pub evaluate::eval_case-eval-requires : goal.evaluate::eval_case-eval-requires
evaluate::eval_case-eval-requires t c =
    let ev = Evaluates (table c.args.scene) c.args.depth in
    let ctx = context c.args.scene in
    let other : Outcome Val = OtherEvaluates (Evaluates (table c.args.scene) c.args.depth) (context c.args.scene) c.args.at (option_copied c.args.other) in
    let items = c.items-arm-items.result.now in
    let xs = map arm_item c.items-arm-items.result.now in
    let are = arms_are c.items-arm-items.result.now c.args.arms.now c.items-arm-items.ensures in
    let i = c.loop-arm.arm-index in
    let below : c.loop-arm.arm-index < length c.items-arm-items.result.now = omega arith in
    let cut = cut_mapped arm_item items i c.arm-item.result (cut_at items i c.arm-item.result below c.arm-item.is) in
    (omega (arith, c.decreases), (arms_read (Reads (table c.args.scene) c.args.depth) ctx xs i (arm_item c.arm-item.result) cut c.loop-arm.invariant.1).1)

pub evaluate::eval_case-returns-in-Ok-true : goal.evaluate::eval_case-returns-in-Ok-true
evaluate::eval_case-returns-in-Ok-true t c =
    let ev = Evaluates (table c.args.scene) c.args.depth in
    let ctx = context c.args.scene in
    let other : Outcome Val = OtherEvaluates (Evaluates (table c.args.scene) c.args.depth) (context c.args.scene) c.args.at (option_copied c.args.other) in
    let items = c.items-arm-items.result.now in
    let xs = map arm_item c.items-arm-items.result.now in
    let are = arms_are c.items-arm-items.result.now c.args.arms.now c.items-arm-items.ensures in
    let i = c.loop-arm.arm-index in
    let below : c.loop-arm.arm-index < length c.items-arm-items.result.now = omega arith in
    let cut = cut_mapped arm_item items i c.arm-item.result (cut_at items i c.arm-item.result below c.arm-item.is) in
    let holds = subst (λ (b : Bool). TruthOf ev ctx c.arm-item.result.test (Ok b)) c.in-Ok-true.field-0-test c.in-Ok-true.ensures in
    subst (λ (es : List (Term × Term)). Tells c.eval.result (FirstArm ev ctx other es)) are (arm_taken ev ctx other xs i (arm_item c.arm-item.result) c.eval.result cut holds c.eval.ensures c.loop-arm.invariant.0)

pub evaluate::eval_case-returns-in-Err : goal.evaluate::eval_case-returns-in-Err
evaluate::eval_case-returns-in-Err t c =
    let ev = Evaluates (table c.args.scene) c.args.depth in
    let ctx = context c.args.scene in
    let other : Outcome Val = OtherEvaluates (Evaluates (table c.args.scene) c.args.depth) (context c.args.scene) c.args.at (option_copied c.args.other) in
    let items = c.items-arm-items.result.now in
    let xs = map arm_item c.items-arm-items.result.now in
    let are = arms_are c.items-arm-items.result.now c.args.arms.now c.items-arm-items.ensures in
    let i = c.loop-arm.arm-index in
    let below : c.loop-arm.arm-index < length c.items-arm-items.result.now = omega arith in
    let cut = cut_mapped arm_item items i c.arm-item.result (cut_at items i c.arm-item.result below c.arm-item.is) in
    subst (λ (es : List (Term × Term)). Tells {A = Val} (Err c.in-Err.fault) (FirstArm ev ctx other es)) are (arm_stops ev ctx other xs i (arm_item c.arm-item.result) c.in-Err.fault cut c.in-Err.ensures c.loop-arm.invariant.0)

pub evaluate::eval_case-loop-arm-preserved : goal.evaluate::eval_case-loop-arm-preserved
evaluate::eval_case-loop-arm-preserved t c =
    let ev = Evaluates (table c.args.scene) c.args.depth in
    let ctx = context c.args.scene in
    let other : Outcome Val = OtherEvaluates (Evaluates (table c.args.scene) c.args.depth) (context c.args.scene) c.args.at (option_copied c.args.other) in
    let items = c.items-arm-items.result.now in
    let xs = map arm_item c.items-arm-items.result.now in
    let are = arms_are c.items-arm-items.result.now c.args.arms.now c.items-arm-items.ensures in
    let i = c.loop-arm.arm-index in
    let below : c.loop-arm.arm-index < length c.items-arm-items.result.now = omega arith in
    let cut = cut_mapped arm_item items i c.arm-item.result (cut_at items i c.arm-item.result below c.arm-item.is) in
    let fails = subst (λ (b : Bool). TruthOf ev ctx c.arm-item.result.test (Ok b)) c.in-Ok-false.field-0-test c.in-Ok-false.ensures in
    (arm_passed ev ctx other xs i (arm_item c.arm-item.result) cut fails c.loop-arm.invariant.0, (arms_read (Reads (table c.args.scene) c.args.depth) ctx xs i (arm_item c.arm-item.result) cut c.loop-arm.invariant.1).2)

pub describing::describe_two-returns-in-Err-describe-clause-fine : goal.describing::describe_two-returns-in-Err-describe-clause-fine
describing::describe_two-returns-in-Err-describe-clause-fine t c =
    let a = Describes (table c.args.scene) c.args.depth (context c.args.scene) c.args.first.now in
    let b = Describes (table c.args.scene) c.args.depth (context c.args.scene) c.args.last.now in
    let p = place_of c.args.first.now in
    let q = place_of c.args.last.now in
    let o = c.args.operator in
    tells_then a (λ d. Then b (λ f. Then (Joined o c.args.at p q d f) (λ g. Gives g))) c.in-Ok.left (Err c.in-Err-describe.fault) c.in-Ok.ensures.fine
    (tells_stop b (λ f. Then (Joined o c.args.at p q c.in-Ok.left f) (λ g. Gives g)) c.in-Err-describe.fault c.in-Err-describe.ensures.fine)

pub operations::eval_interval-returns-in-Ok : goal.operations::eval_interval-returns-in-Ok
operations::eval_interval-returns-in-Ok t c =
    let a = Evaluates (table c.args.scene) c.args.depth (context c.args.scene) c.args.first.now in
    let b = Evaluates (table c.args.scene) c.args.depth (context c.args.scene) c.args.last.now in
    tells_then (Then a (λ v. Then b (IntervalDescribed c.args.at (place_of c.args.first.now) (place_of c.args.last.now) v))) (list_at c.args.at) c.in-Ok.set c.list_at.result c.in-Ok.ensures.fine c.list_at.ensures

pub evaluate::describe_node-returns-in-Map-clause-fine : goal.evaluate::describe_node-returns-in-Map-clause-fine
evaluate::describe_node-returns-in-Map-clause-fine t c =
    let ops = table c.args.scene in
    let r = c.described_value-in-Map.result in
    let value = subst (λ (n : TermNode). Tells r (IsValueOf (MeaningEvaluates ops (Evaluates ops c.args.depth) (Describes ops c.args.depth) (context c.args.scene) c.args.at (node_view n)))) c.in-Map.is c.described_value-in-Map.ensures.fine in
    subst (λ (n : TermNode). Tells r (MeaningDescribes ops (Evaluates ops c.args.depth) (Describes ops c.args.depth) (context c.args.scene) c.args.at (node_view n))) (sym c.in-Map.is) value

pub evaluate::describe_node-returns-in-Function-clause-fine : goal.evaluate::describe_node-returns-in-Function-clause-fine
evaluate::describe_node-returns-in-Function-clause-fine t c =
    let ops = table c.args.scene in
    let r = c.described_value-in-Function.result in
    let value = subst (λ (n : TermNode). Tells r (IsValueOf (MeaningEvaluates ops (Evaluates ops c.args.depth) (Describes ops c.args.depth) (context c.args.scene) c.args.at (node_view n)))) c.in-Function.is c.described_value-in-Function.ensures.fine in
    subst (λ (n : TermNode). Tells r (MeaningDescribes ops (Evaluates ops c.args.depth) (Describes ops c.args.depth) (context c.args.scene) c.args.at (node_view n))) (sym c.in-Function.is) value

pub evaluate::describe_node-returns-in-BoxAction-clause-fine : goal.evaluate::describe_node-returns-in-BoxAction-clause-fine
evaluate::describe_node-returns-in-BoxAction-clause-fine t c =
    let ops = table c.args.scene in
    let r = c.described_value-in-BoxAction.result in
    let value = subst (λ (n : TermNode). Tells r (IsValueOf (MeaningEvaluates ops (Evaluates ops c.args.depth) (Describes ops c.args.depth) (context c.args.scene) c.args.at (node_view n)))) c.in-BoxAction.is c.described_value-in-BoxAction.ensures.fine in
    subst (λ (n : TermNode). Tells r (MeaningDescribes ops (Evaluates ops c.args.depth) (Describes ops c.args.depth) (context c.args.scene) c.args.at (node_view n))) (sym c.in-BoxAction.is) value

pub evaluate::describe_node-returns-in-AngleAction-clause-fine : goal.evaluate::describe_node-returns-in-AngleAction-clause-fine
evaluate::describe_node-returns-in-AngleAction-clause-fine t c =
    let ops = table c.args.scene in
    let r = c.described_value-in-AngleAction.result in
    let value = subst (λ (n : TermNode). Tells r (IsValueOf (MeaningEvaluates ops (Evaluates ops c.args.depth) (Describes ops c.args.depth) (context c.args.scene) c.args.at (node_view n)))) c.in-AngleAction.is c.described_value-in-AngleAction.ensures.fine in
    subst (λ (n : TermNode). Tells r (MeaningDescribes ops (Evaluates ops c.args.depth) (Describes ops c.args.depth) (context c.args.scene) c.args.at (node_view n))) (sym c.in-AngleAction.is) value

pub evaluate::eval_case-returns-in-Some : goal.evaluate::eval_case-returns-in-Some
evaluate::eval_case-returns-in-Some t c =
    let ev = Evaluates (table c.args.scene) c.args.depth in
    let ctx = context c.args.scene in
    let xs = map arm_item c.items-arm-items.result.now in
    let are = arms_are c.items-arm-items.result.now c.args.arms.now c.items-arm-items.ensures in
    let i = c.loop-arm.arm-index in
    let passed : length c.items-arm-items.result.now ≤ c.loop-arm.arm-index = omega arith in
    let over : length xs ≤ c.loop-arm.arm-index = omega (arith, passed, length-map c.items-arm-items.result.now arm_item) in
    let other : Outcome Val = OtherEvaluates (Evaluates (table c.args.scene) c.args.depth) (context c.args.scene) c.args.at (option_copied c.args.other) in
    let told = subst (λ (o : Option (Bor Term)). Tells c.eval-in-Some.result (OtherEvaluates ev ctx c.args.at (option_copied o))) (sym c.in-Some.is) c.eval-in-Some.ensures in
    subst (λ (es : List (Term × Term)). Tells c.eval-in-Some.result (FirstArm ev ctx other es)) are (arms_end ev ctx other xs i c.eval-in-Some.result over told c.loop-arm.invariant.0)

pub evaluate::eval_case-returns-in-None : goal.evaluate::eval_case-returns-in-None
evaluate::eval_case-returns-in-None t c =
    let ev = Evaluates (table c.args.scene) c.args.depth in
    let ctx = context c.args.scene in
    let xs = map arm_item c.items-arm-items.result.now in
    let are = arms_are c.items-arm-items.result.now c.args.arms.now c.items-arm-items.ensures in
    let i = c.loop-arm.arm-index in
    let passed : length c.items-arm-items.result.now ≤ c.loop-arm.arm-index = omega arith in
    let over : length xs ≤ c.loop-arm.arm-index = omega (arith, passed, length-map c.items-arm-items.result.now arm_item) in
    let other : Outcome Val = OtherEvaluates (Evaluates (table c.args.scene) c.args.depth) (context c.args.scene) c.args.at (option_copied c.args.other) in
    let told = subst (λ (o : Option (Bor Term)). OtherEvaluates ev ctx c.args.at (option_copied o) (Err (fault NoCase c.args.at))) (sym c.in-None.is) refl in
    subst (λ (es : List (Term × Term)). FirstArm ev ctx other es (Err (fault NoCase c.args.at))) are (arms_end ev ctx other xs i (Err (Refused NoCase c.args.at)) over told c.loop-arm.invariant.0)

pub evaluate::eval_fields-loop-field-init : goal.evaluate::eval_fields-loop-field-init
evaluate::eval_fields-loop-field-init t c =
    let P = FieldEvaluates (Evaluates (table c.args.scene) c.args.depth) (context c.args.scene) in
    let items = c.items-field-items.result.now in
    let are = fields_are items c.args.fields.now c.items-field-items.ensures in (
      subst (λ (ys : List (Val × Val)). EachSoFar P (map field_item items) 0 ys) (sym c.new-pairs.ensures.items) (each_begins P (map field_item items)),
      subst (λ (fs : List (List ℕ × Term)). ReadsEach (Reads (table c.args.scene) c.args.depth) (context c.args.scene) (map (λ (f : List ℕ × Term). f.1) fs)) (sym are) c.requires,
    )

pub evaluate::eval_fields-returns-in-Err-clause-fault : goal.evaluate::eval_fields-returns-in-Err-clause-fault
evaluate::eval_fields-returns-in-Err-clause-fault t c =
    let P = FieldEvaluates (Evaluates (table c.args.scene) c.args.depth) (context c.args.scene) in
    let items = c.items-field-items.result.now in
    let are = fields_are items c.args.fields.now c.items-field-items.ensures in
    let i = c.loop-field.field-index in
    let below : c.loop-field.field-index < length c.items-field-items.result.now = omega arith in
    let cut = cut_mapped field_item items i c.field-item.result (cut_at items i c.field-item.result below c.field-item.is) in
    subst (λ (fs : List (List ℕ × Term)). Stops (Each P fs) c.in-Err.fault) are (each_stops P (map field_item items) i (field_item c.field-item.result) c.loop-field.pairs.items c.in-Err.fault cut c.in-Err.ensures c.loop-field.invariant.0)

pub evaluate::eval_fields-eval_field-requires : goal.evaluate::eval_fields-eval_field-requires
evaluate::eval_fields-eval_field-requires t c =
    let items = c.items-field-items.result.now in
    let i = c.loop-field.field-index in
    let below : c.loop-field.field-index < length c.items-field-items.result.now = omega arith in
    let cut = cut_mapped field_item items i c.field-item.result (cut_at items i c.field-item.result below c.field-item.is) in
    (omega (arith, c.decreases), (fields_read (Reads (table c.args.scene) c.args.depth) (context c.args.scene) (map field_item items) i (field_item c.field-item.result) cut c.loop-field.invariant.1).0)

pub evaluate::eval_fields-loop-field-preserved : goal.evaluate::eval_fields-loop-field-preserved
evaluate::eval_fields-loop-field-preserved t c =
    let P = FieldEvaluates (Evaluates (table c.args.scene) c.args.depth) (context c.args.scene) in
    let items = c.items-field-items.result.now in
    let xs = map field_item c.items-field-items.result.now in
    let i = c.loop-field.field-index in
    let below : c.loop-field.field-index < length c.items-field-items.result.now = omega arith in
    let cut = cut_mapped field_item items i c.field-item.result (cut_at items i c.field-item.result below c.field-item.is) in (
      subst (λ (ys : List (Val × Val)). EachSoFar P xs (i + 1) ys) (sym c.in_ok-push-in-Ok.ensures) (each_goes_on P xs i (field_item c.field-item.result) c.loop-field.pairs.items c.in-Ok.pair cut c.in-Ok.ensures c.loop-field.invariant.0),
      (fields_read (Reads (table c.args.scene) c.args.depth) (context c.args.scene) xs i (field_item c.field-item.result) cut c.loop-field.invariant.1).1,
    )

pub evaluate::eval_fields-returns-clause-pairs : goal.evaluate::eval_fields-returns-clause-pairs
evaluate::eval_fields-returns-clause-pairs t c =
    let P = FieldEvaluates (Evaluates (table c.args.scene) c.args.depth) (context c.args.scene) in
    let items = c.items-field-items.result.now in
    let xs = map field_item c.items-field-items.result.now in
    let are = fields_are items c.args.fields.now c.items-field-items.ensures in
    let i = c.loop-field.field-index in
    let passed : length c.items-field-items.result.now ≤ c.loop-field.field-index = omega arith in
    let over : length xs ≤ c.loop-field.field-index = omega (arith, passed, length-map c.items-field-items.result.now field_item) in
    subst (λ (fs : List (List ℕ × Term)). Each P fs (Ok c.loop-field.pairs.items)) are (each_ends P xs i c.loop-field.pairs.items over c.loop-field.invariant.0)

pub evaluate::eval_record-function_of-requires : goal.evaluate::eval_record-function_of-requires
evaluate::eval_record-function_of-requires t c =
    fields_once (Evaluates (table c.args.scene) c.args.depth) (context c.args.scene) (fields_list c.args.fields.now) c.in-Ok.pairs.items c.requires.different c.in-Ok.ensures.pairs

pub evaluate::eval_record-returns-in-Ok : goal.evaluate::eval_record-returns-in-Ok
evaluate::eval_record-returns-in-Ok t c =
    let P = FieldEvaluates (Evaluates (table c.args.scene) c.args.depth) (context c.args.scene) in
    tells_then (Each P (fields_list c.args.fields.now)) (FunctionOfAll c.args.at) c.in-Ok.pairs.items c.function_of.result c.in-Ok.ensures.pairs c.function_of.ensures

pub evaluate::eval_record-returns-in-Err : goal.evaluate::eval_record-returns-in-Err
evaluate::eval_record-returns-in-Err t c =
    let P = FieldEvaluates (Evaluates (table c.args.scene) c.args.depth) (context c.args.scene) in
    stops_then (Each P (fields_list c.args.fields.now)) (FunctionOfAll c.args.at) c.in-Err.fault c.in-Err.ensures.fault

pub evaluate::eval_node-returns-in-AngleAction : goal.evaluate::eval_node-returns-in-AngleAction
evaluate::eval_node-returns-in-AngleAction t c =
    let P = HoldsAndChanges (Evaluates (table c.args.scene) c.args.depth) (context c.args.scene) c.args.at c.in-AngleAction.action c.in-AngleAction.subscript in
    rw (c.in-AngleAction.is, c.truth_value-in-AngleAction.ensures) (truth_told P c.holds_and_changes.result c.holds_and_changes.ensures)

pub stepping::eval_difference-returns-in-Ok : goal.stepping::eval_difference-returns-in-Ok
stepping::eval_difference-returns-in-Ok t c =
    let ev = Evaluates (table c.args.scene) c.args.depth in
    let ctx = context c.args.scene in
    let at = c.args.at in
    let e = c.args.term.now in
    let v = c.in-Ok.value in
    tells_then (ev ctx (prime_of at e)) (λ v. ChainEvaluates ev ctx infix_operator.NotEqual at v ((at, e) ∷ [])) v c.eval_next.result c.in-Ok.ensures
    (next_told (ev ctx e) (λ w. Operated (InfixAnswers infix_operator.NotEqual v w) (place_in at (at ∷ place_of e ∷ []))) c.eval_next.result c.eval_next.ensures)

pub stepping::eval_changed-eval_difference-requires : goal.stepping::eval_changed-eval_difference-requires
stepping::eval_changed-eval_difference-requires t c =
    let some : 0 < c.args.depth = omega (arith, c.if-depth-eq0.false) in
    let e = c.args.term.now in
    let read = reads_node (table c.args.scene) c.args.depth (context c.args.scene) c.args.at levels.Action (term.Infix infix_operator.NotEqual (term.First (prime_of c.args.at e)) e) (changed_of c.args.at e) refl some c.requires in
    (omega (arith, c.if-depth-eq0.false, c.decreases), (read.1, read.2))

pub stepping::eval_changed-returns : goal.stepping::eval_changed-returns
stepping::eval_changed-returns t c =
    let some : 0 < c.args.depth = omega (arith, c.if-depth-eq0.false) in
    let e = c.args.term.now in
    evaluates_node (table c.args.scene) c.args.depth (context c.args.scene) c.args.at levels.Action (term.Infix infix_operator.NotEqual (term.First (prime_of c.args.at e)) e) (changed_of c.args.at e) c.eval_difference.result refl some c.eval_difference.ensures

pub stepping::eval_prime-eval-requires : goal.stepping::eval_prime-eval-requires
stepping::eval_prime-eval-requires t c =
    let some : 0 < c.args.depth = omega (arith, c.if-depth-eq0.false) in
    let e = c.args.term.now in
    let read = reads_node (table c.args.scene) c.args.depth (context c.args.scene) c.args.at levels.Action (term.Postfix e term.NoSteps term.Prime) (prime_of c.args.at e) refl some c.requires in
    (omega (arith, c.if-depth-eq0.false, c.decreases), rw (c.primed.ensures.table, c.primed.ensures.context) read)

pub stepping::eval_prime-returns : goal.stepping::eval_prime-returns
stepping::eval_prime-returns t c =
    let some : 0 < c.args.depth = omega (arith, c.if-depth-eq0.false) in
    let e = c.args.term.now in
    let same = subst (λ (ops : Table). Tells c.eval.result (Evaluates ops (c.args.depth - 1) (context c.primed.result) e)) c.primed.ensures.table c.eval.ensures in
    let told = subst (λ (x : Context). Tells c.eval.result (Evaluates (table c.args.scene) (c.args.depth - 1) x e)) c.primed.ensures.context same in
    evaluates_node (table c.args.scene) c.args.depth (context c.args.scene) c.args.at levels.Action (term.Postfix e term.NoSteps term.Prime) (prime_of c.args.at e) c.eval.result refl some told

pub stepping::is_changed-returns-in-Ok : goal.stepping::is_changed-returns-in-Ok
stepping::is_changed-returns-in-Ok t c =
    let ev = Evaluates (table c.args.scene) c.args.depth in
    let ctx = context c.args.scene in
    let x = changed_of c.args.at c.args.term.now in
    one_true (TruthOf ev ctx) x c.truth_at.result (tells_then (ev ctx x) (truth_at c.args.at) c.in-Ok.value c.truth_at.result c.in-Ok.ensures c.truth_at.ensures)

pub stepping::is_changed-returns-in-Err : goal.stepping::is_changed-returns-in-Err
stepping::is_changed-returns-in-Err t c =
    let ev = Evaluates (table c.args.scene) c.args.depth in
    let ctx = context c.args.scene in
    let x = changed_of c.args.at c.args.term.now in
    one_true (TruthOf ev ctx) x (Err c.in-Err.fault) (tells_stop (ev ctx x) (truth_at c.args.at) c.in-Err.fault c.in-Err.ensures)

pub describing::described_plain-returns-clause-fine : goal.describing::described_plain-returns-clause-fine
describing::described_plain-returns-clause-fine t c =
    let told = subst (λ (m : Meaning). Tells c.described_value.result (IsValueOf (MeaningEvaluates (table c.args.scene) (Evaluates (table c.args.scene) c.args.depth) (Describes (table c.args.scene) c.args.depth) (context c.args.scene) c.args.at m))) c.requires.node c.described_value.ensures.fine in
    plain_described (table c.args.scene) (Evaluates (table c.args.scene) c.args.depth) (Describes (table c.args.scene) c.args.depth) (context c.args.scene) c.args.operator c.args.operands.now c.args.last.now c.args.at c.described_value.result c.requires.plain told

pub describing::described_made-returns-clause-fine : goal.describing::described_made-returns-clause-fine
describing::described_made-returns-clause-fine t c =
    made_described (table c.args.scene) (Evaluates (table c.args.scene) c.args.depth) (Describes (table c.args.scene) c.args.depth) (context c.args.scene) c.args.operator c.args.operands.now c.args.last.now c.args.at c.describe_operands.result c.requires.made c.describe_operands.ensures.fine

pub describing::describe_pair-returns-in-Union-clause-fine : goal.describing::describe_pair-returns-in-Union-clause-fine
describing::describe_pair-returns-in-Union-clause-fine t c =
    joined_described (Evaluates (table c.args.scene) c.args.depth) (Describes (table c.args.scene) c.args.depth) (context c.args.scene) c.args.operator c.args.first.now c.args.last.now c.args.at c.describe_two.result (ap is_joining c.in-Union.is) c.describe_two.ensures.fine

pub describing::describe_pair-returns-in-Intersection-clause-fine : goal.describing::describe_pair-returns-in-Intersection-clause-fine
describing::describe_pair-returns-in-Intersection-clause-fine t c =
    joined_described (Evaluates (table c.args.scene) c.args.depth) (Describes (table c.args.scene) c.args.depth) (context c.args.scene) c.args.operator c.args.first.now c.args.last.now c.args.at c.describe_two-in-Intersection.result (ap is_joining c.in-Intersection.is) c.describe_two-in-Intersection.ensures.fine

pub describing::describe_pair-returns-in-Difference-clause-fine : goal.describing::describe_pair-returns-in-Difference-clause-fine
describing::describe_pair-returns-in-Difference-clause-fine t c =
    joined_described (Evaluates (table c.args.scene) c.args.depth) (Describes (table c.args.scene) c.args.depth) (context c.args.scene) c.args.operator c.args.first.now c.args.last.now c.args.at c.describe_two-in-Difference.result (ap is_joining c.in-Difference.is) c.describe_two-in-Difference.ensures.fine

pub describing::describe_chain-returns-in-Ok-clause-fine : goal.describing::describe_chain-returns-in-Ok-clause-fine
describing::describe_chain-returns-in-Ok-clause-fine t c =
    let ev = Describes (table c.args.scene) c.args.depth in
    let b = subst (λ (e : Term). ev (context c.args.scene) e (Ok c.in-Ok.set)) c.first_of-first.ensures c.in-Ok.ensures.fine in
    tells_then (ev (context c.args.scene) (first_operand c.args.operands.now)) (λ v. ChainDescribed ev (context c.args.scene) c.args.operator (place_of (first_operand c.args.operands.now)) v (other_operands (Next c.args.operands.now c.args.at c.args.last.now))) c.in-Ok.set c.describe_rest.result b c.describe_rest.ensures.fine

pub describing::describe_rest-describe_next-requires : goal.describing::describe_rest-describe_next-requires
describing::describe_rest-describe_next-requires t c =
    let ev = Describes (table c.args.scene) c.args.depth in
    let ctx = context c.args.scene in
    let others = c.others_of-others.result.now in
    let xs = map operand_item c.others_of-others.result.now in
    let end = (c.args.at, c.args.last.now) ∷ [] in
    let i = c.loop-other.other-index in
    let below : c.loop-other.other-index < length c.others_of-others.result.now = omega arith in
    let cut = cut_mapped operand_item others i c.other-item.result (cut_at others i c.other-item.result below c.other-item.is) in
    (omega (arith, c.decreases), (c.requires.operator, (c.loop-other.invariant.2, (chain_reads (Reads (table c.args.scene) c.args.depth) ctx xs end i c.other-item.result.at c.other-item.result.value cut c.loop-other.invariant.1).0)))

pub describing::describe_rest-returns-in-Err-clause-fine : goal.describing::describe_rest-returns-in-Err-clause-fine
describing::describe_rest-returns-in-Err-clause-fine t c =
    let ev = Describes (table c.args.scene) c.args.depth in
    let ctx = context c.args.scene in
    let others = c.others_of-others.result.now in
    let xs = map operand_item c.others_of-others.result.now in
    let end = (c.args.at, c.args.last.now) ∷ [] in
    let i = c.loop-other.other-index in
    let below : c.loop-other.other-index < length c.others_of-others.result.now = omega arith in
    let cut = cut_mapped operand_item others i c.other-item.result (cut_at others i c.other-item.result below c.other-item.is) in
    let start = c.place_at-place.ensures ∙ ap place_of c.first_of.ensures in
    joined_whole ev ctx c.args.operator c.args.operands.now xs end c.place_at-place.result c.args.set (Err c.in-Err.fault) start c.others_of-others.ensures
    (joined_stops ev ctx c.args.operator xs end c.place_at-place.result c.args.set i c.loop-other.place c.loop-other.set c.other-item.result.at c.other-item.result.value c.in-Err.fault cut c.in-Err.ensures.fine c.loop-other.invariant.0)

pub describing::describe_rest-loop-other-preserved : goal.describing::describe_rest-loop-other-preserved
describing::describe_rest-loop-other-preserved t c =
    let ev = Describes (table c.args.scene) c.args.depth in
    let ctx = context c.args.scene in
    let others = c.others_of-others.result.now in
    let xs = map operand_item c.others_of-others.result.now in
    let end = (c.args.at, c.args.last.now) ∷ [] in
    let i = c.loop-other.other-index in
    let below : c.loop-other.other-index < length c.others_of-others.result.now = omega arith in
    let cut = cut_mapped operand_item others i c.other-item.result (cut_at others i c.other-item.result below c.other-item.is) in (
      joined_goes_on ev ctx c.args.operator xs end c.place_at-place.result c.args.set i c.loop-other.place c.loop-other.set c.other-item.result.at c.other-item.result.value c.in-Ok.made cut c.in-Ok.ensures.fine c.loop-other.invariant.0,
      (chain_reads (Reads (table c.args.scene) c.args.depth) ctx xs end i c.other-item.result.at c.other-item.result.value cut c.loop-other.invariant.1).1,
      c.in-Ok.ensures.ready,
    )

pub describing::describe_rest-returns-clause-fine : goal.describing::describe_rest-returns-clause-fine
describing::describe_rest-returns-clause-fine t c =
    let ev = Describes (table c.args.scene) c.args.depth in
    let ctx = context c.args.scene in
    let others = c.others_of-others.result.now in
    let xs = map operand_item c.others_of-others.result.now in
    let end = (c.args.at, c.args.last.now) ∷ [] in
    let i = c.loop-other.other-index in
    let start = c.place_at-place.ensures ∙ ap place_of c.first_of.ensures in
    let passed : length c.others_of-others.result.now ≤ c.loop-other.other-index = omega arith in
    let over : length xs ≤ c.loop-other.other-index = omega (arith, passed, length-map c.others_of-others.result.now operand_item) in
    joined_whole ev ctx c.args.operator c.args.operands.now xs end c.place_at-place.result c.args.set c.describe_next-2.result start c.others_of-others.ensures
    (joined_ends ev ctx c.args.operator xs c.args.at c.args.last.now c.place_at-place.result c.args.set i c.loop-other.place c.loop-other.set c.describe_next-2.result over c.describe_next-2.ensures.fine c.loop-other.invariant.0)

pub describing::describe_long-returns-in-Union-clause-fine : goal.describing::describe_long-returns-in-Union-clause-fine
describing::describe_long-returns-in-Union-clause-fine t c =
    joins_described (Evaluates (table c.args.scene) c.args.depth) (Describes (table c.args.scene) c.args.depth) (context c.args.scene) c.args.operator c.args.operands.now c.args.last.now c.args.at c.describe_chain.result (ap is_joining c.in-Union.is) c.describe_chain.ensures.fine

pub operations::eval_long-returns-in-Union : goal.operations::eval_long-returns-in-Union
operations::eval_long-returns-in-Union t c =
    joins_told (Evaluates (table c.args.scene) c.args.depth) (Describes (table c.args.scene) c.args.depth) (context c.args.scene) c.args.operator c.args.operands.now c.args.last.now c.args.at c.eval_joins.result (ap is_joining c.in-Union.is) c.eval_joins.ensures

pub describing::describe_long-returns-in-Intersection-clause-fine : goal.describing::describe_long-returns-in-Intersection-clause-fine
describing::describe_long-returns-in-Intersection-clause-fine t c =
    joins_described (Evaluates (table c.args.scene) c.args.depth) (Describes (table c.args.scene) c.args.depth) (context c.args.scene) c.args.operator c.args.operands.now c.args.last.now c.args.at c.describe_chain-in-Intersection.result (ap is_joining c.in-Intersection.is) c.describe_chain-in-Intersection.ensures.fine

pub operations::eval_long-returns-in-Intersection : goal.operations::eval_long-returns-in-Intersection
operations::eval_long-returns-in-Intersection t c =
    joins_told (Evaluates (table c.args.scene) c.args.depth) (Describes (table c.args.scene) c.args.depth) (context c.args.scene) c.args.operator c.args.operands.now c.args.last.now c.args.at c.eval_joins-in-Intersection.result (ap is_joining c.in-Intersection.is) c.eval_joins-in-Intersection.ensures

pub describing::describe_long-returns-in-Difference-clause-fine : goal.describing::describe_long-returns-in-Difference-clause-fine
describing::describe_long-returns-in-Difference-clause-fine t c =
    joins_described (Evaluates (table c.args.scene) c.args.depth) (Describes (table c.args.scene) c.args.depth) (context c.args.scene) c.args.operator c.args.operands.now c.args.last.now c.args.at c.describe_chain-in-Difference.result (ap is_joining c.in-Difference.is) c.describe_chain-in-Difference.ensures.fine

pub operations::eval_long-returns-in-Difference : goal.operations::eval_long-returns-in-Difference
operations::eval_long-returns-in-Difference t c =
    joins_told (Evaluates (table c.args.scene) c.args.depth) (Describes (table c.args.scene) c.args.depth) (context c.args.scene) c.args.operator c.args.operands.now c.args.last.now c.args.at c.eval_joins-in-Difference.result (ap is_joining c.in-Difference.is) c.eval_joins-in-Difference.ensures

-- --- Bound names rows

pub binding::eval_quantified-quantified-requires : goal.binding::eval_quantified-quantified-requires
binding::eval_quantified-quantified-requires t c =
    let R : ℕ → Type 0 = λ n. ReadsUnder (Reads (table c.args.scene) c.args.depth) (context c.args.scene) n c.args.body.now in
    let S : List BoundSet → Type 0 = λ sets. R (length (ranges (map bound_members sets))) in
    (omega (arith, c.decreases), subst S (sym c.deref.ensures.value) (subst R (sym c.in-Ok.ensures.many) c.requires.body))

pub binding::eval_quantified-returns-in-Ok : goal.binding::eval_quantified-returns-in-Ok
binding::eval_quantified-returns-in-Ok t c =
    let ev = Evaluates (table c.args.scene) c.args.depth in
    let ctx = context c.args.scene in
    let P : List Val → Outcome Bool = λ chosen. TruthOf (Evaluates (table c.args.scene) c.args.depth) (bind (context c.args.scene) chosen) c.args.body.now in
    let V : List BoundSet → Type 0 = λ sets. BoundValues (Evaluates (table c.args.scene) c.args.depth) (context c.args.scene) c.args.bounds.now (Ok (combinations (ranges (map bound_members sets)))) in
    let K = Decided c.args.quantifier P in
    quantified_told ev ctx c.args.quantifier c.args.bounds.now c.args.body.now c.quantified.result
    (tells_then (BoundValues ev ctx c.args.bounds.now) K (combinations (ranges (map bound_members c.deref.result.now))) c.quantified.result (subst V (sym c.deref.ensures.value) c.in-Ok.ensures.values) c.quantified.ensures)

pub binding::eval_quantified-returns-in-Err : goal.binding::eval_quantified-returns-in-Err
binding::eval_quantified-returns-in-Err t c =
    let ev = Evaluates (table c.args.scene) c.args.depth in
    let ctx = context c.args.scene in
    let P : List Val → Outcome Bool = λ chosen. TruthOf (Evaluates (table c.args.scene) c.args.depth) (bind (context c.args.scene) chosen) c.args.body.now in
    quantified_told ev ctx c.args.quantifier c.args.bounds.now c.args.body.now (Err c.in-Err.fault) (stops_then (BoundValues ev ctx c.args.bounds.now) (Decided c.args.quantifier P) c.in-Err.fault c.in-Err.ensures.fault)

pub binding::eval_map-mapped-requires : goal.binding::eval_map-mapped-requires
binding::eval_map-mapped-requires t c =
    let R : ℕ → Type 0 = λ n. ReadsUnder (Reads (table c.args.scene) c.args.depth) (context c.args.scene) n c.args.term.now in
    let S : List BoundSet → Type 0 = λ sets. R (length (ranges (map bound_members sets))) in
    (omega (arith, c.decreases), subst S (sym c.deref.ensures.value) (subst R (sym c.in-Ok.ensures.many) c.requires.term))

pub binding::eval_map-returns-in-Ok : goal.binding::eval_map-returns-in-Ok
binding::eval_map-returns-in-Ok t c =
    let ev = Evaluates (table c.args.scene) c.args.depth in
    let ctx = context c.args.scene in
    let P : List Val → Outcome Val = λ chosen. Evaluates (table c.args.scene) c.args.depth (bind (context c.args.scene) chosen) c.args.term.now in
    let V : List BoundSet → Type 0 = λ sets. BoundValues (Evaluates (table c.args.scene) c.args.depth) (context c.args.scene) c.args.bounds.now (Ok (combinations (ranges (map bound_members sets)))) in
    tells_then (BoundValues ev ctx c.args.bounds.now) (λ all. Then (Each P all) (SetOfAll c.args.at)) (combinations (ranges (map bound_members c.deref.result.now))) c.mapped.result (subst V (sym c.deref.ensures.value) c.in-Ok.ensures.values) c.mapped.ensures

pub binding::eval_map-returns-in-Err : goal.binding::eval_map-returns-in-Err
binding::eval_map-returns-in-Err t c =
    let ev = Evaluates (table c.args.scene) c.args.depth in
    let ctx = context c.args.scene in
    let P : List Val → Outcome Val = λ chosen. Evaluates (table c.args.scene) c.args.depth (bind (context c.args.scene) chosen) c.args.term.now in
    stops_then (BoundValues ev ctx c.args.bounds.now) (λ all. Then (Each P all) (SetOfAll c.args.at)) c.in-Err.fault c.in-Err.ensures.fault

pub binding::eval_function-function_over-requires : goal.binding::eval_function-function_over-requires
binding::eval_function-function_over-requires t c =
    let R : ℕ → Type 0 = λ n. ReadsUnder (Reads (table c.args.scene) c.args.depth) (context c.args.scene) n c.args.term.now in
    let S : List BoundSet → Type 0 = λ sets. R (length (ranges (map bound_members sets))) in
    (omega (arith, c.decreases), subst S (sym c.deref.ensures.value) (subst R (sym c.in-Ok.ensures.many) c.requires.term))

pub binding::eval_function-returns-in-Ok : goal.binding::eval_function-returns-in-Ok
binding::eval_function-returns-in-Ok t c =
    let ev = Evaluates (table c.args.scene) c.args.depth in
    let ctx = context c.args.scene in
    let P : List Val → Outcome (Val × Val) = PairOf (Evaluates (table c.args.scene) c.args.depth) (context c.args.scene) c.args.at c.args.term.now in
    let V : List BoundSet → Type 0 = λ sets. BoundValues (Evaluates (table c.args.scene) c.args.depth) (context c.args.scene) c.args.bounds.now (Ok (combinations (ranges (map bound_members sets)))) in
    tells_then (BoundValues ev ctx c.args.bounds.now) (λ all. Then (Each P all) (FunctionOfAll c.args.at)) (combinations (ranges (map bound_members c.deref.result.now))) c.function_over.result (subst V (sym c.deref.ensures.value) c.in-Ok.ensures.values) c.function_over.ensures

pub binding::eval_function-returns-in-Err : goal.binding::eval_function-returns-in-Err
binding::eval_function-returns-in-Err t c =
    let ev = Evaluates (table c.args.scene) c.args.depth in
    let ctx = context c.args.scene in
    let P : List Val → Outcome (Val × Val) = PairOf (Evaluates (table c.args.scene) c.args.depth) (context c.args.scene) c.args.at c.args.term.now in
    stops_then (BoundValues ev ctx c.args.bounds.now) (λ all. Then (Each P all) (FunctionOfAll c.args.at)) c.in-Err.fault c.in-Err.ensures.fault

pub binding::quantified-holds_for_all-requires : goal.binding::quantified-holds_for_all-requires
binding::quantified-holds_for_all-requires t c =
    let R : List (List Val) → Type 0 = λ ls. ReadsUnder (Reads (table c.args.scene) c.args.depth) (context c.args.scene) (length ls) c.args.body.now in
    let S : List (Bor (List Val)) → Type 0 = λ ls. R (map members ls) in
    (omega (arith, c.decreases), subst S (sym c.deref.ensures.value) (subst R (sym c.in_ok-lists.ensures.members) c.requires))

pub binding::quantified-holds_for_some-requires : goal.binding::quantified-holds_for_some-requires
binding::quantified-holds_for_some-requires t c =
    let R : List (List Val) → Type 0 = λ ls. ReadsUnder (Reads (table c.args.scene) c.args.depth) (context c.args.scene) (length ls) c.args.body.now in
    let S : List (Bor (List Val)) → Type 0 = λ ls. R (map members ls) in
    (omega (arith, c.decreases), subst S (sym c.deref-in-Exists.ensures.value) (subst R (sym c.in_ok-lists.ensures.members) c.requires))

pub binding::quantified-returns-in-ForAll : goal.binding::quantified-returns-in-ForAll
binding::quantified-returns-in-ForAll t c =
    let P : List Val → Outcome Bool = λ chosen. TruthOf (Evaluates (table c.args.scene) c.args.depth) (bind (context c.args.scene) chosen) c.args.body.now in
    let same = ap (λ (ls : List (Bor (List Val))). combinations (map members ls)) c.deref.ensures.value ∙ ap combinations c.in_ok-lists.ensures.members in
    all_decided c.args.quantifier P (combinations (ranges (map bound_members c.args.sets.now))) (combinations (map members c.deref.result.now)) c.holds_for_all.result c.in-ForAll.is same c.holds_for_all.ensures

pub binding::quantified-returns : goal.binding::quantified-returns
binding::quantified-returns t c =
    let P : List Val → Outcome Bool = λ chosen. TruthOf (Evaluates (table c.args.scene) c.args.depth) (bind (context c.args.scene) chosen) c.args.body.now in
    let same = ap (λ (ls : List (Bor (List Val))). combinations (map members ls)) c.deref-in-Exists.ensures.value ∙ ap combinations c.in_ok-lists.ensures.members in
    some_decided c.args.quantifier P (combinations (ranges (map bound_members c.args.sets.now))) (combinations (map members c.deref-in-Exists.result.now)) c.holds_for_some.result c.in-Exists.is same c.holds_for_some.ensures

pub binding::mapped-values_for_each-requires : goal.binding::mapped-values_for_each-requires
binding::mapped-values_for_each-requires t c =
    let R : List (List Val) → Type 0 = λ ls. ReadsUnder (Reads (table c.args.scene) c.args.depth) (context c.args.scene) (length ls) c.args.term.now in
    let S : List (Bor (List Val)) → Type 0 = λ ls. R (map members ls) in
    (omega (arith, c.decreases), subst S (sym c.deref.ensures.value) (subst R (sym c.in_ok-lists.ensures.members) c.requires))

pub binding::mapped-returns-in-Ok : goal.binding::mapped-returns-in-Ok
binding::mapped-returns-in-Ok t c =
    let P : List Val → Outcome (Val) = λ chosen. Evaluates (table c.args.scene) c.args.depth (bind (context c.args.scene) chosen) c.args.term.now in
    let all = combinations (ranges (map bound_members c.args.sets.now)) in
    let same = ap (map members) c.deref.ensures.value ∙ c.in_ok-lists.ensures.members in
    let values = subst (λ (ls : List (List Val)). Each P (combinations ls) (Ok c.in-Ok.values.items)) same c.in-Ok.ensures.values in
    tells_then (Each P all) (SetOfAll c.args.at) c.in-Ok.values.items c.set_of.result values c.set_of.ensures

pub binding::mapped-returns : goal.binding::mapped-returns
binding::mapped-returns t c =
    let P : List Val → Outcome (Val) = λ chosen. Evaluates (table c.args.scene) c.args.depth (bind (context c.args.scene) chosen) c.args.term.now in
    let all = combinations (ranges (map bound_members c.args.sets.now)) in
    let same = ap (map members) c.deref.ensures.value ∙ c.in_ok-lists.ensures.members in
    let stop = subst (λ (ls : List (List Val)). Stops (Each P (combinations ls)) c.in-Err.fault) same c.in-Err.ensures.fault in
    stops_then (Each P all) (SetOfAll c.args.at) c.in-Err.fault stop

pub binding::function_over-pairs_for_each-requires : goal.binding::function_over-pairs_for_each-requires
binding::function_over-pairs_for_each-requires t c =
    let R : List (List Val) → Type 0 = λ ls. ReadsUnder (Reads (table c.args.scene) c.args.depth) (context c.args.scene) (length ls) c.args.term.now in
    let S : List (Bor (List Val)) → Type 0 = λ ls. R (map members ls) in
    (omega (arith, c.decreases), subst S (sym c.deref.ensures.value) (subst R (sym c.in_ok-lists.ensures.members) c.requires))

pub binding::function_over-returns-in-Ok : goal.binding::function_over-returns-in-Ok
binding::function_over-returns-in-Ok t c =
    let P : List Val → Outcome (Val × Val) = PairOf (Evaluates (table c.args.scene) c.args.depth) (context c.args.scene) c.args.at c.args.term.now in
    let all = combinations (ranges (map bound_members c.args.sets.now)) in
    let same = ap (map members) c.deref.ensures.value ∙ c.in_ok-lists.ensures.members in
    let pairs = subst (λ (ls : List (List Val)). Each P (combinations ls) (Ok c.in-Ok.pairs.items)) same c.in-Ok.ensures.pairs in
    tells_then (Each P all) (FunctionOfAll c.args.at) c.in-Ok.pairs.items c.function_of.result pairs c.function_of.ensures

pub binding::function_over-returns : goal.binding::function_over-returns
binding::function_over-returns t c =
    let P : List Val → Outcome (Val × Val) = PairOf (Evaluates (table c.args.scene) c.args.depth) (context c.args.scene) c.args.at c.args.term.now in
    let all = combinations (ranges (map bound_members c.args.sets.now)) in
    let same = ap (map members) c.deref.ensures.value ∙ c.in_ok-lists.ensures.members in
    let stop = subst (λ (ls : List (List Val)). Stops (Each P (combinations ls)) c.in-Err.fault) same c.in-Err.ensures.fault in
    stops_then (Each P all) (FunctionOfAll c.args.at) c.in-Err.fault stop

pub binding::function_over-function_of-requires : goal.binding::function_over-function_of-requires
binding::function_over-function_of-requires t c =
    let differ = subst (λ (ls : List (Bor (List Val))). AllDiffer (map members ls)) (sym c.deref.ensures.value) c.in_ok-lists.ensures.differ in
    keys_once (Evaluates (table c.args.scene) c.args.depth) (context c.args.scene) c.args.at c.args.term.now (map members c.deref.result.now) c.in-Ok.pairs.items differ c.in-Ok.ensures.pairs

pub binding::eval_bounds-returns-in-Ok-expect_sets-clause-values : goal.binding::eval_bounds-returns-in-Ok-expect_sets-clause-values
binding::eval_bounds-returns-in-Ok-expect_sets-clause-values t c =
    let Q : List BoundSet → Type 0 = λ sets. Each HasMembers (map bound_value sets) (Ok (map bound_members sets)) in
    bound_values (Evaluates (table c.args.scene) c.args.depth) (context c.args.scene) c.args.bounds.now c.in-Ok.sets.items c.in-Ok.ensures.values (subst Q c.deref.ensures.value c.in-Ok-expect_sets.ensures.fine)

pub binding::eval_bounds-returns-in-Ok-expect_sets-clause-many : goal.binding::eval_bounds-returns-in-Ok-expect_sets-clause-many
binding::eval_bounds-returns-in-Ok-expect_sets-clause-many t c =
    as_many_lists (Evaluates (table c.args.scene) c.args.depth) (context c.args.scene) c.args.bounds.now c.in-Ok.sets.items c.in-Ok.ensures.values

pub binding::eval_bounds-returns-in-Err-expect_sets-clause-fault : goal.binding::eval_bounds-returns-in-Err-expect_sets-clause-fault
binding::eval_bounds-returns-in-Err-expect_sets-clause-fault t c =
    let Q : List BoundSet → Type 0 = λ sets. Stops (Each HasMembers (map bound_value sets)) c.in-Err-expect_sets.fault in
    second_stage_stops (Evaluates (table c.args.scene) c.args.depth) (context c.args.scene) c.args.bounds.now c.in-Ok.sets.items c.in-Err-expect_sets.fault c.in-Ok.ensures.values (subst Q c.deref.ensures.value c.in-Err-expect_sets.ensures.fault)

pub binding::eval_bounds-returns-in-Err-clause-fault : goal.binding::eval_bounds-returns-in-Err-clause-fault
binding::eval_bounds-returns-in-Err-clause-fault t c =
    first_stage_stops (Evaluates (table c.args.scene) c.args.depth) (context c.args.scene) c.args.bounds.now c.in-Err.fault c.in-Err.ensures.fault

pub binding::eval_each_bound-loop-bound-init : goal.binding::eval_each_bound-loop-bound-init
binding::eval_each_bound-loop-bound-init t c =
    let P = BoundEvaluates (Evaluates (table c.args.scene) c.args.depth) (context c.args.scene) in
    let items = c.items-bound-items.result.now in
    let are = bounds_are items c.args.bounds.now c.items-bound-items.ensures in (
      subst (λ (ys : List BoundSet). EachSoFar P (map bound_item items) 0 (map bound_value ys)) (sym c.new-sets.ensures.items) (each_begins P (map bound_item items)),
      subst (λ (bs : List (ℕ × Term)). ReadsEach (Reads (table c.args.scene) c.args.depth) (context c.args.scene) (map (λ (b : ℕ × Term). b.1) bs)) (sym are) c.requires,
    )

pub binding::eval_each_bound-returns-in-Err-clause-fault : goal.binding::eval_each_bound-returns-in-Err-clause-fault
binding::eval_each_bound-returns-in-Err-clause-fault t c =
    let P = BoundEvaluates (Evaluates (table c.args.scene) c.args.depth) (context c.args.scene) in
    let items = c.items-bound-items.result.now in
    let are = bounds_are items c.args.bounds.now c.items-bound-items.ensures in
    let i = c.loop-bound.bound-index in
    let below : c.loop-bound.bound-index < length c.items-bound-items.result.now = omega arith in
    let cut = cut_mapped bound_item items i c.bound-item.result (cut_at items i c.bound-item.result below c.bound-item.is) in
    subst (λ (bs : List (ℕ × Term)). Stops (Each P bs) c.in-Err.fault) are (bound_stops P (map bound_item items) i (bound_item c.bound-item.result) (map bound_value c.loop-bound.sets.items) c.in-Err.fault cut c.in-Err.ensures.fault c.loop-bound.invariant.0)

pub binding::eval_each_bound-eval_bound-requires : goal.binding::eval_each_bound-eval_bound-requires
binding::eval_each_bound-eval_bound-requires t c =
    let items = c.items-bound-items.result.now in
    let i = c.loop-bound.bound-index in
    let below : c.loop-bound.bound-index < length c.items-bound-items.result.now = omega arith in
    let cut = cut_mapped bound_item items i c.bound-item.result (cut_at items i c.bound-item.result below c.bound-item.is) in
    (omega (arith, c.decreases), (bounds_read (Reads (table c.args.scene) c.args.depth) (context c.args.scene) (map bound_item items) i (bound_item c.bound-item.result) cut c.loop-bound.invariant.1).0)

pub binding::eval_each_bound-loop-bound-preserved : goal.binding::eval_each_bound-loop-bound-preserved
binding::eval_each_bound-loop-bound-preserved t c =
    let P = BoundEvaluates (Evaluates (table c.args.scene) c.args.depth) (context c.args.scene) in
    let items = c.items-bound-items.result.now in
    let xs = map bound_item c.items-bound-items.result.now in
    let i = c.loop-bound.bound-index in
    let below : c.loop-bound.bound-index < length c.items-bound-items.result.now = omega arith in
    let cut = cut_mapped bound_item items i c.bound-item.result (cut_at items i c.bound-item.result below c.bound-item.is) in
    let pushed = map-append bound_value c.loop-bound.sets.items (c.in-Ok.set ∷ []) in (
      subst (λ (ys : List BoundSet). EachSoFar P xs (i + 1) (map bound_value ys)) (sym c.in_ok-push-in-Ok.ensures)
          (subst (λ (ys : List ((ℕ × Place) × Val)). EachSoFar P xs (i + 1) ys) (sym pushed) (each_goes_on P xs i (bound_item c.bound-item.result) (map bound_value c.loop-bound.sets.items) (bound_value c.in-Ok.set) cut c.in-Ok.ensures.values c.loop-bound.invariant.0)),
      (bounds_read (Reads (table c.args.scene) c.args.depth) (context c.args.scene) xs i (bound_item c.bound-item.result) cut c.loop-bound.invariant.1).1,
    )

pub binding::eval_each_bound-returns-clause-values : goal.binding::eval_each_bound-returns-clause-values
binding::eval_each_bound-returns-clause-values t c =
    let P = BoundEvaluates (Evaluates (table c.args.scene) c.args.depth) (context c.args.scene) in
    let items = c.items-bound-items.result.now in
    let xs = map bound_item c.items-bound-items.result.now in
    let are = bounds_are items c.args.bounds.now c.items-bound-items.ensures in
    let i = c.loop-bound.bound-index in
    let passed : length c.items-bound-items.result.now ≤ c.loop-bound.bound-index = omega arith in
    let over : length xs ≤ c.loop-bound.bound-index = omega (arith, passed, length-map c.items-bound-items.result.now bound_item) in
    subst (λ (bs : List (ℕ × Term)). Each P bs (Ok (map bound_value c.loop-bound.sets.items))) are (each_ends P xs i (map bound_value c.loop-bound.sets.items) over c.loop-bound.invariant.0)

pub binding::holds_for_all-loop-more-init : goal.binding::holds_for_all-loop-more-init
binding::holds_for_all-loop-more-init t c =
    let P : List Val → Outcome Bool = λ chosen. TruthOf (Evaluates (table c.args.scene) c.args.depth) (bind (context c.args.scene) chosen) c.args.body.now in
    let lists = map members c.args.lists.now in
    let more = c.has_combination-more.result in
    let places = c.in_ok-places.places.items in
    (every_begins P (combinations lists) (left_from more lists places) (left_begins lists more places c.in_ok-places.ensures c.has_combination-more.ensures), within_begins lists more places c.in_ok-places.ensures c.has_combination-more.ensures)

pub binding::holds_for_all-truth_with-requires : goal.binding::holds_for_all-truth_with-requires
binding::holds_for_all-truth_with-requires t c =
    let lists = map members c.args.lists.now in
    let places = c.deref.result.now in
    let W : List ℕ → Type 0 = λ ps. AreWithin (map members c.args.lists.now) ps in
    let within = subst W (sym c.deref.ensures.value) (c.loop-more.invariant.1 c.loop-more-test.true) in
    (omega (arith, c.decreases), (within, c.requires (at_places lists places) (chosen_length lists places within)))

pub binding::holds_for_all-advance-more-requires : goal.binding::holds_for_all-advance-more-requires
binding::holds_for_all-advance-more-requires t c = c.loop-more.invariant.1 c.loop-more-test.true

pub binding::holds_for_all-loop-more-smaller : goal.binding::holds_for_all-loop-more-smaller
binding::holds_for_all-loop-more-smaller t c =
    let lists = map members c.args.lists.now in
    let more = c.loop-more.more in
    let places = c.loop-more.places.items in
    let again = c.advance-more.result in
    let new = c.advance-more.new.places.items in
    fewer (left_from more lists places) (left_from again lists new) (at_places lists places) (left_is more again lists places new c.loop-more-test.true c.advance-more.ensures.left)

pub binding::holds_for_all-returns-in-Ok-false : goal.binding::holds_for_all-returns-in-Ok-false
binding::holds_for_all-returns-in-Ok-false t c =
    let P : List Val → Outcome (Bool) = λ chosen. TruthOf (Evaluates (table c.args.scene) c.args.depth) (bind (context c.args.scene) chosen) c.args.body.now in
    let lists = map members c.args.lists.now in
    let more = c.loop-more.more in
    let places = c.loop-more.places.items in
    let left = some_left more lists places c.loop-more-test.true (c.loop-more.invariant.1 c.loop-more-test.true) in
    let there = subst (λ (ps : List ℕ). P (at_places lists ps) (Ok c.in-Ok-false.field-0)) c.deref.ensures.value c.in-Ok-false.ensures in
    let decided = subst (λ (b : Bool). P (at_places lists places) (Ok b)) c.in-Ok-false.field-0-test there in
    every_denied P (combinations lists) (left_from more lists places) (at_places lists places) left.0 left.1 decided c.loop-more.invariant.0

pub binding::holds_for_all-returns-in-Err : goal.binding::holds_for_all-returns-in-Err
binding::holds_for_all-returns-in-Err t c =
    let P : List Val → Outcome (Bool) = λ chosen. TruthOf (Evaluates (table c.args.scene) c.args.depth) (bind (context c.args.scene) chosen) c.args.body.now in
    let lists = map members c.args.lists.now in
    let more = c.loop-more.more in
    let places = c.loop-more.places.items in
    let left = some_left more lists places c.loop-more-test.true (c.loop-more.invariant.1 c.loop-more-test.true) in
    let there = subst (λ (ps : List ℕ). Tells {A = Bool} (Err c.in-Err.fault) (P (at_places lists ps))) c.deref.ensures.value c.in-Err.ensures in
    every_stops P (combinations lists) (left_from more lists places) (at_places lists places) left.0 c.in-Err.fault left.1 there c.loop-more.invariant.0

pub binding::holds_for_all-loop-more-preserved : goal.binding::holds_for_all-loop-more-preserved
binding::holds_for_all-loop-more-preserved t c =
    let P : List Val → Outcome (Bool) = λ chosen. TruthOf (Evaluates (table c.args.scene) c.args.depth) (bind (context c.args.scene) chosen) c.args.body.now in
    let lists = map members c.args.lists.now in
    let more = c.loop-more.more in
    let places = c.loop-more.places.items in
    let again = c.advance-more.result in
    let new = c.advance-more.new.places.items in
    let left = left_is more again lists places new c.loop-more-test.true c.advance-more.ensures.left in
    let there = subst (λ (ps : List ℕ). P (at_places lists ps) (Ok c.in-Ok-true.field-0)) c.deref.ensures.value c.in-Ok-true.ensures in
    let decided = subst (λ (b : Bool). P (at_places lists places) (Ok b)) c.in-Ok-true.field-0-test there in
    (every_goes_on P (combinations lists) (left_from more lists places) (at_places lists places) (left_from again lists new) left decided c.loop-more.invariant.0, c.advance-more.ensures.within)

pub binding::holds_for_all-returns : goal.binding::holds_for_all-returns
binding::holds_for_all-returns t c =
    let P : List Val → Outcome (Bool) = λ chosen. TruthOf (Evaluates (table c.args.scene) c.args.depth) (bind (context c.args.scene) chosen) c.args.body.now in
    let lists = map members c.args.lists.now in
    let more = c.loop-more.more in
    let places = c.loop-more.places.items in
    every_ends P (combinations lists) (left_from more lists places) (none_more more lists places c.loop-more-test.false) c.loop-more.invariant.0

pub binding::holds_for_some-loop-more-init : goal.binding::holds_for_some-loop-more-init
binding::holds_for_some-loop-more-init t c =
    let P : List Val → Outcome Bool = λ chosen. TruthOf (Evaluates (table c.args.scene) c.args.depth) (bind (context c.args.scene) chosen) c.args.body.now in
    let lists = map members c.args.lists.now in
    let more = c.has_combination-more.result in
    let places = c.in_ok-places.places.items in
    (any_begins P (combinations lists) (left_from more lists places) (left_begins lists more places c.in_ok-places.ensures c.has_combination-more.ensures), within_begins lists more places c.in_ok-places.ensures c.has_combination-more.ensures)

pub binding::holds_for_some-truth_with-requires : goal.binding::holds_for_some-truth_with-requires
binding::holds_for_some-truth_with-requires t c =
    let lists = map members c.args.lists.now in
    let places = c.deref.result.now in
    let W : List ℕ → Type 0 = λ ps. AreWithin (map members c.args.lists.now) ps in
    let within = subst W (sym c.deref.ensures.value) (c.loop-more.invariant.1 c.loop-more-test.true) in
    (omega (arith, c.decreases), (within, c.requires (at_places lists places) (chosen_length lists places within)))

pub binding::holds_for_some-advance-more-requires : goal.binding::holds_for_some-advance-more-requires
binding::holds_for_some-advance-more-requires t c = c.loop-more.invariant.1 c.loop-more-test.true

pub binding::holds_for_some-loop-more-smaller : goal.binding::holds_for_some-loop-more-smaller
binding::holds_for_some-loop-more-smaller t c =
    let lists = map members c.args.lists.now in
    let more = c.loop-more.more in
    let places = c.loop-more.places.items in
    let again = c.advance-more.result in
    let new = c.advance-more.new.places.items in
    fewer (left_from more lists places) (left_from again lists new) (at_places lists places) (left_is more again lists places new c.loop-more-test.true c.advance-more.ensures.left)

pub binding::holds_for_some-returns-in-Ok-true : goal.binding::holds_for_some-returns-in-Ok-true
binding::holds_for_some-returns-in-Ok-true t c =
    let P : List Val → Outcome (Bool) = λ chosen. TruthOf (Evaluates (table c.args.scene) c.args.depth) (bind (context c.args.scene) chosen) c.args.body.now in
    let lists = map members c.args.lists.now in
    let more = c.loop-more.more in
    let places = c.loop-more.places.items in
    let left = some_left more lists places c.loop-more-test.true (c.loop-more.invariant.1 c.loop-more-test.true) in
    let there = subst (λ (ps : List ℕ). P (at_places lists ps) (Ok c.in-Ok-true.field-0)) c.deref.ensures.value c.in-Ok-true.ensures in
    let decided = subst (λ (b : Bool). P (at_places lists places) (Ok b)) c.in-Ok-true.field-0-test there in
    any_found P (combinations lists) (left_from more lists places) (at_places lists places) left.0 left.1 decided c.loop-more.invariant.0

pub binding::holds_for_some-returns-in-Err : goal.binding::holds_for_some-returns-in-Err
binding::holds_for_some-returns-in-Err t c =
    let P : List Val → Outcome (Bool) = λ chosen. TruthOf (Evaluates (table c.args.scene) c.args.depth) (bind (context c.args.scene) chosen) c.args.body.now in
    let lists = map members c.args.lists.now in
    let more = c.loop-more.more in
    let places = c.loop-more.places.items in
    let left = some_left more lists places c.loop-more-test.true (c.loop-more.invariant.1 c.loop-more-test.true) in
    let there = subst (λ (ps : List ℕ). Tells {A = Bool} (Err c.in-Err.fault) (P (at_places lists ps))) c.deref.ensures.value c.in-Err.ensures in
    any_stops P (combinations lists) (left_from more lists places) (at_places lists places) left.0 c.in-Err.fault left.1 there c.loop-more.invariant.0

pub binding::holds_for_some-loop-more-preserved : goal.binding::holds_for_some-loop-more-preserved
binding::holds_for_some-loop-more-preserved t c =
    let P : List Val → Outcome (Bool) = λ chosen. TruthOf (Evaluates (table c.args.scene) c.args.depth) (bind (context c.args.scene) chosen) c.args.body.now in
    let lists = map members c.args.lists.now in
    let more = c.loop-more.more in
    let places = c.loop-more.places.items in
    let again = c.advance-more.result in
    let new = c.advance-more.new.places.items in
    let left = left_is more again lists places new c.loop-more-test.true c.advance-more.ensures.left in
    let there = subst (λ (ps : List ℕ). P (at_places lists ps) (Ok c.in-Ok-false.field-0)) c.deref.ensures.value c.in-Ok-false.ensures in
    let decided = subst (λ (b : Bool). P (at_places lists places) (Ok b)) c.in-Ok-false.field-0-test there in
    (any_goes_on P (combinations lists) (left_from more lists places) (at_places lists places) (left_from again lists new) left decided c.loop-more.invariant.0, c.advance-more.ensures.within)

pub binding::holds_for_some-returns : goal.binding::holds_for_some-returns
binding::holds_for_some-returns t c =
    let P : List Val → Outcome (Bool) = λ chosen. TruthOf (Evaluates (table c.args.scene) c.args.depth) (bind (context c.args.scene) chosen) c.args.body.now in
    let lists = map members c.args.lists.now in
    let more = c.loop-more.more in
    let places = c.loop-more.places.items in
    any_ends P (combinations lists) (left_from more lists places) (none_more more lists places c.loop-more-test.false) c.loop-more.invariant.0

pub binding::values_for_each-loop-more-init : goal.binding::values_for_each-loop-more-init
binding::values_for_each-loop-more-init t c =
    let P : List Val → Outcome (Val) = λ chosen. Evaluates (table c.args.scene) c.args.depth (bind (context c.args.scene) chosen) c.args.term.now in
    let lists = map members c.args.lists.now in
    let more = c.has_combination-more.result in
    let places = c.in_ok-places.places.items in
    let begun = left_begins lists more places c.in_ok-places.ensures c.has_combination-more.ensures in (
      subst (λ (ys : List (Val)). EachFrom P (combinations lists) (left_from more lists places) ys) (sym c.new-values.ensures.items) (each_from_begins P (combinations lists) (left_from more lists places) begun),
      within_begins lists more places c.in_ok-places.ensures c.has_combination-more.ensures,
    )

pub binding::values_for_each-eval_with-requires : goal.binding::values_for_each-eval_with-requires
binding::values_for_each-eval_with-requires t c =
    let lists = map members c.args.lists.now in
    let places = c.deref.result.now in
    let W : List ℕ → Type 0 = λ ps. AreWithin (map members c.args.lists.now) ps in
    let within = subst W (sym c.deref.ensures.value) (c.loop-more.invariant.1 c.loop-more-test.true) in
    (omega (arith, c.decreases), (within, c.requires (at_places lists places) (chosen_length lists places within)))

pub binding::values_for_each-advance-more-requires : goal.binding::values_for_each-advance-more-requires
binding::values_for_each-advance-more-requires t c = c.loop-more.invariant.1 c.loop-more-test.true

pub binding::values_for_each-loop-more-smaller : goal.binding::values_for_each-loop-more-smaller
binding::values_for_each-loop-more-smaller t c =
    let lists = map members c.args.lists.now in
    let more = c.loop-more.more in
    let places = c.loop-more.places.items in
    let again = c.advance-more.result in
    let new = c.advance-more.new.places.items in
    fewer (left_from more lists places) (left_from again lists new) (at_places lists places) (left_is more again lists places new c.loop-more-test.true c.advance-more.ensures.left)

pub binding::values_for_each-returns-in-Err-clause-fault : goal.binding::values_for_each-returns-in-Err-clause-fault
binding::values_for_each-returns-in-Err-clause-fault t c =
    let P : List Val → Outcome (Val) = λ chosen. Evaluates (table c.args.scene) c.args.depth (bind (context c.args.scene) chosen) c.args.term.now in
    let lists = map members c.args.lists.now in
    let more = c.loop-more.more in
    let places = c.loop-more.places.items in
    let left = some_left more lists places c.loop-more-test.true (c.loop-more.invariant.1 c.loop-more-test.true) in
    let there = subst (λ (ps : List ℕ). Tells {A = Val} (Err c.in-Err.fault) (P (at_places lists ps))) c.deref.ensures.value c.in-Err.ensures in
    each_from_stops P (combinations lists) (left_from more lists places) (at_places lists places) left.0 c.loop-more.values.items c.in-Err.fault left.1 there c.loop-more.invariant.0

pub binding::values_for_each-loop-more-preserved : goal.binding::values_for_each-loop-more-preserved
binding::values_for_each-loop-more-preserved t c =
    let P : List Val → Outcome (Val) = λ chosen. Evaluates (table c.args.scene) c.args.depth (bind (context c.args.scene) chosen) c.args.term.now in
    let lists = map members c.args.lists.now in
    let more = c.loop-more.more in
    let places = c.loop-more.places.items in
    let again = c.advance-more.result in
    let new = c.advance-more.new.places.items in
    let left = left_is more again lists places new c.loop-more-test.true c.advance-more.ensures.left in
    let there = subst (λ (ps : List ℕ). P (at_places lists ps) (Ok c.in-Ok.value)) c.deref.ensures.value c.in-Ok.ensures in
    (subst (λ (ys : List (Val)). EachFrom P (combinations lists) (left_from again lists new) ys) (sym c.in_ok-push-in-Ok.ensures) (each_from_goes_on P (combinations lists) (left_from more lists places) (at_places lists places) (left_from again lists new) c.loop-more.values.items c.in-Ok.value left there c.loop-more.invariant.0), c.advance-more.ensures.within)

pub binding::values_for_each-returns-clause-values : goal.binding::values_for_each-returns-clause-values
binding::values_for_each-returns-clause-values t c =
    let P : List Val → Outcome (Val) = λ chosen. Evaluates (table c.args.scene) c.args.depth (bind (context c.args.scene) chosen) c.args.term.now in
    let lists = map members c.args.lists.now in
    let more = c.loop-more.more in
    let places = c.loop-more.places.items in
    each_from_ends P (combinations lists) (left_from more lists places) c.loop-more.values.items (none_more more lists places c.loop-more-test.false) c.loop-more.invariant.0

pub binding::pairs_for_each-loop-more-init : goal.binding::pairs_for_each-loop-more-init
binding::pairs_for_each-loop-more-init t c =
    let P : List Val → Outcome (Val × Val) = PairOf (Evaluates (table c.args.scene) c.args.depth) (context c.args.scene) c.args.at c.args.term.now in
    let lists = map members c.args.lists.now in
    let more = c.has_combination-more.result in
    let places = c.in_ok-places.places.items in
    let begun = left_begins lists more places c.in_ok-places.ensures c.has_combination-more.ensures in (
      subst (λ (ys : List (Val × Val)). EachFrom P (combinations lists) (left_from more lists places) ys) (sym c.new-pairs.ensures.items) (each_from_begins P (combinations lists) (left_from more lists places) begun),
      within_begins lists more places c.in_ok-places.ensures c.has_combination-more.ensures,
    )

pub binding::pairs_for_each-pair_with-requires : goal.binding::pairs_for_each-pair_with-requires
binding::pairs_for_each-pair_with-requires t c =
    let lists = map members c.args.lists.now in
    let places = c.deref.result.now in
    let W : List ℕ → Type 0 = λ ps. AreWithin (map members c.args.lists.now) ps in
    let within = subst W (sym c.deref.ensures.value) (c.loop-more.invariant.1 c.loop-more-test.true) in
    (omega (arith, c.decreases), (within, c.requires (at_places lists places) (chosen_length lists places within)))

pub binding::pairs_for_each-advance-more-requires : goal.binding::pairs_for_each-advance-more-requires
binding::pairs_for_each-advance-more-requires t c = c.loop-more.invariant.1 c.loop-more-test.true

pub binding::pairs_for_each-loop-more-smaller : goal.binding::pairs_for_each-loop-more-smaller
binding::pairs_for_each-loop-more-smaller t c =
    let lists = map members c.args.lists.now in
    let more = c.loop-more.more in
    let places = c.loop-more.places.items in
    let again = c.advance-more.result in
    let new = c.advance-more.new.places.items in
    fewer (left_from more lists places) (left_from again lists new) (at_places lists places) (left_is more again lists places new c.loop-more-test.true c.advance-more.ensures.left)

pub binding::pairs_for_each-returns-in-Err-clause-fault : goal.binding::pairs_for_each-returns-in-Err-clause-fault
binding::pairs_for_each-returns-in-Err-clause-fault t c =
    let P : List Val → Outcome (Val × Val) = PairOf (Evaluates (table c.args.scene) c.args.depth) (context c.args.scene) c.args.at c.args.term.now in
    let lists = map members c.args.lists.now in
    let more = c.loop-more.more in
    let places = c.loop-more.places.items in
    let left = some_left more lists places c.loop-more-test.true (c.loop-more.invariant.1 c.loop-more-test.true) in
    let there = subst (λ (ps : List ℕ). Tells {A = Val × Val} (Err c.in-Err.fault) (P (at_places lists ps))) c.deref.ensures.value c.in-Err.ensures in
    each_from_stops P (combinations lists) (left_from more lists places) (at_places lists places) left.0 c.loop-more.pairs.items c.in-Err.fault left.1 there c.loop-more.invariant.0

pub binding::pairs_for_each-loop-more-preserved : goal.binding::pairs_for_each-loop-more-preserved
binding::pairs_for_each-loop-more-preserved t c =
    let P : List Val → Outcome (Val × Val) = PairOf (Evaluates (table c.args.scene) c.args.depth) (context c.args.scene) c.args.at c.args.term.now in
    let lists = map members c.args.lists.now in
    let more = c.loop-more.more in
    let places = c.loop-more.places.items in
    let again = c.advance-more.result in
    let new = c.advance-more.new.places.items in
    let left = left_is more again lists places new c.loop-more-test.true c.advance-more.ensures.left in
    let there = subst (λ (ps : List ℕ). P (at_places lists ps) (Ok c.in-Ok.pair)) c.deref.ensures.value c.in-Ok.ensures in
    (subst (λ (ys : List (Val × Val)). EachFrom P (combinations lists) (left_from again lists new) ys) (sym c.in_ok-push-in-Ok.ensures) (each_from_goes_on P (combinations lists) (left_from more lists places) (at_places lists places) (left_from again lists new) c.loop-more.pairs.items c.in-Ok.pair left there c.loop-more.invariant.0), c.advance-more.ensures.within)

pub binding::pairs_for_each-returns-clause-pairs : goal.binding::pairs_for_each-returns-clause-pairs
binding::pairs_for_each-returns-clause-pairs t c =
    let P : List Val → Outcome (Val × Val) = PairOf (Evaluates (table c.args.scene) c.args.depth) (context c.args.scene) c.args.at c.args.term.now in
    let lists = map members c.args.lists.now in
    let more = c.loop-more.more in
    let places = c.loop-more.places.items in
    each_from_ends P (combinations lists) (left_from more lists places) c.loop-more.pairs.items (none_more more lists places c.loop-more-test.false) c.loop-more.invariant.0

pub evaluate::eval_node-returns-in-Map : goal.evaluate::eval_node-returns-in-Map
evaluate::eval_node-returns-in-Map t c = rw (c.in-Map.is) c.eval_map.ensures

pub evaluate::eval_node-returns-in-Function : goal.evaluate::eval_node-returns-in-Function
evaluate::eval_node-returns-in-Function t c = rw (c.in-Function.is) c.eval_function.ensures

pub evaluate::eval_node-returns-in-Quantified : goal.evaluate::eval_node-returns-in-Quantified
evaluate::eval_node-returns-in-Quantified t c =
    let P = QuantifiedEvaluates (Evaluates (table c.args.scene) c.args.depth) (context c.args.scene) c.in-Quantified.quantifier c.in-Quantified.bounds c.in-Quantified.body in
    rw (c.in-Quantified.is, c.truth_value-in-Quantified.ensures) (truth_told P c.eval_quantified.result c.eval_quantified.ensures)

-- rows of records, changes and steps

pub operations::eval_records-returns-in-Ok : goal.operations::eval_records-returns-in-Ok
operations::eval_records-returns-in-Ok t c =
    tells_then (RecordsDescribed (Describes (table c.args.scene) c.args.depth) (context c.args.scene) c.args.fields.now) (list_at c.args.at) c.in-Ok.set c.list_at.result c.in-Ok.ensures.fine c.list_at.ensures

pub describing::describe_records-records_of-requires-clause-different : goal.describing::describe_records-records_of-requires-clause-different
describing::describe_records-records_of-requires-clause-different t c =
    parts_differ (Describes (table c.args.scene) c.args.depth) (context c.args.scene) (fields_list c.args.fields.now) c.in-Ok.parts.items c.requires.different c.in-Ok.ensures.parts

pub describing::describe_records-returns-in-Ok-clause-fine : goal.describing::describe_records-returns-in-Ok-clause-fine
describing::describe_records-returns-in-Ok-clause-fine t c =
    let P = FieldDescribed (Describes (table c.args.scene) c.args.depth) (context c.args.scene) in
    tells_then (Each P (fields_list c.args.fields.now)) (λ ds. Then (Each SetOfField ds) (λ es. Gives (Records (fields_of es)))) (map part_item c.in-Ok.parts.items) c.records_of.result c.in-Ok.ensures.parts c.records_of.ensures.fine

pub describing::describe_records-returns-in-Err-clause-fine : goal.describing::describe_records-returns-in-Err-clause-fine
describing::describe_records-returns-in-Err-clause-fine t c =
    let P = FieldDescribed (Describes (table c.args.scene) c.args.depth) (context c.args.scene) in
    stops_then (Each P (fields_list c.args.fields.now)) (λ ds. Then (Each SetOfField ds) (λ es. Gives (Records (fields_of es)))) c.in-Err.fault c.in-Err.ensures.fault

pub describing::describe_fields-loop-field-init : goal.describing::describe_fields-loop-field-init
describing::describe_fields-loop-field-init t c =
    let P = FieldDescribed (Describes (table c.args.scene) c.args.depth) (context c.args.scene) in
    let items = c.items-field-items.result.now in
    let are = fields_are items c.args.fields.now c.items-field-items.ensures in (
      subst (λ (ys : List Part). EachSoFar P (map field_item items) 0 (map part_item ys)) (sym c.new-parts.ensures.items) (each_begins P (map field_item items)),
      subst (λ (fs : List (List ℕ × Term)). ReadsEach (Reads (table c.args.scene) c.args.depth) (context c.args.scene) (map (λ (f : List ℕ × Term). f.1) fs)) (sym are) c.requires,
      subst (λ (ys : List Part). All (λ (p : Part). IsReady p.set) ys) (sym c.new-parts.ensures.items) (All-nil (λ (p : Part). IsReady p.set)),
    )

pub describing::describe_fields-describe_field-requires : goal.describing::describe_fields-describe_field-requires
describing::describe_fields-describe_field-requires t c =
    let items = c.items-field-items.result.now in
    let i = c.loop-field.field-index in
    let below : c.loop-field.field-index < length c.items-field-items.result.now = omega arith in
    let cut = cut_mapped field_item items i c.field-item.result (cut_at items i c.field-item.result below c.field-item.is) in
    (omega (arith, c.decreases), (fields_read (Reads (table c.args.scene) c.args.depth) (context c.args.scene) (map field_item items) i (field_item c.field-item.result) cut c.loop-field.invariant.1).0)

pub describing::describe_fields-returns-in-Err-clause-fault : goal.describing::describe_fields-returns-in-Err-clause-fault
describing::describe_fields-returns-in-Err-clause-fault t c =
    let P = FieldDescribed (Describes (table c.args.scene) c.args.depth) (context c.args.scene) in
    let items = c.items-field-items.result.now in
    let are = fields_are items c.args.fields.now c.items-field-items.ensures in
    let i = c.loop-field.field-index in
    let below : c.loop-field.field-index < length c.items-field-items.result.now = omega arith in
    let cut = cut_mapped field_item items i c.field-item.result (cut_at items i c.field-item.result below c.field-item.is) in
    subst (λ (fs : List (List ℕ × Term)). Stops (Each P fs) c.in-Err.fault) are (each_stops P (map field_item items) i (field_item c.field-item.result) (map part_item c.loop-field.parts.items) c.in-Err.fault cut (stops_tells (P (field_item c.field-item.result)) c.in-Err.fault c.in-Err.ensures.fault) c.loop-field.invariant.0)

pub describing::describe_fields-loop-field-preserved : goal.describing::describe_fields-loop-field-preserved
describing::describe_fields-loop-field-preserved t c =
    let P = FieldDescribed (Describes (table c.args.scene) c.args.depth) (context c.args.scene) in
    let items = c.items-field-items.result.now in
    let xs = map field_item c.items-field-items.result.now in
    let i = c.loop-field.field-index in
    let below : c.loop-field.field-index < length c.items-field-items.result.now = omega arith in
    let cut = cut_mapped field_item items i c.field-item.result (cut_at items i c.field-item.result below c.field-item.is) in
    let ready = λ (p : Part). IsReady p.set in
    let grown = ap (map part_item) c.in_ok-push-in-Ok.ensures ∙ map-append part_item c.loop-field.parts.items (c.in-Ok.part ∷ []) in (
      subst (λ (ys : List (List ℕ × Place × Described)). EachSoFar P xs (i + 1) ys) (sym grown) (each_goes_on P xs i (field_item c.field-item.result) (map part_item c.loop-field.parts.items) (part_item c.in-Ok.part) cut c.in-Ok.ensures.part c.loop-field.invariant.0),
      (fields_read (Reads (table c.args.scene) c.args.depth) (context c.args.scene) xs i (field_item c.field-item.result) cut c.loop-field.invariant.1).1,
      subst (λ (ys : List Part). All ready ys) (sym c.in_ok-push-in-Ok.ensures) (All-push ready c.loop-field.parts.items c.in-Ok.part c.loop-field.invariant.2 c.in-Ok.ensures.ready),
    )

pub describing::describe_fields-returns-clause-parts : goal.describing::describe_fields-returns-clause-parts
describing::describe_fields-returns-clause-parts t c =
    let P = FieldDescribed (Describes (table c.args.scene) c.args.depth) (context c.args.scene) in
    let items = c.items-field-items.result.now in
    let xs = map field_item c.items-field-items.result.now in
    let are = fields_are items c.args.fields.now c.items-field-items.ensures in
    let i = c.loop-field.field-index in
    let passed : length c.items-field-items.result.now ≤ c.loop-field.field-index = omega arith in
    let over : length xs ≤ c.loop-field.field-index = omega (arith, passed, length-map c.items-field-items.result.now field_item) in
    subst (λ (fs : List (List ℕ × Term)). Each P fs (Ok (map part_item c.loop-field.parts.items))) are (each_ends P xs i (map part_item c.loop-field.parts.items) over c.loop-field.invariant.0)

pub stepping::eval_except-returns-in-Ok : goal.stepping::eval_except-returns-in-Ok
stepping::eval_except-returns-in-Ok t c =
    let ev = Evaluates (table c.args.scene) c.args.depth in
    tells_then (ev (context c.args.scene) c.args.base.now) (AllChanged ev (context c.args.scene) c.args.at (place_of c.args.base.now) (changes_list c.args.changes.now)) c.in-Ok.value c.all_changed.result c.in-Ok.ensures c.all_changed.ensures

pub stepping::all_changed-loop-change-init : goal.stepping::all_changed-loop-change-init
stepping::all_changed-loop-change-init t c =
    let are = changes_are c.items-change-items.result.now c.args.changes.now c.items-change-items.ensures in
    ((λ r h. h), subst (λ (cs : List (Steps × Term)). ChangesRead (Reads (table c.args.scene) c.args.depth) (context c.args.scene) cs) (sym are) c.requires)

pub stepping::all_changed-changed-requires : goal.stepping::all_changed-changed-requires
stepping::all_changed-changed-requires t c =
    let items = c.items-change-items.result.now in
    let i = c.loop-change.change-index in
    let below : c.loop-change.change-index < length c.items-change-items.result.now = omega arith in
    let cut = cut_mapped change_item items i c.change-item.result (cut_at items i c.change-item.result below c.change-item.is) in
    let read = changes_read (Reads (table c.args.scene) c.args.depth) (context c.args.scene) (map change_item items) i (change_item c.change-item.result) cut c.loop-change.invariant.1 in
    (omega (arith, c.decreases), (read.0, read.1))

pub stepping::all_changed-returns-in-Err : goal.stepping::all_changed-returns-in-Err
stepping::all_changed-returns-in-Err t c =
    let ev = Evaluates (table c.args.scene) c.args.depth in
    let ctx = context c.args.scene in
    let base = place_of c.args.base.now in
    let items = c.items-change-items.result.now in
    let are = changes_are items c.args.changes.now c.items-change-items.ensures in
    let i = c.loop-change.change-index in
    let below : c.loop-change.change-index < length c.items-change-items.result.now = omega arith in
    let cut = cut_mapped change_item items i c.change-item.result (cut_at items i c.change-item.result below c.change-item.is) in
    subst (λ (cs : List (Steps × Term)). Tells {A = Val} (Err c.in-Err.fault) (AllChanged ev ctx c.args.at base cs c.args.value)) are
    (changes_stop ev ctx c.args.at base (map change_item items) c.args.value i c.loop-change.value (change_item c.change-item.result) c.in-Err.fault cut c.in-Err.ensures c.loop-change.invariant.0)

pub stepping::all_changed-loop-change-preserved : goal.stepping::all_changed-loop-change-preserved
stepping::all_changed-loop-change-preserved t c =
    let ev = Evaluates (table c.args.scene) c.args.depth in
    let ctx = context c.args.scene in
    let base = place_of c.args.base.now in
    let items = c.items-change-items.result.now in
    let i = c.loop-change.change-index in
    let below : c.loop-change.change-index < length c.items-change-items.result.now = omega arith in
    let cut = cut_mapped change_item items i c.change-item.result (cut_at items i c.change-item.result below c.change-item.is) in (
      changes_go_on ev ctx c.args.at base (map change_item items) c.args.value i c.loop-change.value (change_item c.change-item.result) c.in-Ok.made cut c.in-Ok.ensures c.loop-change.invariant.0,
      (changes_read (Reads (table c.args.scene) c.args.depth) ctx (map change_item items) i (change_item c.change-item.result) cut c.loop-change.invariant.1).2,
    )

pub stepping::all_changed-returns : goal.stepping::all_changed-returns
stepping::all_changed-returns t c =
    let ev = Evaluates (table c.args.scene) c.args.depth in
    let ctx = context c.args.scene in
    let base = place_of c.args.base.now in
    let items = c.items-change-items.result.now in
    let xs = map change_item c.items-change-items.result.now in
    let are = changes_are items c.args.changes.now c.items-change-items.ensures in
    let passed : length c.items-change-items.result.now ≤ c.loop-change.change-index = omega arith in
    let over : length xs ≤ c.loop-change.change-index = omega (arith, passed, length-map c.items-change-items.result.now change_item) in
    subst (λ (cs : List (Steps × Term)). AllChanged ev ctx c.args.at base cs c.args.value (Ok c.loop-change.value)) are (changes_end ev ctx c.args.at base xs c.args.value c.loop-change.change-index c.loop-change.value over c.loop-change.invariant.0)

pub stepping::changed-loop-item-init : goal.stepping::changed-loop-item-init
stepping::changed-loop-item-init t c =
    let ev = Evaluates (table c.args.scene) c.args.depth in
    let ctx = context c.args.scene in
    let xs = map bare c.items-item-items.result.now in
    let are = path_is c.items-item-items.result.now c.args.path.now c.items-item-items.ensures in (
      subst (λ (ls : List Layer). ChangeSoFar ev ctx c.args.at (place_of c.args.base.now) c.args.new.now xs c.args.value.now 0 ls c.args.value.now) (sym c.new-layers.ensures.items) (λ r h. h),
      subst (λ (path : List Step). PathReads (Reads (table c.args.scene) c.args.depth) ctx path) (sym are) c.requires.path,
    )

pub stepping::changed-step_key-requires : goal.stepping::changed-step_key-requires
stepping::changed-step_key-requires t c =
    let items = c.items-item-items.result.now in
    let i = c.loop-item.item-index in
    let below : c.loop-item.item-index < length c.items-item-items.result.now = omega arith in
    let cut = cut_mapped bare items i c.item-item.result (cut_at items i c.item-item.result below c.item-item.is) in
    let read = path_reads (Reads (table c.args.scene) c.args.depth) (context c.args.scene) (map bare items) i (bare c.item-item.result) cut c.loop-item.invariant.1 in
    (omega (arith, c.decreases), (read.0, read.1))

pub stepping::changed-returns-in-Ok-None : goal.stepping::changed-returns-in-Ok-None
stepping::changed-returns-in-Ok-None t c =
    let ev = Evaluates (table c.args.scene) c.args.depth in
    let ctx = context c.args.scene in
    let at = c.args.at in
    let base = place_of c.args.base.now in
    let new = c.args.new.now in
    let items = c.items-item-items.result.now in
    let xs = map bare c.items-item-items.result.now in
    let are = path_is items c.args.path.now c.items-item-items.ensures in
    let i = c.loop-item.item-index in
    let below : c.loop-item.item-index < length c.items-item-items.result.now = omega arith in
    let cut = cut_mapped bare items i c.item-item.result (cut_at items i c.item-item.result below c.item-item.is) in
    let s = bare c.item-item.result in
    let r = c.rebuilt_same.result in
    let gone = subst (λ (o : Option (Bor Val)). InsideAt base c.loop-item.inner.now c.in-Ok.key (Ok (option_copied o))) c.in-Ok-None.field-0-is c.in-Ok-None.ensures.inside in
    subst (λ (path : List Step). Tells r (Changed ev ctx at base path new c.args.value.now)) are
    (change_stays ev ctx at base new xs c.args.value.now i c.loop-item.layers.items c.loop-item.inner.now s c.in-Ok.key r cut c.in-Ok.ensures gone c.rebuilt_same.ensures c.loop-item.invariant.0)

pub stepping::changed-returns-in-Err : goal.stepping::changed-returns-in-Err
stepping::changed-returns-in-Err t c =
    let ev = Evaluates (table c.args.scene) c.args.depth in
    let ctx = context c.args.scene in
    let at = c.args.at in
    let base = place_of c.args.base.now in
    let new = c.args.new.now in
    let items = c.items-item-items.result.now in
    let xs = map bare c.items-item-items.result.now in
    let are = path_is items c.args.path.now c.items-item-items.ensures in
    let i = c.loop-item.item-index in
    let below : c.loop-item.item-index < length c.items-item-items.result.now = omega arith in
    let cut = cut_mapped bare items i c.item-item.result (cut_at items i c.item-item.result below c.item-item.is) in
    let s = bare c.item-item.result in
    subst (λ (path : List Step). Tells {A = Val} (Err c.in-Err.fault) (Changed ev ctx at base path new c.args.value.now)) are
    (change_stops ev ctx at base new xs c.args.value.now i c.loop-item.layers.items c.loop-item.inner.now s c.in-Err.fault cut c.in-Err.ensures c.loop-item.invariant.0)

pub stepping::changed-returns-in-Err-inside_at : goal.stepping::changed-returns-in-Err-inside_at
stepping::changed-returns-in-Err-inside_at t c =
    let ev = Evaluates (table c.args.scene) c.args.depth in
    let ctx = context c.args.scene in
    let at = c.args.at in
    let base = place_of c.args.base.now in
    let new = c.args.new.now in
    let items = c.items-item-items.result.now in
    let xs = map bare c.items-item-items.result.now in
    let are = path_is items c.args.path.now c.items-item-items.ensures in
    let i = c.loop-item.item-index in
    let below : c.loop-item.item-index < length c.items-item-items.result.now = omega arith in
    let cut = cut_mapped bare items i c.item-item.result (cut_at items i c.item-item.result below c.item-item.is) in
    let s = bare c.item-item.result in
    let f = c.in-Err-inside_at.fault in
    subst (λ (path : List Step). Tells {A = Val} (Err f) (Changed ev ctx at base path new c.args.value.now)) are
    (change_refused ev ctx at base new xs c.args.value.now i c.loop-item.layers.items c.loop-item.inner.now s c.in-Ok.key f cut c.in-Ok.ensures (stops_tells (InsideAt base c.loop-item.inner.now c.in-Ok.key) f c.in-Err-inside_at.ensures.fault) c.loop-item.invariant.0)

pub stepping::changed-loop-item-preserved : goal.stepping::changed-loop-item-preserved
stepping::changed-loop-item-preserved t c =
    let ev = Evaluates (table c.args.scene) c.args.depth in
    let ctx = context c.args.scene in
    let at = c.args.at in
    let base = place_of c.args.base.now in
    let new = c.args.new.now in
    let items = c.items-item-items.result.now in
    let xs = map bare c.items-item-items.result.now in
    let are = path_is items c.args.path.now c.items-item-items.ensures in
    let i = c.loop-item.item-index in
    let below : c.loop-item.item-index < length c.items-item-items.result.now = omega arith in
    let cut = cut_mapped bare items i c.item-item.result (cut_at items i c.item-item.result below c.item-item.is) in
    let s = bare c.item-item.result in
    let v = c.loop-item.inner.now in
    let w = c.in-Ok-Some.inside.now in
    let found = subst (λ (o : Option (Bor Val)). InsideAt base c.loop-item.inner.now c.in-Ok.key (Ok (option_copied o))) c.in-Ok-Some.field-0-is c.in-Ok-Some.ensures.inside in
    let l : Layer = record { function = c.loop-item.inner; key = c.in-Ok.key } in (
      change_goes_on ev ctx at base new xs c.args.value.now i c.loop-item.layers.items c.push.new.items.items v s l w cut c.in-Ok.ensures found refl c.in_ok-push-in-Ok-Some.ensures c.loop-item.invariant.0,
      (path_reads (Reads (table c.args.scene) c.args.depth) ctx xs i s cut c.loop-item.invariant.1).2,
    )

pub stepping::changed-returns-in-Ok-eval_new : goal.stepping::changed-returns-in-Ok-eval_new
stepping::changed-returns-in-Ok-eval_new t c =
    let ev = Evaluates (table c.args.scene) c.args.depth in
    let ctx = context c.args.scene in
    let at = c.args.at in
    let base = place_of c.args.base.now in
    let new = c.args.new.now in
    let items = c.items-item-items.result.now in
    let xs = map bare c.items-item-items.result.now in
    let are = path_is items c.args.path.now c.items-item-items.ensures in
    let i = c.loop-item.item-index in
    let passed : length c.items-item-items.result.now ≤ c.loop-item.item-index = omega arith in
    let over : length xs ≤ c.loop-item.item-index = omega (arith, passed, length-map c.items-item-items.result.now bare) in
    let r = c.rebuilt.result in
    subst (λ (path : List Step). Tells r (Changed ev ctx at base path new c.args.value.now)) are
    (change_made ev ctx at base new xs c.args.value.now i c.loop-item.layers.items c.loop-item.inner.now c.in-Ok-eval_new.made r over c.in-Ok-eval_new.ensures c.rebuilt.ensures c.loop-item.invariant.0)

pub stepping::changed-returns-in-Err-eval_new : goal.stepping::changed-returns-in-Err-eval_new
stepping::changed-returns-in-Err-eval_new t c =
    let ev = Evaluates (table c.args.scene) c.args.depth in
    let ctx = context c.args.scene in
    let at = c.args.at in
    let base = place_of c.args.base.now in
    let new = c.args.new.now in
    let items = c.items-item-items.result.now in
    let xs = map bare c.items-item-items.result.now in
    let are = path_is items c.args.path.now c.items-item-items.ensures in
    let i = c.loop-item.item-index in
    let passed : length c.items-item-items.result.now ≤ c.loop-item.item-index = omega arith in
    let over : length xs ≤ c.loop-item.item-index = omega (arith, passed, length-map c.items-item-items.result.now bare) in
    let f = c.in-Err-eval_new.fault in
    subst (λ (path : List Step). Tells {A = Val} (Err f) (Changed ev ctx at base path new c.args.value.now)) are
    (change_unmade ev ctx at base new xs c.args.value.now i c.loop-item.layers.items c.loop-item.inner.now f over c.in-Err-eval_new.ensures c.loop-item.invariant.0)

pub stepping::eval_new-eval-requires : goal.stepping::eval_new-eval-requires
stepping::eval_new-eval-requires t c =
    let is = ap (λ (n : TermNode). Placed c.new.inside.at c.new.inside.level (node_view n)) (sym c.in-Known.is ∙ c.deref.ensures) ∙ c.new.view_is in
    (omega (arith, c.decreases), known_reads (table c.args.scene) c.args.depth (context c.args.scene) _ _ _ _ is)

pub stepping::eval_new-returns-in-Known : goal.stepping::eval_new-returns-in-Known
stepping::eval_new-returns-in-Known t c =
    let is = ap (λ (n : TermNode). Placed c.new.inside.at c.new.inside.level (node_view n)) (sym c.in-Known.is ∙ c.deref.ensures) ∙ c.new.view_is in
    known_told (table c.args.scene) c.args.depth (context c.args.scene) (bind (context c.args.scene) (c.args.old.now ∷ [])) _ _ _ _ c.eval.result is c.eval.ensures

pub stepping::eval_key-returns-then-len-eq1 : goal.stepping::eval_key-returns-then-len-eq1
stepping::eval_key-returns-then-len-eq1 t c =
    one_key (Evaluates (table c.args.scene) c.args.depth (context c.args.scene)) c.args.at c.only_term.result.now (terms_list c.args.items.now) c.eval.result c.only_term.ensures c.eval.ensures

pub stepping::eval_key-returns-in-Ok : goal.stepping::eval_key-returns-in-Ok
stepping::eval_key-returns-in-Ok t c =
    tells_then (Each (Evaluates (table c.args.scene) c.args.depth (context c.args.scene)) (terms_list c.args.items.now)) (KeyOf c.args.at) c.in-Ok.values.items c.key_of.result c.in-Ok.ensures.values c.key_of.ensures

pub stepping::eval_key-returns-in-Err : goal.stepping::eval_key-returns-in-Err
stepping::eval_key-returns-in-Err t c =
    stops_then (Each (Evaluates (table c.args.scene) c.args.depth (context c.args.scene)) (terms_list c.args.items.now)) (KeyOf c.args.at) c.in-Err.fault c.in-Err.ensures.fault

pub stepping::eval_postfix-eval_steps-requires : goal.stepping::eval_postfix-eval_steps-requires
stepping::eval_postfix-eval_steps-requires t c =
    let read = subst (λ (s : StepGiven). StepsRead (table c.args.scene) (Reads (table c.args.scene) c.args.depth) (context c.args.scene) c.args.base.now (term.MoreSteps c.args.steps.now c.args.at (step_view s))) c.in-Prime.is c.requires in
    (omega (arith, c.decreases), rw (c.primed.ensures.table, c.primed.ensures.context) read)

pub stepping::eval_postfix-returns-in-Prime : goal.stepping::eval_postfix-returns-in-Prime
stepping::eval_postfix-returns-in-Prime t c =
    let r = c.eval_steps.result in
    let e = c.args.base.now in
    let ss = c.args.steps.now in
    let d = c.args.depth in
    let same = subst (λ (ops : Table). Tells r (StepsEvaluate ops (Evaluates ops d) (Describes ops d) (context c.primed.result) e ss)) c.primed.ensures.table c.eval_steps.ensures in
    let ops = table c.args.scene in
    let told = subst (λ (x : Context). Tells r (StepsEvaluate ops (Evaluates ops d) (Describes ops d) x e ss)) c.primed.ensures.context same in
    subst (λ (s : StepGiven). Tells r (StepsEvaluate ops (Evaluates ops d) (Describes ops d) (context c.args.scene) e (term.MoreSteps ss c.args.at (step_view s)))) (sym c.in-Prime.is) told

pub stepping::eval_postfix-eval_last-requires : goal.stepping::eval_postfix-eval_last-requires
stepping::eval_postfix-eval_last-requires t c =
    let key = subst (λ (s : StepGiven). HasKey (step_view s)) (sym c.in-Index.is) tt in
    let read = last_reads (table c.args.scene) (Reads (table c.args.scene) c.args.depth) (context c.args.scene) c.args.base.now c.args.steps.now c.args.at (step_view c.args.last.now) key c.requires in
    (omega (arith, c.decreases), (key, (read.0, (read.1, read.2))))

pub stepping::eval_postfix-returns-in-Index : goal.stepping::eval_postfix-returns-in-Index
stepping::eval_postfix-returns-in-Index t c =
    let key = subst (λ (s : StepGiven). HasKey (step_view s)) (sym c.in-Index.is) tt in
    last_told (table c.args.scene) (Evaluates (table c.args.scene) c.args.depth) (Describes (table c.args.scene) c.args.depth) (context c.args.scene) c.args.base.now c.args.steps.now c.args.at (step_view c.args.last.now) c.eval_last.result key c.eval_last.ensures

pub stepping::eval_postfix-eval_last-requires-in-Field : goal.stepping::eval_postfix-eval_last-requires-in-Field
stepping::eval_postfix-eval_last-requires-in-Field t c =
    let key = subst (λ (s : StepGiven). HasKey (step_view s)) (sym c.in-Field.is) tt in
    let read = last_reads (table c.args.scene) (Reads (table c.args.scene) c.args.depth) (context c.args.scene) c.args.base.now c.args.steps.now c.args.at (step_view c.args.last.now) key c.requires in
    (omega (arith, c.decreases), (key, (read.0, (read.1, read.2))))

pub stepping::eval_postfix-returns-in-Field : goal.stepping::eval_postfix-returns-in-Field
stepping::eval_postfix-returns-in-Field t c =
    let key = subst (λ (s : StepGiven). HasKey (step_view s)) (sym c.in-Field.is) tt in
    last_told (table c.args.scene) (Evaluates (table c.args.scene) c.args.depth) (Describes (table c.args.scene) c.args.depth) (context c.args.scene) c.args.base.now c.args.steps.now c.args.at (step_view c.args.last.now) c.eval_last-in-Field.result key c.eval_last-in-Field.ensures

pub stepping::eval_last-eval_recursion-requires : goal.stepping::eval_last-eval_recursion-requires
stepping::eval_last-eval_recursion-requires t c =
    let part = Reads (table c.args.scene) c.args.depth in
    let function = subst (λ (x : Option Seen). RecursionReads part (context c.args.scene) x) (sym c.in-Some.ensures) c.requires.function in
    (omega (arith, c.decreases), (c.requires.key, (c.requires.last, function)))

pub stepping::eval_last-returns-in-Some : goal.stepping::eval_last-returns-in-Some
stepping::eval_last-returns-in-Some t c =
    let ops = table c.args.scene in
    let ev = Evaluates (table c.args.scene) c.args.depth in
    let de = Describes (table c.args.scene) c.args.depth in
    let ctx = context c.args.scene in
    let e = c.args.base.now in
    let ss = c.args.steps.now in
    subst (λ (x : Option Seen). Tells c.eval_recursion.result (AtStep ev de ctx c.args.at (steps_place (place_of e) ss) (step_view c.args.last.now) x (StepsEvaluate ops ev de ctx e ss))) c.in-Some.ensures c.eval_recursion.ensures

pub stepping::eval_last-returns-in-None : goal.stepping::eval_last-returns-in-None
stepping::eval_last-returns-in-None t c =
    let ops = table c.args.scene in
    let ev = Evaluates (table c.args.scene) c.args.depth in
    let de = Describes (table c.args.scene) c.args.depth in
    let ctx = context c.args.scene in
    let e = c.args.base.now in
    let ss = c.args.steps.now in
    subst (λ (x : Option Seen). Tells c.eval_then.result (AtStep ev de ctx c.args.at (steps_place (place_of e) ss) (step_view c.args.last.now) x (StepsEvaluate ops ev de ctx e ss))) c.in-None.ensures c.eval_then.ensures

pub stepping::eval_then-returns-in-Ok : goal.stepping::eval_then-returns-in-Ok
stepping::eval_then-returns-in-Ok t c =
    let ops = table c.args.scene in
    let ev = Evaluates (table c.args.scene) c.args.depth in
    let de = Describes (table c.args.scene) c.args.depth in
    let ctx = context c.args.scene in
    let r = c.eval_applied.result in
    let s = step_view c.args.last.now in
    let told = subst (λ (p : Place). Tells r (Then (StepKey ev ctx c.args.at s) (λ key. Operated (AppliesAt c.in-Ok.function key) (place_in c.args.at (p ∷ []))))) c.place_behind-place.ensures c.eval_applied.ensures in
    tells_then (StepsEvaluate ops ev de ctx c.args.base.now c.args.steps.now) (λ f. Then (StepKey ev ctx c.args.at s) (λ key. Operated (AppliesAt f key) (place_in c.args.at (steps_place (place_of c.args.base.now) c.args.steps.now ∷ [])))) c.in-Ok.function r c.in-Ok.ensures told

pub stepping::eval_applied-returns-in-Ok : goal.stepping::eval_applied-returns-in-Ok
stepping::eval_applied-returns-in-Ok t c =
    let ev = Evaluates (table c.args.scene) c.args.depth in
    tells_then (StepKey ev (context c.args.scene) c.args.at (step_view c.args.step.now)) (λ key. Operated (AppliesAt c.args.function.now key) (place_in c.args.at (c.args.place ∷ []))) c.in-Ok.key c.applied.result c.in-Ok.ensures c.applied.ensures

pub stepping::eval_steps-eval_first-requires : goal.stepping::eval_steps-eval_first-requires
stepping::eval_steps-eval_first-requires t c =
    let part = Reads (table c.args.scene) c.args.depth in
    let are = steps_are c.items-items.result.now c.args.steps.now c.items-items.ensures in
    let first = ap (first_applied (table c.args.scene) c.args.base.now) (sym are) ∙ sym c.in-Some.ensures in
    let read = first_read (table c.args.scene) part (context c.args.scene) c.args.base.now c.args.steps.now (seen c.in-Some.function) first c.requires in
    let some = some_steps (table c.args.scene) c.args.base.now c.items-items.result.now (seen c.in-Some.function) (sym c.in-Some.ensures) in
    (omega (arith, c.decreases), (some, (c.primes_among-primes.ensures ∙ ap primes_in (sym are), subst (λ (xs : List (Place × Step)). FirstReads part (context c.args.scene) (seen c.in-Some.function) xs) (sym are) read)))

pub stepping::eval_steps-returns-in-Some : goal.stepping::eval_steps-returns-in-Some
stepping::eval_steps-returns-in-Some t c =
    let ops = table c.args.scene in
    let ev = Evaluates (table c.args.scene) c.args.depth in
    let de = Describes (table c.args.scene) c.args.depth in
    let g = seen c.in-Some.function in
    let are = steps_are c.items-items.result.now c.args.steps.now c.items-items.ensures in
    let first = ap (first_applied ops c.args.base.now) (sym are) ∙ sym c.in-Some.ensures in
    first_told ops ev de (context c.args.scene) c.args.base.now c.args.steps.now g c.eval_first.result first
    (subst (λ (xs : List (Place × Step)). Tells c.eval_first.result (FirstMakes ev de (context c.args.scene) g xs)) are c.eval_first.ensures)

pub stepping::eval_steps-eval_base-requires : goal.stepping::eval_steps-eval_base-requires
stepping::eval_steps-eval_base-requires t c =
    let part = Reads (table c.args.scene) c.args.depth in
    let ctx = context c.args.scene in
    let are = steps_are c.items-items.result.now c.args.steps.now c.items-items.ensures in
    let read = steps_read (table c.args.scene) part ctx c.args.base.now c.args.steps.now c.requires in
    let base = subst (λ (xs : List (Place × Step)). part (under (primes_in xs) ctx) c.args.base.now) (sym are) read.0 in
    let more = subst (λ (xs : List (Place × Step)). StepsMakeReads part ctx xs) (sym are) read.1 in
    (omega (arith, c.decreases), (c.primes_among-primes.ensures ∙ ap primes_in (sym are), (base, more)))

pub stepping::eval_steps-returns-in-None : goal.stepping::eval_steps-returns-in-None
stepping::eval_steps-returns-in-None t c =
    let ops = table c.args.scene in
    let ev = Evaluates (table c.args.scene) c.args.depth in
    let de = Describes (table c.args.scene) c.args.depth in
    let ctx = context c.args.scene in
    let e = c.args.base.now in
    let are = steps_are c.items-items.result.now c.args.steps.now c.items-items.ensures in
    let none = ap (first_applied ops e) (sym are) ∙ sym c.in-None.ensures in
    steps_told ops ev de ctx e c.args.steps.now c.eval_base.result none
    (subst (λ (xs : List (Place × Step)). Tells c.eval_base.result (Then (ev (under (primes_in xs) ctx) e) (StepsMake ev ctx (place_of e) xs))) are c.eval_base.ensures)

pub stepping::eval_base-eval-requires : goal.stepping::eval_base-eval-requires
stepping::eval_base-eval-requires t c =
    let there = subst (λ (n : ℕ). Reads (table c.args.scene) c.args.depth (under n (context c.args.scene)) c.args.base.now) (sym c.requires.primes) c.requires.base in
    (omega (arith, c.decreases), rw (c.before_primes.ensures.table, c.before_primes.ensures.context) there)

pub stepping::eval_base-returns-in-Ok : goal.stepping::eval_base-returns-in-Ok
stepping::eval_base-returns-in-Ok t c =
    let ops = table c.args.scene in
    let ctx = context c.args.scene in
    let e = c.args.base.now in
    let xs = map step_item c.args.steps.now in
    let v = c.in-Ok.value in
    let same = subst (λ (o : Table). Evaluates o c.args.depth (context c.before_primes.result) e (Ok v)) c.before_primes.ensures.table c.in-Ok.ensures in
    let read = subst (λ (x : Context). Evaluates ops c.args.depth x e (Ok v)) c.before_primes.ensures.context same in
    let first = subst (λ (n : ℕ). Evaluates ops c.args.depth (under n ctx) e (Ok v)) c.requires.primes read in
    let behind = subst (λ (p : Place). Tells c.eval_behind.result (StepsMake (Evaluates ops c.args.depth) ctx p xs v)) c.place_at-place.ensures c.eval_behind.ensures in
    tells_then (Evaluates ops c.args.depth (under (primes_in xs) ctx) e) (StepsMake (Evaluates ops c.args.depth) ctx (place_of e) xs) v c.eval_behind.result first behind

pub stepping::eval_base-returns-in-Err : goal.stepping::eval_base-returns-in-Err
stepping::eval_base-returns-in-Err t c =
    let ops = table c.args.scene in
    let ctx = context c.args.scene in
    let e = c.args.base.now in
    let xs = map step_item c.args.steps.now in
    let f = c.in-Err.fault in
    let same = subst (λ (o : Table). Tells {A = Val} (Err f) (Evaluates o c.args.depth (context c.before_primes.result) e)) c.before_primes.ensures.table c.in-Err.ensures in
    let read = subst (λ (x : Context). Tells {A = Val} (Err f) (Evaluates ops c.args.depth x e)) c.before_primes.ensures.context same in
    let first = subst (λ (n : ℕ). Tells {A = Val} (Err f) (Evaluates ops c.args.depth (under n ctx) e)) c.requires.primes read in
    tells_stop (Evaluates ops c.args.depth (under (primes_in xs) ctx) e) (StepsMake (Evaluates ops c.args.depth) ctx (place_of e) xs) f first

pub stepping::eval_behind-loop-item-init : goal.stepping::eval_behind-loop-item-init
stepping::eval_behind-loop-item-init t c = ((λ r h. h), c.requires.read, c.requires.primes)

pub stepping::eval_behind-overflow_sub-primes : goal.stepping::eval_behind-overflow_sub-primes
stepping::eval_behind-overflow_sub-primes t c =
    let items = c.args.steps.now in
    let xs = map step_item c.args.steps.now in
    let i = c.loop-item.item-index in
    let below : c.loop-item.item-index < length c.args.steps.now = omega arith in
    let x = step_item c.item-item.result in
    let cut = cut_mapped step_item items i c.item-item.result (cut_at items i c.item-item.result below c.item-item.is) in
    let primes = primes_from xs i x cut in
    omega (arith, c.prime_count-primes.ensures, primes, c.loop-item.invariant.2)

pub stepping::eval_behind-eval_step-requires : goal.stepping::eval_behind-eval_step-requires
stepping::eval_behind-eval_step-requires t c =
    let ops = table c.args.scene in
    let ctx = context c.args.scene in
    let items = c.args.steps.now in
    let xs = map step_item c.args.steps.now in
    let i = c.loop-item.item-index in
    let below : c.loop-item.item-index < length c.args.steps.now = omega arith in
    let x = step_item c.item-item.result in
    let cut = cut_mapped step_item items i c.item-item.result (cut_at items i c.item-item.result below c.item-item.is) in
    let primes = primes_from xs i x cut in
    let count = c.prime_count-primes.ensures in
    let left : c.loop-item.primes - c.prime_count-primes.result ≡ primes_in (drop (c.loop-item.item-index + 1) (map step_item c.args.steps.now)) = omega (arith, count, primes, c.loop-item.invariant.2) in
    let read = (steps_reads (Reads ops c.args.depth) ctx xs i x cut c.loop-item.invariant.1).0 in
    let there = subst (λ (n : ℕ). StepReads (Reads ops c.args.depth) (under n ctx) (step_view c.item-item.result.step)) (sym left) read in
    (omega (arith, c.decreases), rw (c.before_primes-around.ensures.table, c.before_primes-around.ensures.context) there)

pub stepping::eval_behind-returns-in-Err : goal.stepping::eval_behind-returns-in-Err
stepping::eval_behind-returns-in-Err t c =
    let ops = table c.args.scene in
    let ev = Evaluates (table c.args.scene) c.args.depth in
    let d = c.args.depth in
    let ctx = context c.args.scene in
    let items = c.args.steps.now in
    let xs = map step_item c.args.steps.now in
    let i = c.loop-item.item-index in
    let below : c.loop-item.item-index < length c.args.steps.now = omega arith in
    let x = step_item c.item-item.result in
    let cut = cut_mapped step_item items i c.item-item.result (cut_at items i c.item-item.result below c.item-item.is) in
    let primes = primes_from xs i x cut in
    let count = c.prime_count-primes.ensures in
    let left : c.loop-item.primes - c.prime_count-primes.result ≡ primes_in (drop (c.loop-item.item-index + 1) (map step_item c.args.steps.now)) = omega (arith, count, primes, c.loop-item.invariant.2) in
    let p = c.loop-item.place in
    let v = c.loop-item.value in
    let around = c.before_primes-around in
    let f = c.in-Err.fault in
    let same = subst (λ (o : Table). Tells {A = Val} (Err f) (StepMakes (Evaluates o d) (context around.result) p x.0 x.1 v)) around.ensures.table c.in-Err.ensures in
    let read = subst (λ (k : Context). Tells {A = Val} (Err f) (StepMakes ev k p x.0 x.1 v)) around.ensures.context same in
    let there = subst (λ (n : ℕ). Tells {A = Val} (Err f) (StepMakes ev (under n ctx) p x.0 x.1 v)) left read in
    steps_stop ev ctx xs c.args.place c.args.value i p v x f cut there c.loop-item.invariant.0

pub stepping::eval_behind-loop-item-preserved : goal.stepping::eval_behind-loop-item-preserved
stepping::eval_behind-loop-item-preserved t c =
    let ops = table c.args.scene in
    let ev = Evaluates (table c.args.scene) c.args.depth in
    let d = c.args.depth in
    let ctx = context c.args.scene in
    let items = c.args.steps.now in
    let xs = map step_item c.args.steps.now in
    let i = c.loop-item.item-index in
    let below : c.loop-item.item-index < length c.args.steps.now = omega arith in
    let x = step_item c.item-item.result in
    let cut = cut_mapped step_item items i c.item-item.result (cut_at items i c.item-item.result below c.item-item.is) in
    let primes = primes_from xs i x cut in
    let count = c.prime_count-primes.ensures in
    let left : c.loop-item.primes - c.prime_count-primes.result ≡ primes_in (drop (c.loop-item.item-index + 1) (map step_item c.args.steps.now)) = omega (arith, count, primes, c.loop-item.invariant.2) in
    let p = c.loop-item.place in
    let v = c.loop-item.value in
    let around = c.before_primes-around in
    let w = c.in-Ok.made in
    let same = subst (λ (o : Table). StepMakes (Evaluates o d) (context around.result) p x.0 x.1 v (Ok w)) around.ensures.table c.in-Ok.ensures in
    let read = subst (λ (k : Context). StepMakes ev k p x.0 x.1 v (Ok w)) around.ensures.context same in
    let there = subst (λ (n : ℕ). StepMakes ev (under n ctx) p x.0 x.1 v (Ok w)) left read in (
      steps_go_on ev ctx xs c.args.place c.args.value i p v x w cut there c.loop-item.invariant.0,
      (steps_reads (Reads ops d) ctx xs i x cut c.loop-item.invariant.1).1,
      left,
    )

pub stepping::eval_behind-returns : goal.stepping::eval_behind-returns
stepping::eval_behind-returns t c =
    let ev = Evaluates (table c.args.scene) c.args.depth in
    let ctx = context c.args.scene in
    let xs = map step_item c.args.steps.now in
    let i = c.loop-item.item-index in
    let passed : length c.args.steps.now ≤ c.loop-item.item-index = omega arith in
    let over : length xs ≤ c.loop-item.item-index = omega (arith, passed, length-map c.args.steps.now step_item) in
    steps_end ev ctx xs c.args.place c.args.value i c.loop-item.place c.loop-item.value over c.loop-item.invariant.0

-- functions that use themselves

pub recursion::eval_first-eval_recursion-requires : goal.recursion::eval_first-eval_recursion-requires
recursion::eval_first-eval_recursion-requires t c =
    let part = Reads (table c.args.scene) c.args.depth in
    let ctx = context c.args.scene in
    let items = c.args.steps.now in
    let x = step_item c.index-steps-0.result in
    let xs = map step_item (drop 1 items) in
    let cut = cut_first items c.index-steps-0.result c.requires.some c.index-steps-0.is in
    let read = subst (λ (ys : List (Place × Step)). FirstReads part ctx (seen c.args.function) ys) cut c.requires.read in
    let primes = c.requires.primes ∙ ap primes_in cut ∙ key_primes x.1 (primes_in xs) read.0 in
    let step = subst (λ (n : ℕ). StepReads part (under n ctx) x.1) (sym primes) read.1 in
    let function = subst (λ (n : ℕ). RecursionReads part (under n ctx) (Some (seen c.args.function))) (sym primes) read.2 in
    let d = c.args.depth in
    let g = seen c.args.function in
    let around = c.before_primes-around in
    let there = subst (λ (k : Context). RecursionReads part k (Some g)) (sym around.ensures.context) function in
    let here = subst (λ (o : Table). RecursionReads (Reads o d) (context around.result) (Some g)) (sym around.ensures.table) there in
    (omega (arith, c.decreases), (read.0, (rw (c.before_primes-around.ensures.table, c.before_primes-around.ensures.context) step, here)))

pub recursion::eval_first-eval_behind-requires : goal.recursion::eval_first-eval_behind-requires
recursion::eval_first-eval_behind-requires t c =
    let part = Reads (table c.args.scene) c.args.depth in
    let ctx = context c.args.scene in
    let items = c.args.steps.now in
    let x = step_item c.index-steps-0.result in
    let xs = map step_item (drop 1 items) in
    let cut = cut_first items c.index-steps-0.result c.requires.some c.index-steps-0.is in
    let read = subst (λ (ys : List (Place × Step)). FirstReads part ctx (seen c.args.function) ys) cut c.requires.read in
    let primes = c.requires.primes ∙ ap primes_in cut ∙ key_primes x.1 (primes_in xs) read.0 in
    let rest = sym (behind_first items) in
    (omega (arith, c.decreases), (primes ∙ ap primes_in rest, subst (λ (ys : List (Place × Step)). StepsMakeReads part ctx ys) rest read.3))

pub recursion::eval_first-returns-in-Ok : goal.recursion::eval_first-returns-in-Ok
recursion::eval_first-returns-in-Ok t c =
    let ops = table c.args.scene in
    let d = c.args.depth in
    let ev = Evaluates (table c.args.scene) c.args.depth in
    let de = Describes (table c.args.scene) c.args.depth in
    let part = Reads (table c.args.scene) c.args.depth in
    let ctx = context c.args.scene in
    let g = seen c.args.function in
    let items = c.args.steps.now in
    let x = step_item c.index-steps-0.result in
    let xs = map step_item (drop 1 items) in
    let v = c.in-Ok.value in
    let around = c.before_primes-around in
    let cut = cut_first items c.index-steps-0.result c.requires.some c.index-steps-0.is in
    let read = subst (λ (ys : List (Place × Step)). FirstReads part ctx g ys) cut c.requires.read in
    let primes = c.requires.primes ∙ ap primes_in cut ∙ key_primes x.1 (primes_in xs) read.0 in
    let same = subst (λ (o : Table). Then (StepKey (Evaluates o d) (context around.result) x.0 x.1) (RecursionEvaluates (Evaluates o d) (Describes o d) (within g.around (context around.result)) x.0 g) (Ok v)) around.ensures.table c.in-Ok.ensures in
    let there = subst (λ (k : Context). Then (StepKey ev k x.0 x.1) (RecursionEvaluates ev de (within g.around k) x.0 g) (Ok v)) around.ensures.context same in
    let first = subst (λ (n : ℕ). Then (StepKey ev (under n ctx) x.0 x.1) (RecursionEvaluates ev de (within g.around (under n ctx)) x.0 g) (Ok v)) primes there in
    let behind = subst (λ (ys : List (Place × Step)). Tells c.eval_behind.result (StepsMake ev ctx x.0 ys v)) (behind_first items) c.eval_behind.ensures in
    subst (λ (ys : List (Place × Step)). Tells c.eval_behind.result (FirstMakes ev de ctx g ys)) (sym cut)
    (tells_then (Then (StepKey ev (under (primes_in xs) ctx) x.0 x.1) (RecursionEvaluates ev de (within g.around (under (primes_in xs) ctx)) x.0 g)) (StepsMake ev ctx x.0 xs) v c.eval_behind.result first behind)

pub recursion::eval_first-returns-in-Err : goal.recursion::eval_first-returns-in-Err
recursion::eval_first-returns-in-Err t c =
    let d = c.args.depth in
    let ev = Evaluates (table c.args.scene) c.args.depth in
    let de = Describes (table c.args.scene) c.args.depth in
    let part = Reads (table c.args.scene) c.args.depth in
    let ctx = context c.args.scene in
    let g = seen c.args.function in
    let items = c.args.steps.now in
    let x = step_item c.index-steps-0.result in
    let xs = map step_item (drop 1 items) in
    let f = c.in-Err.fault in
    let around = c.before_primes-around in
    let cut = cut_first items c.index-steps-0.result c.requires.some c.index-steps-0.is in
    let read = subst (λ (ys : List (Place × Step)). FirstReads part ctx g ys) cut c.requires.read in
    let primes = c.requires.primes ∙ ap primes_in cut ∙ key_primes x.1 (primes_in xs) read.0 in
    let same = subst (λ (o : Table). Tells {A = Val} (Err f) (Then (StepKey (Evaluates o d) (context around.result) x.0 x.1) (RecursionEvaluates (Evaluates o d) (Describes o d) (within g.around (context around.result)) x.0 g))) around.ensures.table c.in-Err.ensures in
    let there = subst (λ (k : Context). Tells {A = Val} (Err f) (Then (StepKey ev k x.0 x.1) (RecursionEvaluates ev de (within g.around k) x.0 g))) around.ensures.context same in
    let first = subst (λ (n : ℕ). Tells {A = Val} (Err f) (Then (StepKey ev (under n ctx) x.0 x.1) (RecursionEvaluates ev de (within g.around (under n ctx)) x.0 g))) primes there in
    subst (λ (ys : List (Place × Step)). Tells {A = Val} (Err f) (FirstMakes ev de ctx g ys)) (sym cut)
    (tells_stop (Then (StepKey ev (under (primes_in xs) ctx) x.0 x.1) (RecursionEvaluates ev de (within g.around (under (primes_in xs) ctx)) x.0 g)) (StepsMake ev ctx x.0 xs) f first)

pub recursion::eval_recursion-within-around-requires : goal.recursion::eval_recursion-within-around-requires
recursion::eval_recursion-within-around-requires t c = c.requires.function.0

pub recursion::eval_recursion-eval_at_key-requires : goal.recursion::eval_recursion-eval_at_key-requires
recursion::eval_recursion-eval_at_key-requires t c =
    let d = c.args.depth in
    let part = Reads (table c.args.scene) c.args.depth in
    let n = width c.args.function.bounds.now in
    let e = c.args.function.value.now in
    let around = c.within-around in
    let there = subst (λ (k : Context). ReadsUnder part k n e) (sym around.ensures.context) c.requires.function.2 in
    let under = subst (λ (o : Table). ReadsUnder (Reads o d) (context around.result) n e) (sym around.ensures.table) there in
    (omega (arith, c.decreases), (rw (c.within-around.ensures.table, c.within-around.ensures.context) c.requires.function.1, under))

pub recursion::eval_recursion-returns-in-Ok : goal.recursion::eval_recursion-returns-in-Ok
recursion::eval_recursion-returns-in-Ok t c =
    let d = c.args.depth in
    let ev = Evaluates (table c.args.scene) c.args.depth in
    let de = Describes (table c.args.scene) c.args.depth in
    let ctx = context c.args.scene in
    let g = seen c.args.function in
    let r = c.eval_at_key.result in
    let key = c.in-Ok.key in
    let around = c.within-around in
    let same = subst (λ (o : Table). Tells r (RecursionEvaluates (Evaluates o d) (Describes o d) (context around.result) c.args.at g key)) around.ensures.table c.eval_at_key.ensures in
    let there = subst (λ (k : Context). Tells r (RecursionEvaluates ev de k c.args.at g key)) around.ensures.context same in
    tells_then (StepKey ev ctx c.args.at (step_view c.args.step.now)) (RecursionEvaluates ev de (within g.around ctx) c.args.at g) key r c.in-Ok.ensures there

pub recursion::eval_at_key-describe_keys-requires : goal.recursion::eval_at_key-describe_keys-requires
recursion::eval_at_key-describe_keys-requires t c =
    let part = Reads (table c.args.scene) c.args.depth in
    let ctx = context c.args.scene in
    let read = sets_read part ctx (bounds_list c.args.function.bounds.now) c.requires.sets in
    (omega (arith, c.decreases), subst (λ (es : List Term). ReadsEach part ctx es) (sym (ap (map seen_term) c.deref.ensures.value ∙ c.in_ok-sets.ensures)) read)

pub recursion::eval_at_key-eval_member-requires : goal.recursion::eval_at_key-eval_member-requires
recursion::eval_at_key-eval_member-requires t c =
    let part = Reads (table c.args.scene) c.args.depth in
    let de = Describes (table c.args.scene) c.args.depth in
    let ctx = context c.args.scene in
    let bs = c.args.function.bounds.now in
    let sets = c.deref-in-Ok.result.now in
    let are : map seen_term c.deref.result.now ≡ sets_of_names (bounds_list c.args.function.bounds.now) = ap (map seen_term) c.deref.ensures.value ∙ c.in_ok-sets.ensures in
    let again : map seen_term c.deref-in-Ok.result.now ≡ sets_of_names (bounds_list c.args.function.bounds.now) = ap (map seen_term) c.deref-in-Ok.ensures.value ∙ c.in_ok-sets.ensures in
    let fine = subst (λ (es : List Term). KeysDescribed de ctx es (Ok c.in-Ok.keys)) (are ∙ sym again) c.in-Ok.ensures.fine in
    let many : length c.deref-in-Ok.result.now ≡ width bs = sym (length-map sets seen_term) ∙ ap length again ∙ sets_width bs in (
      omega (arith, c.decreases),
      (c.in-Ok.ensures.sound, ((λ b. is_key de ctx (map seen_term sets) c.in-Ok.keys c.args.key.now fine b), subst (λ (n : ℕ). ReadsUnder part ctx n c.args.function.value.now) (sym many) c.requires.value)),
    )

pub recursion::eval_at_key-returns-in-Ok : goal.recursion::eval_at_key-returns-in-Ok
recursion::eval_at_key-returns-in-Ok t c =
    let ev = Evaluates (table c.args.scene) c.args.depth in
    let de = Describes (table c.args.scene) c.args.depth in
    let ctx = context c.args.scene in
    let g = seen c.args.function in
    let at = c.args.at in
    let key = c.args.key.now in
    let es : List Term = sets_of_names (bounds_list c.args.function.bounds.now) in
    let are : map seen_term c.deref.result.now ≡ es = ap (map seen_term) c.deref.ensures.value ∙ c.in_ok-sets.ensures in
    let again : map seen_term c.deref-in-Ok.result.now ≡ es = ap (map seen_term) c.deref-in-Ok.ensures.value ∙ c.in_ok-sets.ensures in
    let fine = subst (λ (fs : List Term). KeysDescribed de ctx fs (Ok c.in-Ok.keys)) are c.in-Ok.ensures.fine in
    let member = subst (λ (fs : List Term). Tells c.eval_member.result (Then (IsIn c.in-Ok.keys key) (λ b. Either b (ev (bind ctx (names_at fs key)) g.value) (Fails OutsideDomain at)))) again c.eval_member.ensures in
    tells_then (KeysDescribed de ctx es) (λ d. Then (IsIn d key) (λ b. Either b (ev (bind ctx (names_at es key)) g.value) (Fails OutsideDomain at))) c.in-Ok.keys c.eval_member.result fine member

pub recursion::eval_at_key-returns : goal.recursion::eval_at_key-returns
recursion::eval_at_key-returns t c =
    let ev = Evaluates (table c.args.scene) c.args.depth in
    let de = Describes (table c.args.scene) c.args.depth in
    let ctx = context c.args.scene in
    let g = seen c.args.function in
    let at = c.args.at in
    let key = c.args.key.now in
    let es : List Term = sets_of_names (bounds_list c.args.function.bounds.now) in
    let f = c.in-Err.fault in
    let are : map seen_term c.deref.result.now ≡ es = ap (map seen_term) c.deref.ensures.value ∙ c.in_ok-sets.ensures in
    let fine = subst (λ (fs : List Term). Tells {A = Described} (Err f) (KeysDescribed de ctx fs)) are c.in-Err.ensures.fine in
    tells_stop (KeysDescribed de ctx es) (λ d. Then (IsIn d key) (λ b. Either b (ev (bind ctx (names_at es key)) g.value) (Fails OutsideDomain at))) f fine

pub recursion::describe_keys-describe_set-requires : goal.recursion::describe_keys-describe_set-requires
recursion::describe_keys-describe_set-requires t c =
    let part = Reads (table c.args.scene) c.args.depth in
    let only = only_set c.args.sets.now c.index-sets-0.result c.if-names-eq1.true c.index-sets-0.is in
    (omega (arith, c.decreases), (subst (λ (es : List Term). ReadsEach part (context c.args.scene) es) only c.requires).0)

pub recursion::describe_keys-returns-then-names-eq1-clause-fine : goal.recursion::describe_keys-returns-then-names-eq1-clause-fine
recursion::describe_keys-returns-then-names-eq1-clause-fine t c =
    let de = Describes (table c.args.scene) c.args.depth in
    let ctx = context c.args.scene in
    let e = c.index-sets-0.result.now in
    let only = only_set c.args.sets.now c.index-sets-0.result c.if-names-eq1.true c.index-sets-0.is in
    subst (λ (P : Outcome Described). Tells c.describe_set.result P) (sym (one_set de ctx (map seen_term c.args.sets.now) e only)) c.describe_set.ensures.fine

pub recursion::describe_keys-returns-in-Ok-clause-fine : goal.recursion::describe_keys-returns-in-Ok-clause-fine
recursion::describe_keys-returns-in-Ok-clause-fine t c =
    let de = Describes (table c.args.scene) c.args.depth in
    let ctx = context c.args.scene in
    let es = map seen_term c.args.sets.now in
    let many : length es ≡ 1 → ⊥ = λ q. absurd (c.if-names-eq1.false (sym (length-map c.args.sets.now seen_term) ∙ q)) in
    subst (λ (P : Outcome Described). Tells c.product_of.result P) (sym (many_sets de ctx es many))
    (tells_then (Each (PartDescribed de ctx) es) (λ ds. Then (Each (λ d. set_at d.0 d.1) ds) (λ fs. Gives (Product (parts_of fs)))) c.in-Ok.parts.items c.product_of.result c.in-Ok.ensures.parts c.product_of.ensures.fine)

pub recursion::describe_keys-returns-in-Ok-clause-sound : goal.recursion::describe_keys-returns-in-Ok-clause-sound
recursion::describe_keys-returns-in-Ok-clause-sound t c = product_sound (Each (λ d. set_at d.0 d.1) c.in-Ok.parts.items) c.product_of.result c.product_of.ensures.fine c.product_of.ensures.ready

pub recursion::describe_keys-returns-in-Err-clause-fine : goal.recursion::describe_keys-returns-in-Err-clause-fine
recursion::describe_keys-returns-in-Err-clause-fine t c =
    let de = Describes (table c.args.scene) c.args.depth in
    let ctx = context c.args.scene in
    let es = map seen_term c.args.sets.now in
    let f = c.in-Err.fault in
    let many : length es ≡ 1 → ⊥ = λ q. absurd (c.if-names-eq1.false (sym (length-map c.args.sets.now seen_term) ∙ q)) in
    subst (λ (P : Outcome Described). Tells {A = Described} (Err f) P) (sym (many_sets de ctx es many))
    (stops_then (Each (PartDescribed de ctx) es) (λ ds. Then (Each (λ d. set_at d.0 d.1) ds) (λ fs. Gives (Product (parts_of fs)))) f c.in-Err.ensures.fault)

pub recursion::eval_member-eval_named-requires : goal.recursion::eval_member-eval_named-requires
recursion::eval_member-eval_named-requires t c =
    let es = map seen_term c.args.sets.now in
    let belongs = c.member-is_key.ensures.0 c.if-is_key.true in
    let key = c.requires.key belongs in
    let many = key.1 ∙ length-map c.args.sets.now seen_term in
    (omega (arith, c.decreases), (key.0, c.requires.value (names_at es c.args.key.now) many))

pub recursion::eval_member-returns-then-is_key : goal.recursion::eval_member-returns-then-is_key
recursion::eval_member-returns-then-is_key t c =
    let ev = Evaluates (table c.args.scene) c.args.depth in
    let vs = names_at (map seen_term c.args.sets.now) c.args.key.now in
    member_told c.args.keys c.args.key.now c.args.at (ev (bind (context c.args.scene) vs) c.args.value.now) c.member-is_key.result c.eval_named.result c.member-is_key.ensures c.if-is_key.true c.eval_named.ensures

pub recursion::eval_member-returns : goal.recursion::eval_member-returns
recursion::eval_member-returns t c =
    let ev = Evaluates (table c.args.scene) c.args.depth in
    let vs = names_at (map seen_term c.args.sets.now) c.args.key.now in
    outside_told c.args.keys c.args.key.now c.args.at (ev (bind (context c.args.scene) vs) c.args.value.now) c.member-is_key.result c.member-is_key.ensures c.if-is_key.false

pub stepping::eval_step-returns-in-Index : goal.stepping::eval_step-returns-in-Index
stepping::eval_step-returns-in-Index t c =
    let key = subst (λ (s : StepGiven). HasKey (step_view s)) (sym c.in-Index.is) tt in
    step_told (Evaluates (table c.args.scene) c.args.depth) (context c.args.scene) c.args.place c.args.at (step_view c.args.step.now) c.args.value c.eval_applied.result key c.eval_applied.ensures

pub stepping::eval_step-returns-in-Field : goal.stepping::eval_step-returns-in-Field
stepping::eval_step-returns-in-Field t c =
    let key = subst (λ (s : StepGiven). HasKey (step_view s)) (sym c.in-Field.is) tt in
    step_told (Evaluates (table c.args.scene) c.args.depth) (context c.args.scene) c.args.place c.args.at (step_view c.args.step.now) c.args.value c.eval_applied-in-Field.result key c.eval_applied-in-Field.ensures

pub describing::describe_prefix-returns-in-Not-clause-fine : goal.describing::describe_prefix-returns-in-Not-clause-fine
describing::describe_prefix-returns-in-Not-clause-fine t c =
    let ev = Evaluates (table c.args.scene) c.args.depth in
    let de = Describes (table c.args.scene) c.args.depth in
    let r = c.described_value.result in
    let told = subst (λ (m : Meaning). Tells r (IsValueOf (MeaningEvaluates (table c.args.scene) ev de (context c.args.scene) c.args.at m))) c.requires.node c.described_value.ensures.fine in
    value_described (table c.args.scene) ev de (context c.args.scene) c.args.operator c.args.operand.now c.args.at r (ap makes_subsets c.in-Not.is) told

pub describing::describe_prefix-returns-in-Unchanged-clause-fine : goal.describing::describe_prefix-returns-in-Unchanged-clause-fine
describing::describe_prefix-returns-in-Unchanged-clause-fine t c =
    let ev = Evaluates (table c.args.scene) c.args.depth in
    let de = Describes (table c.args.scene) c.args.depth in
    let r = c.described_value-in-Unchanged.result in
    let told = subst (λ (m : Meaning). Tells r (IsValueOf (MeaningEvaluates (table c.args.scene) ev de (context c.args.scene) c.args.at m))) c.requires.node c.described_value-in-Unchanged.ensures.fine in
    value_described (table c.args.scene) ev de (context c.args.scene) c.args.operator c.args.operand.now c.args.at r (ap makes_subsets c.in-Unchanged.is) told

pub describing::describe_prefix-returns-in-Enabled-clause-fine : goal.describing::describe_prefix-returns-in-Enabled-clause-fine
describing::describe_prefix-returns-in-Enabled-clause-fine t c =
    let ev = Evaluates (table c.args.scene) c.args.depth in
    let de = Describes (table c.args.scene) c.args.depth in
    let r = c.described_value-in-Enabled.result in
    let told = subst (λ (m : Meaning). Tells r (IsValueOf (MeaningEvaluates (table c.args.scene) ev de (context c.args.scene) c.args.at m))) c.requires.node c.described_value-in-Enabled.ensures.fine in
    value_described (table c.args.scene) ev de (context c.args.scene) c.args.operator c.args.operand.now c.args.at r (ap makes_subsets c.in-Enabled.is) told

pub describing::describe_prefix-returns-in-Always-clause-fine : goal.describing::describe_prefix-returns-in-Always-clause-fine
describing::describe_prefix-returns-in-Always-clause-fine t c =
    let ev = Evaluates (table c.args.scene) c.args.depth in
    let de = Describes (table c.args.scene) c.args.depth in
    let r = c.described_value-in-Always.result in
    let told = subst (λ (m : Meaning). Tells r (IsValueOf (MeaningEvaluates (table c.args.scene) ev de (context c.args.scene) c.args.at m))) c.requires.node c.described_value-in-Always.ensures.fine in
    value_described (table c.args.scene) ev de (context c.args.scene) c.args.operator c.args.operand.now c.args.at r (ap makes_subsets c.in-Always.is) told

pub describing::describe_prefix-returns-in-Eventually-clause-fine : goal.describing::describe_prefix-returns-in-Eventually-clause-fine
describing::describe_prefix-returns-in-Eventually-clause-fine t c =
    let ev = Evaluates (table c.args.scene) c.args.depth in
    let de = Describes (table c.args.scene) c.args.depth in
    let r = c.described_value-in-Eventually.result in
    let told = subst (λ (m : Meaning). Tells r (IsValueOf (MeaningEvaluates (table c.args.scene) ev de (context c.args.scene) c.args.at m))) c.requires.node c.described_value-in-Eventually.ensures.fine in
    value_described (table c.args.scene) ev de (context c.args.scene) c.args.operator c.args.operand.now c.args.at r (ap makes_subsets c.in-Eventually.is) told

pub describing::describe_prefix-returns-in-BigUnion-clause-fine : goal.describing::describe_prefix-returns-in-BigUnion-clause-fine
describing::describe_prefix-returns-in-BigUnion-clause-fine t c =
    let ev = Evaluates (table c.args.scene) c.args.depth in
    let de = Describes (table c.args.scene) c.args.depth in
    let r = c.described_value-in-BigUnion.result in
    let told = subst (λ (m : Meaning). Tells r (IsValueOf (MeaningEvaluates (table c.args.scene) ev de (context c.args.scene) c.args.at m))) c.requires.node c.described_value-in-BigUnion.ensures.fine in
    value_described (table c.args.scene) ev de (context c.args.scene) c.args.operator c.args.operand.now c.args.at r (ap makes_subsets c.in-BigUnion.is) told

pub describing::describe_prefix-returns-in-Domain-clause-fine : goal.describing::describe_prefix-returns-in-Domain-clause-fine
describing::describe_prefix-returns-in-Domain-clause-fine t c =
    let ev = Evaluates (table c.args.scene) c.args.depth in
    let de = Describes (table c.args.scene) c.args.depth in
    let r = c.described_value-in-Domain.result in
    let told = subst (λ (m : Meaning). Tells r (IsValueOf (MeaningEvaluates (table c.args.scene) ev de (context c.args.scene) c.args.at m))) c.requires.node c.described_value-in-Domain.ensures.fine in
    value_described (table c.args.scene) ev de (context c.args.scene) c.args.operator c.args.operand.now c.args.at r (ap makes_subsets c.in-Domain.is) told

pub describing::describe_prefix-returns-in-Negate-clause-fine : goal.describing::describe_prefix-returns-in-Negate-clause-fine
describing::describe_prefix-returns-in-Negate-clause-fine t c =
    let ev = Evaluates (table c.args.scene) c.args.depth in
    let de = Describes (table c.args.scene) c.args.depth in
    let r = c.described_value-in-Negate.result in
    let told = subst (λ (m : Meaning). Tells r (IsValueOf (MeaningEvaluates (table c.args.scene) ev de (context c.args.scene) c.args.at m))) c.requires.node c.described_value-in-Negate.ensures.fine in
    value_described (table c.args.scene) ev de (context c.args.scene) c.args.operator c.args.operand.now c.args.at r (ap makes_subsets c.in-Negate.is) told

-- products, UNCHANGED and [A]_v

pub describing::describe_product-describe_parts-requires : goal.describing::describe_product-describe_parts-requires
describing::describe_product-describe_parts-requires t c =
    let are = ap (map (λ t. t.now)) c.deref.ensures.value ∙ c.in_ok-terms.ensures in
    (omega (arith, c.decreases), subst (λ (es : List Term). ReadsEach (Reads (table c.args.scene) c.args.depth) (context c.args.scene) es) (sym are) c.requires)

pub describing::describe_product-returns-in-Ok-clause-fine : goal.describing::describe_product-returns-in-Ok-clause-fine
describing::describe_product-returns-in-Ok-clause-fine t c =
    let P = PartDescribed (Describes (table c.args.scene) c.args.depth) (context c.args.scene) in
    let K : List (Place × Described) → Outcome Described = (λ ds. Then (Each (λ d. set_at d.0 d.1) ds) (λ es. Gives (Product (parts_of es)))) in
    let are = ap (map (λ t. t.now)) c.deref.ensures.value ∙ c.in_ok-terms.ensures in
    let each = subst (λ (es : List Term). Each P es (Ok c.in-Ok.parts.items)) are c.in-Ok.ensures.parts in
    tells_then (Each P ((c.args.first.now ∷ map (λ x. x.value) c.args.others.now) ++ c.args.last.now ∷ [])) K c.in-Ok.parts.items c.product_of.result each c.product_of.ensures.fine

pub operations::eval_product-returns-in-Ok : goal.operations::eval_product-returns-in-Ok
operations::eval_product-returns-in-Ok t c =
    tells_then (ProductDescribed (Describes (table c.args.scene) c.args.depth) (context c.args.scene) ((c.args.first.now ∷ map (λ x. x.value) c.args.others.now) ++ c.args.last.now ∷ [])) (list_at c.args.at) c.in-Ok.set c.list_at.result c.in-Ok.ensures.fine c.list_at.ensures

pub operations::eval_long-eval_product-requires : goal.operations::eval_long-eval_product-requires
operations::eval_long-eval_product-requires t c =
    let are = chain_terms c.first_of.result.now c.others_of.result.now c.args.operands.now c.args.at c.args.last.now c.first_of.ensures c.others_of.ensures in
    (omega (arith, c.decreases), subst (λ (es : List Term). ReadsEach (Reads (table c.args.scene) c.args.depth) (context c.args.scene) es) (sym are) (c.requires.first, c.requires.others))

pub operations::eval_long-returns-in-CartesianProduct : goal.operations::eval_long-returns-in-CartesianProduct
operations::eval_long-returns-in-CartesianProduct t c =
    let r = c.eval_product.result in
    let ctx = context c.args.scene in
    let de = Describes (table c.args.scene) c.args.depth in
    let are = chain_terms c.first_of.result.now c.others_of.result.now c.args.operands.now c.args.at c.args.last.now c.first_of.ensures c.others_of.ensures in
    let told = subst (λ (es : List Term). Tells r (ListedAt c.args.at (ProductDescribed de ctx es))) are c.eval_product.ensures in
    subst (λ (o : InfixOperator). Tells r (InfixEvaluates (Evaluates (table c.args.scene) c.args.depth) de ctx o c.args.operands.now c.args.last.now c.args.at)) (sym c.in-CartesianProduct.is) told

pub describing::describe_long-describe_product-requires : goal.describing::describe_long-describe_product-requires
describing::describe_long-describe_product-requires t c =
    let are = chain_terms c.first_of.result.now c.others_of.result.now c.args.operands.now c.args.at c.args.last.now c.first_of.ensures c.others_of.ensures in
    (omega (arith, c.decreases), subst (λ (es : List Term). ReadsEach (Reads (table c.args.scene) c.args.depth) (context c.args.scene) es) (sym are) (c.requires.first, c.requires.others))

pub describing::describe_long-returns-in-CartesianProduct-clause-fine : goal.describing::describe_long-returns-in-CartesianProduct-clause-fine
describing::describe_long-returns-in-CartesianProduct-clause-fine t c =
    let r = c.describe_product.result in
    let ctx = context c.args.scene in
    let de = Describes (table c.args.scene) c.args.depth in
    let are = chain_terms c.first_of.result.now c.others_of.result.now c.args.operands.now c.args.at c.args.last.now c.first_of.ensures c.others_of.ensures in
    let told = subst (λ (es : List Term). Tells r (ProductDescribed de ctx es)) are c.describe_product.ensures.fine in
    subst (λ (o : InfixOperator). Tells r (InfixDescribed (Evaluates (table c.args.scene) c.args.depth) de ctx o c.args.operands.now c.args.last.now c.args.at)) (sym c.in-CartesianProduct.is) told

pub evaluate::eval_node-returns-in-BoxAction : goal.evaluate::eval_node-returns-in-BoxAction
evaluate::eval_node-returns-in-BoxAction t c =
    let P = HoldsOrStutters (Evaluates (table c.args.scene) c.args.depth) (context c.args.scene) c.args.at c.in-BoxAction.action c.in-BoxAction.subscript in
    rw (c.in-BoxAction.is, c.truth_value-in-BoxAction.ensures) (truth_told P c.holds_or_stutters.result c.holds_or_stutters.ensures)

pub stepping::is_unchanged-is_unchanged_behind-requires : goal.stepping::is_unchanged-is_unchanged_behind-requires
stepping::is_unchanged-is_unchanged_behind-requires t c =
    (omega (arith, c.decreases), (c.behind-kept.ensures.kept, reads_behind (table c.args.scene) (Reads (table c.args.scene) c.args.depth) (context c.args.scene) c.args.at c.args.term.now _ _ c.behind-kept.ensures.found c.requires))

pub stepping::is_unchanged-returns : goal.stepping::is_unchanged-returns
stepping::is_unchanged-returns t c =
    unchanged_behind (table c.args.scene) (Evaluates (table c.args.scene) c.args.depth) (context c.args.scene) c.args.at c.args.term.now _ _ c.is_unchanged_behind.result c.behind-kept.ensures.found c.is_unchanged_behind.ensures

pub stepping::are_unchanged-loop-term-init : goal.stepping::are_unchanged-loop-term-init
stepping::are_unchanged-loop-term-init t c =
    ((λ r h. h), to_items (λ (es : List Term). ReadsEach (Reads (table c.args.scene) c.args.depth) (context c.args.scene) (map (unchanged_of c.args.at) es)) _ _ c.items-term-items.ensures c.requires)

pub stepping::are_unchanged-unchanged_below-requires : goal.stepping::are_unchanged-unchanged_below-requires
stepping::are_unchanged-unchanged_below-requires t c =
    let xs = c.items-term-items.result.now in
    let i = c.loop-term.term-index in
    let below : c.loop-term.term-index < length c.items-term-items.result.now = omega arith in
    let cut = cut_at xs i c.term-item.result below c.term-item.is in
    (omega (arith, c.decreases), (unchanged_parts (Reads (table c.args.scene) c.args.depth) (context c.args.scene) c.args.at xs i c.term-item.result cut c.loop-term.invariant.1).0)

pub stepping::are_unchanged-returns-in-Ok-false : goal.stepping::are_unchanged-returns-in-Ok-false
stepping::are_unchanged-returns-in-Ok-false t c =
    let P : Term → Outcome Bool = (λ item. TruthOf (Evaluates (table c.args.scene) c.args.depth) (context c.args.scene) (unchanged_of c.args.at item)) in
    let xs = c.items-term-items.result.now in
    let below : c.loop-term.term-index < length c.items-term-items.result.now = omega arith in
    of_items (λ es. AllTrue P es (Ok false)) xs c.args.terms.now c.items-term-items.ensures (all_denied P xs c.loop-term.term-index c.term-item.result (cut_at xs c.loop-term.term-index c.term-item.result below c.term-item.is) (subst (λ (b : Bool). P c.term-item.result (Ok b)) c.in-Ok-false.field-0-test c.in-Ok-false.ensures) c.loop-term.invariant.0)

pub stepping::are_unchanged-returns-in-Err : goal.stepping::are_unchanged-returns-in-Err
stepping::are_unchanged-returns-in-Err t c =
    let P : Term → Outcome Bool = (λ item. TruthOf (Evaluates (table c.args.scene) c.args.depth) (context c.args.scene) (unchanged_of c.args.at item)) in
    let xs = c.items-term-items.result.now in
    let below : c.loop-term.term-index < length c.items-term-items.result.now = omega arith in
    of_items (λ es. Tells (Err c.in-Err.fault) (AllTrue P es)) xs c.args.terms.now c.items-term-items.ensures (all_stops P xs c.loop-term.term-index c.term-item.result c.in-Err.fault (cut_at xs c.loop-term.term-index c.term-item.result below c.term-item.is) c.in-Err.ensures c.loop-term.invariant.0)

pub stepping::are_unchanged-loop-term-preserved : goal.stepping::are_unchanged-loop-term-preserved
stepping::are_unchanged-loop-term-preserved t c =
    let P : Term → Outcome Bool = (λ item. TruthOf (Evaluates (table c.args.scene) c.args.depth) (context c.args.scene) (unchanged_of c.args.at item)) in
    let xs = c.items-term-items.result.now in
    let i = c.loop-term.term-index in
    let below : c.loop-term.term-index < length c.items-term-items.result.now = omega arith in
    let cut = cut_at xs i c.term-item.result below c.term-item.is in (
      all_goes_on P xs i c.term-item.result cut (subst (λ (b : Bool). P c.term-item.result (Ok b)) c.in-Ok-true.field-0-test c.in-Ok-true.ensures) c.loop-term.invariant.0,
      (unchanged_parts (Reads (table c.args.scene) c.args.depth) (context c.args.scene) c.args.at xs i c.term-item.result cut c.loop-term.invariant.1).1,
    )

pub stepping::are_unchanged-returns : goal.stepping::are_unchanged-returns
stepping::are_unchanged-returns t c =
    let P : Term → Outcome Bool = (λ item. TruthOf (Evaluates (table c.args.scene) c.args.depth) (context c.args.scene) (unchanged_of c.args.at item)) in
    let xs = c.items-term-items.result.now in
    let passed : length c.items-term-items.result.now ≤ c.loop-term.term-index = omega arith in
    of_items (λ es. AllTrue P es (Ok true)) xs c.args.terms.now c.items-term-items.ensures (all_ends P xs c.loop-term.term-index passed c.loop-term.invariant.0)

pub stepping::unchanged_below-is_unchanged-requires : goal.stepping::unchanged_below-is_unchanged-requires
stepping::unchanged_below-is_unchanged-requires t c =
    let some : 0 < c.args.depth = omega (arith, c.if-depth-eq0.false) in
    let e = c.args.term.now in
    let read = reads_node (table c.args.scene) c.args.depth (context c.args.scene) c.args.at levels.Action (term.Prefix prefix.Unchanged e) (unchanged_of c.args.at e) refl some c.requires in
    (omega (arith, c.if-depth-eq0.false, c.decreases), read)

pub stepping::unchanged_below-returns : goal.stepping::unchanged_below-returns
stepping::unchanged_below-returns t c =
    let some : 0 < c.args.depth = omega (arith, c.if-depth-eq0.false) in
    unchanged_above (table c.args.scene) c.args.depth (context c.args.scene) c.args.at c.args.term.now c.is_unchanged.result some c.is_unchanged.ensures

pub stepping::holds_or_stutters-returns-in-Ok-false : goal.stepping::holds_or_stutters-returns-in-Ok-false
stepping::holds_or_stutters-returns-in-Ok-false t c =
    let P = TruthOf (Evaluates (table c.args.scene) c.args.depth) (context c.args.scene) in
    let fails = subst (λ (b : Bool). P c.args.action.now (Ok b)) c.in-Ok-false.field-0-test c.in-Ok-false.ensures in
    else_true P c.args.action.now (unchanged_of c.args.at c.args.subscript.now) c.unchanged_below.result fails c.unchanged_below.ensures

pub stepping::is_unchanged_behind-are_unchanged-requires : goal.stepping::is_unchanged_behind-are_unchanged-requires
stepping::is_unchanged_behind-are_unchanged-requires t c =
    let part = Reads (table c.args.scene) c.args.depth in
    let ctx = context c.args.scene in
    let is = ap (λ (n : TermNode). Placed c.found.inside.at c.found.inside.level (node_view n)) (sym c.in-Tuple.is ∙ c.deref.ensures) ∙ c.found.view_is in
    let read = subst (λ (f : Term). MeansUnchangedReads part ctx c.args.at c.args.term.now (within c.args.kept ctx) f) (sym is) c.requires.read in
    (omega (arith, c.decreases), rw (c.within.ensures.table, c.within.ensures.context) read)

pub stepping::is_unchanged_behind-returns-in-Tuple : goal.stepping::is_unchanged_behind-returns-in-Tuple
stepping::is_unchanged_behind-returns-in-Tuple t c =
    let r = c.are_unchanged.result in
    let ctx = context c.args.scene in
    let is = ap (λ (n : TermNode). Placed c.found.inside.at c.found.inside.level (node_view n)) (sym c.in-Tuple.is ∙ c.deref.ensures) ∙ c.found.view_is in
    let same = subst (λ (ops : Table). Tells r (AllTrue (λ item. TruthOf (Evaluates ops c.args.depth) (context c.within.result) (unchanged_of c.args.at item)) (terms_list c.in-Tuple.items))) c.within.ensures.table c.are_unchanged.ensures in
    let told = subst (λ (x : Context). Tells r (AllTrue (λ item. TruthOf (Evaluates (table c.args.scene) c.args.depth) x (unchanged_of c.args.at item)) (terms_list c.in-Tuple.items))) c.within.ensures.context same in
    subst (λ (f : Term). Tells r (MeansUnchanged (Evaluates (table c.args.scene) c.args.depth) ctx c.args.at c.args.term.now (within c.args.kept ctx) f)) is told

pub stepping::is_still-returns-in-Ok : goal.stepping::is_still-returns-in-Ok
stepping::is_still-returns-in-Ok t c =
    let P = Evaluates (table c.args.scene) c.args.depth (context c.args.scene) c.args.term.now in
    let same = subst (λ (b : Bool). Decides (c.args.next.now ≡ c.in-Ok.now) (Ok b)) (sym c.eq.ensures) (same_value c.args.next.now c.in-Ok.now) in
    tells_then P (λ w. Decides (c.args.next.now ≡ w)) c.in-Ok.now (Ok c.eq.result) c.in-Ok.ensures same

pub describing::describe_parts-describe_part-requires : goal.describing::describe_parts-describe_part-requires
describing::describe_parts-describe_part-requires t c =
    let terms = c.args.terms.now in
    let i = c.loop-term.term-index in
    let below : c.loop-term.term-index < length c.args.terms.now = omega arith in
    let cut = cut_mapped (λ (e : Bor Term). e.now) terms i c.term-item.result (cut_at terms i c.term-item.result below c.term-item.is) in
    (omega (arith, c.decreases), (reads_at (Reads (table c.args.scene) c.args.depth) (context c.args.scene) (map (λ (e : Bor Term). e.now) terms) i c.term-item.result.now c.loop-term.invariant.1 cut).0)

pub describing::describe_parts-returns-in-Err-clause-fault : goal.describing::describe_parts-returns-in-Err-clause-fault
describing::describe_parts-returns-in-Err-clause-fault t c =
    let P = PartDescribed (Describes (table c.args.scene) c.args.depth) (context c.args.scene) in
    let terms = c.args.terms.now in
    let i = c.loop-term.term-index in
    let below : c.loop-term.term-index < length c.args.terms.now = omega arith in
    let cut = cut_mapped (λ (e : Bor Term). e.now) terms i c.term-item.result (cut_at terms i c.term-item.result below c.term-item.is) in
    each_stops P (map (λ (e : Bor Term). e.now) terms) i c.term-item.result.now c.loop-term.parts.items c.in-Err.fault cut c.in-Err.ensures.fine c.loop-term.invariant.0

pub describing::describe_parts-loop-term-preserved : goal.describing::describe_parts-loop-term-preserved
describing::describe_parts-loop-term-preserved t c =
    let P = PartDescribed (Describes (table c.args.scene) c.args.depth) (context c.args.scene) in
    let terms = c.args.terms.now in
    let xs = map (λ (e : Bor Term). e.now) terms in
    let i = c.loop-term.term-index in
    let below : c.loop-term.term-index < length c.args.terms.now = omega arith in
    let cut = cut_mapped (λ (e : Bor Term). e.now) terms i c.term-item.result (cut_at terms i c.term-item.result below c.term-item.is) in (
      subst (λ (ys : List (Place × Described)). EachSoFar P xs (i + 1) ys) (sym c.in_ok-push-in-Ok.ensures) (each_goes_on P xs i c.term-item.result.now c.loop-term.parts.items c.in-Ok.part cut c.in-Ok.ensures.fine c.loop-term.invariant.0),
      (reads_at (Reads (table c.args.scene) c.args.depth) (context c.args.scene) xs i c.term-item.result.now c.loop-term.invariant.1 cut).1,
      ready_pushed c.loop-term.parts.items _ c.in-Ok.part c.in_ok-push-in-Ok.ensures c.loop-term.invariant.2 c.in-Ok.ensures.ready,
    )

pub describing::describe_parts-returns-clause-parts : goal.describing::describe_parts-returns-clause-parts
describing::describe_parts-returns-clause-parts t c =
    let P = PartDescribed (Describes (table c.args.scene) c.args.depth) (context c.args.scene) in
    let terms = c.args.terms.now in
    let xs = map (λ (e : Bor Term). e.now) terms in
    let passed : length c.args.terms.now ≤ c.loop-term.term-index = omega arith in
    let over : length xs ≤ c.loop-term.term-index = omega (arith, passed, length-map c.args.terms.now (λ (e : Bor Term). e.now)) in
    each_ends P xs c.loop-term.term-index c.loop-term.parts.items over c.loop-term.invariant.0
