use Rattle.std.proofs.Common.{[], ◌∷◌, ◌++◌, map, ◌+◌, ◌*◌, drop, length, ◌≡◌}
use Rattle.std.specs.Prelude.{option_copied, IsTrue}
use Rattle.names_terms.specs.TermViews.{arm_item, field_item, bound_item, change_item, step_item}
use Rattle.eval_meanings.specs.Meanings.{FieldEvaluates, PairOf}
use Rattle.eval_meanings.specs.Contexts.{bind}
use Rattle.eval_meanings.specs.Evaluates.{Evaluates, Describes}
use Rattle.eval_meanings.specs.Unchanged.{TruthOf, unchanged_of}
use Rattle.eval_meanings.specs.Reads.{ArmsRead, Reads, ReadsEach, ChangesRead, PathReads}
use Rattle.eval_parts.specs.Scenes.{OtherEvaluates, context, operand_item, table}
use Rattle.eval_meanings.specs.Answers.{IsReady}
use Rattle.eval_terms.proofs.JoinedLoops.{JoinedSoFar}
use Rattle.eval_parts.proofs.Loops.{ArmsSoFar, ChainSoFar, PassingSoFar, FirstSoFar, EachSoFar, AllSoFar, SomeSoFar}
use Rattle.eval_terms.proofs.+evaluate.Given as goal
use Rattle.eval_meanings.specs.Binders.{combinations}
use Rattle.eval_parts.specs.BoundSets.{BoundEvaluates, bound_value}
use Rattle.eval_parts.specs.Walks.{AreWithin, left_from}
use Rattle.eval_terms.proofs.BoundLoops.{AnyFrom, EachFrom, EveryFrom}
use Rattle.std.specs.List.{All}
use Rattle.eval_meanings.specs.Sets.{FieldDescribed, PartDescribed}
use Rattle.names_terms.specs.Terms.{place_of}
use Rattle.eval_parts.specs.ChangePaths.{StepsMakeReads, part_item, primes_in}
use Rattle.eval_parts.proofs.ChangeWalk.{ChangeSoFar, ChangesSoFar, bare}
use Rattle.eval_parts.proofs.StepWalk.{StepsSoFar}
use Rattle.eval_parts.specs.ReadyParts.{AreReady}

abbrev pub decreases-evaluate::eval : goal.decreases-evaluate::eval
decreases-evaluate::eval l = 20 * l.depth

abbrev pub decreases-evaluate::eval_node : goal.decreases-evaluate::eval_node
decreases-evaluate::eval_node l = 20 * l.depth + 13

abbrev pub decreases-evaluate::eval_if : goal.decreases-evaluate::eval_if
decreases-evaluate::eval_if l = 20 * l.depth + 2

abbrev pub decreases-evaluate::eval_truth : goal.decreases-evaluate::eval_truth
decreases-evaluate::eval_truth l = 20 * l.depth + 1

abbrev pub decreases-evaluate::eval_each : goal.decreases-evaluate::eval_each
decreases-evaluate::eval_each l = 20 * l.depth + 2

abbrev pub decreases-evaluate::are_all_true : goal.decreases-evaluate::are_all_true
decreases-evaluate::are_all_true l = 20 * l.depth + 2

abbrev pub decreases-evaluate::is_some_true : goal.decreases-evaluate::is_some_true
decreases-evaluate::is_some_true l = 20 * l.depth + 2

abbrev pub invariant-evaluate::eval_each-loop-term : goal.invariant-evaluate::eval_each-loop-term
invariant-evaluate::eval_each-loop-term l =
    EachSoFar (Evaluates (table l.scene) l.depth (context l.scene)) l.term-items l.term-index l.values.items × ReadsEach (Reads (table l.scene) l.depth) (context l.scene) (drop l.term-index l.term-items)

abbrev pub invariant-evaluate::are_all_true-loop-term : goal.invariant-evaluate::are_all_true-loop-term
invariant-evaluate::are_all_true-loop-term l =
    AllSoFar (TruthOf (Evaluates (table l.scene) l.depth) (context l.scene)) l.term-items l.term-index × ReadsEach (Reads (table l.scene) l.depth) (context l.scene) (drop l.term-index l.term-items)

abbrev pub invariant-evaluate::is_some_true-loop-term : goal.invariant-evaluate::is_some_true-loop-term
invariant-evaluate::is_some_true-loop-term l =
    SomeSoFar (TruthOf (Evaluates (table l.scene) l.depth) (context l.scene)) l.term-items l.term-index × ReadsEach (Reads (table l.scene) l.depth) (context l.scene) (drop l.term-index l.term-items)

abbrev pub decreases-evaluate::describe : goal.decreases-evaluate::describe
decreases-evaluate::describe l = 20 * l.depth

abbrev pub decreases-evaluate::describe_node : goal.decreases-evaluate::describe_node
decreases-evaluate::describe_node l = 20 * l.depth + 17

abbrev pub decreases-evaluate::eval_use : goal.decreases-evaluate::eval_use
decreases-evaluate::eval_use l = 20 * l.depth + 4

abbrev pub decreases-evaluate::eval_body : goal.decreases-evaluate::eval_body
decreases-evaluate::eval_body l = 20 * l.depth + 3

abbrev pub decreases-evaluate::describe_use : goal.decreases-evaluate::describe_use
decreases-evaluate::describe_use l = 20 * l.depth + 3

abbrev pub decreases-evaluate::describe_body : goal.decreases-evaluate::describe_body
decreases-evaluate::describe_body l = 20 * l.depth + 2

abbrev pub decreases-evaluate::describe_listed : goal.decreases-evaluate::describe_listed
decreases-evaluate::describe_listed l = 20 * l.depth + 1

abbrev pub decreases-evaluate::eval_standard : goal.decreases-evaluate::eval_standard
decreases-evaluate::eval_standard l = 20 * l.depth + 4

abbrev pub decreases-evaluate::eval_operation : goal.decreases-evaluate::eval_operation
decreases-evaluate::eval_operation l = 20 * l.depth + 3

abbrev pub decreases-evaluate::eval_prefix : goal.decreases-evaluate::eval_prefix
decreases-evaluate::eval_prefix l = 20 * l.depth + 6

abbrev pub decreases-evaluate::eval_one : goal.decreases-evaluate::eval_one
decreases-evaluate::eval_one l = 20 * l.depth + 1

abbrev pub decreases-evaluate::describe_set : goal.decreases-evaluate::describe_set
decreases-evaluate::describe_set l = 20 * l.depth + 1

abbrev pub decreases-describing::describe_subsets : goal.decreases-describing::describe_subsets
decreases-describing::describe_subsets l = 20 * l.depth + 2

abbrev pub decreases-describing::describe_functions : goal.decreases-describing::describe_functions
decreases-describing::describe_functions l = 20 * l.depth + 2

abbrev pub decreases-operations::eval_infix : goal.decreases-operations::eval_infix
decreases-operations::eval_infix l = 20 * l.depth + 8

abbrev pub decreases-operations::eval_pair : goal.decreases-operations::eval_pair
decreases-operations::eval_pair l = 20 * l.depth + 7

abbrev pub decreases-operations::eval_two : goal.decreases-operations::eval_two
decreases-operations::eval_two l = 20 * l.depth + 2

abbrev pub decreases-operations::implies : goal.decreases-operations::implies
decreases-operations::implies l = 20 * l.depth + 2

abbrev pub decreases-operations::equivalent : goal.decreases-operations::equivalent
decreases-operations::equivalent l = 20 * l.depth + 2

abbrev pub decreases-operations::is_member : goal.decreases-operations::is_member
decreases-operations::is_member l = 20 * l.depth + 2

abbrev pub decreases-operations::is_subset : goal.decreases-operations::is_subset
decreases-operations::is_subset l = 20 * l.depth + 2

abbrev pub decreases-operations::eval_functions : goal.decreases-operations::eval_functions
decreases-operations::eval_functions l = 20 * l.depth + 3

abbrev pub decreases-binding::truth_under : goal.decreases-binding::truth_under
decreases-binding::truth_under l = 20 * l.depth + 2

abbrev pub decreases-binding::eval_filter : goal.decreases-binding::eval_filter
decreases-binding::eval_filter l = 20 * l.depth + 5

abbrev pub decreases-binding::eval_members : goal.decreases-binding::eval_members
decreases-binding::eval_members l = 20 * l.depth + 1

abbrev pub decreases-binding::passing : goal.decreases-binding::passing
decreases-binding::passing l = 20 * l.depth + 3

abbrev pub decreases-binding::eval_choose : goal.decreases-binding::eval_choose
decreases-binding::eval_choose l = 20 * l.depth + 4

abbrev pub decreases-binding::chosen : goal.decreases-binding::chosen
decreases-binding::chosen l = 20 * l.depth + 3

abbrev pub invariant-binding::passing-loop-member : goal.invariant-binding::passing-loop-member
invariant-binding::passing-loop-member l =
    PassingSoFar (λ v. TruthOf (Evaluates (table l.scene) l.depth) (bind (context l.scene) (v ∷ [])) l.test) l.members l.member-index l.values.items

abbrev pub invariant-binding::chosen-loop-member : goal.invariant-binding::chosen-loop-member
invariant-binding::chosen-loop-member l =
    FirstSoFar l.at (λ v. TruthOf (Evaluates (table l.scene) l.depth) (bind (context l.scene) (v ∷ [])) l.test) l.members l.member-index

abbrev pub decreases-operations::eval_long : goal.decreases-operations::eval_long
decreases-operations::eval_long l = 20 * l.depth + 7

abbrev pub decreases-operations::eval_chain : goal.decreases-operations::eval_chain
decreases-operations::eval_chain l = 20 * l.depth + 4

abbrev pub decreases-operations::eval_rest : goal.decreases-operations::eval_rest
decreases-operations::eval_rest l = 20 * l.depth + 3

abbrev pub decreases-operations::eval_next : goal.decreases-operations::eval_next
decreases-operations::eval_next l = 20 * l.depth + 1

abbrev pub invariant-operations::eval_rest-loop-other : goal.invariant-operations::eval_rest-loop-other
invariant-operations::eval_rest-loop-other l =
    ChainSoFar (Evaluates (table l.scene) l.depth) (context l.scene) l.operator (map operand_item l.others) ((l.at, l.last) ∷ []) l.initial.place l.initial.value l.other-index l.place l.value
    × ReadsEach (Reads (table l.scene) l.depth) (context l.scene) (map (λ e. e.1) (drop l.other-index (map operand_item l.others) ++ (l.at, l.last) ∷ []))

abbrev pub decreases-binding::filtered : goal.decreases-binding::filtered
decreases-binding::filtered l = 20 * l.depth + 4

abbrev pub decreases-describing::describe_interval : goal.decreases-describing::describe_interval
decreases-describing::describe_interval l = 20 * l.depth + 2

abbrev pub decreases-operations::eval_interval : goal.decreases-operations::eval_interval
decreases-operations::eval_interval l = 20 * l.depth + 3

abbrev pub decreases-describing::describe_two : goal.decreases-describing::describe_two
decreases-describing::describe_two l = 20 * l.depth + 2

abbrev pub decreases-operations::eval_joined : goal.decreases-operations::eval_joined
decreases-operations::eval_joined l = 20 * l.depth + 3

abbrev pub decreases-evaluate::described_value : goal.decreases-evaluate::described_value
decreases-evaluate::described_value l = 20 * l.depth + 14

abbrev pub decreases-evaluate::eval_case : goal.decreases-evaluate::eval_case
decreases-evaluate::eval_case l = 20 * l.depth + 2

abbrev pub invariant-evaluate::eval_case-loop-arm : goal.invariant-evaluate::eval_case-loop-arm
invariant-evaluate::eval_case-loop-arm l =
    ArmsSoFar (Evaluates (table l.scene) l.depth) (context l.scene) (OtherEvaluates (Evaluates (table l.scene) l.depth) (context l.scene) l.at (option_copied l.other)) (map arm_item l.arm-items) l.arm-index
    × ArmsRead (Reads (table l.scene) l.depth) (context l.scene) (drop l.arm-index (map arm_item l.arm-items))

abbrev pub decreases-evaluate::describe_call : goal.decreases-evaluate::describe_call
decreases-evaluate::describe_call l = 20 * l.depth + 15

abbrev pub decreases-describing::describe_sequences : goal.decreases-describing::describe_sequences
decreases-describing::describe_sequences l = 20 * l.depth + 2

abbrev pub decreases-operations::eval_sequences : goal.decreases-operations::eval_sequences
decreases-operations::eval_sequences l = 20 * l.depth + 3

abbrev pub decreases-evaluate::eval_record : goal.decreases-evaluate::eval_record
decreases-evaluate::eval_record l = 20 * l.depth + 3

abbrev pub decreases-evaluate::eval_fields : goal.decreases-evaluate::eval_fields
decreases-evaluate::eval_fields l = 20 * l.depth + 2

abbrev pub decreases-evaluate::eval_field : goal.decreases-evaluate::eval_field
decreases-evaluate::eval_field l = 20 * l.depth + 1

abbrev pub invariant-evaluate::eval_fields-loop-field : goal.invariant-evaluate::eval_fields-loop-field
invariant-evaluate::eval_fields-loop-field l =
    EachSoFar (FieldEvaluates (Evaluates (table l.scene) l.depth) (context l.scene)) (map field_item l.field-items) l.field-index l.pairs.items × ReadsEach (Reads (table l.scene) l.depth) (context l.scene) (map (λ f. f.1) (drop l.field-index (map field_item l.field-items)))

abbrev pub decreases-stepping::holds_and_changes : goal.decreases-stepping::holds_and_changes
decreases-stepping::holds_and_changes l = 20 * l.depth + 5

abbrev pub decreases-stepping::is_changed : goal.decreases-stepping::is_changed
decreases-stepping::is_changed l = 20 * l.depth + 4

abbrev pub decreases-stepping::eval_changed : goal.decreases-stepping::eval_changed
decreases-stepping::eval_changed l = 20 * l.depth + 3

abbrev pub decreases-stepping::eval_difference : goal.decreases-stepping::eval_difference
decreases-stepping::eval_difference l = 20 * l.depth + 2

abbrev pub decreases-stepping::eval_prime : goal.decreases-stepping::eval_prime
decreases-stepping::eval_prime l = 20 * l.depth + 1

abbrev pub decreases-describing::describe_infix : goal.decreases-describing::describe_infix
decreases-describing::describe_infix l = 20 * l.depth + 16

abbrev pub decreases-describing::described_plain : goal.decreases-describing::described_plain
decreases-describing::described_plain l = 20 * l.depth + 15

abbrev pub decreases-describing::described_made : goal.decreases-describing::described_made
decreases-describing::described_made l = 20 * l.depth + 6

abbrev pub decreases-describing::describe_operands : goal.decreases-describing::describe_operands
decreases-describing::describe_operands l = 20 * l.depth + 5

abbrev pub decreases-describing::describe_pair : goal.decreases-describing::describe_pair
decreases-describing::describe_pair l = 20 * l.depth + 4

abbrev pub decreases-describing::describe_chain : goal.decreases-describing::describe_chain
decreases-describing::describe_chain l = 20 * l.depth + 3

abbrev pub decreases-describing::describe_rest : goal.decreases-describing::describe_rest
decreases-describing::describe_rest l = 20 * l.depth + 2

abbrev pub decreases-describing::describe_next : goal.decreases-describing::describe_next
decreases-describing::describe_next l = 20 * l.depth + 1

abbrev pub decreases-operations::eval_joins : goal.decreases-operations::eval_joins
decreases-operations::eval_joins l = 20 * l.depth + 4

abbrev pub decreases-describing::describe_long : goal.decreases-describing::describe_long
decreases-describing::describe_long l = 20 * l.depth + 4

abbrev pub invariant-describing::describe_rest-loop-other : goal.invariant-describing::describe_rest-loop-other
invariant-describing::describe_rest-loop-other l =
    JoinedSoFar (Describes (table l.scene) l.depth) (context l.scene) l.operator (map operand_item l.others) ((l.at, l.last) ∷ []) l.initial.place l.initial.set l.other-index l.place l.set
    × ReadsEach (Reads (table l.scene) l.depth) (context l.scene) (map (λ e. e.1) (drop l.other-index (map operand_item l.others) ++ (l.at, l.last) ∷ []))
    × IsReady l.set

-- --- Bound names rows

abbrev pub decreases-binding::eval_quantified : goal.decreases-binding::eval_quantified
decreases-binding::eval_quantified l = 20 * l.depth + 5

abbrev pub decreases-binding::quantified : goal.decreases-binding::quantified
decreases-binding::quantified l = 20 * l.depth + 4

abbrev pub decreases-binding::holds_for_all : goal.decreases-binding::holds_for_all
decreases-binding::holds_for_all l = 20 * l.depth + 3

abbrev pub decreases-binding::holds_for_some : goal.decreases-binding::holds_for_some
decreases-binding::holds_for_some l = 20 * l.depth + 3

abbrev pub decreases-binding::truth_with : goal.decreases-binding::truth_with
decreases-binding::truth_with l = 20 * l.depth + 2

abbrev pub decreases-binding::eval_with : goal.decreases-binding::eval_with
decreases-binding::eval_with l = 20 * l.depth + 1

abbrev pub decreases-binding::eval_bounds : goal.decreases-binding::eval_bounds
decreases-binding::eval_bounds l = 20 * l.depth + 3

abbrev pub decreases-binding::eval_each_bound : goal.decreases-binding::eval_each_bound
decreases-binding::eval_each_bound l = 20 * l.depth + 2

abbrev pub decreases-binding::eval_bound : goal.decreases-binding::eval_bound
decreases-binding::eval_bound l = 20 * l.depth + 1

abbrev pub decreases-binding::eval_map : goal.decreases-binding::eval_map
decreases-binding::eval_map l = 20 * l.depth + 5

abbrev pub decreases-binding::mapped : goal.decreases-binding::mapped
decreases-binding::mapped l = 20 * l.depth + 4

abbrev pub decreases-binding::values_for_each : goal.decreases-binding::values_for_each
decreases-binding::values_for_each l = 20 * l.depth + 3

abbrev pub decreases-binding::eval_function : goal.decreases-binding::eval_function
decreases-binding::eval_function l = 20 * l.depth + 5

abbrev pub decreases-binding::function_over : goal.decreases-binding::function_over
decreases-binding::function_over l = 20 * l.depth + 4

abbrev pub decreases-binding::pairs_for_each : goal.decreases-binding::pairs_for_each
decreases-binding::pairs_for_each l = 20 * l.depth + 3

abbrev pub decreases-binding::pair_with : goal.decreases-binding::pair_with
decreases-binding::pair_with l = 20 * l.depth + 2

abbrev pub decreases-binding::holds_for_all-loop-more : goal.decreases-binding::holds_for_all-loop-more
decreases-binding::holds_for_all-loop-more l = length (left_from l.more (map (λ x. x.now) l.lists) l.places.items)

abbrev pub invariant-binding::holds_for_all-loop-more : goal.invariant-binding::holds_for_all-loop-more
invariant-binding::holds_for_all-loop-more l =
    EveryFrom (λ chosen. TruthOf (Evaluates (table l.scene) l.depth) (bind (context l.scene) chosen) l.body) (combinations (map (λ x. x.now) l.lists)) (left_from l.more (map (λ x. x.now) l.lists) l.places.items)
    × (IsTrue l.more → AreWithin (map (λ x. x.now) l.lists) l.places.items)

abbrev pub decreases-binding::holds_for_some-loop-more : goal.decreases-binding::holds_for_some-loop-more
decreases-binding::holds_for_some-loop-more l = length (left_from l.more (map (λ x. x.now) l.lists) l.places.items)

abbrev pub invariant-binding::holds_for_some-loop-more : goal.invariant-binding::holds_for_some-loop-more
invariant-binding::holds_for_some-loop-more l =
    AnyFrom (λ chosen. TruthOf (Evaluates (table l.scene) l.depth) (bind (context l.scene) chosen) l.body) (combinations (map (λ x. x.now) l.lists)) (left_from l.more (map (λ x. x.now) l.lists) l.places.items)
    × (IsTrue l.more → AreWithin (map (λ x. x.now) l.lists) l.places.items)

abbrev pub decreases-binding::values_for_each-loop-more : goal.decreases-binding::values_for_each-loop-more
decreases-binding::values_for_each-loop-more l = length (left_from l.more (map (λ x. x.now) l.lists) l.places.items)

abbrev pub invariant-binding::values_for_each-loop-more : goal.invariant-binding::values_for_each-loop-more
invariant-binding::values_for_each-loop-more l =
    EachFrom (λ chosen. Evaluates (table l.scene) l.depth (bind (context l.scene) chosen) l.term) (combinations (map (λ x. x.now) l.lists)) (left_from l.more (map (λ x. x.now) l.lists) l.places.items) l.values.items
    × (IsTrue l.more → AreWithin (map (λ x. x.now) l.lists) l.places.items)

abbrev pub decreases-binding::pairs_for_each-loop-more : goal.decreases-binding::pairs_for_each-loop-more
decreases-binding::pairs_for_each-loop-more l = length (left_from l.more (map (λ x. x.now) l.lists) l.places.items)

abbrev pub invariant-binding::pairs_for_each-loop-more : goal.invariant-binding::pairs_for_each-loop-more
invariant-binding::pairs_for_each-loop-more l =
    EachFrom (PairOf (Evaluates (table l.scene) l.depth) (context l.scene) l.at l.term) (combinations (map (λ x. x.now) l.lists)) (left_from l.more (map (λ x. x.now) l.lists) l.places.items) l.pairs.items
    × (IsTrue l.more → AreWithin (map (λ x. x.now) l.lists) l.places.items)

abbrev pub invariant-binding::eval_each_bound-loop-bound : goal.invariant-binding::eval_each_bound-loop-bound
invariant-binding::eval_each_bound-loop-bound l =
    EachSoFar (BoundEvaluates (Evaluates (table l.scene) l.depth) (context l.scene)) (map bound_item l.bound-items) l.bound-index (map bound_value l.sets.items)
    × ReadsEach (Reads (table l.scene) l.depth) (context l.scene) (map (λ b. b.1) (drop l.bound-index (map bound_item l.bound-items)))

-- rows of records, changes and steps

abbrev pub decreases-operations::eval_records : goal.decreases-operations::eval_records
decreases-operations::eval_records l = 20 * l.depth + 4

abbrev pub decreases-describing::describe_records : goal.decreases-describing::describe_records
decreases-describing::describe_records l = 20 * l.depth + 3

abbrev pub decreases-describing::describe_fields : goal.decreases-describing::describe_fields
decreases-describing::describe_fields l = 20 * l.depth + 2

abbrev pub decreases-describing::describe_field : goal.decreases-describing::describe_field
decreases-describing::describe_field l = 20 * l.depth + 1

abbrev pub decreases-describing::describe_prefix : goal.decreases-describing::describe_prefix
decreases-describing::describe_prefix l = 20 * l.depth + 15

abbrev pub decreases-stepping::eval_except : goal.decreases-stepping::eval_except
decreases-stepping::eval_except l = 20 * l.depth + 7

abbrev pub decreases-stepping::all_changed : goal.decreases-stepping::all_changed
decreases-stepping::all_changed l = 20 * l.depth + 6

abbrev pub decreases-stepping::changed : goal.decreases-stepping::changed
decreases-stepping::changed l = 20 * l.depth + 5

abbrev pub decreases-stepping::eval_new : goal.decreases-stepping::eval_new
decreases-stepping::eval_new l = 20 * l.depth + 2

abbrev pub decreases-stepping::eval_with : goal.decreases-stepping::eval_with
decreases-stepping::eval_with l = 20 * l.depth + 1

abbrev pub decreases-stepping::step_key : goal.decreases-stepping::step_key
decreases-stepping::step_key l = 20 * l.depth + 4

abbrev pub decreases-stepping::eval_key : goal.decreases-stepping::eval_key
decreases-stepping::eval_key l = 20 * l.depth + 3

abbrev pub decreases-stepping::eval_postfix : goal.decreases-stepping::eval_postfix
decreases-stepping::eval_postfix l = 20 * l.depth + 12

abbrev pub decreases-stepping::eval_last : goal.decreases-stepping::eval_last
decreases-stepping::eval_last l = 20 * l.depth + 11

abbrev pub decreases-stepping::eval_applied : goal.decreases-stepping::eval_applied
decreases-stepping::eval_applied l = 20 * l.depth + 5

abbrev pub decreases-stepping::eval_steps : goal.decreases-stepping::eval_steps
decreases-stepping::eval_steps l = 20 * l.depth + 9

abbrev pub decreases-stepping::eval_then : goal.decreases-stepping::eval_then
decreases-stepping::eval_then l = 20 * l.depth + 10

abbrev pub decreases-stepping::eval_base : goal.decreases-stepping::eval_base
decreases-stepping::eval_base l = 20 * l.depth + 8

abbrev pub decreases-recursion::eval_first : goal.decreases-recursion::eval_first
decreases-recursion::eval_first l = 20 * l.depth + 8

abbrev pub decreases-recursion::eval_recursion : goal.decreases-recursion::eval_recursion
decreases-recursion::eval_recursion l = 20 * l.depth + 5

abbrev pub decreases-recursion::eval_at_key : goal.decreases-recursion::eval_at_key
decreases-recursion::eval_at_key l = 20 * l.depth + 4

abbrev pub decreases-recursion::describe_keys : goal.decreases-recursion::describe_keys
decreases-recursion::describe_keys l = 20 * l.depth + 3

abbrev pub decreases-recursion::eval_member : goal.decreases-recursion::eval_member
decreases-recursion::eval_member l = 20 * l.depth + 2

abbrev pub decreases-recursion::eval_named : goal.decreases-recursion::eval_named
decreases-recursion::eval_named l = 20 * l.depth + 1

abbrev pub decreases-stepping::eval_behind : goal.decreases-stepping::eval_behind
decreases-stepping::eval_behind l = 20 * l.depth + 7

abbrev pub decreases-stepping::eval_step : goal.decreases-stepping::eval_step
decreases-stepping::eval_step l = 20 * l.depth + 6

abbrev pub invariant-describing::describe_fields-loop-field : goal.invariant-describing::describe_fields-loop-field
invariant-describing::describe_fields-loop-field l =
    EachSoFar (FieldDescribed (Describes (table l.scene) l.depth) (context l.scene)) (map field_item l.field-items) l.field-index (map part_item l.parts.items)
    × ReadsEach (Reads (table l.scene) l.depth) (context l.scene) (map (λ f. f.1) (drop l.field-index (map field_item l.field-items)))
    × All (λ p. IsReady p.set) l.parts.items

abbrev pub invariant-stepping::all_changed-loop-change : goal.invariant-stepping::all_changed-loop-change
invariant-stepping::all_changed-loop-change l =
    ChangesSoFar (Evaluates (table l.scene) l.depth) (context l.scene) l.at (place_of l.base) (map change_item l.change-items) l.initial.value l.change-index l.value
    × ChangesRead (Reads (table l.scene) l.depth) (context l.scene) (drop l.change-index (map change_item l.change-items))

abbrev pub invariant-stepping::changed-loop-item : goal.invariant-stepping::changed-loop-item
invariant-stepping::changed-loop-item l =
    ChangeSoFar (Evaluates (table l.scene) l.depth) (context l.scene) l.at (place_of l.base) l.new (map bare l.item-items) l.initial.inner l.item-index l.layers.items l.inner
    × PathReads (Reads (table l.scene) l.depth) (context l.scene) (drop l.item-index (map bare l.item-items))

abbrev pub invariant-stepping::eval_behind-loop-item : goal.invariant-stepping::eval_behind-loop-item
invariant-stepping::eval_behind-loop-item l =
    StepsSoFar (Evaluates (table l.scene) l.depth) (context l.scene) (map step_item l.steps) l.initial.place l.initial.value l.item-index l.place l.value
    × StepsMakeReads (Reads (table l.scene) l.depth) (context l.scene) (drop l.item-index (map step_item l.steps))
    × (l.primes ≡ primes_in (drop l.item-index (map step_item l.steps)))

-- products, UNCHANGED and [A]_v

abbrev pub decreases-describing::describe_product : goal.decreases-describing::describe_product
decreases-describing::describe_product l = 20 * l.depth + 3

abbrev pub decreases-describing::describe_parts : goal.decreases-describing::describe_parts
decreases-describing::describe_parts l = 20 * l.depth + 2

abbrev pub decreases-describing::describe_part : goal.decreases-describing::describe_part
decreases-describing::describe_part l = 20 * l.depth + 1

abbrev pub decreases-operations::eval_product : goal.decreases-operations::eval_product
decreases-operations::eval_product l = 20 * l.depth + 4

abbrev pub invariant-describing::describe_parts-loop-term : goal.invariant-describing::describe_parts-loop-term
invariant-describing::describe_parts-loop-term l =
    EachSoFar (PartDescribed (Describes (table l.scene) l.depth) (context l.scene)) (map (λ t. t.now) l.terms) l.term-index l.parts.items
    × ReadsEach (Reads (table l.scene) l.depth) (context l.scene) (drop l.term-index (map (λ t. t.now) l.terms))
    × AreReady l.parts.items

abbrev pub decreases-stepping::is_unchanged : goal.decreases-stepping::is_unchanged
decreases-stepping::is_unchanged l = 20 * l.depth + 5

abbrev pub decreases-stepping::is_unchanged_behind : goal.decreases-stepping::is_unchanged_behind
decreases-stepping::is_unchanged_behind l = 20 * l.depth + 4

abbrev pub decreases-stepping::are_unchanged : goal.decreases-stepping::are_unchanged
decreases-stepping::are_unchanged l = 20 * l.depth + 3

abbrev pub decreases-stepping::unchanged_below : goal.decreases-stepping::unchanged_below
decreases-stepping::unchanged_below l = 20 * l.depth + 2

abbrev pub decreases-stepping::stays_same : goal.decreases-stepping::stays_same
decreases-stepping::stays_same l = 20 * l.depth + 2

abbrev pub decreases-stepping::is_still : goal.decreases-stepping::is_still
decreases-stepping::is_still l = 20 * l.depth + 1

abbrev pub decreases-stepping::holds_or_stutters : goal.decreases-stepping::holds_or_stutters
decreases-stepping::holds_or_stutters l = 20 * l.depth + 4

abbrev pub invariant-stepping::are_unchanged-loop-term : goal.invariant-stepping::are_unchanged-loop-term
invariant-stepping::are_unchanged-loop-term l =
    AllSoFar (λ item. TruthOf (Evaluates (table l.scene) l.depth) (context l.scene) (unchanged_of l.at item)) l.term-items l.term-index
    × ReadsEach (Reads (table l.scene) l.depth) (context l.scene) (map (unchanged_of l.at) (drop l.term-index l.term-items))
