use Rattle.std.proofs.Common.{◌≡◌, ◌+◌, ◌*◌, ◌++◌, suc, drop, false, nat_lt, string_bytes}
use Rattle.serde_json.specs.Written.{items_text, members_text}
use Rattle.values_core.specs.Data.{depth, vals_depth, vals_of, pairs_of}
use Rattle.values_core.specs.Functions.{pairs_in}
use Rattle.values_json.specs.Prints.{print_members, print_values, print_fields, print_pairs}
use Rattle.values_json.proofs.spelling.+push.Given as goal

abbrev pub decreases-push_value : goal.decreases-push_value
decreases-push_value l = 4 * depth l.value.now + 3

abbrev pub decreases-push_set : goal.decreases-push_set
decreases-push_set l = 4 * depth l.value.now + 2

abbrev pub decreases-push_members : goal.decreases-push_members
decreases-push_members l = 4 * suc (vals_depth (vals_of l.members.now)) + 1

abbrev pub decreases-push_function : goal.decreases-push_function
decreases-push_function l = 4 * depth l.value.now + 2

abbrev pub decreases-push_values : goal.decreases-push_values
decreases-push_values l = 4 * depth l.value.now + 1

abbrev pub decreases-push_keyed : goal.decreases-push_keyed
decreases-push_keyed l = 4 * depth l.value.now + 1

abbrev pub decreases-push_fields : goal.decreases-push_fields
decreases-push_fields l = 4 * depth l.value.now

abbrev pub decreases-push_pairs : goal.decreases-push_pairs
decreases-push_pairs l = 4 * depth l.value.now

abbrev pub invariant-push_members-loop-i : goal.invariant-push_members-loop-i
invariant-push_members-loop-i l =
    string_bytes l.text ++ items_text (nat_lt 0 l.i) (print_members (vals_of (drop l.i l.members))) ≡ string_bytes l.initial.text ++ items_text false (print_members (vals_of l.members))

abbrev pub invariant-push_values-loop-i : goal.invariant-push_values-loop-i
invariant-push_values-loop-i l =
    string_bytes l.text ++ items_text (nat_lt 0 l.i) (print_values (pairs_of (drop l.i (pairs_in l.value)))) ≡ string_bytes l.initial.text ++ items_text false (print_values (pairs_of (pairs_in l.value)))

abbrev pub invariant-push_fields-loop-i : goal.invariant-push_fields-loop-i
invariant-push_fields-loop-i l =
    string_bytes l.text ++ members_text (nat_lt 0 l.i) (print_fields (pairs_of (drop l.i (pairs_in l.value)))) ≡ string_bytes l.initial.text ++ members_text false (print_fields (pairs_of (pairs_in l.value)))

abbrev pub invariant-push_pairs-loop-i : goal.invariant-push_pairs-loop-i
invariant-push_pairs-loop-i l =
    string_bytes l.text ++ items_text (nat_lt 0 l.i) (print_pairs (pairs_of (drop l.i (pairs_in l.value)))) ≡ string_bytes l.initial.text ++ items_text false (print_pairs (pairs_of (pairs_in l.value)))
