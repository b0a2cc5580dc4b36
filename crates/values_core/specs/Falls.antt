-- Each value inside a value is less deep.
use Rattle.std.specs.Prelude.{ℕ, List, ◌≤◌, [], ◌∷◌, max, ◌+◌, suc}
use Rattle.std.proofs.Common.{arith}
use denote.Param.Weighed.{most}
use Rattle.values_core.specs.Data.{Val, vals_of, pairs_of, depth, vals_depth, pairs_depth}
use Rattle.values_core.specs.Functions.{numbered_from}
use Rattle.values_core.specs.declared.value.Entry.{Entry}
use Rattle.values_core.specs.declared.value.Field.{Field}
use Rattle.values_core.specs.declared.value.Node.{Node}
use Rattle.values_core.specs.declared.value.Node.TheVariants.{Model, Bool, Int, String, Set, Sequence, Record, Function}
use Rattle.values_core.specs.declared.value.Value.TheDeep.{deep-Node, deep-Entry, deep-Field}
use Rattle.values_core.specs.View.{node_view, entries_view, fields_view}

most_vals : (vs : List Val) → most (λ v. depth v + 1) vs ≤ suc (vals_depth (vals_of vs))
most_vals [] = omega arith
most_vals (v ∷ vs) = omega (arith, most_vals vs)

most_entries : (es : List Entry) → most deep-Entry es ≤ suc (pairs_depth (entries_view es))
most_entries [] = omega arith
most_entries (e ∷ es) = omega (arith, most_entries es)

most_numbered : (n : ℕ) (vs : List Val) → most (λ v. depth v + 1) vs ≤ suc (pairs_depth (pairs_of (numbered_from n vs)))
most_numbered n [] = omega arith
most_numbered n (v ∷ vs) = omega (arith, most_numbered (suc n) vs)

most_fields : (fs : List Field) → most deep-Field fs ≤ suc (pairs_depth (fields_view fs))
most_fields [] = omega arith
most_fields (f ∷ fs) = omega (arith, most_fields fs)

pub deep_le-depth : (n : Node) → max (deep-Node n) 0 ≤ depth (node_view n)
deep_le-depth (Model t) = omega arith
deep_le-depth (Bool b) = omega arith
deep_le-depth (Int z) = omega arith
deep_le-depth (String t) = omega arith
deep_le-depth (Set v) = omega (arith, most_vals v.value.items.items)
deep_le-depth (Sequence v) = omega (arith, most_numbered 1 v.value.items.items)
deep_le-depth (Record v) = omega (arith, most_fields v.value.fields.items)
deep_le-depth (Function v) = omega (arith, most_entries v.value.entries.items)
