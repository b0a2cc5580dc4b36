-- What is told of units, one behind the other.
use Rattle.std.proofs.Common.{◌≡◌, List, [], ◌∷◌, ◌++◌, refl, ap}
use Rattle.std.specs.Prelude.{None, Some}
use Rattle.base_core.specs.declared.place.Place.{Place}
use Rattle.reading_trees.specs.declared.expr.Node.{Node}
use Rattle.reading_trees.specs.declared.expr.Node.TheVariants as node
use Rattle.reading_trees.specs.declared.module.Unit.{Unit as ModuleUnit}
use Rattle.reading_trees.specs.declared.module.Unit.TheVariants.{Variables, Constants, Recursive, Define, Instance, Assume, Passed}
use Rattle.reading_trees.specs.Trees.{place_of}
use Rattle.reading_trees.specs.TreeViews.{node_view}
use Rattle.names_pruning.specs.declared.telling.PassedOver.{PassedOver}
use Rattle.names_pruning.specs.declared.telling.PassedOver.TheVariants.{Definition, Assumption}
use Rattle.names_pruning.specs.Told.{told}

pub place_is : (at : Place) (n : Node) → place_of (node_view at n) ≡ at
place_is at (node.Number z) = refl
place_is at (node.Str t) = refl
place_is at (node.Truth b) = refl
place_is at (node.Builtin b) = refl
place_is at (node.Name n) = refl
place_is at (node.Call n es) = refl
place_is at (node.Qualified n es) = refl
place_is at node.At = refl
place_is at (node.Parenthesized e) = refl
place_is at (node.Junction b es) = refl
place_is at (node.Prefix o e) = refl
place_is at (node.Infix o es e) = refl
place_is at (node.Postfix e ss s) = refl
place_is at (node.SetOf es) = refl
place_is at (node.Filter n s e) = refl
place_is at (node.Map e bs) = refl
place_is at (node.Tuple es) = refl
place_is at (node.Function bs e) = refl
place_is at (node.FunctionSet s e) = refl
place_is at (node.Record fs) = refl
place_is at (node.RecordSet fs) = refl
place_is at (node.Except e cs) = refl
place_is at (node.Quantified q bs e) = refl
place_is at (node.Choose n s e) = refl
place_is at (node.If p e f) = refl
place_is at (node.Case arms None) = refl
place_is at (node.Case arms (Some e)) = refl
place_is at (node.Let ds e) = refl
place_is at (node.BoxAction e v) = refl
place_is at (node.AngleAction e v) = refl
place_is at (node.Fairness v e) = refl

pub told_behind : (us vs : List ModuleUnit) → told (us ++ vs) ≡ told us ++ told vs
told_behind [] vs = refl
told_behind (Variables ds ∷ us) vs = told_behind us vs
told_behind (Constants ds ∷ us) vs = told_behind us vs
told_behind (Define d ∷ us) vs = ap (λ (ts : List PassedOver). Definition d.name d.at ∷ ts) (told_behind us vs)
told_behind (Assume e ∷ us) vs = ap (λ (ts : List PassedOver). Assumption (place_of e) ∷ ts) (told_behind us vs)
told_behind (Recursive rs ∷ us) vs = told_behind us vs
told_behind (Instance m ∷ us) vs = told_behind us vs
told_behind (Passed ∷ us) vs = told_behind us vs
