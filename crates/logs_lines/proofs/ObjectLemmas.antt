-- What a text says whose object was read for the keys of a line alone.
use Rattle.std.proofs.Common.{List, ℕ, Result, Ok, Err, IfOk, IsUtf8, inl, sym, subst}
use Rattle.serde_json.specs.Data.{Members, object}
use Rattle.logs_shapes.specs.Objects.{IsObjectWith}
use Rattle.logs_shapes.specs.Shapes.{LineShape, shape_of}
use Rattle.logs_shapes.specs.declared.key.Key.{Key}
use Rattle.logs_shapes.proofs.KeyLemmas.{one_shape}
use Rattle.logs_lines.specs.Setting.{Setting}
use Rattle.logs_lines.specs.Lines.{ShapeSays, TextSays}
use Rattle.logs_lines.specs.declared.position.Position.{Position}
use Rattle.logs_lines.specs.declared.kind.Outcome.{Outcome}

pub object_says : {E : Type 0} (g : Setting) (at : Position) (text : List ℕ) (others : Members) (r : Result Outcome E) → IsUtf8 text → IsObjectWith text others
    → IfOk r (ShapeSays g at (shape_of others)) → IfOk r (TextSays g at text)
object_says g at text others (Ok o) utf8 found says =
    inl (object found.0, (utf8, found.1), subst (λ (s : Result LineShape Key). ShapeSays g at s o) (sym (one_shape found.0 others found.2)) says)
object_says g at text others (Err e) utf8 found says = tt
