use Rattle.std.proofs.Common.{◌≡◌, ◌∷◌, [], length, Some, ap, ◌∙◌, arith, rules}
use Rattle.json.specs.Token.{Token}
use Rattle.json.specs.Lex.{tokens}
use Rattle.json.specs.Json.{members, parse_map, value}
use Rattle.json.proofs.Grammar.{value-begin_object}
use Rattle.serde_json.specs.Data.{object}
use Rattle.serde_json.specs.Read.{converted, of_json}
use Rattle.logs_json_texts.proofs.Turns.{converted-object, whole_read}
use Rattle.logs_shapes.proofs.object.read_object.Goals as goal

pub returns-in-None : goal.returns-in-None
returns-in-None c =
    let all = tokens c.args.text.now in
    let rest = c.next.new.self in
    let first : all ≡ Token.begin_object ∷ rest = search rules in
    let found = c.in_ok-read_contents.ensures in
    let over : c.read_contents.new.reader ≡ [] = search rules in
    let opened = ap (λ ts. converted of_json (value 127 ts)) first ∙ ap (converted of_json) (value-begin_object 127 rest (omega arith)) ∙ converted-object (members (value 126) (length rest) rest) in
    let whole = opened ∙ ap (parse_map object) (found.1 ∙ ap (λ ts. Some (found.0, ts)) over) in
    (found.0, whole_read (value 127 all) (object found.0) whole, found.2)
