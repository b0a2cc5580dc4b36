-- For the prover: what is borrowed from a line's JSON, seen as its shape.
use Rattle.std.specs.Prelude.{[], option_map, unwrap_or}
use Rattle.serde_json.specs.View.{items_view, view}
use Rattle.logs_shapes.specs.ClockSeen.{clock_seen}
use Rattle.logs_shapes.specs.Parts.{PathShape, UpdateShape, SeeShape, each_of, see_of, update_of}
use Rattle.logs_shapes.specs.Shapes.{LineShape}
use Rattle.logs_shapes.specs.declared.raw.RawPath.{RawPath}
use Rattle.logs_shapes.specs.declared.raw.RawUpdate.{RawUpdate}
use Rattle.logs_shapes.specs.declared.raw.RawSee.{RawSee}
use Rattle.logs_shapes.specs.declared.shape.Shape.{Shape}

abbrev pub path_seen : RawPath → PathShape
path_seen p = record { name = p.name.now; keys = items_view p.keys.now }

abbrev pub update_seen : RawUpdate → UpdateShape
update_seen u = record { word = u.word; path = path_seen u.path; contents = items_view u.contents.now }

abbrev pub see_seen : RawSee → SeeShape
see_seen s = record { path = path_seen s.path; content = view s.content.now }

abbrev pub shape_seen : Shape → LineShape
shape_seen s = record {
  init = s.init;
  event = option_map (λ name. name.now) s.event;
  args = items_view s.args.now;
  clock = option_map clock_seen s.clock;
  updates = unwrap_or (each_of update_of (items_view s.updates.now)) [];
  sees = unwrap_or (each_of see_of (items_view s.sees.now)) [];
}
