-- For the prover: what is borrowed from a line's JSON, seen as its fields.
use Rattle.serde_json.specs.View.{members_view}
use Rattle.states_files.specs.Fields.{LineFields}
use Rattle.states_files.specs.declared.fields.Fields.{Fields}

abbrev pub fields_seen : Fields → LineFields
fields_seen f = record { mark = f.mark; state = members_view f.state.now.entries }
