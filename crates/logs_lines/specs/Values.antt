-- The parts of a line with their values.
use Rattle.std.specs.Prelude.{◌≡◌, ℕ, List, [], ◌∷◌, Bool, true, Option, None, Some, is_some, option_map, unwrap_or}
use Rattle.serde_json.specs.Data.{Data, Items, no_items, item}
use Rattle.values_core.specs.Data.{Val}
use Rattle.values_json.specs.Reads.{Reads, ReadsEach}
use Rattle.states_core.specs.declared.var_id.VarId.{VarId}
use Rattle.logs_shapes.specs.declared.key.Word.{Word}
use Rattle.logs_shapes.specs.declared.key.Word.TheVariants as word
use Rattle.logs_shapes.specs.Parts.{PathShape, UpdateShape, SeeShape, see_of, update_of}
use Rattle.logs_updates.specs.Paths.{KeyPath}
use Rattle.logs_updates.specs.declared.update.Op.{Op}
use Rattle.logs_updates.specs.declared.update.Op.TheVariants.{Set, Put, Drop, Add, Remove, Append}
use Rattle.logs_updates.specs.declared.update.See.{See}
use Rattle.logs_updates.specs.declared.update.Update.{Update}
use Rattle.logs_lines.specs.Setting.{Setting}

-- the variable with this name, and the first one where there is none; a line with such a name is refused
abbrev pub variable_or_first : Setting → List ℕ → VarId
variable_or_first g name = unwrap_or (g.variable name) (record { 0 = 0 })

-- the path's keys are values
abbrev pub PathReads : Setting → PathShape → KeyPath → Type 0
PathReads g p path = (path.variable ≡ variable_or_first g p.name) × ReadsEach p.keys path.keys

-- the one content is this value
abbrev pub ReadsSole : Items → Val → Type 0
ReadsSole (item d no_items) v = Reads d v
ReadsSole _ v = ⊥

-- the two contents are a key and a value
abbrev pub ReadsTwo : Items → Val → Val → Type 0
ReadsTwo (item k (item d no_items)) a b = Reads k a × Reads d b
ReadsTwo _ a b = ⊥

abbrev pub PutReads : Items → Op → Type 0
PutReads ds op = (k v : Val) × ReadsTwo ds k v × (op ≡ Put k v)

-- the operation that the word is with these contents
abbrev pub OpReads : Word → Items → Op → Type 0
OpReads word.Set ds op = (v : Val) × ReadsSole ds v × (op ≡ Set v)
OpReads word.Put ds op = PutReads ds op
OpReads word.Drop ds op = (v : Val) × ReadsSole ds v × (op ≡ Drop v)
OpReads word.Add ds op = (v : Val) × ReadsSole ds v × (op ≡ Add v)
OpReads word.Remove ds op = (v : Val) × ReadsSole ds v × (op ≡ Remove v)
OpReads word.Append ds op = (v : Val) × ReadsSole ds v × (op ≡ Append v)

abbrev pub UpdateReads : Setting → UpdateShape → Update → Type 0
UpdateReads g u update = PathReads g u.path update.path × OpReads u.word u.contents update.op

abbrev pub SeeReads : Setting → SeeShape → See → Type 0
SeeReads g s see = PathReads g s.path see.path × Reads s.content see.value

-- as many of the one as of the other, and R of each two
abbrev pub EachOf : {A B : Type 0} → (A → B → Type 0) → List A → List B → Type 0
EachOf R [] [] = Unit {0}
EachOf R (a ∷ xs) (b ∷ ys) = R a b × EachOf R xs ys
EachOf R _ _ = ⊥

-- For the prover: the same over what the shapes stand for.
abbrev pub ItemReads : {A B : Type 0} → (Data → Option A) → (A → B → Type 0) → Data → B → Type 0
ItemReads f R d b = (a : _) × (f d ≡ Some a) × R a b

abbrev pub EachItem : {A B : Type 0} → (Data → Option A) → (A → B → Type 0) → Items → List B → Type 0
EachItem f R no_items [] = Unit {0}
EachItem f R (item d ds) (b ∷ bs) = ItemReads f R d b × EachItem f R ds bs
EachItem f R _ _ = ⊥

abbrev pub has_known_name : Setting → Option PathShape → Bool
has_known_name g None = true
has_known_name g (Some p) = is_some (g.variable p.name)

abbrev pub is_known_update : Setting → Data → Bool
is_known_update g d = has_known_name g (option_map (λ u. u.path) (update_of d))

abbrev pub is_known_see : Setting → Data → Bool
is_known_see g d = has_known_name g (option_map (λ s. s.path) (see_of d))
