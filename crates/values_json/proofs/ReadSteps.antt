-- How the answers of parts give those of the whole.
use Rattle.std.proofs.Common.{◌≡◌, inl, inr, ℕ, List, [], ◌∷◌, true, Option, Some, None, Result, Ok, Err, IfOk, sym, ◌∙◌, subst, true≢false}
use Rattle.std.specs.declared.alloc.AllocError.{AllocError}
use Rattle.serde_json.specs.Data.{Data, array, object, Items, Members, no_members, member}
use Rattle.values_core.specs.Data.{Val}
use Rattle.values_core.specs.Sets.{IsSetOf}
use Rattle.values_core.specs.Functions.{fields_as_pairs}
use Rattle.values_json.specs.Reads.{Finds, Reads, ReadsForm, ReadsSet, ReadsFunction, ReadsRecord, ReadsEach, ReadsPairs, ReadsFields, IsMappingOf, IsSequenceOf, is_marked}
use Rattle.values_json.proofs.OneValue.{one_each, one_pairs, one_fields}

pub array_gives : (ds : Items) (vs : List Val) (r : Result (Option Val) AllocError) → ReadsEach ds vs → IfOk r (Finds (IsSequenceOf vs)) → IfOk r (Finds (Reads (array ds)))
array_gives ds vs (Ok None) h g = λ v p. g v (subst (λ (us : List Val). IsSequenceOf us v) (one_each ds p.0 vs p.1 h) p.2)
array_gives ds vs (Ok (Some v)) h g = (vs, h, g)
array_gives ds vs (Err e) h g = g

pub set_gives : (ds : Items) (vs : List Val) (r : Result (Option Val) AllocError) → ReadsEach ds vs → IfOk r (Finds (IsSetOf vs)) → IfOk r (Finds (ReadsSet (array ds)))
set_gives ds vs (Ok None) h g = λ v p. g v (subst (λ (us : List Val). IsSetOf us v) (one_each ds p.0 vs p.1 h) p.2)
set_gives ds vs (Ok (Some v)) h g = (vs, h, g)
set_gives ds vs (Err e) h g = g

pub function_gives : (ds : Items) (ps : List (Val × Val)) (r : Result (Option Val) AllocError) → ReadsPairs ds ps → IfOk r (Finds (IsMappingOf ps)) → IfOk r (Finds (ReadsFunction (array ds)))
function_gives ds ps (Ok None) h g = λ v p. g v (subst (λ (us : List (Val × Val)). IsMappingOf us v) (one_pairs ds p.0 ps p.1 h) p.2)
function_gives ds ps (Ok (Some v)) h g = (ps, h, g)
function_gives ds ps (Err e) h g = g

pub record_gives : (ms : Members) (fs : List (List ℕ × Val)) (r : Result (Option Val) AllocError) → ReadsFields ms fs → IfOk r (Finds (IsMappingOf (fields_as_pairs fs))) → IfOk r (Finds (ReadsRecord ms))
record_gives ms fs (Ok None) h g = λ v p. g v (subst (λ (us : List (List ℕ × Val)). IsMappingOf (fields_as_pairs us) v) (one_fields ms p.0 fs p.1 h) p.2)
record_gives ms fs (Ok (Some v)) h g = (fs, h, g)
record_gives ms fs (Err e) h g = g

-- an object that is no form is a record, or nothing
pub plain_gives : (ms : Members) (r : Result (Option Val) AllocError) → ((v : Val) → ReadsForm ms v → ⊥) → IfOk r (Finds (ReadsRecord ms)) → IfOk r (Finds (Reads (object ms)))
plain_gives ms (Ok None) n g = λ v p. elim p [ inl a ↦ g v a | inr b ↦ n v b ]
plain_gives ms (Ok (Some v)) n g = inl g
plain_gives ms (Err e) n g = g

-- an object whose key begins with $ is a form, or nothing
pub form_gives : (k : List ℕ) (d : Data) (r : Result (Option Val) AllocError) → is_marked k ≡ true → IfOk r (Finds (ReadsForm (member k d no_members))) → IfOk r (Finds (Reads (object (member k d no_members))))
form_gives k d (Ok None) m g = λ v p. elim p [ inl a ↦ no_record a.0 a.1 | inr b ↦ g v b ]
  where
    no_record : (fs : List (List ℕ × Val)) → ReadsFields (member k d no_members) fs → ⊥
    no_record [] h = h
    no_record (f ∷ fs) h = true≢false (sym m ∙ h.0)
form_gives k d (Ok (Some v)) m g = inr g
form_gives k d (Err e) m g = g
