-- A walk over the members of an object, by its first member.
use Rattle.std.proofs.Common.{◌≡◌, List, ◌∷◌, Bool, true, false, ◌&&◌, Some, string_bytes, ap, ℕ, if◌then◌else◌}
use Rattle.serde_json.specs.View.{members_view}
use Rattle.serde_json.proofs.Views.{Entry}
use Rattle.states_files.specs.Fields.{is_key, other_key}
use Rattle.states_files.specs.States.{are_known, is_among}

pub other_here : (e : Entry) (more : List Entry) → is_key (string_bytes e.0) ≡ false → other_key (members_view (e ∷ more)) ≡ Some (string_bytes e.0)
other_here e more h = ap (λ (b : Bool). if b then other_key (members_view more) else Some (string_bytes e.0)) h

pub other_later : (e : Entry) (more : List Entry) → is_key (string_bytes e.0) ≡ true → other_key (members_view (e ∷ more)) ≡ other_key (members_view more)
other_later e more h = ap (λ (b : Bool). if b then other_key (members_view more) else Some (string_bytes e.0)) h

pub unknown_here : (names : List (List ℕ)) (e : Entry) (more : List Entry) → is_among (string_bytes e.0) names ≡ false → are_known names (members_view (e ∷ more)) ≡ false
unknown_here names e more h = ap (λ (b : Bool). b && are_known names (members_view more)) h

pub known_later : (names : List (List ℕ)) (e : Entry) (more : List Entry) → is_among (string_bytes e.0) names ≡ true → are_known names (members_view (e ∷ more)) ≡ are_known names (members_view more)
known_later names e more h = ap (λ (b : Bool). b && are_known names (members_view more)) h
