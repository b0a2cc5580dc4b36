-- What holds of each item of a list.
use Rattle.std.proofs.Common.{List, [], ◌∷◌, ◌++◌, map}
use Rattle.std.specs.Prelude.{Contains}
use Rattle.std.specs.List.{AllByRecursion as Each}
use Rattle.names_terms.specs.Lists.{arms_list}
use Rattle.names_terms.specs.Terms as term
use Rattle.names_terms.specs.Terms.{Term, Arms}
use Rattle.names_term_parts.specs.Parts.{arm_list}
use Rattle.names_term_parts.proofs.Contained.{contains_head, contains_tail}

pub each-left : {A : Type 0} (P : A → Type 0) (xs ys : List A) → Each P (xs ++ ys) → Each P xs
each-left P [] ys h = tt
each-left P (x ∷ xs) ys h = (h.0, each-left P xs ys h.1)

pub each-right : {A : Type 0} (P : A → Type 0) (xs ys : List A) → Each P (xs ++ ys) → Each P ys
each-right P [] ys h = h
each-right P (x ∷ xs) ys h = each-right P xs ys h.1

pub each-append : {A : Type 0} (P : A → Type 0) (xs ys : List A) → Each P xs → Each P ys → Each P (xs ++ ys)
each-append P [] ys h k = k
each-append P (x ∷ xs) ys h k = (h.0, each-append P xs ys h.1 k)

pub each-map : {A B : Type 0} (P : A → Type 0) (Q : B → Type 0) (f : A → B) → ((x : A) → P x → Q (f x)) → (xs : List A) → Each P xs → Each Q (map f xs)
each-map P Q f s [] h = tt
each-map P Q f s (x ∷ xs) h = (s x h.0, each-map P Q f s xs h.1)

pub each-from : {A : Type 0} (P : A → Type 0) (xs : List A) → ((x : A) → Contains xs x → P x) → Each P xs
each-from P [] h = tt
each-from P (x ∷ xs) h = (h x (contains_head x xs), each-from P xs (λ y c. h y (contains_tail x xs y c)))

-- what stands behind the tests of a CASE
pub case-each : (P : Term → Type 0) (cs : Arms) → Each P (arm_list cs) → Each (λ (c : Term × Term). P c.1) (arms_list cs)
case-each P term.NoArms h = tt
case-each P (term.MoreArms cs p e) h =
    let last : Each P (p ∷ e ∷ []) = each-right P (arm_list cs) (p ∷ e ∷ []) h in
    each-append (λ (c : Term × Term). P c.1) (arms_list cs) ((p, e) ∷ []) (case-each P cs (each-left P (arm_list cs) (p ∷ e ∷ []) h)) (last.1.0, tt)
