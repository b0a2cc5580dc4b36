-- The functions that have at each key a member of the part beside it.
use Rattle.std.proofs.Common.{◌≡◌, ◌↔◌, inl, inr, ℕ, ◌<◌, List, [], ◌∷◌, length, sym, ◌∙◌, subst, arith}
use Rattle.std.specs.List.{Contains, zip}
use Rattle.std.proofs.lemmas.Slice.Zip.{firsts-zip, length-zip}
use Rattle.values_core.specs.Data.{Val}
use Rattle.values_core.specs.Ascending.{cons_cases, head_in, tail_in, none_in}
use Rattle.values_core.specs.Order.{val_cmp}
use Rattle.values_core.specs.OrderLaws.{val_total}
use Rattle.values_core.specs.IsValue.{max_members}
use Rattle.values_core.specs.Sets.{Member, items_of}
use Rattle.values_core.specs.SetLaws.{ordered}
use Rattle.values_core.specs.SetOperations.{AreDifferent, AreTooMany}
use Rattle.values_core.specs.Functions.{IsFunctionOf}
use Rattle.values_core.specs.FunctionLaws.{functions_by_pairs}
use Rattle.values_core.specs.Products.{AreOneOfEach}
use Rattle.values_operations.specs.Choices.{AreNumbered, ArePairs, AreKeysAndParts, IsChoice, IsChoiceOf, choice}
use Rattle.values_operations.specs.Counts.{ways}
use Rattle.values_operations.proofs.Choosing.{choice_each, way_of, way_same, as_many, key_of_zip, beside_same}
use Rattle.values_operations.proofs.Listing.{ascending_different}
use Rattle.values_operations.proofs.Made.{function_exists, member_inner, numbered_as, numbered_too_many}

-- the values of pairs made of keys and values
pub value_of_zip : (ks vs : List Val) (r : Val × Val) → Contains (zip ks vs) r → Contains vs r.1
value_of_zip [] vs r h = absurd (none_in r h)
value_of_zip (k ∷ ks) [] r h = absurd (none_in r h)
value_of_zip (k ∷ ks) (v ∷ vs) r h = elim (cons_cases (k, v) (zip ks vs) r h) [
  | inl e ↦ subst (λ (z : Val × Val). Contains (v ∷ vs) z.1) e (head_in v vs)
  | inr g ↦ tail_in v vs r.1 (value_of_zip ks vs r g)
]

-- a value that is taken is of one of the parts
pub of_a_part : (ps vs : List Val) (v : Val) → AreOneOfEach vs ps → Contains vs v → (p : Val) × Contains ps p × Member v p
of_a_part ps [] v one h = absurd (none_in v h)
of_a_part [] (w ∷ ws) v one h = absurd one
of_a_part (p ∷ ps) (w ∷ ws) v one h = elim (cons_cases w ws v h) [
  | inl e ↦ (p, head_in p ps, subst (λ (z : Val). Member z p) e one.0)
  | inr g ↦ let x = of_a_part ps ws v one.1 g in (x.0, tail_in p ps x.0 x.1, x.2)
]

pub length-chosen : (keys parts vs : List Val) → AreKeysAndParts keys parts → AreOneOfEach vs parts → length vs ≡ length keys
length-chosen keys parts vs a one = as_many parts vs one ∙ a.as_many

-- keys with a member of the part beside each of them are pairs of a function
pub chosen_pairs : (keys parts vs : List Val) → AreKeysAndParts keys parts → AreOneOfEach vs parts → ArePairs (zip keys vs)
chosen_pairs keys parts vs a one =
    let l = length-chosen keys parts vs a one in
    record {
      different = subst (λ (ks : List Val). AreDifferent ks) (sym (firsts-zip keys vs l)) a.different;
      few = omega (arith, a.few, length-zip keys vs, l);
      inner = λ p h.
          let w = of_a_part parts vs p.1 one (value_of_zip keys vs p h) in
          (a.inner p.0 (key_of_zip keys vs p l h), member_inner w.0 p.1 (a.valid w.0 w.1) w.2);
    }

parts_different : (keys parts : List Val) → AreKeysAndParts keys parts → (p : Val) → Contains parts p → AreDifferent (items_of p)
parts_different keys parts a p h = ascending_different val_cmp val_total (items_of p) (ordered p (a.valid p h) (a.sets p h)).ascending

same_way : (keys parts : List Val) → AreKeysAndParts keys parts → (j k : ℕ) (f : Val) → j < ways parts → k < ways parts → IsChoiceOf keys parts j f → IsChoiceOf keys parts k f → j ≡ k
same_way keys parts a j k f h g m n =
    way_same parts j k (parts_different keys parts a) h g
    (beside_same keys (choice parts j) (choice parts k) a.different (length-chosen keys parts (choice parts j) a (choice_each parts j h)) (length-chosen keys parts (choice parts k) a (choice_each parts k g))
    (λ r i. (n.same r.0 r.1).0 ((m.same r.0 r.1).1 i)))

pub one_function : (ps : List (Val × Val)) (f g : Val) → IsFunctionOf ps f → IsFunctionOf ps g → f ≡ g
one_function ps f g m n = functions_by_pairs f g m.valid n.valid m.is_function n.is_function (λ key v. (λ h. (n.same key v).1 ((m.same key v).0 h), λ h. (m.same key v).1 ((n.same key v).0 h)))

-- the functions of all ways
pub all_ways : (keys parts vs : List Val) → AreKeysAndParts keys parts → AreNumbered (IsChoiceOf keys parts) (ways parts) vs → (f : Val) → Contains vs f ↔ IsChoice keys parts f
all_ways keys parts vs a l =
    numbered_as (IsChoice keys parts) (IsChoiceOf keys parts) (ways parts) vs l
    (λ k f h q. (choice parts k, choice_each parts k h, q))
    (λ f p. let w = way_of parts p.0 p.1 in (w.0, w.1, subst (λ (us : List Val). IsFunctionOf (zip keys us) f) (sym w.2) p.2))
    (λ k f g m n. one_function (zip keys (choice parts k)) f g m n)

pub too_many_ways : (keys parts : List Val) → AreKeysAndParts keys parts → max_members < ways parts → AreTooMany (IsChoice keys parts)
too_many_ways keys parts a many =
    numbered_too_many (IsChoice keys parts) (IsChoiceOf keys parts) (ways parts) many
    (λ k h. function_exists (zip keys (choice parts k)) (chosen_pairs keys parts (choice parts k) a (choice_each parts k h)))
    (same_way keys parts a)
    (λ k f h q. (choice parts k, choice_each parts k h, q))
