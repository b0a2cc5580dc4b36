-- Functions with a given domain, and records, by what a loop over the keys finds.
use Rattle.std.proofs.Common.{◌≡◌, inl, inr, suc, List, [], ◌∷◌, length, map, ap, sym, ◌∙◌, subst, refl, arith}
use Rattle.std.specs.List.{Contains}
use Rattle.values_core.specs.Data.{Val, model, truth, integer, string, set, function, entries}
use Rattle.values_core.specs.Ascending.{cons_cases, head_in, tail_in, none_in, ascending_unique}
use Rattle.values_core.specs.Order.{val_cmp}
use Rattle.values_core.specs.OrderLaws.{val_total}
use Rattle.values_core.specs.IsValue.{IsValue}
use Rattle.values_core.specs.Sets.{IsSet, Member, items_of, count_of}
use Rattle.values_core.specs.SetLaws.{ordered}
use Rattle.values_core.specs.SetOperations.{AreDifferent}
use Rattle.values_core.specs.Functions.{IsFunction, InDomain, HasPair, keys_in, pairs_in}
use Rattle.values_core.specs.FunctionLaws.{keys_ordered, in_keys, one_value_at_key}
use Rattle.values_operations.proofs.Listing.{ascending_different, no_longer}
use Rattle.values_sets.specs.DescribedSets.{Described, Functions, Records, Fields, NoFields, MoreFields}
use Rattle.values_sets.specs.DescribedViews.{fields_of}
use Rattle.values_sets.specs.Membership.{Belongs, FieldsBelong, names_of}
use Rattle.values_sets.specs.declared.described.Field.{Field}
use Rattle.values_sets.proofs.Covers.{covers}

length-keys : (ps : List (Val × Val)) → length (map (λ p. p.0) ps) ≡ length ps
length-keys [] = refl
length-keys (p ∷ ps) = ap suc (length-keys ps)

-- a function has as many keys as it counts
pub count_of_keys : (f : Val) → IsFunction f → count_of f ≡ length (keys_in f)
count_of_keys (function ps) h = sym (length-keys (entries ps))
count_of_keys (model s) h = absurd h
count_of_keys (truth s) h = absurd h
count_of_keys (integer s) h = absurd h
count_of_keys (string s) h = absurd h
count_of_keys (set s) h = absurd h

-- the function has at the key a value that belongs to the set
abbrev pub MapsInto : Described → Val → Val → Type 0
MapsInto d f key = (w : Val) × HasPair f key w × Belongs d w

in_domain : (f key w : Val) → HasPair f key w → InDomain key f
in_domain f key w h = in_keys (pairs_in f) (key, w) h

pub into_all : (a : Val) (d : Described) (f : Val) → IsValue a → IsSet a → IsValue f → IsFunction f → count_of f ≡ length (items_of a) → ((key : Val) → Contains (items_of a) key → MapsInto d f key) → Belongs (Functions a d) f
into_all a d f p h q k n each = (k, (λ key. (there key, back key)), values)
  where
    back : (key : Val) → Member key a → InDomain key f
    back key g = let w = each key g in in_domain f key w.0 w.1

    there : (key : Val) → InDomain key f → Member key a
    there key g = covers (items_of a) (keys_in f) (ascending_different val_cmp val_total (items_of a) (ordered a p h).ascending) back (omega (arith, n, count_of_keys f k)) key g

    values : (key w : Val) → HasPair f key w → Belongs d w
    values key w g =
        let found = each key (there key (in_domain f key w g)) in
        subst (λ (v : Val). Belongs d v) (one_value_at_key f key found.0 w q found.1 g) found.2

pub as_many_keys : (a : Val) (d : Described) (f : Val) → IsValue a → IsSet a → IsValue f → Belongs (Functions a d) f → count_of f ≡ length (items_of a)
as_many_keys a d f p h q b =
    count_of_keys f b.0 ∙ ap (λ (xs : List Val). length xs) (ascending_unique val_cmp val_total (keys_in f) (items_of a) (keys_ordered f q b.0).ascending (ordered a p h).ascending b.1)

pub key_is_missing : (a : Val) (d : Described) (f key : Val) → Contains (items_of a) key → ¬ InDomain key f → ¬ Belongs (Functions a d) f
key_is_missing a d f key h n b = n ((b.1 key).1 h)

pub value_is_outside : (a : Val) (d : Described) (f key w : Val) → HasPair f key w → ¬ Belongs d w → ¬ Belongs (Functions a d) f
value_is_outside a d f key w h n b = n (b.2 key w h)

-- the record has the field, with a value that belongs to its part
abbrev pub HasField : Val → Field → Type 0
HasField f x = MapsInto x.part f x.name

pub fields_belong : (xs : List Field) (f : Val) → ((x : Field) → Contains xs x → HasField f x) → FieldsBelong (fields_of xs) f
fields_belong [] f each = tt
fields_belong (x ∷ xs) f each = (each x (head_in x xs), fields_belong xs f (λ y h. each y (tail_in x xs y h)))

pub has_each : (xs : List Field) (f : Val) (x : Field) → FieldsBelong (fields_of xs) f → Contains xs x → HasField f x
has_each [] f x b h = absurd (none_in x h)
has_each (y ∷ xs) f x b h = elim (cons_cases y xs x h) [
  | inl e ↦ subst (λ (z : Field). HasField f z) e b.0
  | inr g ↦ has_each xs f x b.1 g
]

length-names : (xs : List Field) → length (names_of (fields_of xs)) ≡ length xs
length-names [] = refl
length-names (x ∷ xs) = ap suc (length-names xs)

names_in_domain : (fs : Fields) (f key : Val) → FieldsBelong fs f → Contains (names_of fs) key → InDomain key f
names_in_domain NoFields f key b h = absurd (none_in key h)
names_in_domain (MoreFields n d fs) f key b h = elim (cons_cases n (names_of fs) key h) [
  | inl e ↦ subst (λ (k : Val). InDomain k f) e (in_domain f n b.0.0 b.0.1)
  | inr g ↦ names_in_domain fs f key b.1 g
]

pub record_all : (xs : List Field) (f : Val) → AreDifferent (names_of (fields_of xs)) → IsFunction f → count_of f ≡ length xs → ((x : Field) → Contains xs x → HasField f x) → Belongs (Records (fields_of xs)) f
record_all xs f n k l each =
    let b = fields_belong xs f each in
    (k, b, λ key h. covers (names_of (fields_of xs)) (keys_in f) n (λ w g. names_in_domain (fields_of xs) f w b g) (omega (arith, l, count_of_keys f k, length-names xs)) key h)

pub as_many_fields : (xs : List Field) (f : Val) → AreDifferent (names_of (fields_of xs)) → IsValue f → Belongs (Records (fields_of xs)) f → count_of f ≡ length xs
as_many_fields xs f n q b =
    let few = no_longer (names_of (fields_of xs)) (keys_in f) n (λ w g. names_in_domain (fields_of xs) f w b.1 g) in
    let many = no_longer (keys_in f) (names_of (fields_of xs)) (ascending_different val_cmp val_total (keys_in f) (keys_ordered f q b.0).ascending) b.2 in
    omega (arith, few, many, count_of_keys f b.0, length-names xs)

pub field_is_missing : (xs : List Field) (f : Val) (x : Field) → Contains xs x → ¬ InDomain x.name f → ¬ Belongs (Records (fields_of xs)) f
field_is_missing xs f x h n b = let w = has_each xs f x b.1 h in n (in_domain f x.name w.0 w.1)

pub field_is_outside : (xs : List Field) (f : Val) (x : Field) (w : Val) → IsValue f → Contains xs x → HasPair f x.name w → ¬ Belongs x.part w → ¬ Belongs (Records (fields_of xs)) f
field_is_outside xs f x w q h g n b =
    let found = has_each xs f x b.1 h in
    n (subst (λ (v : Val). Belongs x.part v) (one_value_at_key f x.name found.0 w q found.1 g) found.2)

-- the same of the fields that the list is
pub record_yes : (xs : List Field) (fs : Fields) (f : Val) → fields_of xs ≡ fs → AreDifferent (names_of fs) → IsFunction f → count_of f ≡ length xs → ((x : Field) → Contains xs x → HasField f x) → Belongs (Records fs) f
record_yes xs fs f e n k l each = subst (λ (gs : Fields). Belongs (Records gs) f) e (record_all xs f (subst (λ (gs : Fields). AreDifferent (names_of gs)) (sym e) n) k l each)

pub record_count : (xs : List Field) (fs : Fields) (f : Val) → fields_of xs ≡ fs → AreDifferent (names_of fs) → IsValue f → Belongs (Records fs) f → count_of f ≡ length xs
record_count xs fs f e n q b = as_many_fields xs f (subst (λ (gs : Fields). AreDifferent (names_of gs)) (sym e) n) q (subst (λ (gs : Fields). Belongs (Records gs) f) (sym e) b)

pub record_missing : (xs : List Field) (fs : Fields) (f : Val) (x : Field) → fields_of xs ≡ fs → Contains xs x → ¬ InDomain x.name f → ¬ Belongs (Records fs) f
record_missing xs fs f x e h n b = field_is_missing xs f x h n (subst (λ (gs : Fields). Belongs (Records gs) f) (sym e) b)

pub record_outside : (xs : List Field) (fs : Fields) (f : Val) (x : Field) (w : Val) → fields_of xs ≡ fs → IsValue f → Contains xs x → HasPair f x.name w → ¬ Belongs x.part w → ¬ Belongs (Records fs) f
record_outside xs fs f x w e q h g n b = field_is_outside xs f x w q h g n (subst (λ (gs : Fields). Belongs (Records gs) f) (sym e) b)
