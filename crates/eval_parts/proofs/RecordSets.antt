-- Sets of records: what their fields mean, and that they are sound.
use Rattle.std.proofs.Common.{◌≡◌, inl, inr, refl, ap, sym, ◌∙◌, subst, List, [], ◌∷◌, ◌++◌, length, map, ℕ, arith}
use Rattle.std.specs.Prelude.{Result, Ok, Err}
use Rattle.std.specs.List.{Contains}
use Rattle.base_core.specs.declared.place.Place.{Place}
use Rattle.states_core.specs.declared.fault.Fault.{Fault}
use Rattle.values_core.specs.Ascending.{cons_cases, head_in, tail_in, none_in}
use Rattle.values_core.specs.Data.{Val, string}
use Rattle.values_core.specs.SetOperations.{AreDifferent}
use Rattle.names_terms.specs.Terms.{Term, place_of}
use Rattle.values_sets.specs.DescribedSets as sets
use Rattle.values_sets.specs.DescribedSets.{Described, Fields, Records, fields_list}
use Rattle.values_sets.specs.Membership.{names_of}
use Rattle.values_sets.specs.Soundness.{FieldsAreSound, IsSound, IsString}
use Rattle.eval_meanings.specs.declared.fault.EvalFault.{EvalFault}
use Rattle.eval_meanings.specs.declared.fault.EvalFault.TheVariants.{Refused, NoMemory}
use Rattle.eval_meanings.specs.Answers.{Tells}
use Rattle.eval_meanings.specs.Contexts.{Context, Describe}
use Rattle.eval_meanings.specs.Outcomes.{Outcome, Each, Gives, Then, fault}
use Rattle.eval_meanings.specs.Sets.{FieldDescribed, fields_of}
use Rattle.eval_parts.specs.Scenes.{Stops}
use Rattle.eval_parts.specs.ChangePaths.{SetOfField, part_item}
use Rattle.eval_parts.specs.declared.field_sets.Part.{Part}

value_or : {A : Type 0} → A → Result A Fault → A
value_or w (Ok x) = x
value_or w (Err f) = w

-- a list of which the rest is left
module _ {A B : Type 0} (P : A → Outcome B) where
  abbrev pub EachLeft : List A → List A → List B → Type 0
  EachLeft xs left ys = (r : Result (List B) Fault) → Then (Each P left) (λ zs. Gives (ys ++ zs)) r → Each P xs r

  pub left_begins : (xs : List A) → EachLeft xs xs []
  left_begins xs r (inl (zs, h, e)) = let Q : Result (List B) Fault → Type 0 = λ q. Each P xs q in subst Q (sym e) h
  left_begins xs r (inr (f, h, e)) = let Q : Result (List B) Fault → Type 0 = λ q. Each P xs q in subst Q (sym e) h

  again : (ys : List B) (y : B) (zs : List B) → (ys ++ y ∷ []) ++ zs ≡ ys ++ y ∷ zs
  again [] y zs = refl
  again (u ∷ us) y zs = ap (λ ws. u ∷ ws) (again us y zs)

  pub left_goes_on : (xs left : List A) (x : A) (rest : List A) (ys : List B) (y : B) (new : List B) → left ≡ x ∷ rest → P x (Ok y) → new ≡ ys ++ y ∷ [] → EachLeft xs left ys → EachLeft xs rest new
  left_goes_on xs left x rest ys y new l p n s r h = s r (subst (λ (us : List A). Then (Each P us) (λ (ws : List B). Gives (ys ++ ws)) r) (sym l) (on (subst (λ (vs : List B). Then (Each P rest) (λ (ws : List B). Gives (vs ++ ws)) r) n h)))
    where
      on : Then (Each P rest) (λ (ws : List B). Gives ((ys ++ y ∷ []) ++ ws)) r → Then (Each P (x ∷ rest)) (λ (ws : List B). Gives (ys ++ ws)) r
      on (inl (zs, h, e)) = inl (y ∷ zs, inl (y, p, inl (zs, h, refl)), e ∙ ap Ok (again ys y zs))
      on (inr (f, h, e)) = inr (f, inl (y, p, inr (f, h, refl)), e)

  pub left_stops : (xs left : List A) (x : A) (rest : List A) (ys : List B) (f : EvalFault) → left ≡ x ∷ rest → Stops (P x) f → EachLeft xs left ys → Stops (Each P xs) f
  left_stops xs left x rest ys (Refused kind at) l p s =
      s (Err (fault kind at)) (subst (λ (us : List A). Then (Each P us) (λ (ws : List B). Gives (ys ++ ws)) (Err (fault kind at))) (sym l) (inr (fault kind at, inr (fault kind at, p, refl), refl)))
  left_stops xs left x rest ys NoMemory l p s = tt

  to_end : (ys : List B) → ys ++ [] ≡ ys
  to_end [] = refl
  to_end (y ∷ ys) = ap (λ (zs : List B). y ∷ zs) (to_end ys)

  pub left_ends : (xs left : List A) (ys : List B) → left ≡ [] → EachLeft xs left ys → Each P xs (Ok ys)
  left_ends xs left ys l s = s (Ok ys) (subst (λ (us : List A). Then (Each P us) (λ (ws : List B). Gives (ys ++ ws)) (Ok ys)) (sym l) (inl ([], refl, ap Ok (sym (to_end ys)))))

-- what is the same of each part and of what comes of it
each_same : {A B C : Type 0} (P : A → Outcome B) (f : A → C) (g : B → C) → ((x : A) (y : B) → P x (Ok y) → g y ≡ f x) → (xs : List A) (ys : List B) → Each P xs (Ok ys) → map g ys ≡ map f xs
unfolding value_or
each_same {B = B} P f g s [] ys e = ap (λ (q : Result (List B) Fault). map g (value_or ys q)) e
each_same {B = B} {C = C} P f g s (x ∷ xs) ys (inl (y, p, inl (zs, h, e))) =
    ap (λ (q : Result (List B) Fault). map g (value_or ys q)) e ∙ ap (λ (k : C). k ∷ map g zs) (s x y p) ∙ ap (λ (ks : List C). f x ∷ ks) (each_same P f g s xs zs h)
each_same P f g s (x ∷ xs) ys (inl (y, p, inr (k, h, e))) = cc
each_same P f g s (x ∷ xs) ys (inr (k, p, e)) = cc

-- the names of the fields
abbrev Named : Type 0
Named = List ℕ × Place × Described

same_field : (de : Describe) (c : Context) (f : List ℕ × Term) (y : Named) → FieldDescribed de c f (Ok y) → y.0 ≡ f.0
unfolding value_or
same_field de c f y (inl (d, h, e)) = ap (λ (q : Result Named Fault). (value_or y q).0) e
same_field de c f y (inr (k, h, e)) = cc

same_name : (p : Named) (y : Val × Described) → SetOfField p (Ok y) → y.0 ≡ string p.0
unfolding value_or
same_name p y (inl (d, h, e)) = ap (λ (q : Result (Val × Described) Fault). (value_or y q).0) e
same_name p y (inr (k, h, e)) = cc

part_names : (ps : List Part) → map (λ (p : Named). p.0) (map part_item ps) ≡ map (λ (p : Part). p.name) ps
part_names [] = refl
part_names (p ∷ ps) = ap (λ (ns : List (List ℕ)). p.name ∷ ns) (part_names ps)

pub parts_differ : (de : Describe) (c : Context) (fs : List (List ℕ × Term)) (ps : List Part) → AreDifferent (map (λ (f : List ℕ × Term). f.0) fs) → Each (FieldDescribed de c) fs (Ok (map part_item ps)) → AreDifferent (map (λ (p : Part). p.name) ps)
parts_differ de c fs ps d h =
    subst (λ (ns : List (List ℕ)). AreDifferent ns) (sym (each_same (FieldDescribed de c) (λ (f : List ℕ × Term). f.0) (λ (p : Named). p.0) (same_field de c) fs (map part_item ps) h) ∙ part_names ps) d

-- strings differ where their texts do
text_of : List ℕ → Val → List ℕ
text_of s (string t) = t
text_of s v = s

text_among : (ns : List (List ℕ)) (s : List ℕ) → Contains (map string ns) (string s) → Contains ns s
unfolding text_of
text_among [] s h = absurd (none_in (string s) h)
text_among (n ∷ ns) s h = elim (cons_cases (string n) (map string ns) (string s) h) [
  | inl e ↦ subst (λ (t : List ℕ). Contains (n ∷ ns) t) (ap (λ (v : Val). text_of s v) e) (head_in n ns)
  | inr g ↦ tail_in n ns s (text_among ns s g)
]

strings_differ : (ns : List (List ℕ)) → AreDifferent ns → AreDifferent (map string ns)
strings_differ [] d = tt
strings_differ (n ∷ ns) d = ((λ h. d.0 (text_among ns n h)), strings_differ ns d.1)

string_names : (ps : List Part) → map (λ (p : Named). string p.0) (map part_item ps) ≡ map string (map (λ (p : Part). p.name) ps)
string_names [] = refl
string_names (p ∷ ps) = ap (λ (vs : List Val). string p.name ∷ vs) (string_names ps)

names_listed : (fs : Fields) → map (λ (f : Val × Described). f.0) (fields_list fs) ≡ names_of fs
names_listed sets.NoFields = refl
names_listed (sets.MoreFields n d fs) = ap (λ (vs : List Val). n ∷ vs) (names_listed fs)

pub names_apart : (ps : List Part) (fs : Fields) → AreDifferent (map (λ (p : Part). p.name) ps) → Each SetOfField (map part_item ps) (Ok (fields_list fs)) → AreDifferent (names_of fs)
names_apart ps fs d h =
    let same = each_same SetOfField (λ (p : Named). string p.0) (λ (f : Val × Described). f.0) same_name (map part_item ps) (fields_list fs) h in
    subst (λ (vs : List Val). AreDifferent vs) (sym (string_names ps) ∙ sym same ∙ names_listed fs) (strings_differ (map (λ (p : Part). p.name) ps) d)

-- sound fields
abbrev pub ListIsSound : List (Val × Described) → Type 0
ListIsSound [] = Unit {0}
ListIsSound (f ∷ fs) = IsString f.0 × IsSound f.1 × ListIsSound fs

pub sound_more : (fs : List (Val × Described)) (n : Val) (d : Described) (new : List (Val × Described)) → new ≡ fs ++ (n, d) ∷ [] → IsString n → IsSound d → ListIsSound fs → ListIsSound new
sound_more fs n d new e s t h = subst (λ (gs : List (Val × Described)). ListIsSound gs) (sym e) (on fs h)
  where
    on : (gs : List (Val × Described)) → ListIsSound gs → ListIsSound (gs ++ (n, d) ∷ [])
    on [] h = (s, t, tt)
    on (g ∷ gs) h = (h.0, h.1, on gs h.2)

pub list_sound : (fs : Fields) → ListIsSound (fields_list fs) → FieldsAreSound fs
list_sound sets.NoFields h = tt
list_sound (sets.MoreFields n d fs) h = (h.0, h.1, list_sound fs h.2)

-- the set of them
fields_again : (fs : Fields) → fields_of (fields_list fs) ≡ fs
fields_again sets.NoFields = refl
fields_again (sets.MoreFields n d fs) = ap (λ (gs : Fields). sets.MoreFields n d gs) (fields_again fs)

pub records_told : (ps : List (List ℕ × Place × Described)) (fs : Fields) → Each SetOfField ps (Ok (fields_list fs)) → Then (Each SetOfField ps) (λ es. Gives (Records (fields_of es))) (Ok (Records fs))
records_told ps fs h = inl (fields_list fs, h, ap (λ (gs : Fields). Ok (Records gs)) (sym (fields_again fs)))

-- the name, the place and the set of a field
pub field_told : (de : Describe) (c : Context) (f : List ℕ × Term) (d : Described) (y : List ℕ × Place × Described) → de c f.1 (Ok d) → y ≡ (f.0, place_of f.1, d) → FieldDescribed de c f (Ok y)
field_told de c f d y h e = inl (d, h, ap Ok e)

-- what stops tells
pub stops_tells : {A : Type 0} (P : Outcome A) (f : EvalFault) → Stops P f → Tells {A = A} (Err f) P
stops_tells P (Refused kind at) h = h
stops_tells P NoMemory h = tt

-- no parts
pub none_left : (ps : List Part) → length ps ≡ 0 → map part_item ps ≡ []
none_left [] e = refl
none_left (p ∷ ps) e = absurd (omega (arith, e))
