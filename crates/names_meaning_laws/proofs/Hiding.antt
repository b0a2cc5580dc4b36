-- Names that are bound hide names that stand further out.
use Rattle.std.proofs.Common.{◌≡◌, ◌∙◌, ap, refl, List, [], ◌∷◌, length}
use Rattle.std.specs.Prelude.{ℕ, Bool, true, false, not, ◌&&◌, ◌||◌, if◌then◌else◌, Option, Some, None}
use Rattle.std.specs.Str.{bytes_eq}
use Rattle.base_core.specs.declared.place.Place.{Place}
use Rattle.reading_trees.specs.declared.form.DefinitionForm.{DefinitionForm}
use Rattle.reading_trees.specs.declared.form.DefinitionForm.TheVariants as forms
use Rattle.reading_trees.specs.Trees.{Tree, Bounds, NoBounds, MoreBounds, Definitions, NoDefinitions, MoreDefinitions}
use Rattle.names_terms.specs.declared.operator.Own.{Own}
use Rattle.names_terms.specs.declared.operator.Own.TheVariants as owns
use Rattle.names_scopes.specs.Applied.{applies}
use Rattle.names_scopes.specs.Mentions.{mentions, mentions_definitions, is_one_of, binds, defines}
use Rattle.names_least_levels.specs.Rising.{rises, without, with_own}
use Rattle.names_found_levels.proofs.Mentioned.{same, bound as rising_bound, named as rising_named}
use Rattle.names_meanings.specs.declared.fault.NameFault.TheVariants.{Recursion}
use Rattle.names_meanings.specs.Complaints.{Taken, Takes, bound_name, taken_rises, told, defined, with_name, with_names, with_bounds, with_definitions, with_itself, itself}
use Rattle.names_meaning_laws.specs.Laws.{Keeps}
use Rattle.names_meaning_laws.proofs.Bits.{or_left, or_right, or_false, head_false, rest_false, hidden_and, none_of}

keeps_if : (b : Bool) (k : Taken) (o o' : Option Taken) → ((j : Taken) → o ≡ Some j → o' ≡ Some j) → (j : Taken) → (if b then Some k else o) ≡ Some j → (if b then Some k else o') ≡ Some j
keeps_if true k o o' p j h = h
keeps_if false k o o' p j h = p j h

pub keeps_name : (g g' : Takes) → Keeps g g' → (n : List ℕ) (k : Taken) → Keeps (with_name g n k) (with_name g' n k)
keeps_name g g' p n k = λ m j h. keeps_if (bytes_eq n m) k (g m) (g' m) (p m) j h

pub keeps_names : (g g' : Takes) → Keeps g g' → (ns : List (List ℕ)) → Keeps (with_names g ns) (with_names g' ns)
keeps_names g g' p [] = p
keeps_names g g' p (n ∷ ns) = keeps_names (with_name g n bound_name) (with_name g' n bound_name) (keeps_name g g' p n bound_name) ns

pub keeps_bounds : (g g' : Takes) → Keeps g g' → (bs : Bounds) → Keeps (with_bounds g bs) (with_bounds g' bs)
keeps_bounds g g' p NoBounds = p
keeps_bounds g g' p (MoreBounds bs ns e) = keeps_names (with_bounds g bs) (with_bounds g' bs) (keeps_bounds g g' p bs) ns

pub keeps_itself : (o : Own) (g g' : Takes) → Keeps g g' → (n : List ℕ) (k : ℕ) → Keeps (with_itself o g n k) (with_itself o g' n k)
keeps_itself owns.Apart g g' p n k = p
keeps_itself owns.Itself g g' p n k = keeps_name g g' p n (record { needed = k; is_above = false })
keeps_itself owns.Function g g' p n k = keeps_name g g' p n (record { needed = k; is_above = false })

if_same : (b : Bool) (k : Taken) (o o' : Option Taken) → (b ≡ false → o ≡ o') → (if b then Some k else o) ≡ (if b then Some k else o')
if_same true k o o' h = refl
if_same false k o o' h = h refl

pub name_same : (g g' : Takes) (k : List ℕ) (r : Taken) (n : List ℕ) → (bytes_eq k n ≡ false → g n ≡ g' n) → with_name g k r n ≡ with_name g' k r n
name_same g g' k r n h = if_same (bytes_eq k n) r (g n) (g' n) h

pub names_same : (g g' : Takes) (ks : List (List ℕ)) (n : List ℕ) → (is_one_of n ks ≡ false → g n ≡ g' n) → with_names g ks n ≡ with_names g' ks n
names_same g g' [] n h = h refl
names_same g g' (k ∷ ks) n h =
    names_same (with_name g k bound_name) (with_name g' k bound_name) ks n (λ q. name_same g g' k bound_name n (λ r. h (or_false (bytes_eq k n) (is_one_of n ks) r q)))

pub bounds_same : (g g' : Takes) (bs : Bounds) (n : List ℕ) → (binds bs n ≡ false → g n ≡ g' n) → with_bounds g bs n ≡ with_bounds g' bs n
bounds_same g g' NoBounds n h = h refl
bounds_same g g' (MoreBounds bs ks e) n h =
    names_same (with_bounds g bs) (with_bounds g' bs) ks n (λ q. bounds_same g g' bs n (λ r. h (or_false (binds bs n) (is_one_of n ks) r q)))

-- what is told of names, but for one, under parameters: the same where it is the same of the names that the body mentions
pub rises_same : (g g' : Takes) (m : List ℕ) (ps : List (List ℕ)) (e : Tree) → ((n : List ℕ) → mentions n e ≡ true → is_one_of n ps ≡ false → bytes_eq m n ≡ false → g n ≡ g' n) → rises (without (with_own (told g) m) ps) e ≡ rises (without (with_own (told g') m) ps) e
rises_same g g' m ps e h =
    same e (without (with_own (told g) m) ps) (without (with_own (told g') m) ps) (λ n t.
    rising_bound ps n (with_own (told g) m) (with_own (told g') m) (λ q. rising_named m n false (told g) (told g') (λ r. ap taken_rises (h n t q r))))

-- the names behind definitions, where the same is known of those that they mention
pub definitions_same : (g g' : Takes) (ds : Definitions) → ((m : List ℕ) → mentions_definitions m ds ≡ true → g m ≡ g' m) → (n : List ℕ) → (defines ds n ≡ false → g n ≡ g' n) → with_definitions g ds n ≡ with_definitions g' ds n
definitions_same g g' NoDefinitions a n h = h refl
definitions_same g g' (MoreDefinitions ds k at ps form e) a n h =
    let before : (m : List ℕ) → (defines ds m ≡ false → g m ≡ g' m) → with_definitions g ds m ≡ with_definitions g' ds m =
    definitions_same g g' ds (λ m t. a m (or_left (mentions_definitions m ds) (not (defines ds m || bytes_eq k m || is_one_of m ps) && mentions m e) t)) in
    let level : rises (without (with_own (told (with_definitions g ds)) k) ps) e ≡ rises (without (with_own (told (with_definitions g' ds)) k) ps) e =
    rises_same (with_definitions g ds) (with_definitions g' ds) k ps e (λ m t q r. before m (λ u.
    a m (or_right (mentions_definitions m ds) (not (defines ds m || bytes_eq k m || is_one_of m ps) && mentions m e) (hidden_and (defines ds m || bytes_eq k m || is_one_of m ps) (mentions m e) (none_of (defines ds m) (bytes_eq k m) (is_one_of m ps) u r q) t)))) in
    ap (λ (b : Bool). with_name (with_definitions g ds) k (record { needed = length ps; is_above = b }) n) level
    ∙ name_same (with_definitions g ds) (with_definitions g' ds) k (defined (with_definitions g' ds) k ps e) n (λ q. before n (λ r. h (or_false (defines ds n) (bytes_eq k n) r q)))

if_hidden : (b : Bool) (k : Taken) (o : Option Taken) → b ≡ false → (if b then Some k else o) ≡ o
if_hidden true k o q = absurd (cc)
if_hidden false k o q = refl

pub name_hidden : (g : Takes) (k : List ℕ) (r : Taken) (n : List ℕ) → bytes_eq k n ≡ false → with_name g k r n ≡ g n
name_hidden g k r n q = if_hidden (bytes_eq k n) r (g n) q

pub names_hidden : (g : Takes) (ks : List (List ℕ)) (n : List ℕ) → is_one_of n ks ≡ false → with_names g ks n ≡ g n
names_hidden g [] n q = refl
names_hidden g (k ∷ ks) n q =
    names_hidden (with_name g k bound_name) ks n (rest_false (bytes_eq k n) (is_one_of n ks) q) ∙ name_hidden g k bound_name n (head_false (bytes_eq k n) (is_one_of n ks) q)

pub bounds_hidden : (g : Takes) (bs : Bounds) (n : List ℕ) → binds bs n ≡ false → with_bounds g bs n ≡ g n
bounds_hidden g NoBounds n q = refl
bounds_hidden g (MoreBounds bs ks e) n q =
    names_hidden (with_bounds g bs) ks n (rest_false (binds bs n) (is_one_of n ks) q) ∙ bounds_hidden g bs n (head_false (binds bs n) (is_one_of n ks) q)

pub definitions_hidden : (g : Takes) (ds : Definitions) (n : List ℕ) → defines ds n ≡ false → with_definitions g ds n ≡ g n
definitions_hidden g NoDefinitions n q = refl
definitions_hidden g (MoreDefinitions ds k at ps form e) n q =
    name_hidden (with_definitions g ds) k (defined (with_definitions g ds) k ps e) n (rest_false (defines ds n) (bytes_eq k n) q) ∙ definitions_hidden g ds n (head_false (defines ds n) (bytes_eq k n) q)

pub itself_hidden : (o : Own) (g : Takes) (k : List ℕ) (c : ℕ) (n : List ℕ) → bytes_eq k n ≡ false → with_itself o g k c n ≡ g n
itself_hidden owns.Apart g k c n q = refl
itself_hidden owns.Itself g k c n q = name_hidden g k (record { needed = c; is_above = false }) n q
itself_hidden owns.Function g k c n q = name_hidden g k (record { needed = c; is_above = false }) n q

-- how a definition uses itself, where its body is above level 0 with either
pub itself_same : (g g' : Takes) (form : DefinitionForm) (n : List ℕ) (at : Place) (ps : List (List ℕ)) (e : Tree) → rises (without (with_own (told g) n) ps) e ≡ rises (without (with_own (told g') n) ps) e → itself g form n at ps e ≡ itself g' form n at ps e
itself_same g g' forms.Operator n at ps e q = refl
itself_same g g' forms.Constant n at ps e q = refl
itself_same g g' forms.Function n at ps e q =
    ap (λ (b : Bool). if is_one_of n ps then None else (if mentions n e then (if applies n e && not b then None else Some (Recursion n at)) else None)) q
