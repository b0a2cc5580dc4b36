-- What is needed means the same before and after.
use Rattle.std.proofs.Common.{◌≡◌, ◌∙◌, inl, inr, ℕ, suc, ◌+◌, ◌<◌, List, [], ◌∷◌, ◌++◌, length, refl, ap, sym, subst, arith}
use Rattle.std.specs.Prelude.{Bool, true, false, ◌==◌, if◌then◌else◌, Option, Some, None, option_map, Contains, slice_get}
use Rattle.std.specs.Str.{bytes_eq}
use Rattle.std.specs.Option.{option_to_list}
use Rattle.std.proofs.lemmas.List.Elements.{Contains-append_right}
use Rattle.base_core.specs.declared.place.Place.{Place}
use Rattle.base_core.specs.Texts.{same_bytes}
use Rattle.reading_trees.specs.declared.config.Config.{Config}
use Rattle.reading_trees.specs.declared.config.Given.{Given}
use Rattle.reading_trees.specs.declared.config.Given.TheVariants.{Constant, Replaced}
use Rattle.reading_trees.specs.declared.config.GivenAt.{GivenAt}
use Rattle.reading_trees.specs.declared.expr.Definition.{Definition}
use Rattle.reading_trees.specs.declared.module.Declared.{Declared}
use Rattle.reading_trees.specs.declared.module.Program.{Program}
use Rattle.reading_trees.specs.declared.module.Unit.{Unit as ModuleUnit}
use Rattle.reading_trees.specs.declared.module.Unit.TheVariants.{Variables, Constants, Recursive, Define, Instance, Assume, Passed}
use Rattle.names_scopes.specs.declared.meant.Meant.{Meant}
use Rattle.names_scopes.specs.declared.meant.Meant.TheVariants as meant
use Rattle.names_scopes.specs.declared.meant.Named.{Named}
use Rattle.names_scopes.specs.Mentions.{is_one_of, mentions}
use Rattle.names_scopes.specs.Scopes.{among, named}
use Rattle.names_scopes.specs.Standing.{IsIn}
use Rattle.names_program.specs.InUnits.{constants_in, definitions_in, variables_in}
use Rattle.names_program.specs.Names.{constant_index, constant_means, declared_meaning, definition_index, definition_means, definition_meant, first_of, fitting, fitting_index, given_for, index_among, meant_or, names_declared, names_defined, params_at, put_for, replacement, standard_means, value_at, variable_among, variable_means, variable_named}
use Rattle.names_program.specs.Standard.{StandardName, brought, brought_from, entry, is_brought, replaceable, standard_names}
use Rattle.names_program.specs.Uses.{UsesDefinition}
use Rattle.names_program.proofs.NameLemmas.{by_index_is}
use Rattle.names_pruning.specs.Laws.{DeclaredStays, MeaningsStay, RootsStay}
use Rattle.names_pruning.specs.Needed.{names_given, names_replaced, needed_names}
use Rattle.names_pruning.specs.Pruning.{GoesWith, IsBad, IsNeeded, IsOther, Parted, Without, all_parted, is_gone, is_left, is_root, is_used}
use Rattle.names_pruning.proofs.Leaving.{alone_keeps, good_keeps}
use Rattle.names_pruning.specs.Senses.{Sense, definition_at, definition_named, is_defined, is_given, no_sense, sense, sense_of, sense_of_meant}

-- ---- the definition that has a name

abbrev own_in : List Definition → List ℕ → Option Definition
own_in [] n = None
own_in (d ∷ ds) n = if bytes_eq d.name n then Some d else own_in ds n

-- what an index stands for, if there is one
record Stands (ds : List Definition) (o : Option ℕ) (s : Option Definition) : Type 0 where
  pub at : definition_at ds o ≡ s
  pub there : s ≡ None → o ≡ None

at_behind : (d : Definition) (ds : List Definition) (o : Option ℕ) → definition_at (d ∷ ds) (option_map suc o) ≡ definition_at ds o
at_behind d ds None = refl
at_behind d ds (Some i) = refl

none_there : (ds : List Definition) → Stands ds None None
none_there ds = record { at = refl; there = λ q. refl }

own_step : (d : Definition) (ds : List Definition) (o : Option ℕ) (s : Option Definition) (b : Bool) → Stands ds o s
    → Stands (d ∷ ds) (if b then Some 0 else option_map suc o) (if b then Some d else s)
own_step d ds o s true h = record { at = refl; there = λ q. absurd (cc) }
own_step d ds o s false h = record { at = at_behind d ds o ∙ h.at; there = λ q. ap (option_map suc) (h.there q) }

own_stands : (ds : List Definition) (n : List ℕ) → Stands ds (index_among (names_defined ds) n) (own_in ds n)
own_stands [] n = none_there []
own_stands (d ∷ ds) n = own_step d ds (index_among (names_defined ds) n) (own_in ds n) (bytes_eq d.name n) (own_stands ds n)

-- the definition of that name does not go, if there is one
abbrev OwnStays : (ℕ → ModuleUnit → Type 0) → ℕ → List Definition → List ℕ → Type 0
OwnStays Goes k ds n = (i : ℕ) (d : Definition) → index_among (names_defined ds) n ≡ Some i → slice_get ds i ≡ Some d → Goes (k + i) (Define d) → ⊥

abbrev index_if : Bool → List Definition → List ℕ → Option ℕ
index_if b ds n = if b then Some 0 else option_map suc (index_among (names_defined ds) n)

module _ (Goes : ℕ → ModuleUnit → Type 0) (n : List ℕ) where
  stays_behind : (k : ℕ) (x : Definition) (ds : List Definition) → bytes_eq x.name n ≡ false → OwnStays Goes k (x ∷ ds) n → OwnStays Goes (k + 1) ds n
  stays_behind k x ds e h i d at stands g =
      let place : k + 1 + i ≡ k + suc i = omega arith in
      h (suc i) d (ap (λ b. index_if b ds n) e ∙ ap (option_map suc) at) stands (subst (λ j. Goes j (Define d)) place g)

  own_if_left : (k : ℕ) (x : Definition) (ds left : List Definition) (b : Bool) → bytes_eq x.name n ≡ b → OwnStays Goes k (x ∷ ds) n → (OwnStays Goes (k + 1) ds n → own_in left n ≡ own_in ds n)
      → (if b then Some x else own_in left n) ≡ (if b then Some x else own_in ds n)
  own_if_left k x ds left true e h rest = refl
  own_if_left k x ds left false e h rest = rest (stays_behind k x ds e h)

  own_if_gone : (k : ℕ) (x : Definition) (ds left : List Definition) (b : Bool) → bytes_eq x.name n ≡ b → OwnStays Goes k (x ∷ ds) n → Goes k (Define x)
      → (OwnStays Goes (k + 1) ds n → own_in left n ≡ own_in ds n) → own_in left n ≡ (if b then Some x else own_in ds n)
  own_if_gone k x ds left true e h g rest =
      let place : k ≡ k + 0 = omega arith in
      absurd (h 0 x (ap (λ b. index_if b ds n) e) refl (subst (λ j. Goes j (Define x)) place g))
  own_if_gone k x ds left false e h g rest = rest (stays_behind k x ds e h)

  own_left : (k : ℕ) (units left gone : List ModuleUnit) → Parted Goes k units left gone → OwnStays Goes k (definitions_in units) n
      → own_in (definitions_in left) n ≡ own_in (definitions_in units) n
  own_left _ _ _ _ (all_parted k) h = refl
  own_left _ _ _ _ (is_left k (Variables ds) units left gone g l) h = own_left k units left gone l h
  own_left _ _ _ _ (is_left k (Constants ds) units left gone g l) h = own_left k units left gone l h
  own_left _ _ _ _ (is_left k (Assume e) units left gone g l) h = own_left k units left gone l h
  own_left _ _ _ _ (is_left k (Recursive rs) units left gone g l) h = own_left k units left gone l h
  own_left _ _ _ _ (is_left k (Instance m) units left gone g l) h = own_left k units left gone l h
  own_left _ _ _ _ (is_left k Passed units left gone g l) h = own_left k units left gone l h
  own_left _ _ _ _ (is_left k (Define x) units left gone g l) h =
      own_if_left k x (definitions_in units) (definitions_in left) (bytes_eq x.name n) refl h (own_left (k + 1) units left gone l)
  own_left _ _ _ _ (is_gone k (Variables ds) units left gone b l) h = own_left k units left gone l h
  own_left _ _ _ _ (is_gone k (Constants ds) units left gone b l) h = own_left k units left gone l h
  own_left _ _ _ _ (is_gone k (Assume e) units left gone b l) h = own_left k units left gone l h
  own_left _ _ _ _ (is_gone k (Recursive rs) units left gone b l) h = own_left k units left gone l h
  own_left _ _ _ _ (is_gone k (Instance m) units left gone b l) h = own_left k units left gone l h
  own_left _ _ _ _ (is_gone k Passed units left gone b l) h = own_left k units left gone l h
  own_left _ _ _ _ (is_gone k (Define x) units left gone b l) h =
      own_if_gone k x (definitions_in units) (definitions_in left) (bytes_eq x.name n) refl h b (own_left (k + 1) units left gone l)

-- ---- what is declared stays

module _ (Goes : ℕ → ModuleUnit → Type 0) where
  module _ (variables : (k : ℕ) (ds : List Declared) → Goes k (Variables ds) → ⊥) (constants : (k : ℕ) (ds : List Declared) → Goes k (Constants ds) → ⊥) where
    variables_left : (k : ℕ) (units left gone : List ModuleUnit) → Parted Goes k units left gone → variables_in left ≡ variables_in units
    variables_left _ _ _ _ (all_parted k) = refl
    variables_left _ _ _ _ (is_left k (Variables ds) units left gone g l) = ap (λ (xs : List Declared). ds ++ xs) (variables_left k units left gone l)
    variables_left _ _ _ _ (is_left k (Constants ds) units left gone g l) = variables_left k units left gone l
    variables_left _ _ _ _ (is_left k (Define d) units left gone g l) = variables_left (k + 1) units left gone l
    variables_left _ _ _ _ (is_left k (Assume e) units left gone g l) = variables_left k units left gone l
    variables_left _ _ _ _ (is_left k (Recursive rs) units left gone g l) = variables_left k units left gone l
    variables_left _ _ _ _ (is_left k (Instance m) units left gone g l) = variables_left k units left gone l
    variables_left _ _ _ _ (is_left k Passed units left gone g l) = variables_left k units left gone l
    variables_left _ _ _ _ (is_gone k (Variables ds) units left gone b l) = absurd (variables k ds b)
    variables_left _ _ _ _ (is_gone k (Constants ds) units left gone b l) = variables_left k units left gone l
    variables_left _ _ _ _ (is_gone k (Define d) units left gone b l) = variables_left (k + 1) units left gone l
    variables_left _ _ _ _ (is_gone k (Assume e) units left gone b l) = variables_left k units left gone l
    variables_left _ _ _ _ (is_gone k (Recursive rs) units left gone b l) = variables_left k units left gone l
    variables_left _ _ _ _ (is_gone k (Instance m) units left gone b l) = variables_left k units left gone l
    variables_left _ _ _ _ (is_gone k Passed units left gone b l) = variables_left k units left gone l

    constants_left : (k : ℕ) (units left gone : List ModuleUnit) → Parted Goes k units left gone → constants_in left ≡ constants_in units
    constants_left _ _ _ _ (all_parted k) = refl
    constants_left _ _ _ _ (is_left k (Variables ds) units left gone g l) = constants_left k units left gone l
    constants_left _ _ _ _ (is_left k (Constants ds) units left gone g l) = ap (λ (xs : List Declared). ds ++ xs) (constants_left k units left gone l)
    constants_left _ _ _ _ (is_left k (Define d) units left gone g l) = constants_left (k + 1) units left gone l
    constants_left _ _ _ _ (is_left k (Assume e) units left gone g l) = constants_left k units left gone l
    constants_left _ _ _ _ (is_left k (Recursive rs) units left gone g l) = constants_left k units left gone l
    constants_left _ _ _ _ (is_left k (Instance m) units left gone g l) = constants_left k units left gone l
    constants_left _ _ _ _ (is_left k Passed units left gone g l) = constants_left k units left gone l
    constants_left _ _ _ _ (is_gone k (Variables ds) units left gone b l) = constants_left k units left gone l
    constants_left _ _ _ _ (is_gone k (Constants ds) units left gone b l) = absurd (constants k ds b)
    constants_left _ _ _ _ (is_gone k (Define d) units left gone b l) = constants_left (k + 1) units left gone l
    constants_left _ _ _ _ (is_gone k (Assume e) units left gone b l) = constants_left k units left gone l
    constants_left _ _ _ _ (is_gone k (Recursive rs) units left gone b l) = constants_left k units left gone l
    constants_left _ _ _ _ (is_gone k (Instance m) units left gone b l) = constants_left k units left gone l
    constants_left _ _ _ _ (is_gone k Passed units left gone b l) = constants_left k units left gone l

-- ---- what stands in place of a name

abbrev fits : ℕ → Option Definition → Option Definition
fits needed None = None
fits needed (Some d) = if length d.params == needed then Some d else None

abbrev put_in : List Definition → ℕ → Option Given → Option Definition
put_in ds needed None = None
put_in ds needed (Some (Constant l)) = None
put_in ds needed (Some (Replaced m at)) = fits needed (own_in ds m)

fit_if : (ds : List Definition) (i : ℕ) (d : Definition) → slice_get ds i ≡ Some d → (b : Bool) → Stands ds (if b then Some i else None) (if b then Some d else None)
fit_if ds i d e true = record { at = e; there = λ q. absurd (cc) }
fit_if ds i d e false = none_there ds

fit_stands : (ds : List Definition) (needed i : ℕ) (s : Option Definition) → slice_get ds i ≡ s → Stands ds (fitting s needed i) (fits needed s)
fit_stands ds needed i None e = none_there ds
fit_stands ds needed i (Some d) e = fit_if ds i d e (length d.params == needed)

index_stands : (ds : List Definition) (needed : ℕ) (o : Option ℕ) (s : Option Definition) → definition_at ds o ≡ s → Stands ds (fitting_index ds needed o) (fits needed s)
index_stands ds needed None s e = subst (λ t. Stands ds None (fits needed t)) e (none_there ds)
index_stands ds needed (Some i) s e = subst (λ t. Stands ds (fitting (slice_get ds i) needed i) (fits needed t)) e (fit_stands ds needed i (slice_get ds i) refl)

put_stands : (ds : List Definition) (needed : ℕ) (g : Option Given) → Stands ds (put_for ds needed g) (put_in ds needed g)
put_stands ds needed None = none_there ds
put_stands ds needed (Some (Constant l)) = none_there ds
put_stands ds needed (Some (Replaced m at)) = index_stands ds needed (index_among (names_defined ds) m) (own_in ds m) (own_stands ds m).at

-- ---- senses

abbrev or_defined : ℕ → Sense → Option Definition → Sense
or_defined needed s None = s
or_defined needed s (Some d) = is_defined needed (Some d)

or_sense : (ds : List Definition) (needed : ℕ) (m : Meant) (o : Option ℕ) (s : Option Definition) → Stands ds o s → sense_of_meant ds needed (meant_or m o) ≡ or_defined needed (sense_of_meant ds needed m) s
or_sense ds needed m None None h = refl
or_sense ds needed m None (Some d) h = let e : None ≡ Some d = h.at in absurd (cc)
or_sense ds needed m (Some i) None h = let e : Some i ≡ None = h.there refl in absurd (cc)
or_sense ds needed m (Some i) (Some d) h = ap (is_defined needed) h.at

-- what standard modules bring is no definition
abbrev Plain : List StandardName → Type 0
Plain [] = Unit {0}
Plain (s ∷ ss) = IsIn 0 s.meant × Plain ss

all_plain : Plain standard_names
unfolding standard_names
all_plain = (tt, (tt, (tt, (tt, (tt, (tt, (tt, (tt, (tt, (tt, tt))))))))))

brought_plain : (extended : List (List ℕ)) (ss : List StandardName) → Plain ss → (n : List ℕ) (w : Named) → among (brought_from extended ss) n ≡ Some w → IsIn 0 w.meant
brought_plain extended [] h n w e = absurd (cc)
brought_plain extended (s ∷ ss) h n w e = one (is_brought extended s) e (brought_plain extended ss h.1 n w)
  where
    here : (b : Bool) → (if b then Some (named s.needed s.meant) else among (brought_from extended ss) n) ≡ Some w → (among (brought_from extended ss) n ≡ Some w → IsIn 0 w.meant) → IsIn 0 w.meant
    here true q rest = let same : named s.needed s.meant ≡ w = cc in subst (λ (y : Named). IsIn 0 y.meant) same h.0
    here false q rest = rest q

    one : (b : Bool) → among (if b then entry s.name s.needed s.meant ∷ brought_from extended ss else brought_from extended ss) n ≡ Some w
        → (among (brought_from extended ss) n ≡ Some w → IsIn 0 w.meant) → IsIn 0 w.meant
    one true q rest = here (bytes_eq s.name n) q rest
    one false q rest = rest q

plain_sense : (ds : List Definition) (needed : ℕ) (m : Meant) → IsIn 0 m → sense_of_meant ds needed m ≡ sense_of_meant [] needed m
plain_sense ds needed (meant.Definition k) h = absurd (omega (arith, h))
plain_sense ds needed (meant.Slot i) h = refl
plain_sense ds needed (meant.Variable x) h = refl
plain_sense ds needed (meant.Known v) h = refl
plain_sense ds needed (meant.Set s) h = refl
plain_sense ds needed (meant.Standard o) h = refl

abbrev standard_sense : Bool → Named → (ℕ → Option Definition) → Sense
standard_sense b w put = if b then or_defined w.needed (sense_of_meant [] w.needed w.meant) (put w.needed) else sense_of_meant [] w.needed w.meant

-- the sense of a name, from where it is declared
abbrev sense_from : Option ℕ → Option ℕ → Option Definition → Option Named → (ℕ → Option Definition) → List ℕ → Sense
sense_from (Some x) constant own standard put n = is_given (named 0 (meant.Variable (record { 0 = x })))
sense_from None (Some k) own standard put n = or_defined 0 (is_given (named 0 (meant.Known (value_at [] k)))) (put 0)
sense_from None None (Some d) standard put n = or_defined (length d.params) (is_defined (length d.params) (Some d)) (put (length d.params))
sense_from None None None (Some w) put n = standard_sense (is_one_of n replaceable) w put
sense_from None None None None put n = no_sense

module _ (p : Program) (c : Config) (n : List ℕ) where
  abbrev ds : List Definition
  ds = definitions_in p.units

  abbrev put : ℕ → Option Definition
  put needed = put_in ds needed (given_for c.givens n)

  replaced_sense : (needed : ℕ) (m : Meant) → sense_of_meant ds needed (meant_or m (replacement p c n needed)) ≡ or_defined needed (sense_of_meant ds needed m) (put needed)
  replaced_sense needed m = or_sense ds needed m (replacement p c n needed) (put needed) (put_stands ds needed (given_for c.givens n))

  standard_is : (w : Named) (b : Bool) → IsIn 0 w.meant
      → sense_of ds (Some (if b then named w.needed (meant_or w.meant (replacement p c n w.needed)) else w)) ≡ standard_sense b w put
  standard_is w true h = replaced_sense w.needed w.meant ∙ ap (λ s. or_defined w.needed s (put w.needed)) (plain_sense ds w.needed w.meant h)
  standard_is w false h = plain_sense ds w.needed w.meant h

  abbrev standard_plain : Option Named → Type 0
  standard_plain standard = (w : Named) → standard ≡ Some w → IsIn 0 w.meant

  from_standard : (standard : Option Named) → standard_plain standard → sense_of ds (standard_means p c n standard) ≡ sense_from None None None standard put n
  from_standard None h = refl
  from_standard (Some w) h = standard_is w (is_one_of n replaceable) (h w refl)

  own_sense : (i : ℕ) (d : Definition) → slice_get ds i ≡ Some d → (needed : ℕ) → needed ≡ length d.params
      → sense_of_meant ds needed (meant_or (definition_meant i) (replacement p c n needed)) ≡ or_defined (length d.params) (is_defined (length d.params) (Some d)) (put (length d.params))
  own_sense i d e needed k =
      replaced_sense needed (definition_meant i)
      ∙ ap (λ s. or_defined needed (is_defined needed s) (put needed)) e
      ∙ ap (λ j. or_defined j (is_defined j (Some d)) (put j)) k

  from_definition : (o : Option ℕ) (own : Option Definition) (standard : Option Named) → Stands ds o own → standard_plain standard
      → sense_of ds (first_of (definition_means p c n o) (standard_means p c n standard)) ≡ sense_from None None own standard put n
  from_definition None None standard s h = from_standard standard h
  from_definition None (Some d) standard s h = let e : None ≡ Some d = s.at in absurd (cc)
  from_definition (Some i) None standard s h = let e : Some i ≡ None = s.there refl in absurd (cc)
  from_definition (Some i) (Some d) standard s h = own_sense i d s.at (params_at (slice_get ds i)) (ap params_at s.at)

  from_declared : (variable constant : Option ℕ) (o : Option ℕ) (own : Option Definition) (standard : Option Named) → Stands ds o own → standard_plain standard
      → sense_of ds (first_of (variable_means variable) (first_of (constant_means p c [] n constant) (first_of (definition_means p c n o) (standard_means p c n standard))))
      ≡ sense_from variable constant own standard put n
  from_declared (Some x) constant o own standard s h = refl
  from_declared None (Some k) o own standard s h = replaced_sense 0 (meant.Known (value_at [] k))
  from_declared None None o own standard s h = from_definition o own standard s h

  pub sense_is : sense p c n ≡ sense_from (variable_named p n) (constant_index p n) (own_in ds n) (among (brought p.standard) n) put n
  sense_is =
      ap (sense_of ds) (by_index_is (declared_meaning p c [] n))
      ∙ from_declared (variable_named p n) (constant_index p n) (definition_index p n) (own_in ds n) (among (brought p.standard) n) (own_stands ds n)
      (λ w e. brought_plain p.standard standard_names all_plain n w e)

-- the same from the same
from_put : (own : Option Definition) (standard : Option Named) (put other : ℕ → Option Definition) (n : List ℕ) → ((k : ℕ) → put k ≡ other k)
    → sense_from None None own standard put n ≡ sense_from None None own standard other n
from_put (Some d) standard put other n same = ap (or_defined (length d.params) (is_defined (length d.params) (Some d))) (same (length d.params))
from_put None (Some w) put other n same = ap (λ s. if is_one_of n replaceable then or_defined w.needed (sense_of_meant [] w.needed w.meant) s else sense_of_meant [] w.needed w.meant) (same w.needed)
from_put None None put other n same = refl

from_same : (variable constant : Option ℕ) (own also : Option Definition) (standard : Option Named) (put other : ℕ → Option Definition) (n : List ℕ) → ((k : ℕ) → put k ≡ other k)
    → (variable ≡ None → constant ≡ None → own ≡ also) → sense_from variable constant own standard put n ≡ sense_from variable constant also standard other n
from_same (Some x) constant own also standard put other n same e = refl
from_same None (Some k) own also standard put other n same e = ap (or_defined 0 (is_given (named 0 (meant.Known (value_at [] k))))) (same 0)
from_same None None own also standard put other n same e =
    ap (λ o. sense_from None None o standard put n) (e refl refl) ∙ from_put also standard put other n same

-- ---- the names that a run needs

same_given : (m k : List ℕ) (a b : Place) → Replaced m a ≡ Replaced k b → m ≡ k
same_given m k a b e = cc

both_in_front : (n m : List ℕ) (rest : List (List ℕ)) → Contains (n ∷ m ∷ [] ++ rest) n × Contains (n ∷ m ∷ [] ++ rest) m
both_in_front n m rest =
    let less : 0 < length (n ∷ m ∷ [] ++ rest) = omega arith in
    let more : 1 < length (n ∷ m ∷ [] ++ rest) = omega arith in
    ((0, less, refl), (1, more, refl))

given_roots : (gs : List GivenAt) (n m : List ℕ) (at : Place) → given_for gs n ≡ Some (Replaced m at) → Contains (names_replaced gs) n × Contains (names_replaced gs) m
given_roots [] n m at e = absurd (cc)
given_roots (g ∷ gs) n m at e = one (bytes_eq g.name n) refl e (given_roots gs n m at)
  where
    here : (h : Given) → h ≡ Replaced m at → Contains (names_given n h ++ names_replaced gs) n × Contains (names_given n h ++ names_replaced gs) m
    here h q = subst (λ x. Contains (names_given n x ++ names_replaced gs) n × Contains (names_given n x ++ names_replaced gs) m) (sym q) (both_in_front n m (names_replaced gs))

    one : (b : Bool) → bytes_eq g.name n ≡ b → (if b then Some g.given else given_for gs n) ≡ Some (Replaced m at)
        → (given_for gs n ≡ Some (Replaced m at) → Contains (names_replaced gs) n × Contains (names_replaced gs) m)
        → Contains (names_given g.name g.given ++ names_replaced gs) n × Contains (names_given g.name g.given ++ names_replaced gs) m
    one true q r rest =
        let same : g.given ≡ Replaced m at = cc in
        subst (λ k. Contains (names_given k g.given ++ names_replaced gs) n × Contains (names_given k g.given ++ names_replaced gs) m) (sym (same_bytes g.name n q)) (here g.given same)
    one false q r rest =
        let found = rest r in
        (Contains-append_right (names_given g.name g.given) (names_replaced gs) n found.0, Contains-append_right (names_given g.name g.given) (names_replaced gs) m found.1)

module _ (p : Program) (c : Config) (silent : Option (List ℕ)) (unread : List (List ℕ)) (Goes : ℕ → Type 0) (keeps : (i : ℕ) → IsNeeded p c (needed_names c silent) i → Goes i → ⊥) (q : Program) (over : List ModuleUnit) (without : Without p c unread Goes q over) where
  abbrev roots : List (List ℕ)
  roots = needed_names c silent

  -- a name whose own definition is needed has the same one
  own_needed : (n : List ℕ) → ((i : ℕ) → definition_index p n ≡ Some i → IsNeeded p c roots i) → own_in (definitions_in q.units) n ≡ own_in (definitions_in p.units) n
  own_needed n needed = own_left (GoesWith p c unread Goes) n 0 p.units q.units over without.parted (λ i d at stands g.
      let place : 0 + i ≡ i = omega arith in
      keeps i (needed i at) (subst (λ j. Goes j) place g))

  own_root : (n : List ℕ) → Contains roots n → own_in (definitions_in q.units) n ≡ own_in (definitions_in p.units) n
  own_root n h = own_needed n (λ i e. is_root n i h e)

  is_asked : (n : List ℕ) → Contains (names_replaced c.givens) n → Contains roots n
  is_asked n h = Contains-append_right (option_to_list c.init ++ option_to_list c.next ++ option_to_list c.specification ++ option_to_list silent) (names_replaced c.givens) n h

  -- what stands in place of a name is the same
  put_from : (n : List ℕ) (needed : ℕ) (g : Option Given) → given_for c.givens n ≡ g → put_in (definitions_in q.units) needed g ≡ put_in (definitions_in p.units) needed g
  put_from n needed None e = refl
  put_from n needed (Some (Constant l)) e = refl
  put_from n needed (Some (Replaced m at)) e = ap (fits needed) (own_root m (is_asked m (given_roots c.givens n m at e).1))

  put_same : (n : List ℕ) (needed : ℕ) → put_in (definitions_in q.units) needed (given_for c.givens n) ≡ put_in (definitions_in p.units) needed (given_for c.givens n)
  put_same n needed = put_from n needed (given_for c.givens n) refl

  variables_same : variables_in q.units ≡ variables_in p.units
  variables_same = variables_left (GoesWith p c unread Goes) (λ k ds b. b) (λ k ds b. b) 0 p.units q.units over without.parted

  constants_same : constants_in q.units ≡ constants_in p.units
  constants_same = constants_left (GoesWith p c unread Goes) (λ k ds b. b) (λ k ds b. b) 0 p.units q.units over without.parted

  -- ---- a name of a definition that is needed

  module _ (i : ℕ) (d : Definition) (n : List ℕ) (needed : IsNeeded p c roots i) (stands : slice_get (definitions_in p.units) i ≡ Some d) (mentioned : mentions n d.body ≡ true)
      (no_parameter : is_one_of n d.params ≡ false) where
    -- it uses its own definition, where nothing stands in its place
    uses_own : (j : ℕ) → variable_named p n ≡ None → constant_index p n ≡ None → definition_index p n ≡ Some j
        → ((k : ℕ) → replacement p c n k ≡ None) → UsesDefinition p c i j
    uses_own j v k e none =
        let args = params_at (slice_get (definitions_in p.units) j) in
        let meaning : declared_meaning p c [] n ≡ Some (named args (definition_meant j)) =
        ap (λ o. first_of (variable_means o) (first_of (constant_means p c [] n (constant_index p n)) (first_of (definition_means p c n (definition_index p n)) (standard_means p c n (among (brought p.standard) n))))) v
        ∙ ap (λ o. first_of (constant_means p c [] n o) (first_of (definition_means p c n (definition_index p n)) (standard_means p c n (among (brought p.standard) n)))) k
        ∙ ap (λ o. first_of (definition_means p c n o) (standard_means p c n (among (brought p.standard) n))) e
        ∙ ap (λ o. Some (named args (meant_or (definition_meant j) o))) (none args) in
        record {
          definition = d;
          stands = stands;
          name = n;
          no_parameter = no_parameter;
          mentioned = mentioned;
          means = (args, by_index_is (declared_meaning p c [] n) ∙ meaning);
        }

    own_is_needed : (g : Option Given) → given_for c.givens n ≡ g → (j : ℕ) → variable_named p n ≡ None → constant_index p n ≡ None → definition_index p n ≡ Some j → IsNeeded p c roots j
    own_is_needed None g j v k e = is_used i j needed (uses_own j v k e (λ args. ap (λ h. put_for (definitions_in p.units) args h) g))
    own_is_needed (Some (Constant l)) g j v k e = is_used i j needed (uses_own j v k e (λ args. ap (λ h. put_for (definitions_in p.units) args h) g))
    own_is_needed (Some (Replaced m at)) g j v k e = is_root n j (is_asked n (given_roots c.givens n m at g).0) e

    same_sense : sense q c n ≡ sense p c n
    same_sense =
        sense_is q c n
        ∙ ap (λ (ds : List Declared). sense_from (variable_among ds n) (constant_index q n) (own_in (definitions_in q.units) n) (among (brought q.standard) n) (put q c n) n) variables_same
        ∙ ap (λ (ds : List Declared). sense_from (variable_named p n) (index_among (names_declared ds) n) (own_in (definitions_in q.units) n) (among (brought q.standard) n) (put q c n) n) constants_same
        ∙ ap (λ (ms : List (List ℕ)). sense_from (variable_named p n) (constant_index p n) (own_in (definitions_in q.units) n) (among (brought ms) n) (put q c n) n) without.standard
        ∙ from_same (variable_named p n) (constant_index p n) (own_in (definitions_in q.units) n) (own_in (definitions_in p.units) n) (among (brought p.standard) n) (put q c n) (put p c n) n
        (put_same n) (λ v k. own_needed n (λ j e. own_is_needed (given_for c.givens n) refl j v k e))
        ∙ sym (sense_is p c n)

pub meanings_stay : MeaningsStay
meanings_stay p c silent unread q over (inl a) i d n needed stands mentioned no_parameter =
    same_sense p c silent unread (IsBad p c unread) (good_keeps p c unread (needed_names c silent) a.good) q over a.without i d n needed stands mentioned no_parameter
meanings_stay p c silent unread q over (inr a) i d n needed stands mentioned no_parameter =
    same_sense p c silent unread (IsOther p c (needed_names c silent)) (alone_keeps p c (needed_names c silent)) q over a i d n needed stands mentioned no_parameter

root_stays : (p : Program) (c : Config) (silent : Option (List ℕ)) (q : Program) (n : List ℕ) → own_in (definitions_in q.units) n ≡ own_in (definitions_in p.units) n
    → definition_named q n ≡ definition_named p n
root_stays p c silent q n e = (own_stands (definitions_in q.units) n).at ∙ e ∙ sym (own_stands (definitions_in p.units) n).at

pub roots_stay : RootsStay
roots_stay p c silent unread q over (inl a) n h =
    root_stays p c silent q n (own_root p c silent unread (IsBad p c unread) (good_keeps p c unread (needed_names c silent) a.good) q over a.without n h)
roots_stay p c silent unread q over (inr a) n h =
    root_stays p c silent q n (own_root p c silent unread (IsOther p c (needed_names c silent)) (alone_keeps p c (needed_names c silent)) q over a n h)

declared_left : (p : Program) (c : Config) (unread : List (List ℕ)) (Goes : ℕ → Type 0) (q : Program) (over : List ModuleUnit) → Without p c unread Goes q over
    → (variables_in q.units ≡ variables_in p.units) × (constants_in q.units ≡ constants_in p.units)
declared_left p c unread Goes q over a = (
  variables_left (GoesWith p c unread Goes) (λ k ds b. b) (λ k ds b. b) 0 p.units q.units over a.parted,
  constants_left (GoesWith p c unread Goes) (λ k ds b. b) (λ k ds b. b) 0 p.units q.units over a.parted,
)

pub declared_stays : DeclaredStays
declared_stays p c unread asked q over (inl a) = declared_left p c unread (IsBad p c unread) q over a.without
declared_stays p c unread asked q over (inr a) = declared_left p c unread (IsOther p c asked) q over a
