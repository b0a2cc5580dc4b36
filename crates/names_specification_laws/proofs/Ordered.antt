-- What trees in order mean is in order, where names and scopes fit the table.
use Rattle.std.proofs.Common.{◌≡◌, ◌∙◌, sym, refl, subst, List, [], ◌∷◌, ◌++◌, length, ◌<◌, ◌≤◌, arith}
use Rattle.std.specs.Prelude.{◌+◌, if◌then◌else◌, ℕ, suc, Bool, true, false, Option, Some, None, IfSome, slice_get}
use Rattle.std.specs.Str.{bytes_eq}
use Rattle.base_core.specs.declared.place.Place.{Place}
use Rattle.names_terms.specs.declared.ids.DefId.{DefId}
use Rattle.names_terms.specs.declared.operator.Operator.{Operator}
use Rattle.names_terms.specs.declared.operator.Own.{Own}
use Rattle.names_terms.specs.declared.operator.Own.TheVariants as owns
use Rattle.names_terms.specs.Terms as term
use Rattle.names_terms.specs.Terms.{Term, Terms, Meaning, count}
use Rattle.names_terms.specs.Levels.{level_for}
use Rattle.names_term_parts.proofs.Lists.{item_within}
use Rattle.names_scopes.specs.declared.scope.Local.{Local}
use Rattle.names_scopes.specs.declared.scope.Local.TheVariants.{Bound, Defined}
use Rattle.names_scopes.specs.declared.meant.Meant.{Meant}
use Rattle.names_scopes.specs.declared.meant.Meant.TheVariants as meant
use Rattle.names_scopes.specs.declared.meant.Named.{Named}
use Rattle.names_scopes.specs.declared.meant.Entry.{Entry}
use Rattle.names_scopes.specs.Scopes.{later, named, used, bound_from, bound, among, bind, slots}
use Rattle.names_meanings.specs.Means.{local_operator, with_own}
use Rattle.names_meanings.specs.Outcomes.{needs}
use Rattle.names_specification_laws.specs.IsSpec.{needed_by, IsInRange, IsRow}
use Rattle.names_specification_laws.specs.Meanings.{NameMeanings, IsDefined, MeantFits, NamesFit, FitFrom, ScopeFits}
use Rattle.names_specification_laws.specs.Laws.{MeaningsAreInOrder}
use Rattle.names_specification_laws.proofs.Walk.{Rows, IsPlain, of_tree}

-- what a name may mean at a place with so many slots
abbrev pub UseFits : ℕ → List Operator → ℕ → ℕ → Meant → Type 0
UseFits variables ops i needed (meant.Slot j) = j < i
UseFits variables ops i needed (meant.Variable x) = x.0 < variables
UseFits variables ops i needed (meant.Known v) = Unit {0}
UseFits variables ops i needed (meant.Set s) = Unit {0}
UseFits variables ops i needed (meant.Standard o) = needed ≡ needed_by o
UseFits variables ops i needed (meant.Definition k) = IsDefined ops k.0 needed i

further : (ops : List Operator) (k p i j : ℕ) → i ≤ j → IsDefined ops k p i → IsDefined ops k p j
further ops k p i j le h = record { operator = h.operator; is = h.is; arguments = h.arguments; around = omega (arith, le, h.around) }

program_use : (variables : ℕ) (ops : List Operator) (i needed : ℕ) (w : Meant) → MeantFits variables ops needed w → UseFits variables ops i needed w
program_use variables ops i needed (meant.Slot j) h = absurd h
program_use variables ops i needed (meant.Variable x) h = h.0
program_use variables ops i needed (meant.Known v) h = tt
program_use variables ops i needed (meant.Set s) h = tt
program_use variables ops i needed (meant.Standard o) h = h
program_use variables ops i needed (meant.Definition k) h = further ops k.0 needed 0 i (omega arith) h

-- what holds of the last of a name holds of what it means
pub last_bound : (F : Named → Type 0) (b : Bool) (y x : Named) (o : Option Named) → F y → (o ≡ Some x → F x) → later (if b then Some y else None) o ≡ Some x → F x
last_bound F b y x (Some z) k h q = h q
last_bound F true y x None k h q = subst (λ (o : Option Named). IfSome o F) q k
last_bound F false y x None k h q = absurd (cc)

-- a name that is bound around, or one of the program
pub either_way : (F : Named → Type 0) (a b : Option Named) (w : Named) → (b ≡ Some w → F w) → (a ≡ Some w → F w) → later a b ≡ Some w → F w
either_way F a (Some y) w h k q = h q
either_way F a None w h k q = k q

module _ (variables : ℕ) (ops : List Operator) where
  bound_use : (j i : ℕ) (sc : List Local) (n : List ℕ) (w : Named) → FitFrom ops i sc → i + slots sc ≤ j → bound_from i sc n ≡ Some w → UseFits variables ops j w.needed w.meant
  bound_use j i [] n w f le q = absurd (cc)
  bound_use j i (Bound m ∷ sc) n w f le q =
      last_bound (λ x. UseFits variables ops j x.needed x.meant) (bytes_eq m n) (named 0 (meant.Slot i)) w (bound_from (suc i) sc n) (omega (arith, le)) (bound_use j (suc i) sc n w f (omega (arith, le))) q
  bound_use j i (Defined m k p ∷ sc) n w f le q =
      last_bound (λ x. UseFits variables ops j x.needed x.meant) (bytes_eq m n) (named p (meant.Definition k)) w (bound_from i sc n) (further ops k.0 p i j (omega (arith, le)) f.0) (bound_use j i sc n w f.1 le) q

  use_row : (i needed : ℕ) (w : Meant) (ts : Terms) (at : Place) → UseFits variables ops i needed w → count ts ≡ needs w needed → IsRow variables ops i at (level_for ops (used w ts)) (used w ts)
  use_row i needed (meant.Slot j) ts at h e = (h, tt, refl)
  use_row i needed (meant.Variable x) ts at h e = (h, tt, refl)
  use_row i needed (meant.Known v) ts at h e = (tt, tt, refl)
  use_row i needed (meant.Set s) ts at h e = (tt, tt, refl)
  use_row i needed (meant.Standard o) ts at h e = (e ∙ h, tt, refl)
  use_row i needed (meant.Definition k) ts at h e = (record { operator = h.operator; is = h.is; arguments = e ∙ sym h.arguments; around = h.around }, tt, refl)

  plain_row : (i : ℕ) (m : Meaning) → IsPlain m → IsInRange variables ops i m
  plain_row i (term.Variable x) p = absurd p
  plain_row i (term.Slot j) p = absurd p
  plain_row i (term.Use k ts) p = absurd p
  plain_row i (term.Standard o ts) p = absurd p
  plain_row i (term.Scoped ks e) p = absurd p
  plain_row i m p = tt

pub fit_bound : (ops : List Operator) (i : ℕ) (sc : List Local) (n : List ℕ) → FitFrom ops i sc → FitFrom ops i (sc ++ Bound n ∷ [])
fit_bound ops i [] n h = tt
fit_bound ops i (Bound m ∷ sc) n h = fit_bound ops (suc i) sc n h
fit_bound ops i (Defined m k p ∷ sc) n h = (h.0, fit_bound ops i sc n h.1)

pub fit_bind : (ops : List Operator) (sc : List Local) (ns : List (List ℕ)) → ScopeFits ops sc → ScopeFits ops (bind sc ns)
fit_bind ops sc [] h = h
fit_bind ops sc (n ∷ ns) h = fit_bind ops (sc ++ Bound n ∷ []) ns (fit_bound ops 0 sc n h)

fit_defined : (ops : List Operator) (i : ℕ) (sc : List Local) (n : List ℕ) (k : DefId) (p j : ℕ) → FitFrom ops i sc → j ≡ i + slots sc → IsDefined ops k.0 p j → FitFrom ops i (sc ++ Defined n k p ∷ [])
fit_defined ops i [] n k p j h e d = (further ops k.0 p j i (omega (arith, e)) d, tt)
fit_defined ops i (Bound m ∷ sc) n k p j h e d = fit_defined ops (suc i) sc n k p j h (omega (arith, e)) d
fit_defined ops i (Defined m q r ∷ sc) n k p j h e d = (h.0, fit_defined ops i sc n k p j h.1 e d)

-- a definition of a LET in the scope behind it
pub fit_local : (ops : List Operator) (sc : List Local) (n : List ℕ) (k : DefId) (p : ℕ) (own : Own) (x : Term) → ScopeFits ops sc → slice_get ops k.0 ≡ Some (local_operator (slots sc) p own x) → ScopeFits ops (sc ++ Defined n k p ∷ [])
fit_local ops sc n k p own x h q =
    fit_defined ops 0 sc n k p (slots sc) h (omega arith) (record { operator = local_operator (slots sc) p own x; is = q; arguments = refl; around = omega arith })

-- in the body of a definition of a LET, which sees itself where it uses itself
pub fit_own : (ops : List Operator) (sc : List Local) (n : List ℕ) (k : DefId) (p : ℕ) (own seen : Own) (x : Term) → ScopeFits ops sc → slice_get ops k.0 ≡ Some (local_operator (slots sc) p own x) → ScopeFits ops (with_own seen sc n k p)
fit_own ops sc n k p own owns.Apart x h q = h
fit_own ops sc n k p own owns.Itself x h q = fit_local ops sc n k p own x h q
fit_own ops sc n k p own owns.Function x h q = fit_local ops sc n k p own x h q

rows_in_order : (known : NameMeanings) (variables : ℕ) (ops : List Operator) (names : List Entry) → NamesFit known variables ops → ((n : List ℕ) → among names n ≡ known n) → Rows names ops (ScopeFits ops) (λ k. k < length ops) (IsRow variables ops)
rows_in_order known variables ops names fit are =
    record {
      of_name = λ sc n w ts at s q e. use_row variables ops (slots sc) w.needed w.meant ts at
          (either_way (λ x. UseFits variables ops (slots sc) x.needed x.meant) (among names n) (bound sc n) w
          (bound_use variables ops (slots sc) 0 sc n w s (omega arith))
          (λ p. program_use variables ops (slots sc) w.needed w.meant (fit n w (sym (are n) ∙ p))) q) e;
      of_let = λ i ks e at h. (h, tt, refl);
      of_plain = λ i m at p h. (plain_row variables ops i m p, h, refl);
      bound = λ sc n h. fit_bound ops 0 sc n h;
      defined = λ sc n k own ps t x h q l f c m. (item_within ops k.0 (local_operator (slots sc) (length ps) own x) q, fit_local ops sc n k (length ps) own x h q);
    }

pub meanings_are_in_order : MeaningsAreInOrder
meanings_are_in_order known variables ops sc t e fit s h =
    of_tree h.names ops (ScopeFits ops) (λ k. k < length ops) (IsRow variables ops) (rows_in_order known variables ops h.names fit h.are) sc t e s h.formed h.fine h.means
