-- Terms that no text spells, e', UNCHANGED e and e' # e: they are in order where e is, and read what e reads.
use Rattle.std.proofs.Common.{◌≡◌, ◌∙◌, refl}
use Rattle.std.specs.Prelude.{◌||◌, ℕ, zero, suc, Bool, true, false}
use Rattle.base_core.specs.declared.place.Place.{Place}
use Rattle.names_terms.specs.declared.level.Level.{Level}
use Rattle.names_terms.specs.declared.level.Level.TheVariants as levels
use Rattle.names_terms.specs.Levels.{joined}
use Rattle.names_terms.specs.Terms.{Term, level_of}
use Rattle.names_term_parts.specs.Limits.{is_above}
use Rattle.eval_meanings.specs.Contexts.{Table}
use Rattle.eval_meanings.specs.Unchanged.{changed_of, prime_of, unchanged_of}
use Rattle.actions_meanings.specs.Reads.{reads}
use Rattle.steps_walk_laws.proofs.PartLists.{or_left, or_none}
use Rattle.steps_walk_laws.proofs.Rows.{Rows}

pub state_action : (l : Level) → is_above l levels.State ≡ false → is_above l levels.Action ≡ false
state_action levels.Constant h = refl
state_action levels.State h = refl
state_action levels.Action h = absurd (cc)
state_action levels.Temporal h = absurd (cc)

joined_action : (l : Level) → is_above l levels.State ≡ false → levels.Action ≡ joined levels.Action l
joined_action levels.Constant h = refl
joined_action levels.State h = refl
joined_action levels.Action h = refl
joined_action levels.Temporal h = absurd (cc)

module _ (variables : ℕ) (ops : Table) (Q : ℕ → Type 0) where
  abbrev Here : ℕ → Term → Type 0
  Here n e = Rows variables ops Q n e

  pub prime_rows : (n : ℕ) (at : Place) (e : Term) → Here n e → is_above (level_of e) levels.State ≡ false → Here n (prime_of at e)
  prime_rows n at e h l = (((tt, (tt, tt), refl), ((l, tt), tt)), (h, tt, tt))

  pub unchanged_rows : (n : ℕ) (at : Place) (e : Term) → Here n e → is_above (level_of e) levels.State ≡ false → Here n (unchanged_of at e)
  unchanged_rows n at e h l = (((tt, tt, refl), ((l, tt), tt)), h)

  pub changed_rows : (n : ℕ) (at : Place) (e : Term) → Here n e → is_above (level_of e) levels.State ≡ false → Here n (changed_of at e)
  changed_rows n at e h l = (((tt, (refl, tt), joined_action (level_of e) l), ((refl, (state_action (level_of e) l, tt)), tt)), (prime_rows n at e h l, h))

module _ (ops : Table) (S : ℕ → Type 0) where
  abbrev Only : Bool → Term → Type 0
  Only b e = (k x : ℕ) → reads ops k b e x ≡ true → S x

  or_first : (x : Bool) → (x || false) ≡ true → x ≡ true
  or_first x r = or_none x ∙ r

  pub prime_only : (b : Bool) (at : Place) (e : Term) → Only true e → Only b (prime_of at e)
  prime_only b at e f zero x r = absurd (cc)
  prime_only true at e f (suc k) x r = f k x (or_first (reads ops k true e x) r)
  prime_only false at e f (suc k) x r = f k x (or_first (reads ops k true e x) r)

  pub unchanged_only : (b : Bool) (at : Place) (e : Term) → Only true e → Only b (unchanged_of at e)
  unchanged_only b at e f zero x r = absurd (cc)
  unchanged_only true at e f (suc k) x r = f k x (or_first (reads ops k true e x) r)
  unchanged_only false at e f (suc k) x r = f k x (or_first (reads ops k true e x) r)

  pub only_unchanged : (b : Bool) (at : Place) (e : Term) → Only b (unchanged_of at e) → Only true e
  only_unchanged true at e f k x r = f (suc k) x (or_left (reads ops k true e x) false r)
  only_unchanged false at e f k x r = f (suc k) x (or_left (reads ops k true e x) false r)

  either_only : (T : Type 0) (x y : Bool) → (x ≡ true → T) → (y ≡ true → T) → (x || (y || false)) ≡ true → T
  either_only T true y f g r = f refl
  either_only T false y f g r = g (or_first y r)

  pub changed_only : (b : Bool) (at : Place) (e : Term) → Only b (prime_of at e) → Only b e → Only b (changed_of at e)
  changed_only b at e f g zero x r = absurd (cc)
  changed_only b at e f g (suc k) x r = either_only (S x) (reads ops k b (prime_of at e) x) (reads ops k b e x) (f k x) (g k x) r
