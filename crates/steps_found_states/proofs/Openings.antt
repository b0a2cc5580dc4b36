-- What a form opens to where part of the next state is known is what it opens to at each state that completes it.
use Rattle.std.proofs.Common.{◌≡◌, inl, inr, refl, sym, ◌∙◌, ap, subst, ℕ, List, [], ◌∷◌, map}
use Rattle.std.specs.Prelude.{Option, None, Some, Result, Ok, Err, if◌then◌else◌, option_to_list}
use Rattle.std.specs.List.{AllByRecursion}
use Rattle.base_core.specs.declared.place.Place.{Place}
use Rattle.values_core.specs.Data.{Val, model, truth, integer, string, set, function, members}
use Rattle.values_core.specs.IsValue.{IsValue}
use Rattle.values_core.specs.declared.fault.EvalKind.TheVariants.{NoCase, NotSet}
use Rattle.states_core.specs.declared.fault.Fault.{Fault}
use Rattle.names_terms.specs.declared.operator.Operator.{Operator}
use Rattle.names_terms.specs.Lists.{bounds_list}
use Rattle.names_terms.specs.Terms.{Term, Bounds, place_of}
use Rattle.eval_meanings.specs.Binders.{BoundValues, combinations, members_at, ranges}
use Rattle.eval_meanings.specs.Contexts.{Context, Places, Table, WithDefinition, bind, enter, within}
use Rattle.eval_meanings.specs.Everywhere.{InBounds}
use Rattle.eval_meanings.specs.Evaluates.{Evaluates}
use Rattle.eval_meanings.specs.Laws.{KnowsValue, KnowsValues, IsWithin}
use Rattle.eval_meanings.specs.Outcomes.{Outcome, Each, Fails, Gives, Then}
use Rattle.eval_meanings.specs.Unchanged.{TruthOf, changed_of}
use Rattle.eval_meanings.proofs.AtMostOne.{One, one_gives, one_then}
use Rattle.eval_laws.proofs.Keeping.{Keeps, keeps_itself, keeps_then, keeps_first, keeps_either, keeps_each}
use Rattle.eval_laws.proofs.KeptContexts.{KnowsMore}
use Rattle.eval_laws.proofs.Fine as fine
use Rattle.eval_laws.proofs.Fine.{IsFine, fine_gives, fine_fails, fine_then, fine_either, fine_each}
use Rattle.eval_laws.proofs.FineContexts.{HoldsValues, BodiesKnow, AreAllValues, KnowsArm, members_are, combinations_are, ranges_are, know_bounds}
use Rattle.actions_meanings.specs.declared.which.Which.{Which}
use Rattle.actions_meanings.specs.Forms.{Setting, Form, test, assign, choose, both, either, narrowed, some, branch, arms, inside, call, changing}
use Rattle.actions_meanings.specs.Holds.{Chosen, Opened, all_of, one_of, Opens}
use Rattle.actions_meanings.specs.Filled.{at_next}
use Rattle.steps_found_states.specs.Grounds.{OpensFrom}
use Rattle.steps_found_states.proofs.Lists.{map_twice}
use Rattle.steps_found_states.proofs.Placed.{at_more, at_bind, at_within, at_enter, term_keeps, truth_keeps, term_fine, truth_fine, reads_values}

-- a part at a next state
abbrev pub placed : Which → Places → Context × Term → Context × Term
placed w q e = (at_next w e.0 q, e.1)

abbrev pub all_placed : Which → Places → Opened → Opened
all_placed w q (all_of es) = all_of (map (placed w q) es)
all_placed w q (one_of es) = one_of (map (placed w q) es)

abbrev pub opened_at : Which → Places → Result Opened Fault → Result Opened Fault
opened_at w q (Ok o) = Ok (all_placed w q o)
opened_at w q (Err f) = Err f

module _ (ops : Table) (d : ℕ) where
  -- kept where more is known

  pub chosen_keeps : (c b : Context) → KnowsMore c b → (at : Place) (cs : List (Term × Term)) (other : Option Term)
      → Keeps (Chosen (TruthOf (Evaluates ops d) c) at cs other) (Chosen (TruthOf (Evaluates ops d) b) at cs other)
  chosen_keeps c b h at [] None = keeps_itself (Fails NoCase at)
  chosen_keeps c b h at [] (Some e) = keeps_itself (Gives e)
  chosen_keeps c b h at (q ∷ cs) other =
      keeps_then (TruthOf (Evaluates ops d) c q.0) (TruthOf (Evaluates ops d) b q.0) _ _ (truth_keeps ops d c b h q.0)
      (λ t. keeps_either t (Gives q.1) (Chosen (TruthOf (Evaluates ops d) c) at cs other) (Gives q.1) (Chosen (TruthOf (Evaluates ops d) b) at cs other)
      (keeps_itself (Gives q.1)) (chosen_keeps c b h at cs other))

  pub bounds_keep : (c b : Context) → KnowsMore c b → (bs : Bounds) → Keeps (BoundValues (Evaluates ops d) c bs) (BoundValues (Evaluates ops d) b bs)
  bounds_keep c b h bs =
      keeps_first _ _ _ (keeps_each {B = (ℕ × Place) × Val} (λ n. Then (Evaluates ops d c n.1) (λ v. Gives ((n.0, place_of n.1), v))) (λ n. Then (Evaluates ops d b n.1) (λ v. Gives ((n.0, place_of n.1), v)))
      (λ n. keeps_first (Evaluates ops d c n.1) (Evaluates ops d b n.1) _ (term_keeps ops d c b h n.1)) (bounds_list bs))

  -- one, with what it gives

  pub chosen_fine : (c : Context) → BodiesKnow ops → HoldsValues c → (at : Place) (cs : List (Term × Term)) (other : Option Term) → AllByRecursion KnowsArm cs → AllByRecursion KnowsValues (option_to_list other)
      → IsFine KnowsValues (Chosen (TruthOf (Evaluates ops d) c) at cs other)
  chosen_fine c b h at [] None k l = fine_fails KnowsValues NoCase at
  chosen_fine c b h at [] (Some e) k l = fine_gives KnowsValues e l.0
  chosen_fine c b h at (q ∷ cs) other k l =
      fine_then fine.Any KnowsValues (TruthOf (Evaluates ops d) c q.0) _ (truth_fine ops d c q.0 (reads_values ops c q.0 b h k.0.0))
      (λ t p. fine_either KnowsValues t (Gives q.1) (Chosen (TruthOf (Evaluates ops d) c) at cs other) (fine_gives KnowsValues q.1 k.0.1) (chosen_fine c b h at cs other k.1 l))

  pub terms_fine : (c : Context) → BodiesKnow ops → HoldsValues c → (es : List Term) → AllByRecursion KnowsValues es → IsFine AreAllValues (Each (Evaluates ops d c) es)
  terms_fine c b h es k = fine_each KnowsValues IsValue (Evaluates ops d c) (λ e l. term_fine ops d c e (reads_values ops c e b h l)) es k

  members_fine : (at : Place) (v : Val) → IsValue v → IsFine AreAllValues (members_at at v)
  members_fine at (set vs) p = fine_gives AreAllValues (members vs) (members_are vs p)
  members_fine at (model x) p = fine_fails AreAllValues NotSet at
  members_fine at (truth x) p = fine_fails AreAllValues NotSet at
  members_fine at (integer x) p = fine_fails AreAllValues NotSet at
  members_fine at (string x) p = fine_fails AreAllValues NotSet at
  members_fine at (function x) p = fine_fails AreAllValues NotSet at

  pub bounds_fine : (c : Context) → BodiesKnow ops → HoldsValues c → (bs : Bounds) → InBounds KnowsValue bs → IsFine (AllByRecursion AreAllValues) (BoundValues (Evaluates ops d) c bs)
  bounds_fine c b h bs k =
      fine_then (AllByRecursion (λ u. IsValue u.1)) (AllByRecursion AreAllValues) (Each {B = (ℕ × Place) × Val} (λ b. Then (Evaluates ops d c b.1) (λ v. Gives ((b.0, place_of b.1), v))) (bounds_list bs)) _
      (fine_each {B = (ℕ × Place) × Val} (λ b. KnowsValues b.1) (λ u. IsValue u.1) (λ b. Then (Evaluates ops d c b.1) (λ v. Gives ((b.0, place_of b.1), v)))
      (λ n g. fine_then IsValue (λ u. IsValue u.1) (Evaluates ops d c n.1) _ (term_fine ops d c n.1 (reads_values ops c n.1 b h g)) (λ v p. fine_gives (λ u. IsValue u.1) ((n.0, place_of n.1), v) p)) (bounds_list bs) (know_bounds bs k))
      (λ us a. fine_then (AllByRecursion (λ b. AreAllValues b.1)) (AllByRecursion AreAllValues) (Each {B = ℕ × List Val} (λ u. Then (members_at u.0.1 u.1) (λ vs. Gives (u.0.0, vs))) us) _
      (fine_each {B = ℕ × List Val} (λ u. IsValue u.1) (λ b. AreAllValues b.1) (λ u. Then (members_at u.0.1 u.1) (λ vs. Gives (u.0.0, vs)))
      (λ u p. fine_then AreAllValues (λ b. AreAllValues b.1) (members_at u.0.1 u.1) _ (members_fine u.0.1 u.1 p) (λ vs q. fine_gives (λ b. AreAllValues b.1) (u.0.0, vs) q)) us a)
      (λ bs b. fine_gives (AllByRecursion AreAllValues) (combinations (ranges bs)) (combinations_are (ranges bs) (ranges_are bs b))))

-- what is known of the terms that are evaluated for a form, and of its parts
abbrev pub FormKnows : Form → Type 0
FormKnows test = Unit {0}
FormKnows (assign x e) = KnowsValues e
FormKnows (choose x e) = KnowsValues e
FormKnows (both es) = AllByRecursion KnowsValues es
FormKnows (either es) = AllByRecursion KnowsValues es
FormKnows (narrowed n es) = AllByRecursion KnowsValues es
FormKnows (some bs e) = InBounds KnowsValue bs × KnowsValues e
FormKnows (branch p e f) = KnowsValues p × KnowsValues e × KnowsValues f
FormKnows (arms cs other) = AllByRecursion KnowsArm cs × AllByRecursion KnowsValues (option_to_list other)
FormKnows (inside e) = KnowsValues e
FormKnows (call k es) = AllByRecursion KnowsValues es
FormKnows (changing e v) = KnowsValues e × KnowsValues v

one_definition : {A : Type 0} (ops : Table) (k : ℕ) (P : Operator → Outcome A) → ((o : Operator) → One (P o)) → One (WithDefinition ops k P)
one_definition ops k P h r q (o, e, a) (p, f, b) =
    let same : p ≡ o = same_operator p o (sym f ∙ e) in
    h o r q a (subst (λ (x : Operator). P x q) same b)
  where
    same_operator : (x y : Operator) → ◌≡◌ {A = Option Operator} (Some x) (Some y) → x ≡ y
    same_operator x y e = cc

-- a form opens in at most one way
pub one_opens : (ops : Table) (d : ℕ) (c : Context) → BodiesKnow ops → HoldsValues c → (at : Place) (f : Form) → FormKnows f → One (Opens ops d c at f)
one_opens ops d c b h at (both es) k = one_gives (all_of (map (λ e. (c, e)) es))
one_opens ops d c b h at (narrowed n es) k = one_gives (all_of (map (λ e. (within n c, e)) es))
one_opens ops d c b h at (changing e v) k = one_gives (all_of ((c, e) ∷ (c, changed_of at v) ∷ []))
one_opens ops d c b h at (either es) k = one_gives (one_of (map (λ e. (c, e)) es))
one_opens ops d c b h at (some bs e) k = one_then (BoundValues (Evaluates ops d) c bs) _ (bounds_fine ops d c b h bs k.0).one (λ all g. one_gives (one_of (map (λ chosen. (bind c chosen, e)) all)))
one_opens ops d c b h at (branch p e f) k =
    one_then (TruthOf (Evaluates ops d) c p) _ (truth_fine ops d c p (reads_values ops c p b h k.0)).one (λ t g. one_gives (one_of ((c, if t then e else f) ∷ [])))
one_opens ops d c b h at (arms cs other) k =
    one_then (Chosen (TruthOf (Evaluates ops d) c) at cs other) _ (chosen_fine ops d c b h at cs other k.0 k.1).one (λ e g. one_gives (one_of ((c, e) ∷ [])))
one_opens ops d c b h at (inside e) k = one_gives (one_of ((c, e) ∷ []))
one_opens ops d c b h at (call j es) k =
    one_then (Each (Evaluates ops d c) es) _ (terms_fine ops d c b h es k).one (λ vs g. one_definition ops j _ (λ o. one_gives (one_of ((enter o vs c, o.body) ∷ []))))
one_opens ops d c b h at test k = λ r q g i. absurd g
one_opens ops d c b h at (assign x e) k = λ r q g i. absurd g
one_opens ops d c b h at (choose x e) k = λ r q g i. absurd g

-- from what is known so far

gives_at : (w : Which) (q : Places) (o p : Opened) → all_placed w q o ≡ p → (r : Result Opened Fault) → Gives o r → Gives p (opened_at w q r)
gives_at w q o p e r h = ap (opened_at w q) h ∙ ap (λ (x : Opened). Ok x) e

then_at : {A : Type 0} (w : Which) (q : Places) (P Q : Outcome A) (h k : A → Opened) → Keeps P Q → ((x : A) → all_placed w q (h x) ≡ k x)
    → (r : Result Opened Fault) → Then P (λ x. Gives (h x)) r → Then Q (λ x. Gives (k x)) (opened_at w q r)
then_at w q P Q h k keeps same r (inl (x, m, e)) = inl (x, keeps (Ok x) m, gives_at w q (h x) (k x) (same x) r e)
then_at w q P Q h k keeps same r (inr (f, m, e)) = inr (f, keeps (Err f) m, ap (opened_at w q) e)

pair_of : (c b : Context) (e : Term) → c ≡ b → ◌≡◌ {A = Context × Term} (c, e) (b, e)
pair_of c b e h = ap (λ (x : Context). (x, e)) h

pub opens_at : (g : Setting) (d : ℕ) (c : Context) (p q : Places) (at : Place) (f : Form) → IsWithin p q → (r : Result Opened Fault) → OpensFrom g d c p at f r
    → Opens g.table d (at_next g.which c q) at f (opened_at g.which q r)
opens_at g d c p q at (both es) i r h = gives_at g.which q (all_of (map (λ e. (c, e)) es)) _ (ap all_of (map_twice (placed g.which q) (λ e. (c, e)) (λ e. (at_next g.which c q, e)) (λ e. refl) es)) r h
opens_at g d c p q at (narrowed n es) i r h =
    gives_at g.which q (all_of (map (λ e. (within n c, e)) es)) _
    (ap all_of (map_twice (placed g.which q) (λ e. (within n c, e)) (λ e. (within n (at_next g.which c q), e)) (λ e. pair_of _ _ e (at_within g.which n c q)) es)) r h
opens_at g d c p q at (either es) i r h = gives_at g.which q (one_of (map (λ e. (c, e)) es)) _ (ap one_of (map_twice (placed g.which q) (λ e. (c, e)) (λ e. (at_next g.which c q, e)) (λ e. refl) es)) r h
opens_at g d c p q at (some bs e) i r h =
    then_at g.which q (BoundValues (Evaluates g.table d) (at_next g.which c p) bs) (BoundValues (Evaluates g.table d) (at_next g.which c q) bs)
    (λ all. one_of (map (λ chosen. (bind c chosen, e)) all)) (λ all. one_of (map (λ chosen. (bind (at_next g.which c q) chosen, e)) all))
    (bounds_keep g.table d (at_next g.which c p) (at_next g.which c q) (at_more g.which c p q i) bs)
    (λ all. ap one_of (map_twice (placed g.which q) (λ chosen. (bind c chosen, e)) (λ chosen. (bind (at_next g.which c q) chosen, e)) (λ chosen. pair_of _ _ e (at_bind g.which c chosen q)) all)) r h
opens_at g d c p q at (branch a e f) i r h =
    then_at g.which q (TruthOf (Evaluates g.table d) (at_next g.which c p) a) (TruthOf (Evaluates g.table d) (at_next g.which c q) a)
    (λ b. one_of ((c, if b then e else f) ∷ [])) (λ b. one_of ((at_next g.which c q, if b then e else f) ∷ []))
    (truth_keeps g.table d (at_next g.which c p) (at_next g.which c q) (at_more g.which c p q i) a) (λ b. refl) r h
opens_at g d c p q at (arms cs other) i r h =
    then_at g.which q (Chosen (TruthOf (Evaluates g.table d) (at_next g.which c p)) at cs other) (Chosen (TruthOf (Evaluates g.table d) (at_next g.which c q)) at cs other)
    (λ e. one_of ((c, e) ∷ [])) (λ e. one_of ((at_next g.which c q, e) ∷ []))
    (chosen_keeps g.table d (at_next g.which c p) (at_next g.which c q) (at_more g.which c p q i) at cs other) (λ e. refl) r h
opens_at g d c p q at (inside e) i r h = gives_at g.which q (one_of ((c, e) ∷ [])) _ refl r h
opens_at g d c p q at (call k es) i r (inl (vs, m, (o, e, n))) =
    inl (
      vs,
      keeps_each (Evaluates g.table d (at_next g.which c p)) (Evaluates g.table d (at_next g.which c q)) (term_keeps g.table d (at_next g.which c p) (at_next g.which c q) (at_more g.which c p q i)) es (Ok vs) m,
      (o, e, gives_at g.which q (one_of ((enter o vs c, o.body) ∷ [])) _ (ap (λ (b : Context). one_of ((b, o.body) ∷ [])) (at_enter g.which o vs c q)) r n),
    )
opens_at g d c p q at (call k es) i r (inr (f, m, e)) =
    inr (
      f,
      keeps_each (Evaluates g.table d (at_next g.which c p)) (Evaluates g.table d (at_next g.which c q)) (term_keeps g.table d (at_next g.which c p) (at_next g.which c q) (at_more g.which c p q i)) es (Err f) m,
      ap (opened_at g.which q) e,
    )
opens_at g d c p q at (changing e v) i r h = absurd h
opens_at g d c p q at test i r h = absurd h
opens_at g d c p q at (assign x e) i r h = absurd h
opens_at g d c p q at (choose x e) i r h = absurd h
