use Rattle.std.proofs.Common.{inl, inr, refl, sym, subst}
use Rattle.std.specs.Prelude.{true, false, Option, None, Some, Ok, Err, slice_set}
use Rattle.values_core.specs.Data.{Val}
use Rattle.names_terms.specs.Terms.{place_of}
use Rattle.steps_why_branches.specs.Traces.{fails, faulted, here}
use Rattle.steps_why_branches.specs.Branches.{Chosen, Equated}
use Rattle.steps_why_branches.specs.Listings.{itself}
use Rattle.steps_why_branches.specs.declared.why.WhyKind.TheVariants as why
use Rattle.steps_why_branches.proofs.Found.{IsSingle, found_assign, found_given, found_nested, found_test}
use Rattle.steps_why_branches.proofs.FoundParts.{chosen_members, found_no_list, found_no_member}
use Rattle.steps_why_branches.proofs.listing.leaf_lists.Goals as goal

pub returns-clause-tests : goal.returns-clause-tests
returns-clause-tests c = λ g sp k d b a p l w n i. (
  λ h. found_test g sp k l d b a p w n i (Ok true) h (here p) refl,
  λ h. found_test g sp k l d b a p w n i (Ok false) h (fails sp p (itself d b a) why.TestFalse None) refl,
  λ f h. found_test g sp k l d b a p w n i (Err f) h (faulted p (itself d b a) f) refl,
)

pub returns-clause-assignments : goal.returns-clause-assignments
returns-clause-assignments c = λ g sp k d b a p l w now n e i. (
  λ v u h q s. found_assign g sp k l d b a p w now n e i (Ok v) h (here p) (subst (λ (o : Option (Option Val)). Equated sp p (itself d b a) n v o (here p)) (sym q) (inl (s, refl))),
  λ v u h q s. found_assign g sp k l d b a p w now n e i (Ok v) h (fails sp p (itself d b a) (why.Differs (record { 0 = n })) (Some v))
      (subst (λ (o : Option (Option Val)). Equated sp p (itself d b a) n v o (fails sp p (itself d b a) (why.Differs (record { 0 = n })) (Some v))) (sym q) (inr (s, refl))),
  λ v h q. found_assign g sp k l d b a p w now n e i (Ok v) h (here (slice_set p n (Some v))) (subst (λ (o : Option (Option Val)). Equated sp p (itself d b a) n v o (here (slice_set p n (Some v)))) (sym q) refl),
  λ f h. found_assign g sp k l d b a p w now n e i (Err f) h (faulted p (itself d b a) f) refl,
)

pub returns-clause-memberships : goal.returns-clause-memberships
returns-clause-memberships c = λ g sp k d b a p l w now n e i. (
  λ S u h q s. found_given g sp k l d b a p w now n e i (Ok S) h (subst (λ (o : Option (Option Val)). IsSingle g sp k l d b a p w now (Ok S) o) (sym q) tt) (here p)
      (subst (λ (o : Option (Option Val)). Chosen sp p (itself d b a) n (place_of e) (Ok S) o (here p)) (sym q) (inl (s, refl))),
  λ S u h q s. found_given g sp k l d b a p w now n e i (Ok S) h (subst (λ (o : Option (Option Val)). IsSingle g sp k l d b a p w now (Ok S) o) (sym q) tt) (fails sp p (itself d b a) (why.NotIn (record { 0 = n })) None)
      (subst (λ (o : Option (Option Val)). Chosen sp p (itself d b a) n (place_of e) (Ok S) o (fails sp p (itself d b a) (why.NotIn (record { 0 = n })) None)) (sym q) (inr (s, refl))),
  λ f h. found_given g sp k l d b a p w now n e i (Err f) h tt (faulted p (itself d b a) f) refl,
)

pub returns-clause-choices : goal.returns-clause-choices
returns-clause-choices c = λ g sp k d b a p l w now n e S i h q. (
  λ u xs m one x. chosen_members g sp k l d b a p w now n e i S h q u m xs one x,
  λ u m z. found_no_member g sp k l d b a p w now n e i S h q u m z,
  λ f m. found_no_list g sp k l d b a p w now n e i S h q f m,
)

pub returns-clause-nested : goal.returns-clause-nested
returns-clause-nested c = found_nested
