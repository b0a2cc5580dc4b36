-- States with one cut, as what is given of entries.
use Rattle.std.proofs.Common.{◌≡◌, ℕ, List, [], ◌++◌, map, Result, Ok, Err, Vec, ap, sym, ◌∙◌, subst, arith}
use Rattle.std.specs.Prelude.{Contains, IfOk}
use Rattle.std.specs.declared.alloc.Global.{Global}
use Rattle.std.proofs.lemmas.List.{length-map}
use Rattle.states_core.specs.Sets.{AreOf, IsList}
use Rattle.states_core.specs.States.{Values}
use Rattle.states_core.specs.declared.fault.Fault.{Fault}
use Rattle.base_cuts.specs.Cuts.{Cut}
use Rattle.states_layers.specs.Gives.{Gives}
use Rattle.states_layers.specs.declared.steps.StepFault.{StepFault}
use Rattle.states_layers.specs.declared.steps.StepFault.TheVariants.{Eval, TooMany, NoMemory}
use Rattle.steps_tied.specs.Tied.{CutState}
use Rattle.steps_cut_source.specs.Listing.{at_cut}
use Rattle.steps_cut_source.proofs.Below.{in_map, map_in, pairs_map}

-- behind none they are all
pub only_placed : {E : Type 0} (none xs : List CutState) (r : Result (Vec CutState Global) E) → none ≡ [] → IfOk r (λ now. now.items ≡ none ++ xs) → IfOk r (λ now. now.items ≡ xs)
only_placed none xs (Ok now) e h = h ∙ ap (λ (ys : List CutState). ys ++ xs) e
only_placed none xs (Err stop) e h = tt

module _ (c : Cut) where
  one_state : (s t : Values) → at_cut c s ≡ at_cut c t → s ≡ t
  one_state s t q = ap (λ (x : CutState). x.state) q

  pub are_placed : (P : Values → Type 0) (Q : CutState → Type 0) → ((s : Values) → P s → Q (at_cut c s)) → (ts : List Values) → AreOf P ts → AreOf Q (map (at_cut c) ts)
  are_placed P Q to ts are = record {
    distinct = pairs_map (at_cut c) one_state ts are.distinct;
    members = λ x m. let r = in_map (at_cut c) ts x m in subst Q r.2 (to r.0 (are.members r.0 r.1));
  }

  pub are_listed : (P : Values → Type 0) (Q : CutState → Type 0) → ((s : Values) → P s → Q (at_cut c s)) → ((e : CutState) → Q e → (e.cut ≡ c) × P e.state)
      → (ts : List Values) → IsList P ts → IsList Q (map (at_cut c) ts)
  are_listed P Q to from ts list = record {
    are = are_placed P Q to ts list.are;
    all = λ e q. let r = from e q in
        subst (Contains (map (at_cut c) ts)) (λ i. record { cut = sym r.0 i; state = e.state }) (map_in (at_cut c) ts e.state (list.all e.state r.1));
  }

  -- what is given of states is given of them at the cut
  module _ (P : Values → Type 0) (Bad : Values → Fault → Type 0) (Seen : Values → Type 0) (Q : CutState → Type 0) (Worse : CutState → Fault → Type 0) (Shows : CutState → Type 0) where
    pub record IsAtCut : Type 0 where
      pub to : (s : Values) → P s → Q (at_cut c s)
      pub from : (e : CutState) → Q e → (e.cut ≡ c) × P e.state
      pub worse : (s : Values) (f : Fault) → Bad s f → Worse (at_cut c s) f
      pub bad : (e : CutState) (f : Fault) → Worse e f → Bad e.state f
      pub seen : (e : CutState) → Shows e → Seen e.state

    module _ (is : IsAtCut) (bound : ℕ) where
      pub gives_placed : (states : Vec Values Global) (now : Vec CutState Global) → Gives P Bad Seen bound (Ok states) → now.items ≡ map (at_cut c) states.items → Gives Q Worse Shows bound (Ok now)
      gives_placed states now h e = (
        subst (IsList Q) (sym e) (are_listed P Q is.to is.from states.items h.0),
        λ t f worse seen. h.1 t.state f (is.bad t f worse) (is.seen t seen),
      )

      pub gives_stop : (stop : StepFault) → Gives P Bad Seen bound (Err stop) → Gives Q Worse Shows bound (Err stop)
      gives_stop (Eval f) h = (at_cut c h.0, is.worse h.0 f h.1)
      gives_stop TooMany h =
          let long = length-map h.0 (at_cut c) in
          let more = h.2 in
          (map (at_cut c) h.0, are_placed P Q is.to h.0 h.1, omega (arith, long, more))
      gives_stop NoMemory h = tt
