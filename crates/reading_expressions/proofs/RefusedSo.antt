-- What the reader answers, in the words of the grammar.
use Rattle.std.specs.Prelude.{IfErr, Result, Ok, Err}
use Rattle.std.proofs.Common.{◌≡◌, ◌⊎◌, true, false, ℕ, zero, suc, ◌<◌, List, [], ◌∷◌, ◌++◌, length, drop, refl, sym, ap, subst, ◌∙◌, arith, inl, inr}
use Rattle.std.proofs.lemmas.List.{append-nil}
use Rattle.base_core.specs.declared.place.Place.{Place}
use Rattle.reading_trees.specs.declared.form.DefinitionForm.{DefinitionForm}
use Rattle.reading_trees.specs.declared.laid.Laid.{Laid}
use Rattle.reading_trees.specs.declared.expr.Definition.{Definition}
use Rattle.reading_trees.specs.Begun.{Begun}
use Rattle.reading_trees.specs.Trees.{Tree}
use Rattle.reading_machine.specs.Beginnings.{FittingBegun, BegunDefinition, FittingBegunDefinition}
use Rattle.reading_expressions.specs.declared.fault.ParseFault.{ParseFault}
use Rattle.reading_expressions.specs.declared.fault.ParseFault.TheVariants.{Expected, Conflict, TooNested, OutOfProfile, NoMemory}
use Rattle.reading_machine.specs.declared.frame.Frame.{Frame}
use Rattle.reading_machine.specs.declared.frame.Mode.{Mode}
use Rattle.reading_machine.specs.declared.frame.Mode.TheVariants as mode
use Rattle.reading_machine.specs.declared.frame.Scope.TheVariants as scopes
use Rattle.reading_expressions.specs.declared.reader.Ended.{Ended}
use Rattle.reading_expressions.specs.declared.reader.Ended.TheVariants as ended
use Rattle.reading_expressions.specs.Ended.{IsRead, index_of}
use Rattle.reading_token_steps.specs.Kept.{kept_run}
use Rattle.reading_machine.specs.LawsOfRefusals.{RanFits, ClashedMeets}
use Rattle.reading_machine.specs.Machine.{Outcome, Stepped, Reads, Stops, Clashes, Ends, EndsDefinition, step, StopsAt, ClashesAt, EndsAt, EndsDefinitionAt, after, run}
use Rattle.reading_machine.specs.Meeting.{Meets}
use Rattle.reading_expressions.specs.Nesting.{Shallow, ShallowDefinition}
use Rattle.reading_expressions.specs.Refused.{ShallowIn, StopsBefore, EndsEarly, ClashesHere, NestsTooDeep, Refuses, ShallowUpTo}
use Rattle.reading_expressions.specs.Refusals.{UpTo, CanNotFollow, EndsTooEarly, Conflicts, IsTooNested, IsRefused, GoesAsFar}
use Rattle.reading_machine.proofs.NoUnits.{no_definition, no_expression}
use Rattle.reading_machine.proofs.Paths.{All, all_read, read_before, rest_of}
use Rattle.reading_machine.proofs.RefusalsThere.{stopped_there, ends_there}
use Rattle.reading_machine.proofs.RefusalsBegun.{clashed_begun}
use Rattle.reading_machine.proofs.FittingEnds.{path_runs}
use Rattle.reading_expressions.proofs.OpenCounts.{shallow_so, deep_so}
use Rattle.reading_machine.proofs.RefusalsClash.{clashed_there, ran_begun}
use Rattle.reading_machine.proofs.DefinitionBegins.{definition_ran, definition_clashed}
use Rattle.reading_machine.proofs.DefinitionGoes.{definition_stopped_there, definition_ends_there, definition_clashed_there}

-- ---- texts of one kind

-- a run has ended before these tokens, with an expression or with a unit's definition
abbrev EndsBefore : Outcome → List Laid → Type 0
EndsBefore (EndsAt e r) rest = r ≡ rest
EndsBefore (EndsDefinitionAt n p ns form e r) rest = r ≡ rest
EndsBefore _ rest = ⊥

-- what is so of the texts that are read from this start
pub record TextsFrom (start : Mode) (Begins Fitting Shallow : List Laid → Type 0) : Type 0 where
  ran : (read : List Laid) → run read [] start ≡ StopsAt [] → Begins read
  fits : (read : List Laid) → run read [] start ≡ StopsAt [] → Fitting read
  stopped : (read rest : List Laid) (x : Laid) → run (read ++ x ∷ rest) [] start ≡ StopsAt (x ∷ rest) → ¬ (Begins (read ++ x ∷ []))
  ended : (read rest : List Laid) (x : Laid) → EndsBefore (run (read ++ x ∷ rest) [] start) (x ∷ rest) → ¬ (Begins (read ++ x ∷ []))
  clashed : (read rest : List Laid) (x : Laid) (p q : Place) → run (read ++ x ∷ rest) [] start ≡ ClashesAt p q (x ∷ rest) → Begins (read ++ x ∷ [])
  clashed_there : (read rest : List Laid) (x : Laid) (p q : Place) → run (read ++ x ∷ rest) [] start ≡ ClashesAt p q (x ∷ rest) → ¬ (Fitting (read ++ x ∷ []))
  meets : (read rest : List Laid) (x : Laid) (p q : Place) → run (read ++ x ∷ rest) [] start ≡ ClashesAt p q (x ∷ rest) → Meets Begins read x p q
  shallow : (read : List Laid) → run read [] start ≡ StopsAt [] → ShallowIn [] start read → Shallow read
  deep : (read : List Laid) (here : Laid) → run (read ++ here ∷ []) [] start ≡ StopsAt [] → ShallowIn [] start read → ¬ (ShallowIn [] start (read ++ here ∷ [])) → ¬ (Shallow (read ++ here ∷ []))

-- a clash stands at a token
abbrev AtToken : Outcome → Type 0
AtToken (ClashesAt p q []) = ⊥
AtToken _ = Unit {0}

token_after : (s : Stepped) (x : Laid) (xs : List Laid) → ((fs : List Frame) (m : Mode) → AtToken (run xs fs m)) → AtToken (after s (x ∷ xs) (run xs))
token_after (Reads fs m) x xs f = f fs m
token_after Stops x xs f = tt
token_after (Clashes p q) x xs f = tt
token_after (Ends e) x xs f = tt
token_after (EndsDefinition n p ns form e) x xs f = tt

at_token : (xs : List Laid) (fs : List Frame) (m : Mode) → AtToken (run xs fs m)
at_token [] fs m = tt
at_token (x ∷ xs) fs m = token_after (step x fs m) x xs (λ gs n. at_token xs gs n)

-- the end of a list from an index on
drop_last : (n : ℕ) (before : List Laid) (x : Laid) → n < length (before ++ x ∷ []) → drop n (before ++ x ∷ []) ≡ drop n before ++ x ∷ []
drop_last zero before x h = refl
drop_last (suc n) [] x h = absurd (omega (arith, h))
drop_last (suc n) (b ∷ bs) x h = drop_last n bs x (omega (arith, h))

-- some tokens are left at an index within the list
record Some (xs : List Laid) : Type 0 where
  here : Laid
  rest : List Laid
  whole : xs ≡ here ∷ rest

some_left : (i : ℕ) (xs : List Laid) → i < length xs → Some (drop i xs)
some_left i [] h = absurd (omega (arith, h))
some_left zero (x ∷ xs) h = record { here = x; rest = xs; whole = refl }
some_left (suc i) (x ∷ xs) h = some_left i xs (omega (arith, h))

-- what a run that ended with an expression has left
ends_here : (o : Outcome) (e : Tree) (r : List Laid) → o ≡ EndsAt e r → EndsBefore o r
ends_here o e r q = subst (λ v. EndsBefore v r) (sym q) refl

defines_here : (o : Outcome) (n : List ℕ) (p : Place) (ns : List (List ℕ)) (form : DefinitionForm) (e : Tree) (r : List Laid) → o ≡ EndsDefinitionAt n p ns form e r → EndsBefore o r
defines_here o n p ns form e r q = subst (λ v. EndsBefore v r) (sym q) refl

module _ (start : Mode) (Begins Fitting Shallow : List Laid → Type 0) (texts : TextsFrom start Begins Fitting Shallow) where
  -- each token of what is read from the start stands inside at most so many unfinished constructs
  abbrev AtMost : List Laid → Type 0
  AtMost read = ShallowIn [] start read

  stops_up_to : (xs read rest : List Laid) (x : Laid) → run xs [] start ≡ StopsAt (x ∷ rest) → xs ≡ read ++ x ∷ rest → AtMost read → UpTo Begins Fitting Shallow xs rest x
  stops_up_to xs read rest x q w s =
      let r : run (read ++ x ∷ rest) [] start ≡ StopsAt (x ∷ rest) = subst (λ v. run v [] start ≡ StopsAt (x ∷ rest)) w q in
      let ran : run read [] start ≡ StopsAt [] = read_before read rest x [] start (StopsAt (x ∷ rest)) r refl in
      record { read = read; whole = w; begun = texts.ran read ran; fits = texts.fits read ran; there = texts.stopped read rest x r; shallow = texts.shallow read ran s }

  can_not_follow : (laid : List Laid) (from : ℕ) (fault : ParseFault) → StopsBefore laid from start fault → CanNotFollow Begins Fitting Shallow (drop from laid) fault
  unfolding kept_run
  can_not_follow laid from fault s = (s.0, s.1, stops_up_to (drop from laid) s.4.read s.1 s.0 s.2 s.4.whole s.4.shallow, s.3)

  too_early : (laid : List Laid) (from : ℕ) (p : Place) → from < length laid → EndsEarly laid from start p → EndsTooEarly Begins Fitting Shallow (drop from laid) p
  unfolding kept_run
  too_early laid from p h e =
      let k : from < length (e.0 ++ e.1 ∷ []) = subst (λ v. from < length v) e.3 h in
      record {
        before = drop from e.0;
        last = e.1;
        whole = ap (λ v. drop from v) e.3 ∙ drop_last from e.0 e.1 k;
        begun = texts.ran (drop from laid) e.2;
        fits = texts.fits (drop from laid) e.2;
        shallow = texts.shallow (drop from laid) e.2 (subst AtMost (sym (e.5.whole ∙ append-nil e.5.read)) e.5.shallow);
        place = e.4;
      }

  clash_at : (xs read rest : List Laid) (x : Laid) (p q : Place) → run xs [] start ≡ ClashesAt p q (x ∷ rest) → xs ≡ read ++ x ∷ rest → AtMost read → Conflicts Begins Fitting Shallow xs p q
  clash_at xs read rest x p q h w s =
      let r : run (read ++ x ∷ rest) [] start ≡ ClashesAt p q (x ∷ rest) = subst (λ v. run v [] start ≡ ClashesAt p q (x ∷ rest)) w h in
      let ran : run read [] start ≡ StopsAt [] = read_before read rest x [] start (ClashesAt p q (x ∷ rest)) r refl in
      record {
        read = read;
        rest = rest;
        here = x;
        whole = w;
        begun = texts.clashed read rest x p q r;
        fits = texts.fits read ran;
        none = texts.clashed_there read rest x p q r;
        shallow = texts.shallow read ran s;
        places = texts.meets read rest x p q r;
      }

  clash_somewhere : (xs read rest : List Laid) (p q : Place) → run xs [] start ≡ ClashesAt p q rest → xs ≡ read ++ rest → AtMost read → Conflicts Begins Fitting Shallow xs p q
  clash_somewhere xs read [] p q h w s = absurd (subst AtToken h (at_token xs [] start))
  clash_somewhere xs read (x ∷ rest) p q h w s = clash_at xs read rest x p q h w s

  conflicts : (laid : List Laid) (from : ℕ) (p q : Place) → ClashesHere laid from start p q → Conflicts Begins Fitting Shallow (drop from laid) p q
  unfolding kept_run
  conflicts laid from p q c = clash_somewhere (drop from laid) c.2.read c.0 p q c.1 c.2.whole c.2.shallow

  -- what stands before a token that is read
  read_through : (read : List Laid) (here : Laid) → run (read ++ here ∷ []) [] start ≡ StopsAt [] → run read [] start ≡ StopsAt []
  read_through read here q =
      let a : All (read ++ here ∷ []) [] start = all_read (read ++ here ∷ []) [] start q in
      path_runs read (here ∷ []) [] start a.frames a.expects a.path

  too_nested : (laid : List Laid) (from : ℕ) (p : Place) → NestsTooDeep laid from start p → IsTooNested Fitting Shallow (drop from laid) p
  too_nested laid from p n =
      record {
        read = n.read;
        rest = n.rest;
        here = n.here;
        whole = n.whole;
        fits = texts.fits (n.read ++ n.here ∷ []) n.reads;
        shallow = texts.shallow n.read (read_through n.read n.here n.reads) n.shallow;
        deep = texts.deep n.read n.here n.reads n.shallow n.deep;
        place = n.place;
      }

  expected_so : (laid : List Laid) (from : ℕ) (p : Place) → from < length laid → StopsBefore laid from start (Expected p) ⊎ EndsEarly laid from start p
      → CanNotFollow Begins Fitting Shallow (drop from laid) (Expected p) ⊎ EndsTooEarly Begins Fitting Shallow (drop from laid) p
  expected_so laid from p h (inl s) = inl (can_not_follow laid from (Expected p) s)
  expected_so laid from p h (inr e) = inr (too_early laid from p h e)

  refused_so : (laid : List Laid) (from : ℕ) (fault : ParseFault) → from < length laid → Refuses laid from start fault → IsRefused Begins Fitting Shallow (drop from laid) fault
  refused_so laid from (Expected p) h r = expected_so laid from p h r
  refused_so laid from (Conflict p q) h r = conflicts laid from p q r
  refused_so laid from (TooNested p) h r = too_nested laid from p r
  refused_so laid from (OutOfProfile f p) h r = can_not_follow laid from (OutOfProfile f p) r
  refused_so laid from NoMemory h r = tt

  pub refused_result : {A : Type 0} (laid : List Laid) (from : ℕ) (r : Result A ParseFault) → from < length laid → IfErr r (λ e. Refuses laid from start e) → IfErr r (λ e. IsRefused Begins Fitting Shallow (drop from laid) e)
  refused_result laid from (Ok v) h q = tt
  refused_result laid from (Err e) h q = refused_so laid from e h q

  -- ---- how far a text goes

  ends_up_to : (xs read rest : List Laid) (x : Laid) (o : Outcome) → run xs [] start ≡ o → rest_of o ≡ x ∷ rest → EndsBefore o (x ∷ rest) → xs ≡ read ++ x ∷ rest → AtMost read → UpTo Begins Fitting Shallow xs rest x
  ends_up_to xs read rest x o q l e w s =
      let r : run (read ++ x ∷ rest) [] start ≡ o = subst (λ v. run v [] start ≡ o) w q in
      let ran : run read [] start ≡ StopsAt [] = read_before read rest x [] start o r l in
      record {
        read = read;
        whole = w;
        begun = texts.ran read ran;
        fits = texts.fits read ran;
        there = texts.ended read rest x (subst (λ v. EndsBefore v (x ∷ rest)) (sym r) e);
        shallow = texts.shallow read ran s;
      }

  far : (laid : List Laid) (from i : ℕ) (o : List Laid → Outcome) → run (drop from laid) [] start ≡ o (drop i laid) → ((r : List Laid) → rest_of (o r) ≡ r) → ((r : List Laid) → EndsBefore (o r) r) → i < length laid
      → ShallowUpTo laid from start (drop i laid) → GoesAsFar Begins Fitting Shallow laid from i
  far laid from i o q l e h s =
      let t : Some (drop i laid) = some_left i laid h in
      let r : run (drop from laid) [] start ≡ o (t.here ∷ t.rest) = q ∙ ap o t.whole in
      let w : drop from laid ≡ s.read ++ t.here ∷ t.rest = s.whole ∙ ap (λ v. s.read ++ v) t.whole in
      (t.here, t.rest, t.whole, ends_up_to (drop from laid) s.read t.rest t.here (o (t.here ∷ t.rest)) r (l (t.here ∷ t.rest)) (e (t.here ∷ t.rest)) w s.shallow)

  goes : (laid : List Laid) (from : ℕ) (r : Ended) → IsRead laid from start r → GoesAsFar Begins Fitting Shallow laid from (index_of r)
  unfolding kept_run
  goes laid from (ended.Expression e i) q = far laid from i (λ r. EndsAt e r) q.ends (λ r. refl) (λ r. refl) q.within q.shallow
  goes laid from (ended.Definition d i) q = far laid from i (λ r. EndsDefinitionAt d.name d.at d.params d.form d.body r) q.ends (λ r. refl) (λ r. refl) q.within q.shallow

  pub expression_goes : (laid : List Laid) (from i : ℕ) (e : Tree) (r : Ended) → IsRead laid from start r → r ≡ ended.Expression e i → GoesAsFar Begins Fitting Shallow laid from i
  expression_goes laid from i e r q p = goes laid from (ended.Expression e i) (subst (λ t. IsRead laid from start t) p q)

  pub definition_goes : (laid : List Laid) (from i : ℕ) (d : Definition) (r : Ended) → IsRead laid from start r → r ≡ ended.Definition d i → GoesAsFar Begins Fitting Shallow laid from i
  definition_goes laid from i d r q p = goes laid from (ended.Definition d i) (subst (λ t. IsRead laid from start t) p q)

-- ---- expressions

end_of_expression : (read rest : List Laid) (x : Laid) (o : Outcome) → run (read ++ x ∷ rest) [] mode.Want ≡ o → EndsBefore o (x ∷ rest) → ¬ (Begun (read ++ x ∷ []))
end_of_expression read rest x (EndsAt e r) q l = ends_there read rest x e (q ∙ ap (λ v. EndsAt e v) l)
end_of_expression read rest x (EndsDefinitionAt n p ns form e r) q l = absurd (no_definition (read ++ x ∷ rest) r n p ns form e q)
end_of_expression read rest x (StopsAt r) q l = absurd l
end_of_expression read rest x (ClashesAt a b r) q l = absurd l

pub texts_of_expressions : RanFits → ClashedMeets → TextsFrom mode.Want Begun FittingBegun Shallow
texts_of_expressions fits meets =
    record {
      ran = ran_begun;
      fits = fits;
      stopped = stopped_there;
      ended = λ read rest x e. end_of_expression read rest x (run (read ++ x ∷ rest) [] mode.Want) refl e;
      clashed = clashed_begun;
      clashed_there = clashed_there;
      meets = meets;
      shallow = shallow_so false;
      deep = deep_so false;
    }

-- ---- definitions

abbrev named : Mode
named = mode.DefinitionName scopes.Unit

end_of_definition : (read rest : List Laid) (x : Laid) (o : Outcome) → run (read ++ x ∷ rest) [] named ≡ o → EndsBefore o (x ∷ rest) → ¬ (BegunDefinition (read ++ x ∷ []))
end_of_definition read rest x (EndsAt e r) q l = absurd (no_expression (read ++ x ∷ rest) r e q)
end_of_definition read rest x (EndsDefinitionAt n p ns form e r) q l = definition_ends_there read rest x n p ns form e (q ∙ ap (λ v. EndsDefinitionAt n p ns form e v) l)
end_of_definition read rest x (StopsAt r) q l = absurd l
end_of_definition read rest x (ClashesAt a b r) q l = absurd l

-- the two laws of ranges from the name of a definition on
abbrev pub DefinitionFits : Type 0
DefinitionFits = (read : List Laid) → run read [] named ≡ StopsAt [] → FittingBegunDefinition read

abbrev pub DefinitionMeets : Type 1
DefinitionMeets =
    (Begins : List Laid → Type 0) → ((read : List Laid) → run read [] named ≡ StopsAt [] → Begins read) → (read rest : List Laid) (x : Laid) (p q : Place) → run (read ++ x ∷ rest) [] named ≡ ClashesAt p q (x ∷ rest) → Meets Begins read x p q

pub texts_of_definitions : DefinitionFits → DefinitionMeets → TextsFrom named BegunDefinition FittingBegunDefinition ShallowDefinition
texts_of_definitions fits meets =
    record {
      ran = definition_ran;
      fits = fits;
      stopped = definition_stopped_there;
      ended = λ read rest x e. end_of_definition read rest x (run (read ++ x ∷ rest) [] named) refl e;
      clashed = definition_clashed;
      clashed_there = definition_clashed_there;
      meets = meets BegunDefinition definition_ran;
      shallow = shallow_so true;
      deep = deep_so true;
    }
