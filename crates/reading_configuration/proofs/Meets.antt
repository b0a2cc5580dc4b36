-- What comes of tokens is their outcome, and their outcome is what comes of them.
use Rattle.std.proofs.Common.{◌≡◌, ℕ, Bool, true, false, List, [], ◌∷◌, ◌++◌, Some, Result, Ok, Err, refl, sym, ap, subst, ◌∙◌, inl, inr}
use Rattle.std.specs.Prelude.{if◌then◌else◌}
use Rattle.base_core.specs.declared.place.Place.{Place}
use Rattle.reading_tokens.specs.declared.token.Token.{Token}
use Rattle.reading_trees.specs.Laid.{EndsOnce}
use Rattle.reading_tokens.specs.Tokens.{Tokens}
use Rattle.reading_configuration.specs.declared.fault.ConfigFault.{ConfigFault}
use Rattle.reading_configuration.specs.declared.fault.ConfigFault.TheVariants.{Refused, NoMemory}
use Rattle.reading_trees.specs.declared.config.Config.{Config}
use Rattle.reading_configuration.specs.declared.mark.Mark.{Mark}
use Rattle.reading_configuration.specs.declared.mark.Mark.TheVariants.{Name, End}
use Rattle.reading_configuration.specs.declared.keyword.Keyword.TheVariants as keyword
use Rattle.reading_configuration.specs.declared.expects.Expects.{Expects}
use Rattle.reading_configuration.specs.declared.expects.Expects.TheVariants as expects
use Rattle.reading_configuration.specs.declared.expects.Further.{Further}
use Rattle.reading_configuration.specs.declared.expects.Further.TheVariants as further
use Rattle.reading_configuration.specs.declared.fault.ConfigKind.{ConfigKind}
use Rattle.reading_configuration.specs.declared.fault.ConfigKind.TheVariants.{Syntax, Unsupported, Twice, NoBehaviour}
use Rattle.reading_configuration.specs.Keywords.{keyword_of}
use Rattle.reading_configuration.specs.Marks.{mark_of, marks_of, kind_mark}
use Rattle.reading_configuration.specs.Given.{nothing_given, after_all, has_behaviour}
use Rattle.reading_configuration.specs.Steps.{Next, step, word_step, reads, ReadsTo}
use Rattle.reading_configuration.specs.Reads.{Outcome, Begins, BeginsNew, AreWhole, IsUnsupported, Why, Stops, Gives, OfTokens, Answers, Reads}
use Rattle.reading_configuration.proofs.Walks.{Reached, walk, walk_further, walk_stops, walk_one}
use Rattle.reading_configuration.proofs.Begun.{Whole, sound}
use Rattle.reading_configuration.proofs.Ends.{leads, statements_new}
use Rattle.reading_configuration.proofs.Runs.{statements_run}
use Rattle.reading_configuration.proofs.Outcomes.{first, Cause, caused, at_error, once_walk, Halted, Ended, Comes, comes, some_inj, none_some}

-- a keyword outside the profile, where a statement may begin
pub unsupported_step : (o q : Bool) (f : Further) (c : Config) (w : List ℕ) (at : Place) → keyword_of w ≡ Some keyword.Unsupported
    → step o q (expects.Statement f) c (Name w at) ≡ Err (Unsupported w)
unsupported_step o q f c w at h = ap (word_step o f c w at) h

end_not_syntax : (b : Bool) (c : Config) → ◌≡◌ {A = Next} (if b then Ok (first, c) else Err NoBehaviour) (Err Syntax) → ⊥
end_not_syntax true c h = cc
end_not_syntax false c h = cc

syntax_not_unsupported : (w : List ℕ) → ◌≡◌ {A = Next} (Err Syntax) (Err (Unsupported w)) → ⊥
syntax_not_unsupported w h = cc

-- written statements are walked without the tests
written_walk : (c : Config) (ms : List Mark) (b : Begins ms)
    → (p : Reached) × (walk false false first c (ms ++ b.behind) ≡ Some p)
written_walk c ms b =
    let r = statements_run false false b.statements further.Nothing c [] b.writes.are (λ e. absurd (let x : false ≡ true = e in cc)) in
    (_, ap (walk false false first c) b.writes.whole ∙ r.1)

module _ (name : List ℕ) where
  -- statements that give nothing twice are walked
  pub new_walk : (ms : List Mark) (b : BeginsNew name ms) (o q : Bool)
      → (p : Reached) × (walk o q first (nothing_given name) (ms ++ b.behind) ≡ Some p)
  new_walk ms b o q =
      let r = statements_run o q b.statements further.Nothing (nothing_given name) [] b.writes.are (λ e. b.new) in
      (_, ap (walk o q first (nothing_given name)) b.writes.whole ∙ r.1)

  pub whole_walk : (ms : List Mark) (w : AreWhole name ms) (o q : Bool)
      → (g : Further) × (walk o q first (nothing_given name) ms ≡ Some (expects.Statement g, after_all (nothing_given name) w.statements))
  whole_walk ms w o q =
      let r = statements_run o q w.statements further.Nothing (nothing_given name) [] w.writes.are (λ e. w.new) in
      (r.0, ap (walk o q first (nothing_given name)) w.writes.whole ∙ r.1)

  -- and what is walked is written
  pub whole_from : (ms : List Mark) (g : Further) (d : Config) → walk true false first (nothing_given name) ms ≡ Some (expects.Statement g, d) → AreWhole name ms
  whole_from ms g d h =
      let w : Whole ms = sound true ms first (nothing_given name) g d h in
      record {
        statements = w.statements;
        writes = record { are = w.are; whole = w.whole };
        new = statements_new false w.statements further.Nothing (nothing_given name) [] (expects.Statement g, d) w.are
            (ap (walk true false first (nothing_given name)) (sym w.whole) ∙ h);
      }

  pub begins_new : (ms : List Mark) (e : Expects) (c : Config) → walk true false first (nothing_given name) ms ≡ Some (e, c) → BeginsNew name ms
  begins_new ms e c h =
      let l = leads true e c in
      let w = whole_from (ms ++ l.marks) l.further l.given (walk_further true false first e (nothing_given name) c ms l.marks h ∙ l.there) in
      record { statements = w.statements; behind = l.marks; writes = w.writes; new = w.new }

  begins : (ms : List Mark) (e : Expects) (c : Config) → walk false false first (nothing_given name) ms ≡ Some (e, c) → Begins ms
  begins ms e c h =
      let l = leads false e c in
      let w : Whole (ms ++ l.marks) = sound false (ms ++ l.marks) first (nothing_given name) l.further l.given (walk_further false false first e (nothing_given name) c ms l.marks h ∙ l.there) in
      record { statements = w.statements; behind = l.marks; writes = record { are = w.are; whole = w.whole } }

  module _ (before : List Mark) (e : Expects) (c : Config) (m : Mark) (reached : walk true false first (nothing_given name) before ≡ Some (e, c)) where
    lenient : walk false false first (nothing_given name) before ≡ Some (e, c)
    lenient = once_walk false first (nothing_given name) before (e, c) reached

    -- whole statements stand before: a statement may begin
    pub at_statement : (w : AreWhole name before) → (g : Further) × ((e ≡ expects.Statement g) × (after_all (nothing_given name) w.statements ≡ c))
    at_statement w =
        let r = whole_walk before w true false in
        let same : (e, c) ≡ (expects.Statement r.0, after_all (nothing_given name) w.statements) = some_inj (e, c) (expects.Statement r.0, after_all (nothing_given name) w.statements) (sym reached ∙ r.1) in
        (r.0, (ap (λ (p : Reached). p.0) same, sym (ap (λ (p : Reached). p.1) same)))

    pub not_begun : (k : ConfigKind) → step false false e c m ≡ Err k → Begins (before ++ m ∷ []) → ⊥
    not_begun k h b =
        let r = written_walk (nothing_given name) (before ++ m ∷ []) b in
        none_some _ r.0 (walk_stops false false first e (nothing_given name) c before b.behind m k lenient h) r.1

    not_new : (k : ConfigKind) → step true false e c m ≡ Err k → BeginsNew name (before ++ m ∷ []) → ⊥
    not_new k h b =
        let r = new_walk (before ++ m ∷ []) b true false in
        none_some _ r.0 (walk_stops true false first e (nothing_given name) c before b.behind m k reached h) r.1

    not_unsupported : step false false e c m ≡ Err Syntax → (word : List ℕ) → IsUnsupported name before m word → ⊥
    not_unsupported h word u =
        let r = at_statement u.whole in
        let there : step false false (expects.Statement r.0) c (Name word u.at) ≡ Err Syntax = subst (λ x. step false false x c (Name word u.at) ≡ Err Syntax) r.1.0 (subst (λ x. step false false e c x ≡ Err Syntax) u.is_name h) in
        syntax_not_unsupported word (sym there ∙ unsupported_step false false r.0 c word u.at u.is_keyword)

    not_ended : step true true e c m ≡ Err Syntax → m ≡ End → AreWhole name before → ⊥
    not_ended h is_end w =
        let r = at_statement w in
        end_not_syntax (has_behaviour c) c (subst (λ x. step true true x c End ≡ Err Syntax) r.1.0 (subst (λ x. step true true e c x ≡ Err Syntax) is_end h))

    pub why : (k : ConfigKind) → step true true e c m ≡ Err k → Cause e c m k → Why name before m k
    why Syntax h g = (not_begun Syntax g, not_unsupported g, not_ended h)
    why (Unsupported w) h g =
        record {
          whole = whole_from before g.0 c (reached ∙ ap (λ x. Some (x, c)) g.1.0);
          at = g.1.1.0;
          is_name = g.1.1.1.0;
          is_keyword = g.1.1.1.1;
        }
    why (Twice w) h g =
        let p = g.1.1.0 in (
          begins (before ++ m ∷ []) p.0 p.1 (walk_one false false first e (nothing_given name) c before m p lenient g.1.1.1.0),
          not_new (Twice w) g.1.1.1.1,
          (g.0, g.1.0),
        )
    why NoBehaviour h g =
        let w = whole_from before g.0 c (reached ∙ ap (λ x. Some (x, c)) g.1.0) in
        (g.1.1.0, (w, ap has_behaviour (at_statement w).1.1 ∙ g.1.1.1))

  of_halted : (ts : List Token) (o : Outcome) → Halted first (nothing_given name) ts o → OfTokens name ts o
  of_halted ts o h =
      let before = marks_of h.before in
      let m = mark_of h.token in
      let cause : Cause h.expected h.given m h.kind = at_error (step true true h.expected h.given m) h.kind (Cause h.expected h.given m) h.stops (caused h.expected h.given m) in
      let stops : Stops name ts h.kind h.token.place = record {
        before = h.before;
        token = h.token;
        behind = h.rest;
        whole = h.whole;
        begins = begins_new before h.expected h.given h.reached;
        why = why before h.expected h.given m h.reached h.kind h.stops cause;
        here = refl;
      } in
      subst (OfTokens name ts) (sym h.gives) stops

  of_ended : (ts : List Token) (o : Outcome) → Ended first (nothing_given name) ts o → OfTokens name ts o
  of_ended ts o h =
      let w = whole_from (marks_of h.before) h.further h.given h.reached in
      let same : after_all (nothing_given name) w.statements ≡ h.given = (at_statement (marks_of h.before) (expects.Statement h.further) h.given End h.reached w).1.1 in
      let gives : Gives name ts h.given = record {
        before = h.before;
        last = h.last;
        whole = h.whole;
        is_end = h.is_last;
        statements = w.statements;
        writes = w.writes;
        new = w.new;
        behaviour = h.behaviour;
        gives = sym same;
      } in
      subst (OfTokens name ts) (sym h.gives) gives

  of_comes : (ts : List Token) (o : Outcome) → Comes first (nothing_given name) ts o → OfTokens name ts o
  of_comes ts o (inl h) = of_halted ts o h
  of_comes ts o (inr h) = of_ended ts o h

  -- what comes of tokens that end once is their outcome
  pub of_reads : (ts : List Token) → EndsOnce ts → OfTokens name ts (reads first (nothing_given name) ts)
  of_reads ts e =
      let is_end : mark_of e.last ≡ End = ap (λ k. kind_mark k e.last.place) e.is_last in
      let o : (us : List Token) → us ≡ e.before ++ e.last ∷ [] → OfTokens name us (reads first (nothing_given name) us) =
      λ us same. subst (λ xs. OfTokens name xs (reads first (nothing_given name) xs)) (sym same)
      (of_comes (e.before ++ e.last ∷ []) _ (comes e.before e.last e.once is_end first (nothing_given name))) in
      o ts e.whole

answers_by : (P Q : Outcome → Type 0) (r : Result Config ConfigFault) → ((o : Outcome) → P o → Q o) → Answers P r → Answers Q r
answers_by P Q (Ok config) f h = f _ h
answers_by P Q (Err (Refused kind at)) f h = f _ h
answers_by P Q (Err NoMemory) f h = tt

-- tokens that end once have an outcome
pub some_of_tokens : (name : List ℕ) (ts : List Token) → EndsOnce ts → (o : Outcome) × OfTokens name ts o
some_of_tokens name ts e = (_, of_reads name ts e)

-- what was answered of tokens is their outcome
pub answered_tokens : (name : List ℕ) (ts : List Token) (r : Result Config ConfigFault) → EndsOnce ts → ReadsTo name ts r → Answers (OfTokens name ts) r
answered_tokens name ts r ends_once h =
    answers_by (λ o. o ≡ reads first (nothing_given name) ts) (OfTokens name ts) r (λ o e. subst (OfTokens name ts) (sym e) (of_reads name ts ends_once)) h

-- what was answered of a text's tokens is the text's outcome
pub answered : (file : ℕ) (name text : List ℕ) (ts us : List Token) (r : Result Config ConfigFault) → us ≡ ts → Tokens false file text (Ok ts) → EndsOnce ts
    → ReadsTo name us r → Answers (Reads file name text) r
answered file name text ts us r same lexed ends_once h =
    answers_by (λ o. o ≡ reads first (nothing_given name) us) (Reads file name text) r
    (λ o e. record {
      lexed = Ok ts;
      tokens = lexed;
      of_lexed = subst (OfTokens name ts) (sym (e ∙ ap (reads first (nothing_given name)) same)) (of_reads name ts ends_once);
    })
    h
