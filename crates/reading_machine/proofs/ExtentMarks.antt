-- Dashes, equals signs and the End stand in no text.
use Rattle.std.proofs.Common.{◌≡◌, ℕ, false, List, [], ◌∷◌, ◌++◌, append_assoc, refl, sym, ap, subst, ◌∙◌}
use Rattle.std.proofs.lemmas.List.{append-nil}
use Rattle.std.specs.Prelude.{if◌then◌else◌}
use Rattle.base_core.specs.declared.place.Place.{Place}
use Rattle.reading_trees.specs.declared.laid.Laid.{Laid}
use Rattle.reading_trees.specs.declared.laid.Laid.TheVariants.{Plain, ListOpen, ListItem, ListClose}
use Rattle.reading_tokens.specs.declared.token.Kind.{Kind}
use Rattle.reading_tokens.specs.declared.token.Kind.TheVariants as kinds
use Rattle.reading_tokens.specs.declared.token.Word.TheVariants as words
use Rattle.reading_tokens.specs.declared.token.Symbol.{Symbol}
use Rattle.reading_trees.specs.Begun.{Begun}
use Rattle.reading_trees.specs.Trees as tree
use Rattle.reading_trees.specs.Trees.{MoreDefinitions, NoDefinitions}
use Rattle.reading_machine.specs.Beginnings.{DefinitionText, BegunDefinition}
use Rattle.reading_machine.specs.LawsOfExtents.{IsMarkKind, IsMark, NoMarkInside, NoMarkInsideDefinition}
use Rattle.reading_machine.specs.Machine.{is_case_mark, is_other}
use Rattle.reading_machine.proofs.Flat as flat
use Rattle.reading_machine.proofs.FlatGoes.{Reached}
use Rattle.reading_machine.proofs.FlatTrees.{good}
use Rattle.reading_machine.proofs.OpenEnds.{start, one, one_tree, a_word}
use Rattle.reading_machine.proofs.RunsParts.{plain}
use Rattle.reading_machine.proofs.UniqueSpans.{Front}
use Rattle.reading_machine.proofs.FittingFronts.{definition_local}

abbrev Unread : flat.Done → Type 0
Unread (flat.Reads fs m) = ⊥
Unread flat.Stops = Unit {0}
Unread flat.Ends = Unit {0}

-- a kind that no row of the grammar has
record Mark (k : Kind) : Type 0 where
  begins : (fs : List flat.Row) → flat.kind_begins k fs ≡ flat.Stops
  closes : (f : flat.Row) (fs : List flat.Row) → flat.kind_closes k f fs ≡ flat.Stops
  follows : (named : flat.Primary) (fs : List flat.Row) (other : flat.Done) → flat.kind_follows k named fs other ≡ other
  no_name : (next : List ℕ → flat.Done) (other : flat.Done) → flat.name_or k next other ≡ other
  no_symbol : (next : Symbol → flat.Done) (other : flat.Done) → flat.symbol_or k next other ≡ other
  no_other : is_other k ≡ false

mark_of : (k : Kind) → IsMarkKind k → Mark k
mark_of kinds.Dashes i = record { begins = λ fs. refl; closes = λ f fs. refl; follows = λ n fs o. refl; no_name = λ f o. refl; no_symbol = λ f o. refl; no_other = refl }
mark_of kinds.Equals i = record { begins = λ fs. refl; closes = λ f fs. refl; follows = λ n fs o. refl; no_name = λ f o. refl; no_symbol = λ f o. refl; no_other = refl }
mark_of kinds.End i = record { begins = λ fs. refl; closes = λ f fs. refl; follows = λ n fs o. refl; no_name = λ f o. refl; no_symbol = λ f o. refl; no_other = refl }
mark_of _ i = absurd i

module _ (k : Kind) (at : Place) (i : Mark k) where
  abbrev here : Laid
  here = plain k at

  unnamed : (next : List ℕ → flat.Done) (other : flat.Done) → Unread other → Unread (flat.name_or k next other)
  unnamed next other h = subst Unread (sym (i.no_name next other)) h

  unsigned : (next : Symbol → flat.Done) (other : flat.Done) → Unread other → Unread (flat.symbol_or k next other)
  unsigned next other h = subst Unread (sym (i.no_symbol next other)) h

  begins_unread : (fs : List flat.Row) → Unread (flat.begins here fs)
  begins_unread fs = subst Unread (sym (i.begins fs)) tt

  closes_unread : (fs : List flat.Row) → Unread (flat.closes here fs)
  closes_unread [] = tt
  closes_unread (f ∷ fs) = subst Unread (sym (i.closes f fs)) tt

  follows_unread : (named : flat.Primary) (fs : List flat.Row) → Unread (flat.follows here named fs)
  follows_unread named fs = subst Unread (sym (i.follows named fs (flat.behind here fs))) (closes_unread (flat.settle (is_case_mark here) fs))

  step_unread : (fs : List flat.Row) (m : flat.Expected) → Unread (flat.step here fs m)
  step_unread fs flat.Want = begins_unread fs
  step_unread fs (flat.Have named) = follows_unread named fs
  step_unread fs (flat.BoundName b) = unnamed _ _ tt
  step_unread fs (flat.BoundNamed b) = unsigned _ _ tt
  step_unread fs flat.BracketStart = unnamed _ _ (begins_unread (flat.Bracket ∷ fs))
  step_unread fs (flat.BracketName n) = unsigned _ _ (follows_unread flat.Bare (flat.Bracket ∷ fs))
  step_unread fs flat.BraceStart = unnamed _ _ (unsigned _ _ (begins_unread (flat.Braces false ∷ fs)))
  step_unread fs flat.BraceName = unsigned _ _ (follows_unread flat.Bare (flat.Braces false ∷ fs))
  step_unread fs flat.TupleStart = unsigned _ _ (begins_unread (flat.Tuple false ∷ fs))
  step_unread fs (flat.ListStart b) = tt
  step_unread fs flat.ChooseName = unnamed _ _ tt
  step_unread fs flat.ChooseNamed = unsigned _ _ tt
  step_unread fs flat.DefinitionName = unnamed _ _ tt
  step_unread fs flat.DefinitionNamed = unsigned _ _ tt
  step_unread fs flat.Parameter = unnamed _ _ tt
  step_unread fs flat.ParameterNamed = unsigned _ _ tt
  step_unread fs flat.DefinedAs = unsigned _ _ tt
  step_unread fs flat.ExceptMark = unsigned _ _ tt
  step_unread fs (flat.ExceptPath more) = unsigned _ _ tt
  step_unread fs flat.ExceptField = unnamed _ _ tt
  step_unread fs flat.FieldName = unnamed _ _ tt
  step_unread fs flat.InstanceName = unnamed _ _ tt
  step_unread fs (flat.RecordName c ns) = unnamed _ _ tt
  step_unread fs (flat.RecordNamed c ns n) = unsigned _ _ tt
  step_unread fs flat.SubscriptStart = unnamed _ _ (unsigned _ _ tt)
  step_unread fs flat.FairStart = unnamed _ _ (unsigned _ _ tt)
  step_unread fs flat.FairOpen = unsigned _ _ tt
  step_unread fs flat.CaseNext = subst (λ b. Unread (if b then flat.Reads fs flat.OtherArrow else flat.begins here (flat.CaseTest ∷ fs))) (sym i.no_other) (begins_unread (flat.CaseTest ∷ fs))
  step_unread fs flat.OtherArrow = unsigned _ _ tt

mark_unread : (x : Laid) (fs : List flat.Row) (m : flat.Expected) → IsMark x → Unread (flat.step x fs m)
mark_unread (Plain t) fs m i = step_unread t.kind t.place (mark_of t.kind i) fs m
mark_unread (ListOpen b at) fs m i = absurd i
mark_unread (ListItem b at) fs m i = absurd i
mark_unread (ListClose at) fs m i = absurd i

-- ---- a run

stops_end : (x : Laid) (r : List Laid) → flat.StopsAt (x ∷ r) ≡ flat.StopsAt [] → ⊥
stops_end x r q = cc

ends_end : (r : List Laid) → flat.EndsAt r ≡ flat.StopsAt [] → ⊥
ends_end r q = cc

unread_stops : (s : flat.Done) (x : Laid) (r : List Laid) → Unread s → flat.after s (x ∷ r) (flat.run r) ≡ flat.StopsAt [] → ⊥
unread_stops (flat.Reads fs m) x r h q = absurd h
unread_stops flat.Stops x r h q = stops_end x r q
unread_stops flat.Ends x r h q = ends_end (x ∷ r) q

goes_on : (s : flat.Done) (y : Laid) (ys : List Laid) → ((fs : List flat.Row) (m : flat.Expected) → flat.run ys fs m ≡ flat.StopsAt [] → ⊥) → flat.after s (y ∷ ys) (flat.run ys) ≡ flat.StopsAt [] → ⊥
goes_on (flat.Reads fs m) y ys f q = f fs m q
goes_on flat.Stops y ys f q = stops_end y ys q
goes_on flat.Ends y ys f q = ends_end (y ∷ ys) q

-- a run that reads all its tokens comes to no mark
no_mark : (before after : List Laid) (x : Laid) → IsMark x → (fs : List flat.Row) (m : flat.Expected) → flat.run (before ++ x ∷ after) fs m ≡ flat.StopsAt [] → ⊥
no_mark [] after x i fs m q = unread_stops (flat.step x fs m) x after (mark_unread x fs m i) q
no_mark (y ∷ before) after x i fs m q = goes_on (flat.step y fs m) y (before ++ x ∷ after) (λ gs n h. no_mark before after x i gs n h) q

pub no_mark_inside : NoMarkInside
no_mark_inside before after x i b =
    let r : Reached (flat.run ((before ++ x ∷ after) ++ b.rest) [] flat.Want) [] [] = (good b.tree).goes [] tt ((before ++ x ∷ after) ++ b.rest) [] b.whole in
    no_mark before (after ++ b.rest) x i [] flat.Want (ap (λ v. flat.run v [] flat.Want) (sym (append_assoc before (x ∷ after) b.rest)) ∙ r.runs)

-- ---- a unit's definition is one of a LET

in_let : (read : List Laid) → BegunDefinition read → Begun (a_word words.Let ∷ read)
in_let read b =
    let end : List Laid = a_word words.In ∷ one ∷ [] in
    let f : Front (DefinitionText b.name b.at b.parameters b.form b.body) (read ++ b.rest) [] = definition_local b.name b.at b.parameters b.form b.body (read ++ b.rest) [] b.whole in
    let k : f.front ++ end ≡ read ++ (b.rest ++ end) = ap (λ v. v ++ end) (sym (append-nil f.front) ∙ sym f.here) ∙ append_assoc read b.rest end in
    let t : DefinitionText b.name b.at b.parameters b.form b.body (read ++ (b.rest ++ end)) end = subst (λ v. DefinitionText b.name b.at b.parameters b.form b.body v end) k (f.anywhere end) in
    record {
      tree = tree.Let start (MoreDefinitions NoDefinitions b.name b.at b.parameters b.form b.body) one_tree;
      rest = b.rest ++ end;
      whole = (read ++ (b.rest ++ end), refl, (end, (read ++ (b.rest ++ end), refl, (t.0, t.1, t.2)), (one ∷ [], (start, refl), refl)));
    }

pub no_mark_inside_definition : NoMarkInsideDefinition
no_mark_inside_definition before after x i b = no_mark_inside (a_word words.Let ∷ before) after x i (in_let (before ++ x ∷ after) b)
