-- No text that fits its ranges goes on through a clash; and where all tokens are read, they begin a text.
use Rattle.std.proofs.Common.{◌≡◌, List, [], ◌∷◌, ◌++◌, refl, sym, ap, subst, ◌∙◌}
use Rattle.std.proofs.lemmas.List.{append_assoc}
use Rattle.std.proofs.lemmas.List.{append-nil}
use Rattle.base_core.specs.declared.place.Place.{Place}
use Rattle.reading_trees.specs.declared.laid.Laid.{Laid}
use Rattle.reading_trees.specs.declared.laid.Laid.TheVariants.{Plain}
use Rattle.reading_tokens.specs.declared.token.Kind.TheVariants as kinds
use Rattle.reading_trees.specs.Fits.{Spells}
use Rattle.reading_trees.specs.Grammar.{Text}
use Rattle.reading_trees.specs.Trees.{Tree}
use Rattle.reading_machine.specs.declared.frame.Mode.TheVariants as mode
use Rattle.reading_machine.specs.LawsOfRefusals.{ClashedThere, RanBegun}
use Rattle.reading_machine.specs.Machine.{ClashesAt, EndsAt, after, run}
use Rattle.reading_machine.proofs.Finishing.{Finish, finish}
use Rattle.reading_machine.proofs.Paths.{Reach, reach, reach_clashes, along, All, all_read}
use Rattle.reading_machine.proofs.RefusalsBegun.{begun, path_state, first_state}
use Rattle.reading_machine.proofs.UniqueSpans.{Front, tree_local}
use Rattle.reading_machine.proofs.UniqueTree.{spelled_read}

-- a token that ends the text
unfoldable pub the_end : Laid
the_end = Plain (record { kind = kinds.End; place = record { file = 0; line = 0; col = 0 } })

-- what a text with an End behind it is read as
pub ended : (e : Tree) (xs : List Laid) → Spells e xs [] → run (xs ++ the_end ∷ []) [] mode.Want ≡ EndsAt e (the_end ∷ [])
unfolding the_end
ended e xs s =
    let f : Front (Text e) xs [] = tree_local e xs [] s.text in
    let k : xs ≡ f.front = f.here ∙ append-nil f.front in
    spelled_read (xs ++ the_end ∷ []) [] the_end e (record { text = subst (λ v. Text e (v ++ the_end ∷ []) (the_end ∷ [])) (sym k) (f.anywhere (the_end ∷ [])); fits = s.fits }) tt

no_clash : (p q : Place) (r s : List Laid) (e : Tree) → ClashesAt p q r ≡ EndsAt e s → ⊥
no_clash p q r s e h = cc

pub clashed_there : ClashedThere
clashed_there read rest x p q i b =
    let h : Reach read [] mode.Want x rest (ClashesAt p q (x ∷ rest)) = reach read x rest [] mode.Want (ClashesAt p q (x ∷ rest)) i refl in
    let r : List Laid = b.rest ++ the_end ∷ [] in
    let c : run (read ++ x ∷ r) [] mode.Want ≡ ClashesAt p q (x ∷ r) =
    along read (x ∷ r) [] mode.Want h.frames h.expects h.path ∙ ap (λ v. after v (x ∷ r) (run r)) (reach_clashes read [] mode.Want x rest (x ∷ rest) p q h) in
    let e : run (((read ++ x ∷ []) ++ b.rest) ++ the_end ∷ []) [] mode.Want ≡ EndsAt b.tree (the_end ∷ []) = ended b.tree ((read ++ x ∷ []) ++ b.rest) b.spelled in
    let k : ((read ++ x ∷ []) ++ b.rest) ++ the_end ∷ [] ≡ read ++ x ∷ r = append_assoc (read ++ x ∷ []) b.rest (the_end ∷ []) ∙ append_assoc read (x ∷ []) r in
    no_clash p q (x ∷ r) (the_end ∷ []) b.tree (sym c ∙ ap (λ v. run v [] mode.Want) (sym k) ∙ e)

pub ran_begun : RanBegun
ran_begun xs q =
    let a : All xs [] mode.Want = all_read xs [] mode.Want q in
    let f : Finish a.frames a.expects = finish a.frames a.expects in
    begun xs f.0 (f.1 (xs ++ f.0) (path_state xs f.0 (xs ++ f.0) [] mode.Want a.frames a.expects a.path (first_state (xs ++ f.0))))
