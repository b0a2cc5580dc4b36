-- What a token does to a frame that waits, by the names that do not unfold.
use Rattle.std.proofs.Common.{◌≡◌, ℕ, List, [], ◌∷◌, refl, ap, ◌∙◌}
use Rattle.base_core.specs.declared.place.Place.{Place}
use Rattle.reading_trees.specs.declared.form.DefinitionForm.{DefinitionForm}
use Rattle.reading_trees.specs.declared.expr.Definition.{Definition}
use Rattle.reading_trees.specs.declared.laid.Bullet.{Bullet}
use Rattle.reading_trees.specs.declared.laid.Laid.{Laid}
use Rattle.reading_trees.specs.declared.laid.Laid.TheVariants.{Plain, ListOpen, ListItem, ListClose}
use Rattle.reading_tokens.specs.declared.token.Token.{Token}
use Rattle.reading_tokens.specs.declared.token.Word.{Word}
use Rattle.reading_tokens.specs.declared.token.Word.TheVariants as words
use Rattle.reading_trees.specs.Trees.{Tree, Definitions}
use Rattle.reading_machine.specs.Machine.{Stops, Ends, EndsDefinition, word_closes, item_closes, list_closes, parameters_of, form_of, body_of}
use Rattle.reading_token_steps.specs.Kept.{kept_closes, kept_laid_closes, kept_kind_closes}
use Rattle.reading_machine.specs.declared.frame.Form.{Form}
use Rattle.reading_machine.specs.declared.frame.Frame.{Frame}
use Rattle.reading_machine.specs.declared.frame.Frame.TheVariants as frame
use Rattle.reading_machine.specs.declared.frame.Scope.{Scope}
use Rattle.reading_machine.specs.declared.frame.Scope.TheVariants as scopes

none_waits : (x : Laid) (e : Tree) → kept_closes x [] e ≡ Ends e
unfolding kept_closes
none_waits x e = refl

pub nothing_waits : (x : Laid) (fs : List Frame) (e : Tree) → fs ≡ [] → kept_closes x fs e ≡ Ends e
nothing_waits x fs e q = ap (λ gs. kept_closes x gs e) q ∙ none_waits x e

unit_ends : (x : Laid) (fs : List Frame) (n : List ℕ) (p : Place) (form : Form) (e : Tree) → kept_closes x (frame.DefinitionBody scopes.Unit n p form ∷ fs) e ≡ EndsDefinition n p (parameters_of form) (form_of form) (body_of form e)
unfolding kept_closes
unit_ends x fs n p form e = refl

same_end : (n m : List ℕ) (p q : Place) (ns ms : List (List ℕ)) (s t : DefinitionForm) (e f : Tree) → m ≡ n → q ≡ p → ms ≡ ns → t ≡ s → f ≡ e → EndsDefinition n p ns s e ≡ EndsDefinition m q ms t f
same_end n m p q ns ms s t e f h i j l k = cc

pub unit_defined : (x : Laid) (fs : List Frame) (s : Scope) (n : List ℕ) (p : Place) (form : Form) (e : Tree) (d : Definition) → s ≡ scopes.Unit → d.name ≡ n → d.at ≡ p → d.params ≡ parameters_of form → d.form ≡ form_of form → d.body ≡ body_of form e → kept_closes x (frame.DefinitionBody s n p form ∷ fs) e ≡ EndsDefinition d.name d.at d.params d.form d.body
unit_defined x fs s n p form e d q h i j l k =
    ap (λ t. kept_closes x (frame.DefinitionBody t n p form ∷ fs) e) q ∙ (unit_ends x fs n p form e ∙ same_end n d.name p d.at (parameters_of form) d.params (form_of form) d.form (body_of form e) d.body h i j l k)

in_let : (x : Laid) (fs : List Frame) (at : Place) (ds : Definitions) (n : List ℕ) (p : Place) (form : Form) (e : Tree) → kept_closes x (frame.DefinitionBody (scopes.Let at ds) n p form ∷ fs) e ≡ kept_laid_closes x (frame.DefinitionBody (scopes.Let at ds) n p form) fs e
unfolding kept_closes kept_laid_closes
in_let x fs at ds n p form e = refl

pub let_waits : (x : Laid) (fs : List Frame) (s : Scope) (at : Place) (ds : Definitions) (n : List ℕ) (p : Place) (form : Form) (e : Tree) → s ≡ scopes.Let at ds → kept_closes x (frame.DefinitionBody s n p form ∷ fs) e ≡ kept_laid_closes x (frame.DefinitionBody (scopes.Let at ds) n p form) fs e
let_waits x fs s at ds n p form e q = ap (λ t. kept_closes x (frame.DefinitionBody t n p form ∷ fs) e) q ∙ in_let x fs at ds n p form e

pub other_waits : (x : Laid) (f : Frame) (fs : List Frame) (e : Tree) → ((s : Scope) (n : List ℕ) (p : Place) (form : Form) → f ≡ frame.DefinitionBody s n p form → ⊥) → kept_closes x (f ∷ fs) e ≡ kept_laid_closes x f fs e
unfolding kept_closes kept_laid_closes
other_waits x (frame.DefinitionBody s n p form) fs e h = absurd (h s n p form refl)
other_waits x _ fs e h = refl

at_plain : (t : Token) (f : Frame) (fs : List Frame) (e : Tree) → kept_laid_closes (Plain t) f fs e ≡ kept_kind_closes t.kind t.place f fs e
unfolding kept_laid_closes kept_kind_closes
at_plain t f fs e = refl

pub plain_laid : (x : Laid) (t : Token) (f : Frame) (fs : List Frame) (e : Tree) → x ≡ Plain t → kept_laid_closes x f fs e ≡ kept_kind_closes t.kind t.place f fs e
plain_laid x t f fs e q = ap (λ y. kept_laid_closes y f fs e) q ∙ at_plain t f fs e

at_open : (b : Bullet) (p : Place) (f : Frame) (fs : List Frame) (e : Tree) → kept_laid_closes (ListOpen b p) f fs e ≡ Stops
unfolding kept_laid_closes
at_open b p f fs e = refl

pub open_laid : (x : Laid) (b : Bullet) (p : Place) (f : Frame) (fs : List Frame) (e : Tree) → x ≡ ListOpen b p → kept_laid_closes x f fs e ≡ Stops
open_laid x b p f fs e q = ap (λ y. kept_laid_closes y f fs e) q ∙ at_open b p f fs e

at_item : (b : Bullet) (p : Place) (f : Frame) (fs : List Frame) (e : Tree) → kept_laid_closes (ListItem b p) f fs e ≡ item_closes b f fs e
unfolding kept_laid_closes
at_item b p f fs e = refl

pub item_laid : (x : Laid) (b : Bullet) (p : Place) (f : Frame) (fs : List Frame) (e : Tree) → x ≡ ListItem b p → kept_laid_closes x f fs e ≡ item_closes b f fs e
item_laid x b p f fs e q = ap (λ y. kept_laid_closes y f fs e) q ∙ at_item b p f fs e

at_close : (p : Place) (f : Frame) (fs : List Frame) (e : Tree) → kept_laid_closes (ListClose p) f fs e ≡ list_closes f fs e
unfolding kept_laid_closes
at_close p f fs e = refl

pub close_laid : (x : Laid) (p : Place) (f : Frame) (fs : List Frame) (e : Tree) → x ≡ ListClose p → kept_laid_closes x f fs e ≡ list_closes f fs e
close_laid x p f fs e q = ap (λ y. kept_laid_closes y f fs e) q ∙ at_close p f fs e

pub other_word : (w : Word) (f : Frame) (fs : List Frame) (e : Tree) → (w ≡ words.Then → ⊥) → (w ≡ words.Else → ⊥) → (w ≡ words.Except → ⊥) → (w ≡ words.In → ⊥) → word_closes w f fs e ≡ Stops
other_word words.Then f fs e h i j k = absurd (h refl)
other_word words.Else f fs e h i j k = absurd (i refl)
other_word words.Except f fs e h i j k = absurd (j refl)
other_word words.In f fs e h i j k = absurd (k refl)
other_word _ f fs e h i j k = refl
