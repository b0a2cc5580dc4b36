use Rattle.std.proofs.Common.{◌↔◌, ◌<◌, List, ℕ, length, ap, subst, sym, ◌∙◌, arith}
use Rattle.std.specs.List.{Contains}
use Rattle.values_core.specs.Data.{Val}
use Rattle.values_core.specs.Products.{InRecordSet}
use Rattle.values_core.specs.SetOperations.{AreDifferent}
use Rattle.values_operations.proofs.Listing.{gives_as}
use Rattle.values_sets.specs.ListedParts.{texts_of}
use Rattle.values_sets.proofs.Several.{no_long_records, all_sets, texts_different, length-texts}
use Rattle.values_sets.proofs.lists.all_records.Goals as goal

pub returns-then-sets-gt-MAX_MEMBERS : goal.returns-then-sets-gt-MAX_MEMBERS
returns-then-sets-gt-MAX_MEMBERS c =
    let ss = c.args.sets.now in
    let fs = c.args.fields.now in
    let long : 100000 < length c.args.sets.now = omega arith in
    gives_as (Contains c.new.result.items) (InRecordSet (texts_of fs) ss) c.set_from.result
    (λ v. subst (λ (zs : List Val). Contains zs v ↔ InRecordSet (texts_of fs) ss v) (sym c.new.ensures.items) (no_long_records fs ss c.requires.sound.1 c.requires.sound.0 c.requires.as_many long v)) c.set_from.ensures

pub records-requires-clause-as_many : goal.records-requires-clause-as_many
records-requires-clause-as_many c =
    let fs = c.args.fields.now in
    ap (λ (ns : List (List ℕ)). length ns) (c.deref.ensures.value ∙ c.in_ok-names.ensures) ∙ length-texts fs ∙ sym c.requires.as_many

pub records-requires-clause-different : goal.records-requires-clause-different
records-requires-clause-different c =
    let fs = c.args.fields.now in
    subst (λ (ns : List (List ℕ)). AreDifferent ns) (sym (c.deref.ensures.value ∙ c.in_ok-names.ensures)) (texts_different fs c.requires.sound.1 c.requires.sound.0)

pub records-requires-clause-sets : goal.records-requires-clause-sets
records-requires-clause-sets c = all_sets 0 c.args.sets.now c.requires.sets
