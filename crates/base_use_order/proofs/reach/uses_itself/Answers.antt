use Rattle.std.proofs.Common.{◌≡◌, ◌<◌, ◌++◌, ℕ, true, false, List, length, replicate, get_or, set, ap, sym, ◌∙◌, subst, refl, arith}
use Rattle.std.proofs.lemmas.List.{length-map, get_or_read_under}
use Rattle.base_use_order.specs.Uses.{used_by, table_of}
use Rattle.base_use_order.specs.Reaching.{IsReached, Reaches}
use Rattle.base_use_order.proofs.Lists.{nil_of}
use Rattle.base_use_order.proofs.Finding.{begins, taken_within, skips, reaches, fewer_to_reach, reached_all}
use Rattle.base_use_order.proofs.reach.uses_itself.Goals as goal

pub loop-next-init : goal.loop-next-init
loop-next-init c =
    let uses = table_of c.args.uses.now in
    let n = length c.args.uses.now in
    let filled : c.in_ok-reached.reached.items ≡ replicate n false = c.in_ok-reached.ensures.items_if_clones_equal (λ y h. h) in
    let waits : c.extend_from_slice.new.self.items ≡ used_by uses c.args.definition =
    c.in_ok-extend_from_slice.ensures.items ∙ ap (λ (w : List ℕ). w ++ c.used_of.result.now) c.new-waiting.ensures.items ∙ c.used_of.ensures in
    begins uses c.args.definition c.requires.within n c.in_ok-reached.reached.items c.extend_from_slice.new.self.items (sym (length-map c.args.uses.now (λ v. v.items))) filled waits

pub index-requires : goal.index-requires
index-requires c =
    let uses = table_of c.args.uses.now in
    let r = subst (λ (w : List ℕ). Reaches uses c.args.definition c.loop-next.reached.items w) c.in-Some.ensures.items c.loop-next.invariant in
    let small = taken_within uses c.args.definition c.requires.within c.loop-next.reached.items c.pop.new.self.items c.in-Some.next r in
    omega (arith, small, r.sizes, c.loop-next.reached.ok.0)

pub index_mut-requires : goal.index_mut-requires
index_mut-requires c =
    let uses = table_of c.args.uses.now in
    let r = subst (λ (w : List ℕ). Reaches uses c.args.definition c.loop-next.reached.items w) c.in-Some.ensures.items c.loop-next.invariant in
    let small = taken_within uses c.args.definition c.requires.within c.loop-next.reached.items c.pop.new.self.items c.in-Some.next r in
    omega (arith, small, r.sizes, c.loop-next.reached.ok.0)

pub used_of-requires-then-not-index : goal.used_of-requires-then-not-index
used_of-requires-then-not-index c =
    let uses = table_of c.args.uses.now in
    let r = subst (λ (w : List ℕ). Reaches uses c.args.definition c.loop-next.reached.items w) c.in-Some.ensures.items c.loop-next.invariant in
    let small = taken_within uses c.args.definition c.requires.within c.loop-next.reached.items c.pop.new.self.items c.in-Some.next r in
    omega (arith, small, length-map c.args.uses.now (λ v. v.items))

pub loop-next-smaller-in-Continue-branch-3 : goal.loop-next-smaller-in-Continue-branch-3
loop-next-smaller-in-Continue-branch-3 c =
    let uses = table_of c.args.uses.now in
    let reached = c.loop-next.reached.items in
    let a = c.in-Some.next in
    let r = subst (λ (w : List ℕ). Reaches uses c.args.definition reached w) c.in-Some.ensures.items c.loop-next.invariant in
    let small : a < length reached = omega (arith, taken_within uses c.args.definition c.requires.within reached c.pop.new.self.items a r, r.sizes) in
    let fresh : get_or reached a false ≡ false = sym (get_or_read_under reached a (length reached) c.index.result.now false c.index.ensures small refl) ∙ c.if-not-index.true in
    let waits : c.extend_from_slice-then-not-index.new.self.items ≡ c.pop.new.self.items ++ used_by uses a =
    c.in_ok-extend_from_slice-2.ensures.items ∙ ap (λ (w : List ℕ). c.pop.new.self.items ++ w) c.used_of-then-not-index.ensures in
    fewer_to_reach uses reached c.pop.new.self.items c.loop-next.waiting.items c.extend_from_slice-then-not-index.new.self.items a r.sizes small fresh c.in-Some.ensures.items waits

pub loop-next-preserved-in-Continue-branch-3 : goal.loop-next-preserved-in-Continue-branch-3
loop-next-preserved-in-Continue-branch-3 c =
    let uses = table_of c.args.uses.now in
    let reached = c.loop-next.reached.items in
    let a = c.in-Some.next in
    let r = subst (λ (w : List ℕ). Reaches uses c.args.definition reached w) c.in-Some.ensures.items c.loop-next.invariant in
    let waits : c.extend_from_slice-then-not-index.new.self.items ≡ c.pop.new.self.items ++ used_by uses a =
    c.in_ok-extend_from_slice-2.ensures.items ∙ ap (λ (w : List ℕ). c.pop.new.self.items ++ w) c.used_of-then-not-index.ensures in
    subst (λ (w : List ℕ). Reaches uses c.args.definition (set reached a true) w) (sym waits) (reaches uses c.args.definition c.requires.within reached c.pop.new.self.items a r)

pub loop-next-preserved : goal.loop-next-preserved
loop-next-preserved c =
    let uses = table_of c.args.uses.now in
    let reached = c.loop-next.reached.items in
    let a = c.in-Some.next in
    let r = subst (λ (w : List ℕ). Reaches uses c.args.definition reached w) c.in-Some.ensures.items c.loop-next.invariant in
    let small : a < length reached = omega (arith, taken_within uses c.args.definition c.requires.within reached c.pop.new.self.items a r, r.sizes) in
    let here : IsReached reached a = sym (get_or_read_under reached a (length reached) c.index.result.now false c.index.ensures small refl) ∙ c.if-not-index.false in
    skips uses c.args.definition c.requires.within reached c.pop.new.self.items a r here

pub returns : goal.returns
returns c =
    let uses = table_of c.args.uses.now in
    let reached = c.loop-next.reached.items in
    let a = c.args.definition in
    let none : length c.loop-next.waiting.items ≡ 0 = omega (arith, c.in_default.ensures.cases.0, c.loop-next.waiting.ok.0) in
    let r = subst (λ (w : List ℕ). Reaches uses a reached w) (nil_of c.loop-next.waiting.items none) c.loop-next.invariant in
    let small : a < length reached = omega (arith, c.if-definition-uses.false, r.sizes, length-map c.args.uses.now (λ v. v.items)) in
    let same : c.index-2.result.now ≡ get_or reached a false = get_or_read_under reached a (length reached) c.index-2.result.now false c.index-2.ensures small refl in
    (λ t. r.reached_led a (sym same ∙ t), λ l. same ∙ reached_all uses a c.requires.within reached r a l)
