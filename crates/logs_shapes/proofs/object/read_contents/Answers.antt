use Rattle.std.proofs.Common.{◌≡◌, ◌-◌, length, Some, refl, ◌∙◌, arith}
use Rattle.json.specs.Json.{read_key, value}
use Rattle.json.proofs.Grammar.{read_key-shorter}
use Rattle.serde_json.specs.Data.{no_members, put}
use Rattle.logs_json_texts.proofs.Turns.{member_read, members_over}
use Rattle.logs_shapes.specs.Objects.{AgreeAtKeys, members_in}
use Rattle.logs_shapes.proofs.KeyLemmas.{put_agrees}
use Rattle.logs_shapes.proofs.object.read_contents.Goals as goal

pub members-init : goal.members-init
members-init c =
    let same : AgreeAtKeys no_members (members_in c.args.found.now) = rw c.requires (λ k. refl) in
    (length c.args.reader.now, omega arith, no_members, refl, same)

pub members-preserved : goal.members-preserved
members-preserved c =
    let p = value 126 in
    let l = c.members in
    let n = l.invariant.0 in
    let before = l.invariant.2 in
    let k = c.in-Some.name.now in
    let s = c.next_key.new.self in
    let named : read_key l.reader ≡ Some (Some k, s) = grind arith in
    let done = c.in_ok-read_member.ensures in
    let d = done.read.0 in
    let r = c.read_member.new.reader in
    let less = read_key-shorter l.reader (Some k) s named in
    let lesser = done.shorter in (
      n - 1,
      omega (arith, l.invariant.1),
      put k d before,
      l.invariant.3 ∙ member_read p before n k l.reader s r d (omega (arith, l.invariant.1)) named done.read.1,
      put_agrees k d before (members_in l.found) _ l.invariant.4 done.read.2,
    )

pub returns : goal.returns
returns c =
    let p = value 126 in
    let l = c.members in
    let n = l.invariant.0 in
    let before = l.invariant.2 in
    (before, l.invariant.3 ∙ members_over p before n l.reader c.next_key.new.self l.invariant.1 (grind arith), l.invariant.4)
