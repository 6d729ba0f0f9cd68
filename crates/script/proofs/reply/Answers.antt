-- `script::reply` meets its contract.
use Rattle.std.proofs.Common.{refl, rules}
use Rattle.script.proofs.PromisedLaws.{tested-room, replied_on, refused}
use Rattle.script.proofs.reply.Goals as goal

pub returns-then-not-has_room : goal.returns-then-not-has_room
returns-then-not-has_room c =
    let s = c.args in
    refused s.table.now s.steps.now s.answers.now s.out.now c.has_room.ensures s.text.now c.if-not-has_room.true

pub invariant_of-room : goal.invariant_of-room
invariant_of-room c =
    let s = c.args in
    let room = tested-room s.table.now s.steps.now s.answers.now s.out.now c.has_room.ensures c.if-not-has_room.false in
    record { for_table = room.for_table; for_steps = room.for_steps; for_answers = room.for_answers }

pub put_reply-requires-clause-room : goal.put_reply-requires-clause-room
put_reply-requires-clause-room c =
    let s = c.args in
    let room = tested-room s.table.now s.steps.now s.answers.now s.out.now c.has_room.ensures c.if-not-has_room.false in
    rw c.new-page.ensures.bytes_are room.for_out

pub returns : goal.returns
returns c =
    let s = c.args in
    replied_on s.table.now s.steps.now s.answers.now s.out.now c.has_room.ensures s.text.now c.if-not-has_room.false c.new-page.ensures.len_is c.new-page.ensures.bytes_are c.put_reply.ensures refl (search rules)
