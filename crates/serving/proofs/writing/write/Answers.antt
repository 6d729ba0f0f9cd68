-- `serving::writing::write` meets its contract, by what is found on the way.
use Rattle.std.proofs.Common.{rules, refl, ◌∙◌}
use Rattle.std.specs.Prelude.{true, Err}
use Rattle.kinds.specs.CameLaws.{comes-refused, comes-by}
use Rattle.serving.specs.ServedLaws.{found-seen, write-unserved, write-below, write-room, write-served}
use Rattle.serving.proofs.writing.write.Goals as goal

pub returns-in_err-asking : goal.returns-in_err-asking
returns-in_err-asking c =
    let why = c.in_err-asking.ensures in
    comes-refused c.requires.0 {e = c.in_err-asking.field-0.0} (search rules) (why.1 c.args.item c.args.value)

pub returns-in-Err : goal.returns-in-Err
returns-in-Err c =
    let asked = c.in_ok-asking.ensures in
    let found = c.in-Err.ensures ∙ found-seen true asked.2 asked.3 asked.4 asked.5 in
    comes-refused c.requires.0 {r = Err c.in-Err.refusal} refl (write-unserved asked.0 _ _ _ asked.1 _ found)

pub write_at-requires : goal.write_at-requires
write_at-requires c =
    let asked = c.in_ok-asking.ensures in
    let found = c.in-Ok.ensures ∙ found-seen true asked.2 asked.3 asked.4 asked.5 in
    (asked.0, write-below asked.0 0 0 _ asked.1 _ found, write-room asked.0 0 0 _ asked.1 _ found)

pub returns-in-Ok : goal.returns-in-Ok
returns-in-Ok c =
    let asked = c.in_ok-asking.ensures in
    let found = c.in-Ok.ensures ∙ found-seen true asked.2 asked.3 asked.4 asked.5 in
    comes-by (write-served asked.0 _ _ _ asked.1 _ found) c.write_at.ensures
