-- `serving::reading::read` meets its contract, by what is found on the way.
use Rattle.std.proofs.Common.{rules, refl, ◌∙◌}
use Rattle.std.specs.Prelude.{false, Err}
use Rattle.kinds.specs.CameLaws.{comes-refused, comes-by}
use Rattle.serving.specs.ServedLaws.{found-seen, read-unserved, read_below, read-served}
use Rattle.serving.proofs.reading.read.Goals as goal

pub returns-in_err-asking : goal.returns-in_err-asking
returns-in_err-asking c =
    let why = c.in_err-asking.ensures in
    comes-refused c.requires.0 {e = c.in_err-asking.field-0.0} (search rules) (why.0 c.args.item)

pub returns-in-Err : goal.returns-in-Err
returns-in-Err c =
    let asked = c.in_ok-asking.ensures in
    let found = c.in-Err.ensures ∙ found-seen false asked.2 asked.3 asked.4 asked.5 in
    comes-refused c.requires.0 {r = Err c.in-Err.refusal} refl (read-unserved asked.0 _ _ asked.1 _ found)

pub read_at-requires : goal.read_at-requires
read_at-requires c =
    let asked = c.in_ok-asking.ensures in
    let found = c.in-Ok.ensures ∙ found-seen false asked.2 asked.3 asked.4 asked.5 in
    (asked.0, read_below asked.0 0 _ asked.1 _ found)

pub returns-in-Ok : goal.returns-in-Ok
returns-in-Ok c =
    let asked = c.in_ok-asking.ensures in
    let found = c.in-Ok.ensures ∙ found-seen false asked.2 asked.3 asked.4 asked.5 in
    comes-by (read-served asked.0 _ _ asked.1 _ found) c.read_at.ensures
