-- `serving::reading::raise_part` meets its contract: the words are cut in two where the part that is raised begins.
use Rattle.serving.specs.ReadLaws.{part-raised}
use Rattle.serving.proofs.reading.raise_part.Goals as goal

pub returns : goal.returns
returns c =
    let cut = c.split_at_mut-front in
    part-raised _ _ _ _ c.requires.0 c.requires.1 cut.ensures.front cut.ensures.back c.raise.ensures
