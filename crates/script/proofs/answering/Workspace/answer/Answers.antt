-- `script::answering::Workspace::answer` meets its contract.
use Rattle.std.proofs.Common.{sym, length-take-le}
use Rattle.tables.specs.Shape.{shape}
use Rattle.script.proofs.FreshLaws.{admissible-within, table-room, table-front}
use Rattle.script.proofs.answering.Workspace.answer.Goals as goal

pub words-requires : goal.words-requires
words-requires c = admissible-within (shape c.args.listed.sizes) c.requires.0

pub slice_bounds-run_fresh-end-2 : goal.slice_bounds-run_fresh-end-2
slice_bounds-run_fresh-end-2 c = table-room (shape c.args.listed.sizes) c.requires.0 c.words.ensures.0 c.args.self.now.table.now c.args.self.now.for_table

pub slice_bounds-run_fresh-end-3 : goal.slice_bounds-run_fresh-end-3
slice_bounds-run_fresh-end-3 c =
    let work = c.args.self.now in
    sym (length-take-le _ _ (table-room (shape c.args.listed.sizes) c.requires.0 c.words.ensures.0 work.table.now work.for_table))

pub run_fresh-requires-clause-within : goal.run_fresh-requires-clause-within
run_fresh-requires-clause-within c =
    let work = c.args.self.now in
    (admissible-within (shape c.args.listed.sizes) c.requires.0, table-front (shape c.args.listed.sizes) c.requires.0 c.words.ensures.0 work.table.now work.for_table)
