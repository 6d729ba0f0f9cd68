-- `steps::obey` meets its contract: a table that is not sound is refused, and on a sound one the step is applied.
use Rattle.std.proofs.Common.{rules, refl, arith, ◌∙◌}
use Rattle.tables.specs.Layout.{size_of}
use Rattle.tables.proofs.LaidLaws.{laid}
use Rattle.steps.specs.StepLaws.{sound-long, sound-held, unsound-promised, step-promised}
use Rattle.steps.proofs.obey.Goals as goal

pub returns-then-not-sound : goal.returns-then-not-sound
returns-then-not-sound c = unsound-promised _ c.sound.ensures _ c.if-not-sound.true refl

pub bounds-t-0 : goal.bounds-t-0
bounds-t-0 c = omega (arith, sound-long _ c.sound.ensures c.if-not-sound.false)

pub bounds-t-1 : goal.bounds-t-1
bounds-t-1 c = omega (arith, sound-long _ c.sound.ensures c.if-not-sound.false)

pub bounds-t-2 : goal.bounds-t-2
bounds-t-2 c = omega (arith, sound-long _ c.sound.ensures c.if-not-sound.false)

pub invariant_of-store : goal.invariant_of-store
unfolding size_of
invariant_of-store c = record { laid = laid (sound-held _ c.sound.ensures c.if-not-sound.false c.new-sizes.ensures) }

pub apply-requires : goal.apply-requires
unfolding size_of
apply-requires c = sound-held _ c.sound.ensures c.if-not-sound.false c.new-sizes.ensures

pub returns : goal.returns
unfolding size_of
returns c =
    let promised = step-promised (sound-held _ c.sound.ensures c.if-not-sound.false c.new-sizes.ensures) c.apply.ensures in
    record { answer_is = promised.answer_is; table_is = (search rules) ∙ promised.table_is }
