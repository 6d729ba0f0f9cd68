-- `serving::asking` meets its contract: a session, or why its reads and writes are refused.
use Rattle.std.proofs.Common.{rules, refl}
use Rattle.serving.specs.ServedLaws.{slot-open, read-shut, write-shut, read-unreachable, write-unreachable, asks-seen}
use Rattle.serving.proofs.asking.Goals as goal

pub returns-then-guarantees-eq0 : goal.returns-then-guarantees-eq0
returns-then-guarantees-eq0 c =
    let shut = c.if-guarantees-eq0.true in (
      λ item. read-shut c.requires.0 _ c.requires.1 {word = c.guarantees.result} (search rules) item _ shut,
      λ item value. write-shut c.requires.0 _ c.requires.1 {word = c.guarantees.result} (search rules) item value _ shut,
    )

pub returns-then-reach-eq0 : goal.returns-then-reach-eq0
returns-then-reach-eq0 c =
    let asks = slot-open c.requires.0 _ c.requires.1 {word = c.guarantees.result} (search rules) (search rules) in
    (λ item. read-unreachable asks item _ c.if-reach-eq0.true, λ item value. write-unreachable asks item value _ c.if-reach-eq0.true)

pub invariant_of-result : goal.invariant_of-result
invariant_of-result c = record { asks = ∣ asks-seen c.view-table.ensures.words c.view-table.ensures.sizes (slot-open c.requires.0 _ c.requires.1 {word = c.guarantees.result} (search rules) (search rules)) ∣₁ }

pub returns : goal.returns
returns c =
    (slot-open c.requires.0 _ c.requires.1 {word = c.guarantees.result} (search rules) (search rules), search rules, c.view-table.ensures.words, c.view-table.ensures.sizes, refl, refl)
