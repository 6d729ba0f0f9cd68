-- `kinds::exchanging::receive` meets its contract: once the writes stand in the log, the vector follows them.
use Rattle.std.proofs.Common.{rules, refl, ap, ◌+◌, ◌∙◌, arith}
use Rattle.words.specs.LentLaws.{length-lent}
use Rattle.tables.specs.declared.Table.{Table}
use Rattle.tables.specs.Layout.{vector_at}
use Rattle.tables.specs.Shape.{shape}
use Rattle.kinds.specs.ExchangeLaws.{writes-received}
use Rattle.kinds.proofs.exchanging.receive.Goals as goal

pub follow-requires : goal.follow-requires
follow-requires c w m =
    let grown = c.insert.new.store in
    let at = c.vector_at-at.ensures in
    let many = length-lent grown.words.now grown.sizes.n at.is refl (omega (arith, grown.laid.words, at.inside)) in
    omega (arith, many, ap (λ (z : Table). z.n) c.insert.ensures.kept.sizes, c.requires.2.origins w m)

pub returns : goal.returns
returns c =
    let sizes = c.insert.ensures.kept.sizes in
    let begins = c.vector_at-at.ensures.is ∙ ap (λ (z : Table). vector_at (shape z) c.args.i 0) sizes in
    let ends = ap (λ (z : Table). c.vector_at-at.result + z.n) sizes in
    record {
      kept = search rules;
      table_is = writes-received c.requires.0 _ c.requires.1 _ c.requires.2 c.insert.ensures.table_is begins ends c.follow.ensures;
    }
