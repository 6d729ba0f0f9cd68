-- `Asking::search` meets its contract.
use native.Mathlib.Omega.{arith}
use Rattle.std.specs.Prelude.{◌<◌}
use Rattle.std.proofs.Common.{subst, sym}
use Rattle.choice.proofs.AskingLaws.{asking-had, asking-starts}
use Rattle.choice.proofs.OutcomeLaws.{next-below, search-starts, search-ends, search-found, search-refused, walk-starts, walk-ends, walk-found, walk-refused}
use Rattle.choice.proofs.Asking.search.Goals.{then-left-eq0, else-left-eq0+in-Ok}
use Rattle.choice.proofs.Asking.search.Goals as goal

pub loop-left-init : goal.loop-left-init
loop-left-init g c = (
  subst (λ i. i < c.args.self.now.table.sizes.n) (sym c.start-i.ensures) (asking-starts (asking-had c.args.self.now.asks)),
  search-starts _ _ _ c.start-i.ensures,
  walk-starts (goal.F-post g c.args.may_use) _ _ c.start-i.ensures,
)

pub loop-left-preserved : goal.loop-left-preserved
loop-left-preserved g c = (
  subst (λ i. i < c.args.self.now.table.sizes.n) (sym c.next_of-i.ensures) (next-below _ _ c.loop-left.invariant.0),
  search-refused (goal.F-post g c.args.may_use) _ _ _ _ _ c.loop-left.invariant.1 (omega (arith, c.if-left-eq0.false)) c.loop-left.invariant.0
      c.may_use.ensures c.in-Err.is c.max-worst.ensures c.next_of-i.ensures,
  walk-refused (goal.F-post g c.args.may_use) _ _ _ _ _ c.loop-left.invariant.2 (omega (arith, c.if-left-eq0.false)) c.loop-left.invariant.0
      c.may_use.ensures c.in-Err.is c.max-worst.ensures c.next_of-i.ensures,
)

pub returns : goal.returns
returns g c = elim c.if-left-eq0.branch [
  | then-left-eq0 w ↦ record {
    finds = search-ends (goal.F-post g c.args.may_use) _ _ _ _ _ c.loop-left.invariant.1 w.if-left-eq0.true w.result-is;
    walks = walk-ends (goal.F-post g c.args.may_use) _ _ _ _ _ c.loop-left.invariant.2 w.if-left-eq0.true w.result-is;
  }
  | else-left-eq0+in-Ok w ↦ record {
    finds = search-found (goal.F-post g c.args.may_use) _ _ _ _ _ c.loop-left.invariant.1 (omega (arith, w.if-left-eq0.false)) c.loop-left.invariant.0
        w.may_use.ensures w.in-Ok.is w.result-is;
    walks = walk-found (goal.F-post g c.args.may_use) _ _ _ _ _ c.loop-left.invariant.2 (omega (arith, w.if-left-eq0.false)) c.loop-left.invariant.0
        w.may_use.ensures w.in-Ok.is w.result-is;
  }
]
