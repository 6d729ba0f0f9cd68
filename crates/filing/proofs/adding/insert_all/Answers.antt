use Rattle.logs.proofs.SaidLaws.{said-last, said-none}
use Rattle.logs.specs.Stored.{write_of}
use Rattle.filing.specs.MergeLaws.{log_last-some, merging_start, merging-log, merging-batch, merging-end}
use Rattle.std.proofs.Math.Seq.{length-take-le}
use lib.ListN.{length}
use Prim.Native.Nat.{◌-◌}
use mathlib.Core.Path.{◌≡◌, sym, ◌∙◌}
use native.Mathlib.Omega.{arith}
use Rattle.filing.proofs.adding.insert_all.Goals as goal

pub loop-left-init : goal.loop-left-init
loop-left-init c = merging_start _ _ _ _

pub overflow_sub-i : goal.overflow_sub-i
overflow_sub-i c = log_last-some _ _ _ (sym c.log_last.ensures ∙ c.if-log_last.true)

pub put-requires : goal.put-requires
put-requires c =
    let at = c.loop-left.invariant in
    omega (arith, at.of_log, at.of_batch, at.size, c.requires, log_last-some _ _ _ (sym c.log_last.ensures ∙ c.if-log_last.true))

pub loop-left-smaller-then-log_last : goal.loop-left-smaller-then-log_last
loop-left-smaller-then-log_last c = omega (arith, log_last-some _ _ _ (sym c.log_last.ensures ∙ c.if-log_last.true))

pub loop-left-preserved-then-log_last : goal.loop-left-preserved-then-log_last
loop-left-preserved-then-log_last c =
    let left = c.loop-left.left.now in
    merging-log c.loop-left.invariant c.requires _ _ (said-last write_of left _ c.in-len1-up.len_at_least) _ (sym c.log_last.ensures ∙ c.if-log_last.true) c.entry_at-x.ensures c.put.ensures

pub loop-left-preserved : goal.loop-left-preserved
loop-left-preserved c =
    let left = c.loop-left.left.now in
    let one = length-take-le (length left - 1) left (omega arith) in
    merging-batch c.loop-left.invariant c.requires _ _ (said-last write_of left _ c.in-len1-up.len_at_least) _ (omega (arith, one, c.in-len1-up.len_at_least)) (sym c.log_last.ensures ∙ c.if-log_last.false) c.put-else-log_last.ensures

pub returns : goal.returns
returns c =
    let left = c.loop-left.left.now in
    let none : length left ≡ 0 = omega (arith, c.in_default.len_below) in
    merging-end c.loop-left.invariant (said-none write_of left none) none
