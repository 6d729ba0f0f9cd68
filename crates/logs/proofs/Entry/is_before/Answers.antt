-- `logs::Entry::is_before` meets its contract: of clock and origin as one number the clock decides first, since an origin is below the clock's unit.
use Rattle.std.proofs.Common.{rules, ◌≡◌, ◌+◌, ◌*◌, ◌<◌, true, false, ⊎_elim, ap₂, ◌∙◌, arith, ltb, ltb-true, ltb-false, lt-ltb}
use Rattle.words.specs.TestLaws.{same_test, either}
use Rattle.logs.specs.Write.{Write, before}
use Rattle.logs.specs.Stored.{write_of}
use Rattle.logs.proofs.WriteLaws.{before-cases, before-clock, before-origin}
use Rattle.logs.proofs.Entry.is_before.Goals as goal

rank-less : (w x : Write) → x.origin < 4294967296 → w.clock * 4294967296 + w.origin < x.clock * 4294967296 + x.origin → before w x ≡ true
rank-less w x k less =
    ⊎_elim (λ (t : ltb w.clock x.clock ≡ true). before-clock w x (ltb-true w.clock x.clock t))
    (λ (f : ltb w.clock x.clock ≡ false).
    let past = ltb-false w.clock x.clock f in
    let same : w.clock ≡ x.clock = omega (arith, less, past, k) in
    before-origin w x same (omega (arith, less, same)))
    (either (ltb w.clock x.clock))

rank-before : (w x : Write) → w.origin < 4294967296 → x.origin < 4294967296
    → ltb (w.clock * 4294967296 + w.origin) (x.clock * 4294967296 + x.origin) ≡ before w x
rank-before w x h k =
    same_test _ _
    (λ e. rank-less w x k (ltb-true (w.clock * 4294967296 + w.origin) (x.clock * 4294967296 + x.origin) e))
    (λ e. lt-ltb (w.clock * 4294967296 + w.origin) (x.clock * 4294967296 + x.origin) (⊎_elim (λ l. omega (arith, l, h)) (λ p. omega (arith, p.0, p.1)) (before-cases w x e)))

pub returns : goal.returns
returns c =
    ap₂ ltb c.rank-ours.ensures c.rank-theirs.ensures ∙ rank-before (write_of c.args.self) (write_of c.args.other) (search rules) (search rules)
