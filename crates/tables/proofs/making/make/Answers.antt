-- `making::make` meets its contract.
use Rattle.tables.specs.Layout.{size}
use Rattle.tables.proofs.MakeLaws.{make-limits, make-length, make-copied, make_meets}
use Rattle.tables.specs.Size.{Size, within}
use Rattle.tables.proofs.SizeLaws.{within-exactly}
use Rattle.std.proofs.Common.{Bool, ℕ, ◌≡◌, sym, ap, ◌∙◌, length, arith}
use Rattle.std.proofs.lemmas.List.{length-replicate}
use Rattle.tables.proofs.making.make.Goals as goal

-- What the test answers of the table that was made, it answers of the sizes asked for.
tested : {z made : Size} {fits : Bool} → made ≡ z → fits ≡ within made → within z ≡ fits
tested e h = ap within (sym e) ∙ sym h

pub words-requires : goal.words-requires
words-requires c = (within-exactly _).0 (sym c.is_within.ensures ∙ c.if-not-is_within.false)

pub copy-requires : goal.copy-requires
unfolding size
copy-requires c = omega (arith, ap length c.clear.ensures, length-replicate {A = ℕ} (length c.args.buffer.now) 0)

pub returns-then-not-is_within : goal.returns-then-not-is_within
returns-then-not-is_within c = make_meets _ _ (make-limits _ _ (tested c.new-z.ensures c.is_within.ensures ∙ c.if-not-is_within.true))

pub returns-then-buffer-words : goal.returns-then-buffer-words
returns-then-buffer-words c = make_meets _ _ (make-length _ _ (tested c.new-z.ensures c.is_within.ensures ∙ c.if-not-is_within.false) (λ e. c.if-buffer-words.true (omega (arith, ap size c.new-z.ensures))))

pub returns : goal.returns
returns c = make_meets _ _ (make-copied _ _ (tested c.new-z.ensures c.is_within.ensures ∙ c.if-not-is_within.false) (omega (arith, ap size c.new-z.ensures)) c.clear.ensures c.copy.ensures)
