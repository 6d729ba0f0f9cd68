-- What is seen of a sound table that is changed, in the view of it, which has the same sizes and words. Assumes nothing.
use Rattle.std.specs.Prelude.{ℕ, ◌<◌, ◌≤◌, List, ◌≡◌, length, get_or}
use Rattle.std.proofs.Common.{◌∙◌, arith}
use Rattle.std.proofs.Math.Path.{ap, ap₂}
use Rattle.tables.specs.declared.Table.{Table}
use Rattle.tables.specs.Layout.{count_at, decode}
use Rattle.tables.specs.Shape.{shape}
use Rattle.tables.proofs.ViewLaws.{count-view}
use Rattle.tables.proofs.LaidLaws.{count-within}
use Rattle.kinds.specs.Obeys.{Held}

module _ {z seen : Table} {t words : List ℕ} (held : Held (shape z) t) (same : words ≡ t) (sizes : seen ≡ z) (i : ℕ) (h : i < z.n) where
  count-seen : get_or words (count_at (shape seen) i) 0 ≡ get_or t (count_at (shape z) i) 0
  count-seen = ap₂ (λ (y : Table) (ws : List ℕ). get_or ws (count_at (shape y) i) 0) sizes same

  -- A server's count is how many writes its log has.
  pub count-is : {count : ℕ} → count ≡ get_or words (count_at (shape seen) i) 0 → count ≡ length ((decode (shape z) t).log i)
  count-is e = e ∙ count-seen ∙ count-view held i h

  -- They have their places.
  pub log-fits : (i < seen.n) × (get_or words (count_at (shape seen) i) 0 ≤ seen.l)
  log-fits =
      let n = ap (λ (y : Table). y.n) sizes in
      let l = ap (λ (y : Table). y.l) sizes in
      (omega (arith, n), omega (arith, l, count-within held i h count-seen))
