-- What a table's words are when a slot was opened or closed, and when that was refused: those that the rules say. Assumes nothing.
use Rattle.std.specs.Prelude.{ℕ, suc, ◌+◌, ◌-◌, ◌*◌, ◌<◌, ◌≡◌, length, get_or, take, drop, List, ◌++◌}
use Rattle.std.proofs.Common.{sym, ◌∙◌, ap₂, add-one, arith}
use Rattle.std.proofs.Math.Path.{ap}
use Rattle.std.proofs.Math.ListN.{set, replicate}
use Rattle.words.specs.Lists.{splice}
use Rattle.words.specs.LentLaws.{lent, length-lent}
use Rattle.tables.specs.Size.{Size}
use Rattle.tables.specs.Layout.{slot_at, guarantees_at, decode}
use Rattle.tables.proofs.BoundLaws.{slot-within}
use Rattle.tables.proofs.ViewLaws.{room-view, length-view, shut-view, open-view}
use Rattle.tables.proofs.PutLaws.{put-open, put-closed}
use Rattle.rules.specs.Step.{Answer, opens, closes, refused, done}
use Rattle.rules.specs.Rules.{new_session, opening, closing, obeyed}
use Rattle.kinds.specs.Obeys.{Held, Obeyed}
use Rattle.kinds.specs.CameLaws.{came, came-refused}

module _ {z : Size} {t : List ℕ} (held : Held z t) where
  -- Slot k, whose first word was read.
  module _ (k : ℕ) (below : k < z.p) {first : ℕ} (read : first ≡ get_or t (guarantees_at z k) 0) where
    -- 01: "Open sets guarantees".
    pub open_done : (g : ℕ) {at : ℕ} {r : Answer} → first ≡ 0 → at ≡ slot_at z k → r ≡ done → Obeyed z t (opens k g) r (set t at (g + 1))
    unfolding obeyed opening new_session guarantees_at
    open_done g shut begins answer =
        let s = decode z t in
        let is-closed = shut-view held k below (sym read ∙ shut) in
        came (ap (opening s k g) is-closed) answer
        (ap₂ (set t) begins (add-one g)
        ∙ (ap (λ (ws : List ℕ). set ws (slot_at z k) (suc g)) held.words ∙ put-open z s (room-view held) k below g is-closed))

    -- "open of an open slot"
    pub open-refused : (g : ℕ) {r : Answer} → (first ≡ 0 → ⊥) → r ≡ refused 3 → Obeyed z t (opens k g) r t
    unfolding obeyed opening
    open-refused g some answer = came-refused held 3 (ap (opening (decode z t) k g) (open-view held k below (λ e. some (read ∙ e)))) answer

    -- "Close zeros the slot." The slot's words are lent from one place to another.
    pub close-done : {r : Answer} {left : List ℕ} {from to : ℕ} → (first ≡ 0 → ⊥) → from ≡ slot_at z k → to ≡ from + (2 * z.n + 2)
        → left ≡ replicate (length (take (to - from) (drop from t))) 0
        → r ≡ done
        → Obeyed z t (closes k) r (take from t ++ (left ++ drop (to - from) (drop from t)))
    unfolding obeyed closing
    close-done some begins ends cleared answer =
        let s = decode z t in
        let words = 2 * z.n + 2 in
        let many = length-lent t words begins ends (omega (arith, length-view held, slot-within z k below)) in
        came (ap (closing s k) (open-view held k below (λ e. some (read ∙ e)))) answer
        (lent t words begins ends (cleared ∙ ap (λ n. replicate n 0) many)
        ∙ (ap (λ (ws : List ℕ). splice (slot_at z k) words ws (replicate words 0)) held.words ∙ put-closed z s (room-view held) k below))

    -- "close .. on a closed one"
    pub close-refused : {r : Answer} → first ≡ 0 → r ≡ refused 3 → Obeyed z t (closes k) r t
    unfolding obeyed closing
    close-refused shut answer = came-refused held 3 (ap (closing (decode z t) k) (shut-view held k below (sym read ∙ shut))) answer
