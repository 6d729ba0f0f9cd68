-- What stands at each offset of a slot and of a log's places, and 01's example of the length. Assumes nothing.
use Rattle.std.specs.Prelude.{ℕ, suc, ◌+◌, ◌*◌, ◌<◌, ◌≡◌, refl}
use mathlib.Core.List.{List}
use Rattle.std.proofs.Math.Path.{sym, ap}
use Rattle.std.proofs.Common.{◌∙◌}
use native.Mathlib.Omega.{arith}
use Rattle.std.proofs.Math.ListN.{get_or, get_or-replicate}
use Rattle.words.specs.BlockLaws.{cell}
use Rattle.words.specs.PartLaws.{get_or_part}
use Rattle.logs.specs.Places.{width, places}
use Rattle.tables.specs.Size.{Size}
use Rattle.tables.specs.State.{State, Session, closed, opened}
use Rattle.tables.specs.Layout.{log_at, place_at, slot_width, slot_at, guarantees_at, last_used_at, read_at, write_at, size, slot_words, encode, log_part, slot_part}
use Rattle.tables.specs.LayoutLaws.{Room}
use Rattle.tables.proofs.LayoutLaws.{log_part-encode, slot_part-encode}
use Rattle.tables.proofs.SlotLaws.{slot-guarantees, slot-last_used, slot-read_vector, slot-write_vector}

-- 01, "Numbers": "(N=2, L=4, P=1 gives 48)".
pub size-example : size (record { n = 2; l = 4; p = 1 }) ≡ 48
unfolding size
size-example = refl

module _ (z : Size) (s : State) (room : Room z s) where
  -- Word c of place e of server i's log.
  pub place-encode : (i e c : ℕ) → i < z.n → e < z.l → c < width → get_or (encode z s) (place_at z i e + c) 0 ≡ get_or (places z.l (s.log i)) (e * width + c) 0
  unfolding place_at log_part
  place-encode i e c h l m =
      let at : place_at z i e + c ≡ log_at z i + (e * width + c) = omega arith in
      ap (λ k. get_or (encode z s) k 0) at
      ∙ (sym (get_or_part (encode z s) (log_at z i) (z.l * width) (e * width + c) 0 (cell l m))
      ∙ ap (λ (ws : List ℕ). get_or ws (e * width + c) 0) (log_part-encode z s room i h))

  -- Word c of slot k.
  slot-word : (k c : ℕ) → k < z.p → c < 2 * z.n + 2 → get_or (encode z s) (slot_at z k + c) 0 ≡ get_or (slot_words z.n (s.slot k)) c 0
  unfolding slot_part slot_width
  slot-word k c h l =
      sym (get_or_part (encode z s) (slot_at z k) (2 * z.n + 2) c 0 l) ∙ ap (λ (ws : List ℕ). get_or ws c 0) (slot_part-encode z s room k h)

  -- "0 for a closed slot"
  pub closed-encode : (k : ℕ) → k < z.p → s.slot k ≡ closed → get_or (encode z s) (guarantees_at z k) 0 ≡ 0
  unfolding guarantees_at slot_words
  closed-encode k h e =
      let at : guarantees_at z k ≡ slot_at z k + 0 = omega arith in
      ap (λ m. get_or (encode z s) m 0) at
      ∙ (slot-word k 0 h (omega arith) ∙ (ap (λ o. get_or (slot_words z.n o) 0 0) e ∙ get_or-replicate (2 * z.n + 2) 0 0 0 (omega arith)))

  module _ (k : ℕ) (h : k < z.p) (q : Session) (e : s.slot k ≡ opened q) where
    open-word : (c : ℕ) → c < 2 * z.n + 2 → get_or (encode z s) (slot_at z k + c) 0 ≡ get_or (slot_words z.n (opened q)) c 0
    open-word c l = slot-word k c h l ∙ ap (λ o. get_or (slot_words z.n o) c 0) e

    -- "chosen guarantees plus 1"
    pub guarantees-encode : get_or (encode z s) (guarantees_at z k) 0 ≡ suc q.guarantees
    unfolding guarantees_at
    guarantees-encode =
        let at : guarantees_at z k ≡ slot_at z k + 0 = omega arith in
        ap (λ m. get_or (encode z s) m 0) at ∙ (open-word 0 (omega arith) ∙ slot-guarantees z.n q)

    -- "last-used server plus 1 (0 for none)"
    pub last_used-encode : get_or (encode z s) (last_used_at z k) 0 ≡ q.last_used
    unfolding last_used_at
    last_used-encode = open-word 1 (omega arith) ∙ slot-last_used z.n q

    -- "read-vector (N), write-vector (N)"
    pub read-encode : (j : ℕ) → j < z.n → get_or (encode z s) (read_at z k j) 0 ≡ q.read_vector j
    unfolding read_at
    read-encode j l = open-word (2 + j) (omega arith) ∙ slot-read_vector z.n q j l

    pub write-encode : (j : ℕ) → j < z.n → get_or (encode z s) (write_at z k j) 0 ≡ q.write_vector j
    unfolding write_at
    write-encode j l = open-word (2 + z.n + j) (omega arith) ∙ slot-write_vector z.n q j l
