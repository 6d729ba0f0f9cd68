-- How one server's log may grow in a sound state. That the state is sound then stands in proofs/Growth.antt. Assumes nothing.
use Rattle.std.specs.Prelude.{List, ◌⊎◌, ◌≡◌, ℕ, suc, ◌<◌, ◌≤◌}
use Rattle.std.proofs.Math.ListN.{length}
use Rattle.words.specs.Lists.{In}
use Rattle.logs.specs.Write.{Write}
use Rattle.logs.specs.Ascending.{Ascending}
use Rattle.logs.specs.Witness.{Witness, Timed}
use Rattle.tables.specs.Size.{Size, items}
use Rattle.tables.specs.State.{State}

-- Server t's log becomes g and its vector v; `news` are the writes that came.
pub record Grows (z : Size) (s : State) (t : ℕ) (news g : List Write) (v : ℕ → ℕ) : Type 0 where
  pub server : t < z.n
  pub fits : length g ≤ z.l
  pub ordered : Ascending g
  -- the new log holds what it held and what came, and nothing else
  pub old : (w : Write) → In w (s.log t) → In w g
  pub new : (w : Write) → In w news → In w g
  pub only : (w : Write) → In w g → In w news ⊎ In w (s.log t)
  -- what came is in range, leaves no gap, and stands at home or is made here with a new clock
  pub new_origin : (w : Write) → In w news → w.origin < z.n
  pub new_item : (w : Write) → In w news → w.item < items
  pub new_started : (w : Write) → In w news → 1 ≤ w.clock
  pub new_gapless : (w : Write) → In w news → (c : ℕ) → w.clock ≡ suc (suc c) → Timed g (suc c)
  pub new_home : (w : Write) → In w news → (w.origin ≡ t) ⊎ In w (s.log w.origin)
  pub new_own : (w : Write) → In w news → w.origin ≡ t → s.vector t t < w.clock
  -- the vector follows
  pub above : (j : ℕ) → s.vector t j ≤ v j
  pub new_covered : (w : Write) → In w news → w.clock ≤ v w.origin
  pub followed : (j : ℕ) → (v j ≡ s.vector t j) ⊎ Witness news j (v j)
  -- and covers no write that is not there
  pub fetched : (w : Write) → (w.origin ≡ t → ⊥) → In w (s.log w.origin) → w.clock ≤ v w.origin → In w g
