-- What a read makes of a table's words, one after another: those that the rules say. Assumes nothing.
use Rattle.std.specs.Prelude.{ℕ, suc, ◌+◌, ◌-◌, ◌<◌, ◌≤◌, ◌≡◌, length, take, drop, List, ◌++◌}
use Rattle.std.proofs.Math.Option.{Option, some}
use Rattle.std.proofs.Math.Path.{refl, ap, ap₂}
use Rattle.std.proofs.Common.{◌∙◌, add-one, sym, arith, take_at}
use Rattle.std.proofs.lemmas.List.{take-take, drop-take}
use Rattle.std.proofs.Math.ListN.{set}
use Rattle.words.specs.Lists.{row, part, splice}
use Rattle.words.specs.BlockLaws.{rows}
use Rattle.words.specs.SpanLaws.{span}
use Rattle.words.specs.PartLaws.{length_part}
use Rattle.words.specs.RowLaws.{length-row}
use Rattle.vectors.specs.Vector.{vector_of, join}
use Rattle.vectors.specs.VectorLaws.{join-held}
use Rattle.logs.specs.Write.{Write}
use Rattle.logs.specs.Log.{last_on}
use Rattle.std.specs.Prelude as std
use Rattle.std.specs.Prelude.{Some, None}
use Rattle.std.specs.Option.{UnwrapsOrElse}
use Rattle.logs.specs.declared.Entry.{Entry}
use Rattle.filing.specs.Found.{last_of}
use Rattle.tables.specs.Size.{Size}
use Rattle.tables.specs.Layout.{vector_at, last_used_at, read_at, slot_at, decode}
use Rattle.tables.proofs.LaidLaws.{length-vector}
use Rattle.tables.proofs.ViewLaws.{room-view, vector-view, read_view}
use Rattle.choice.specs.Outcome.{Asking, session_in}
use Rattle.rules.specs.Step.{Answer}
use Rattle.rules.specs.Rules.{read_answer, read_from}
use Rattle.kinds.specs.Obeys.{Came}
use Rattle.serving.specs.ChangeLaws.{read-stores}
use Rattle.kinds.specs.CameLaws.{came}

-- What is answered of the last write on an item, and of an item with none: zeros.
pub shown-is : (i : ℕ) (Zeros : Entry → Type 0) → ((w : Entry) → Zeros w → (w.origin ≡ 0) × ((w.clock ≡ 0) × (w.value ≡ 0)))
    → (last : std.Option Entry) (w : Entry) → UnwrapsOrElse last Zeros w
    → record { code = 0; server = i; origin = w.origin; clock = w.clock; value = w.value } ≡ read_answer i (last_of last)
unfolding read_answer last_of
shown-is i Zeros zeros None w is =
    let all = zeros w is in
    λ e. record { code = 0; server = i; origin = all.0 e; clock = all.1.0 e; value = all.1.1 e }
shown-is i Zeros zeros (Some last) w is = ap (λ (x : Entry). record { code = 0; server = i; origin = x.origin; clock = x.clock; value = x.value }) is

-- Server i's vector ends before slot k's read-vector begins.
pub vector-before : (z : Size) (i k : ℕ) → i < z.n → vector_at z i 0 + z.n ≤ read_at z k 0
unfolding vector_at read_at slot_at
vector-before z i k h = omega (arith, rows (z.n + 1) h)

-- A part of a list's front.
part-front : (xs : List ℕ) (m a k : ℕ) → a + k ≤ m → part (take m xs) a k ≡ part xs a k
unfolding part
part-front xs m a k h =
    let rest : m ≡ a + (m - a) = omega (arith, h) in
    ap (λ (y : ℕ). take k (drop a (take y xs))) rest ∙ (ap (take k) (drop-take a (m - a) xs) ∙ take-take k (m - a) (drop a xs) (omega (arith, h)))

-- Words cut in two, where the first ones of the second part are raised by some of the first part.
pub part-raised : (t : List ℕ) {front back left : List ℕ} (n at from : ℕ) → from + n ≤ at → at + n ≤ length t → front ≡ take at t → back ≡ drop at t
    → left ≡ row (length (take n back)) (join (vector_of (take n back)) (vector_of (take (from + n - from) (drop from front))))
    → front ++ (left ++ drop n back) ≡ splice at n t (row n (join (vector_of (part t at n)) (vector_of (part t from n))))
unfolding part splice
part-raised t {front} {back} {left} n at from before inside first second raised =
    let lent : take (from + n - from) (drop from front) ≡ part t from n =
    span front n refl refl ∙ (ap (λ (ws : List ℕ). part ws from n) first ∙ part-front t at from n before) in
    let joined = λ (m : ℕ) (a b : List ℕ). row m (join (vector_of a) (vector_of b)) in
    let so : left ≡ joined n (part t at n) (part t from n) =
    raised ∙ (ap₂ (λ (a b : List ℕ). joined (length a) a b) (ap (take n) second) lent ∙ ap (λ (m : ℕ). joined m (part t at n) (part t from n)) (length_part t at n inside)) in
    ap₂ (λ (f b : List ℕ). f ++ (left ++ drop n b)) first second ∙ ap (λ (ws : List ℕ). take at t ++ (ws ++ drop n (drop at t))) so

module _ {z : Size} {t : List ℕ} {k : ℕ} (asking : Asking z t k) (i : ℕ) (h : i < z.n) where
  -- The front of a buffer to which the server's vector was copied.
  pub vector-copied : {vector copied : List ℕ} (rest : List ℕ) → vector ≡ part t (vector_at z i 0) z.n → copied ≡ vector ++ rest
      → take z.n copied ≡ row z.n ((decode z t).vector i)
  vector-copied {vector} rest is so =
      ap (take z.n) so ∙ (take_at vector rest z.n (length-vector asking.means i h is) ∙ (is ∙ vector-view asking.means i h))

  -- The session's read-vector, raised by the server's vector.
  pub read-raised : {left : List ℕ} {at from : ℕ} → at ≡ read_at z k 0 → from ≡ vector_at z i 0
      → left ≡ splice at z.n t (row z.n (join (vector_of (part t at z.n)) (vector_of (part t from z.n))))
      → left ≡ splice (read_at z k 0) z.n t (row z.n (join (session_in z t k).read_vector ((decode z t).vector i)))
  read-raised {left} {at} {from} begins starts raised =
      let q = session_in z t k in
      let joined = λ (m : ℕ) (a b : List ℕ). row m (join (vector_of a) (vector_of b)) in
      raised
      ∙ (ap₂ (λ (a b : ℕ). splice a z.n t (joined z.n (part t a z.n) (part t b z.n))) begins starts
      ∙ ap (λ (ws : List ℕ). splice (read_at z k 0) z.n t ws) (ap₂ (joined z.n) (read_view asking.means k asking.below q asking.is_open) (vector-view asking.means i h)
      ∙ (ap (λ (m : ℕ). joined m (row z.n q.read_vector) (row z.n ((decode z t).vector i))) (sym (length-row z.n q.read_vector))
      ∙ join-held z.n q.read_vector ((decode z t).vector i))))

  -- 01, "Read": the last write on the item in the server's log is answered, the read-vector is raised, and the server is the last used.
  pub read_done : (item : ℕ) {r : Answer} {found : Option Write} {log : List Write} {at : ℕ} {raised : List ℕ}
      → log ≡ (decode z t).log i → found ≡ last_on item log → r ≡ read_answer i found
      → raised ≡ splice (read_at z k 0) z.n t (row z.n (join (session_in z t k).read_vector ((decode z t).vector i)))
      → at ≡ last_used_at z k
      → Came z (read_from (decode z t) k item (session_in z t k) (some i)) r (set raised at (i + 1))
  unfolding read_from
  read_done item {raised = raised} writes last answer raises at_last =
      let s = decode z t in
      let q = session_in z t k in
      let old = ap (λ (ws : List ℕ). splice (read_at z k 0) z.n ws (row z.n (join q.read_vector (s.vector i)))) asking.means.words in
      came refl (answer ∙ ap (read_answer i) (last ∙ ap (last_on item) writes))
      (ap₂ (set raised) at_last (add-one i)
      ∙ (ap (λ (ws : List ℕ). set ws (last_used_at z k) (suc i)) (raises ∙ old) ∙ read-stores z s (room-view asking.means) k asking.below q asking.is_open i))
