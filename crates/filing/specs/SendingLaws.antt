-- What holds of a vector that follows one write more, and of what a server lacks of a log's first places. Assumes nothing.
use Rattle.std.specs.Prelude.{ℕ, suc, ◌+◌, ◌-◌, ◌*◌, ◌<◌, ◌≤◌, ◌≡◌, refl, ltb, length, get_or, set, take, drop, map, List, [], ◌∷◌, ◌++◌}
use Rattle.std.proofs.Math.Path.{sym, ap}
use Rattle.std.proofs.Common.{◌∙◌, subst, arith, lt-ltb, le-ltb, length-append, take_at, take_all, take-append-drop, append-nil, ap₂}
use Rattle.std.proofs.lemmas.List.{map-append}
use Rattle.words.specs.Lists.{In, here, keep, row, upd}
use Rattle.words.specs.ListLaws.{in_append_right}
use Rattle.words.specs.KeepLaws.{keep_append}
use Rattle.words.specs.SetLaws.{set-row}
use Rattle.words.specs.TestLaws.{cond-true, cond-false}
use Rattle.logs.specs.Write.{Write}
use Rattle.logs.specs.Log.{lacking, follow}
use Rattle.logs.specs.Places.{write_in, entry, entries}
use Rattle.logs.specs.Stored.{write_of}
use Rattle.logs.proofs.EntryLaws.{entries-add, entries_next}
use Rattle.logs.proofs.SaidLaws.{said-next}
use Rattle.logs.specs.declared.Entry.{Entry}

-- What holds of the origins of a log's first places holds of the origin in each.
pub origin-below : {n : ℕ} (e count : ℕ) (ws : List ℕ) (w : Write) → ((x : Write) → In x (entries count ws) → x.origin < n) → e < count
    → w ≡ entry (drop (e * 4) ws)
    → w.origin < n
unfolding entries
origin-below {n} e count ws w h l is =
    let more : count ≡ e + suc (count - suc e) = omega arith in
    let all = ap (λ m. entries m ws) more ∙ entries-add e (suc (count - suc e)) ws in
    let held = subst (λ (g : List Write). In (entry (drop (e * 4) ws)) g) (sym all) (in_append_right (entries e ws) (here refl)) in
    subst (λ (x : Write). x.origin < n) (sym is) (h (entry (drop (e * 4) ws)) held)

-- ---- a vector that follows

-- One write more at the end.
pub follow-snoc : (ws : List Write) (w : Write) (v : ℕ → ℕ) → follow (ws ++ (w ∷ [])) v ≡ upd (follow ws v) w.origin w.clock
unfolding follow
follow-snoc [] w v = refl
follow-snoc (x ∷ ws) w v = follow-snoc ws w (upd v x.origin x.clock)

-- One write more, as its clock is stored in a vector's words. Of its origin alone it is asked that the vector has that component.
follow-more : (n : ℕ) (passed : List Write) (w : Write) (v : ℕ → ℕ) {vector : List ℕ} {more : List Write} → w.origin < n → vector ≡ row n (follow passed v)
    → more ≡ passed ++ (w ∷ [])
    → set vector w.origin w.clock ≡ row n (follow more v)
follow-more n passed w v h so is =
    ap (λ (r : List ℕ). set r w.origin w.clock) so
    ∙ (set-row n (follow passed v) w.origin w.clock h ∙ ap (row n) (sym (follow-snoc passed w v) ∙ ap (λ (g : List Write). follow g v) (sym is)))

-- Of a log's words, one place more.
pub follow-next : (n e : ℕ) (batch : List ℕ) (v : ℕ → ℕ) (w : Write) {vector : List ℕ} → w.origin < n
    → vector ≡ row n (follow (entries e batch) v)
    → w ≡ entry (drop (e * 4) batch)
    → set vector w.origin w.clock ≡ row n (follow (entries (e + 1) batch) v)
follow-next n e batch v w h so is =
    follow-more n (entries e batch) w v h so (entries_next e batch ∙ ap (λ x. entries e batch ++ (x ∷ [])) (sym is))

-- One entry more.
pub follow-entry : (n : ℕ) (batch : List Entry) (e : ℕ) (d : Entry) (v : ℕ → ℕ) {vector : List ℕ} → e < length batch → (get_or batch e d).origin < n
    → vector ≡ row n (follow (map write_of (take e batch)) v)
    → set vector (get_or batch e d).origin (get_or batch e d).clock ≡ row n (follow (map write_of (take (e + 1) batch)) v)
follow-entry n batch e d v h below so = follow-more n _ (write_of (get_or batch e d)) v below so (said-next write_of batch e d h)

-- ---- what a server lacks

-- Of two logs put together: what it lacks of the first, then of the second.
pub lacking-append : (v : ℕ → ℕ) (g h : List Write) → lacking v (g ++ h) ≡ lacking v g ++ lacking v h
unfolding lacking
lacking-append v g h = keep_append (λ w. ltb (v w.origin) w.clock) g h

module _ (v : ℕ → ℕ) (w : Write) (front : List Write) where
  -- A write that it lacks comes behind the others.
  pub lacking-one : v w.origin < w.clock → front ++ (w ∷ []) ≡ front ++ lacking v (w ∷ [])
  unfolding lacking keep
  lacking-one h = ap (λ (last : List Write). front ++ last) (sym (cond-true (ltb (v w.origin) w.clock) _ _ (lt-ltb _ _ h)))

  -- One that it has adds nothing.
  pub lacking-none : w.clock ≤ v w.origin → front ≡ front ++ lacking v (w ∷ [])
  unfolding lacking keep
  lacking-none h =
      sym (ap (λ (last : List Write). front ++ last) (cond-false (ltb (v w.origin) w.clock) _ _ (le-ltb _ _ h)) ∙ append-nil front)

-- A loop over a log's places has come to place e, and has sent these.
module _ (v : ℕ → ℕ) (ps : List (List ℕ)) (e : ℕ) (sent : List Write) (so : sent ≡ lacking v (map write_in (take e ps))) where
  module _ (h : e < length ps) (d : List ℕ) (w : Write) (is : w ≡ write_in (get_or ps e d)) where
    pub lacking-next : lacking v (map write_in (take (e + 1) ps)) ≡ sent ++ lacking v (w ∷ [])
    lacking-next =
        ap (lacking v) (said-next write_in ps e d h)
        ∙ (lacking-append v (map write_in (take e ps)) _ ∙ ap₂ (λ (front : List Write) x. front ++ lacking v (x ∷ [])) (sym so) (sym is))

    -- A write that the server lacks comes behind the others.
    pub lacking-sent : v w.origin < w.clock → sent ++ (w ∷ []) ≡ lacking v (map write_in (take (e + 1) ps))
    lacking-sent l = lacking-one v w sent l ∙ sym lacking-next

    -- One that it has adds nothing.
    pub lacking-passed : w.clock ≤ v w.origin → sent ≡ lacking v (map write_in (take (e + 1) ps))
    lacking-passed l = lacking-none v w sent l ∙ sym lacking-next

  -- What it lacks of the first places comes first of what it lacks of all.
  pub lacking-front : lacking v (map write_in ps) ≡ sent ++ lacking v (map write_in (drop e ps))
  lacking-front =
      ap (λ r. lacking v (map write_in r)) (sym (take-append-drop e ps))
      ∙ (ap (lacking v) (map-append write_in (take e ps) (drop e ps))
      ∙ (lacking-append v (map write_in (take e ps)) _ ∙ ap (λ (g : List Write). g ++ lacking v (map write_in (drop e ps))) (sym so)))

  -- As many writes of it as were sent are those.
  pub lacking-take : (k : ℕ) → length sent ≡ k → sent ≡ take k (lacking v (map write_in ps))
  lacking-take k many = sym (ap (take k) lacking-front ∙ take_at sent _ k many)

  -- There are at least as many.
  pub lacking-least : length sent ≤ length (lacking v (map write_in ps))
  lacking-least = omega (arith, ap length lacking-front, length-append sent (lacking v (map write_in (drop e ps))))

  -- With no place left there are no more.
  pub lacking-all : length ps ≤ e → length sent ≡ length (lacking v (map write_in ps))
  lacking-all all = ap length so ∙ ap (λ r. length (lacking v (map write_in r))) (take_all e ps all)
