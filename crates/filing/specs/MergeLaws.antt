-- What holds of a merge from the back: how it begins, each write that moves to its place, and how it ends. Assumes nothing.
use Rattle.std.specs.Prelude.{ℕ, zero, suc, ◌+◌, ◌-◌, ◌*◌, ◌<◌, ◌≤◌, true, false, List, [], ◌∷◌, ◌++◌, ◌≡◌, refl, ltb, length, drop}
use Rattle.std.proofs.Common.{append-nil, append_assoc, sym, ◌∙◌, ap, subst, arith, ltb-true, lt-ltb, le-ltb}
use Rattle.std.proofs.Math.Path.{ap₂}
use Rattle.words.specs.Lists.{In}
use Rattle.words.specs.ListLaws.{in-nil}
use Rattle.words.specs.TestLaws.{and_left, and_right, and_both, true-not-false, not-true-false}
use Rattle.logs.specs.Write.{Write, before}
use Rattle.logs.specs.Log.{insert_all}
use Rattle.logs.specs.Ascending.{Ascending}
use Rattle.logs.specs.Places.{places, entry, entries}
use Rattle.logs.specs.EntryLaws.{put_at}
use Rattle.logs.proofs.EntryLaws.{entries-add, entries_next, entries-same, entries-held, length-put, take_put, drop-put, entries-put, places-grown}
use Rattle.logs.proofs.InsertLaws.{ascending-front, not-before-last, log-last, inserted-last}
use Rattle.filing.specs.Merge.{log_last, Merged, Merging}

-- ---- the first places without the last

-- The places up to the last, and that one.
pub entries-last : (i : ℕ) (ws : List ℕ) → 0 < i → entries i ws ≡ entries (i - 1) ws ++ (entry (drop ((i - 1) * 4) ws) ∷ [])
entries-last i ws h =
    let e : i ≡ i - 1 + 1 = omega arith in
    ap (λ n. entries n ws) e ∙ entries_next (i - 1) ws

-- Fewer places of a log in order are in order.
pub ascending-fewer : (i m : ℕ) (ws : List ℕ) → m ≤ i → Ascending (entries i ws) → Ascending (entries m ws)
ascending-fewer i m ws h a =
    let e : i ≡ m + (i - m) = omega arith in
    ascending-front (entries m ws) _ (subst Ascending (ap (λ n. entries n ws) e ∙ entries-add m (i - m) ws) a)

-- What is not before the last write of a log in order is before none.
pub before-none : (i : ℕ) (ws : List ℕ) (w : Write) → Ascending (entries i ws) → (0 < i → before w (entry (drop ((i - 1) * 4) ws)) ≡ false)
    → (y : Write) → In y (entries i ws) → before w y ≡ false
unfolding entries
before-none zero ws w a h y m = in-nil m
before-none (suc i) ws w a h y m =
    let all = entries-last (suc i) ws (omega arith) in
    not-before-last (entries (suc i - 1) ws) w _ (subst Ascending all a) (h (omega arith)) y (subst (In y) all m)

-- ---- what the test says

module _ (i : ℕ) (log : List ℕ) (w : Write) where
  -- With none of the log's left it fails.
  pub log_last-none : i ≡ 0 → log_last i log w ≡ false
  unfolding log_last
  log_last-none h = rw (le-ltb 0 i (omega arith))

  -- Else it compares with the log's last.
  pub log_last-compares : {x : Write} → 0 < i → x ≡ entry (drop ((i - 1) * 4) log) → before w x ≡ log_last i log w
  unfolding log_last
  log_last-compares h q = ap (before w) q ∙ rw (lt-ltb 0 i h)

  -- If it passes, there is a write of the log's, and w is before it.
  pub log_last-some : log_last i log w ≡ true → 0 < i
  unfolding log_last
  log_last-some h = ltb-true 0 i (and_left (ltb 0 i) _ h)

  pub log_last-true : log_last i log w ≡ true → before w (entry (drop ((i - 1) * 4) log)) ≡ true
  unfolding log_last
  log_last-true h = and_right (ltb 0 i) _ h

  -- If it fails, w is not before it.
  pub log_last-false : log_last i log w ≡ false → 0 < i → before w (entry (drop ((i - 1) * 4) log)) ≡ false
  unfolding log_last
  log_last-false h l = not-true-false _ (λ e. true-not-false (and_both (ltb 0 i) _ (lt-ltb 0 i l) e) h)

-- ---- one turn

module _ {whole : List Write} {n : ℕ} {log : List ℕ} {i : ℕ} {left : List Write} {j : ℕ} (so : Merged whole n log i left j) (room : i + j ≤ n) (fits : n * 4 ≤ length log) where
  -- A write that comes last of those left goes to the last place that is left.
  pub merged-put : (p q : ℕ) (others : List Write) (w : Write) → i + j ≡ suc (p + q) → p ≤ i → Ascending others
      → insert_all left (entries i log) ≡ insert_all others (entries p log) ++ (w ∷ [])
      → Merged whole n (put_at (p + q) log w) p others q
  merged-put p q others w one h ascending step =
      let there : (p + q) * 4 + 4 ≤ length log = omega arith in
      let same : entries p (put_at (p + q) log w) ≡ entries p log = entries-same p log (put_at (p + q) log w) (omega arith) (take_put (p + q) log w there p (omega arith)) in
      let more : n - (p + q) ≡ suc (n - (i + j)) = omega arith in
      record {
        in_log = subst Ascending (sym same) (ascending-fewer i p log h so.in_log);
        in_batch = ascending;
        merged =
            so.merged
            ∙ (ap (λ (g : List Write). g ++ entries (n - (i + j)) (drop ((i + j) * 4) log)) step
            ∙ (append_assoc (insert_all others (entries p log)) _ _
            ∙ ap₂ (λ (g rest : List Write). insert_all others g ++ rest) (sym same)
            (ap (λ m. w ∷ entries (n - (i + j)) (drop (m * 4) log)) one
            ∙ (sym (entries-put (p + q) log w there (n - (i + j))) ∙ ap (λ m. entries m (drop ((p + q) * 4) (put_at (p + q) log w))) (sym more)))));
      }

  module _ (others : List Write) (w : Write) (last : left ≡ others ++ (w ∷ [])) where
    -- The log's last write moves.
    pub merged-log : (x : Write) → log_last i log w ≡ true → x ≡ entry (drop ((i - 1) * 4) log) → Merged whole n (put_at (i - 1 + j) log x) (i - 1) left j
    merged-log x passes is =
        let some : 0 < i = log_last-some i log w passes in
        merged-put (i - 1) j left x (omega arith) (omega arith) so.in_batch (ap₂ insert_all last (entries-last i log some)
        ∙ (log-last others w (entries (i - 1) log) (subst Ascending last so.in_batch) _ (log_last-true i log w passes)
        ∙ ap₂ (λ (ws : List Write) v. insert_all ws (entries (i - 1) log) ++ (v ∷ [])) (sym last) (sym is)))

    -- The batch's last write goes over.
    pub merged-batch : (q : ℕ) → j ≡ suc q → log_last i log w ≡ false → Merged whole n (put_at (i + q) log w) i others q
    merged-batch q one fails =
        let ascending = subst Ascending last so.in_batch in
        merged-put i q others w (omega arith) (omega arith) (ascending-front others _ ascending) (ap (λ (ws : List Write). insert_all ws (entries i log)) last
        ∙ inserted-last others w (entries i log) ascending (before-none i log w so.in_log (log_last-false i log w fails)))

-- ---- begin and end

-- No write has moved yet.
pub merging_start : (log : List ℕ) (count : ℕ) (batch : List Write) (k : ℕ) → Merging log count batch k log count batch k
unfolding entries
merging_start log count batch k =
    let none : count + k - (count + k) ≡ 0 = omega arith in
    let whole = insert_all batch (entries count log) in
    record {
      of_log = omega arith;
      of_batch = omega arith;
      size = refl;
      behind = refl;
      in_order =
          λ a b. record {
            in_log = a;
            in_batch = b;
            merged = sym (ap (λ m. whole ++ entries m (drop ((count + k) * 4) log)) none ∙ append-nil whole);
          };
    }

-- No write of the batch is left.
pub merged-end : {whole : List Write} {n : ℕ} {log : List ℕ} {i : ℕ} {left : List Write} {j : ℕ} → Merged whole n log i left j → left ≡ [] → j ≡ 0 → i ≤ n
    → whole ≡ entries n log
unfolding insert_all
merged-end {n = n} {log = log} {i = i} {left = left} {j = j} so none h room =
    let at : i + j ≡ i = omega arith in
    let all : i + (n - i) ≡ n = omega arith in
    so.merged
    ∙ (ap (λ (ws : List Write). insert_all ws (entries i log) ++ entries (n - (i + j)) (drop ((i + j) * 4) log)) none
    ∙ (ap (λ m. entries i log ++ entries (n - m) (drop (m * 4) log)) at ∙ (sym (entries-add i (n - i) log) ∙ ap (λ m. entries m log) all)))

module _ {old : List ℕ} {count : ℕ} {batch : List Write} {k : ℕ} {log : List ℕ} {i : ℕ} {left : List Write} {j : ℕ} (so : Merging old count batch k log i left j) where
  -- The log's places hold the batch's writes too, each at its place.
  pub merging-end : left ≡ [] → j ≡ 0 → (l : ℕ) (g : List Write) → old ≡ places l g → length g ≡ count → count + k ≤ l → Ascending g → Ascending batch
      → log ≡ places l (insert_all batch g)
  merging-end none h l g held e room a b =
      let same : entries count old ≡ g = entries-held l g held e in
      let all = merged-end (so.in_order (subst Ascending (sym same) a) b) none h (omega (arith, so.of_log)) in
      places-grown l g (count + k) held (omega arith) room so.size so.behind
      ∙ ap (places l) (sym all ∙ ap (insert_all batch) same)

  module _ (fits : (count + k) * 4 ≤ length old) where
    -- A write goes to the last place that is left.
    pub merging-put : (p q : ℕ) (others : List Write) (w : Write) {after : List ℕ} → i + j ≡ suc (p + q) → p ≤ i → q ≤ j → after ≡ put_at (p + q) log w
        → ((whole : List Write) → Merged whole (count + k) log i left j → Merged whole (count + k) (put_at (p + q) log w) p others q)
        → Merging old count batch k after p others q
    merging-put p q others w {after} one h l put turn =
        let there : (p + q) * 4 + 4 ≤ length log = omega (arith, so.of_log, so.of_batch, so.size) in
        subst (λ (r : List ℕ). Merging old count batch k r p others q) (sym put) (record {
          of_log = omega (arith, so.of_log);
          of_batch = omega (arith, so.of_batch);
          size = length-put (p + q) log w there ∙ so.size;
          behind = drop-put (p + q) log w there (count + k) (omega (arith, so.of_log, so.of_batch)) ∙ so.behind;
          in_order = λ a b. turn _ (so.in_order a b);
        })

    module _ (others : List Write) (w : Write) (last : left ≡ others ++ (w ∷ [])) where
      -- The log's last write moves.
      pub merging-log : (x : Write) {after : List ℕ} → log_last i log w ≡ true → x ≡ entry (drop ((i - 1) * 4) log)
          → after ≡ put_at (i - 1 + j) log x
          → Merging old count batch k after (i - 1) left j
      merging-log x passes is put =
          merging-put (i - 1) j left x (omega (arith, log_last-some i log w passes)) (omega arith) (omega arith) put
          (λ whole m. merged-log m (omega (arith, so.of_log, so.of_batch)) (omega (arith, so.size)) others w last x passes is)

      -- The batch's last write goes over.
      pub merging-batch : (q : ℕ) {after : List ℕ} → j ≡ suc q → log_last i log w ≡ false → after ≡ put_at (i + q) log w
          → Merging old count batch k after i others q
      merging-batch q one fails put =
          merging-put i q others w (omega arith) (omega arith) (omega arith) put
          (λ whole m. merged-batch m (omega (arith, so.of_log, so.of_batch)) (omega (arith, so.size)) others w last q one fails)
