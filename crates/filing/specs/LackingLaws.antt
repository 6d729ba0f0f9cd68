-- What a server lacks of a log's first places, by the log's words: SendingLaws says it of places that are lent one by one. Assumes nothing.
use Rattle.std.specs.Prelude.{ℕ, ◌+◌, ◌-◌, ◌*◌, ◌≤◌, ◌≡◌, length, take, drop, List, [], ◌∷◌, ◌++◌}
use Rattle.std.proofs.Math.Path.{sym, ap}
use Rattle.std.proofs.Common.{◌∙◌, ap₂, arith, length-append, take_at}
use Rattle.logs.specs.Write.{Write}
use Rattle.logs.specs.Log.{lacking}
use Rattle.logs.specs.Places.{entry, entries}
use Rattle.logs.proofs.PlacesLaws.{length-entries}
use Rattle.logs.proofs.EntryLaws.{entries-add, entries_next}
use Rattle.filing.specs.SendingLaws.{lacking-append}

module _ (v : ℕ → ℕ) (e : ℕ) (log : List ℕ) where
  -- One place more.
  pub lacking-next : (w : Write) {sent after : List Write} → sent ≡ lacking v (entries e log) → w ≡ entry (drop (e * 4) log)
      → after ≡ sent ++ lacking v (w ∷ [])
      → after ≡ lacking v (entries (e + 1) log)
  lacking-next w so is turn =
      turn ∙ (ap₂ (λ (front : List Write) x. front ++ lacking v (x ∷ [])) so is
      ∙ (sym (lacking-append v (entries e log) _) ∙ ap (lacking v) (sym (entries_next e log))))

  module _ (count k : ℕ) (batch : List ℕ) (h : e ≤ count) (so : entries k batch ≡ lacking v (entries e log)) where
    -- What it lacks of the first e places comes first of what it lacks of all.
    pub lacking-front : lacking v (entries count log) ≡ entries k batch ++ lacking v (entries (count - e) (drop (e * 4) log))
    lacking-front =
        let all : count ≡ e + (count - e) = omega arith in
        ap (λ n. lacking v (entries n log)) all
        ∙ (ap (lacking v) (entries-add e (count - e) log)
        ∙ (lacking-append v (entries e log) _ ∙ ap (λ (g : List Write). g ++ lacking v (entries (count - e) (drop (e * 4) log))) (sym so)))

    -- As many writes of it as the batch has are the batch's.
    pub lacking-take : entries k batch ≡ take k (lacking v (entries count log))
    lacking-take = sym (ap (take k) lacking-front ∙ take_at (entries k batch) _ k (length-entries k batch))

    -- There are at least as many.
    pub lacking-least : k ≤ length (lacking v (entries count log))
    lacking-least =
        omega (arith, ap length lacking-front, length-entries k batch, length-append (entries k batch) (lacking v (entries (count - e) (drop (e * 4) log))))

    -- With no place left there are no more.
    pub lacking-all : e ≡ count → k ≡ length (lacking v (entries count log))
    lacking-all all = sym (length-entries k batch) ∙ (ap length so ∙ ap (λ n. length (lacking v (entries n log))) all)
