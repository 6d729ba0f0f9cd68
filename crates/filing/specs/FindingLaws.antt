-- The last write on an item is the first on it from the back. Assumes nothing.
use Rattle.std.specs.Prelude.{ℕ, suc, ◌-◌, ◌*◌, ◌<◌, ◌≤◌, Bool, true, false, cond, List, [], ◌∷◌, ◌++◌, ◌≡◌, refl, eqb, drop, reverse, map}
use Rattle.std.specs.Prelude
use Rattle.std.specs.Prelude.{Some, None}
use Rattle.std.specs.List.{find}
use Rattle.std.specs.Option.{option_map}
use Rattle.std.proofs.Math.Option.{Option, none, some}
use Rattle.std.proofs.Common.{sym, ◌∙◌, ap, add-one, arith, eq-eqb, ne_eqb}
use Rattle.std.proofs.lemmas.List.{reverse-append, map-append}
use Rattle.words.specs.Lists.{or_else}
use Rattle.words.specs.TestLaws.{cond-true, cond-false}
use Rattle.logs.specs.Write.{Write}
use Rattle.logs.specs.Log.{last_on}
use Rattle.logs.specs.Places.{width, write_in, entry, entries}
use Rattle.logs.proofs.EntryLaws.{entries_next}
use Rattle.logs.specs.Stored.{write_of}
use Rattle.logs.specs.declared.Entry.{Entry}
use Rattle.filing.specs.Found.{last_of}

-- One place more is one write more at the end.
pub entries-snoc : (e : ℕ) (ws : List ℕ) → entries (suc e) ws ≡ entries e ws ++ (entry (drop (e * 4) ws) ∷ [])
entries-snoc e ws = ap (λ (k : ℕ). entries k ws) (sym (add-one e)) ∙ entries_next e ws

-- The last write is the one found if it is on the item, and else the others say which is.
pub last_snoc : (item : ℕ) (g : List Write) (w : Write) → last_on item (g ++ (w ∷ [])) ≡ cond (eqb w.item item) (some w) (last_on item g)
unfolding last_on or_else
last_snoc item [] w = refl
last_snoc item (x ∷ g) w =
    ap (λ (o : Option Write). or_else o (cond (eqb x.item item) (some x) none)) (last_snoc item g w) ∙ over (eqb w.item item)
  where
    over : (t : Bool) → or_else (cond t (some w) (last_on item g)) (cond (eqb x.item item) (some x) none)
        ≡ cond t (some w) (or_else (last_on item g) (cond (eqb x.item item) (some x) none))
    over true = refl
    over false = refl

-- A walk from the back, at the write in front of place e.
module _ (item e : ℕ) (ws : List ℕ) {found : Option Write} {w : Write} (some_left : 0 < e) (read : w ≡ entry (drop ((e - 1) * width) ws))
    (so : found ≡ last_on item (entries e ws)) where
  last_turn : found ≡ cond (eqb w.item item) (some w) (last_on item (entries (e - 1) ws))
  last_turn =
      let at : e ≡ suc (e - 1) = omega arith in
      so ∙ ap (λ (k : ℕ). last_on item (entries k ws)) at ∙ ap (last_on item) (entries-snoc (e - 1) ws)
      ∙ ap (λ (v : Write). last_on item (entries (e - 1) ws ++ (v ∷ []))) (sym read) ∙ last_snoc item (entries (e - 1) ws) w

  -- It is on the item.
  pub last_found : w.item ≡ item → found ≡ some w
  last_found is = last_turn ∙ cond-true (eqb w.item item) _ _ (eq-eqb w.item item is)

  -- It is not.
  pub last-passed : (w.item ≡ item → ⊥) → found ≡ last_on item (entries (e - 1) ws)
  last-passed not = last_turn ∙ cond-false (eqb w.item item) _ _ (ne_eqb w.item item not)

-- No write is left.
pub last_none : (item e : ℕ) (ws : List ℕ) {found : Option Write} → e ≤ 0 → found ≡ last_on item (entries e ws) → found ≡ none
unfolding entries last_on
last_none item e ws none_left so =
    let at : e ≡ 0 = omega arith in
    so ∙ ap (λ (k : ℕ). last_on item (entries k ws)) at

-- ---- the whole search, by places

-- A write of the code's own kind of option.
abbrev found : Prelude.Option Write → Option Write
found None = none
found (Some w) = some w

-- The first on the item, of the writes from the back.
found-back : (item : ℕ) (h : List Write) → found (find (λ w. eqb w.item item) h) ≡ last_on item (reverse h)
unfolding last_on
found-back item [] = refl
found-back item (w ∷ h) =
    over (found-back item h) (eqb w.item item) ∙ sym (ap (last_on item) (reverse-append (w ∷ []) h) ∙ last_snoc item (reverse h) w)
  where
    over : found (find (λ x. eqb x.item item) h) ≡ last_on item (reverse h) → (t : Bool)
        → found (cond t (Some w) (find (λ x. eqb x.item item) h)) ≡ cond t (some w) (last_on item (reverse h))
    over so true = refl
    over so false = so

-- What is said from the back is what is said, from the back.
map-back : (ps : List (List ℕ)) → reverse (map write_in (reverse ps)) ≡ map write_in ps
map-back [] = refl
map-back (p ∷ ps) =
    ap (λ (r : List (List ℕ)). reverse (map write_in r)) (reverse-append (p ∷ []) ps)
    ∙ (ap (reverse {A = Write}) (map-append write_in (reverse ps) (p ∷ []))
    ∙ (reverse-append (map write_in (reverse ps)) (write_in p ∷ []) ∙ ap {B = List Write} (λ g. write_in p ∷ g) (map-back ps)))

-- What a search from the back finds is the last.
pub last_searched : (item : ℕ) (ps : List (List ℕ)) (o : Prelude.Option Entry) → option_map write_of o ≡ find (λ w. eqb w.item item) (map write_in (reverse ps))
    → last_of o ≡ last_on item (map write_in ps)
unfolding last_of
last_searched item ps o is = over o ∙ (ap found is ∙ (found-back item (map write_in (reverse ps)) ∙ ap (last_on item) (map-back ps)))
  where
    over : (o : Prelude.Option Entry) → last_of o ≡ found (option_map write_of o)
    over None = refl
    over (Some e) = refl
