-- What the tests of the rules c, d and e come to, as the code makes them. Assumes nothing.
use Rattle.std.specs.Prelude.{Bool, true, false, Some, None, cond, ◌&&◌, ◌||◌, ◌≡◌, refl, ℕ, suc, max, ◌+◌, ◌-◌, ◌<◌, ◌≤◌, List, [], ◌∷◌, length, get_or, take, drop, map, eqb, leb}
use Rattle.std.specs.Prelude
use Rattle.std.specs.Iterator.{AlwaysYields, YieldsThen, ComparesItemsByEq}
use Rattle.std.specs.List.{filter, fold, reduce, AllZip}
use Rattle.std.specs.Option.{unwrap_or, MatchOption, IfSome}
use Rattle.std.proofs.Math.Bool.{and_assoc}
use Rattle.std.proofs.Math.Logic.{⊎_elim}
use Rattle.std.proofs.Math.Path.{sym, ap, ap₂, subst}
use Rattle.std.proofs.Common.{◌∙◌, arith, eq-eqb, eqb-true, leb-true, le-leb, length-drop, take_all}
use Rattle.std.proofs.lemmas.Bool.{eqb-false}
use Rattle.std.proofs.lemmas.Iterator.{YieldsList}
use Rattle.words.specs.Lists.{keep}
use Rattle.words.specs.TestLaws.{same_test, either, or_cases, or_left, or_right}
use Rattle.logs.specs.Write.{Write, before, same}
use Rattle.logs.specs.LogTests.{in_range, goes_on, ordered, of_origin, up_to, greatest_clock, greatest_of, same_all, agrees}
use Rattle.logs.specs.Places.{write_in}
use Rattle.logs.proofs.SaidLaws.{said-from, said-past, said-none}
use Rattle.checks.specs.WalkLaws.{goes-cons}

-- ---- what passes a test, in the library's words

-- Those of one origin.
pub filter-origin : (j : ℕ) (g : List Write) → filter (λ w. eqb w.origin j) g ≡ of_origin j g
unfolding of_origin keep
filter-origin j [] = refl
filter-origin j (w ∷ g) = ap (λ r. cond (eqb w.origin j) (w ∷ r) r) (filter-origin j g)

-- Those of one origin up to a clock.
pub filter-up_to : (j c : ℕ) (g : List Write) → filter (λ w. eqb w.origin j && leb w.clock c) g ≡ up_to c (of_origin j g)
unfolding of_origin up_to keep
filter-up_to j c [] = refl
filter-up_to j c (w ∷ g) = over (filter-up_to j c g) (eqb w.origin j)
  where
    over : filter (λ x. eqb x.origin j && leb x.clock c) g ≡ keep (λ x. leb x.clock c) (keep (λ x. eqb x.origin j) g) → (t : Bool)
        → cond (t && leb w.clock c) (w ∷ filter (λ x. eqb x.origin j && leb x.clock c) g) (filter (λ x. eqb x.origin j && leb x.clock c) g)
        ≡ keep (λ x. leb x.clock c) (cond t (w ∷ keep (λ x. eqb x.origin j) g) (keep (λ x. eqb x.origin j) g))
    over so true = ap (λ r. cond (leb w.clock c) (w ∷ r) r) so
    over so false = so

-- ---- rule d

-- The greatest clock of a log's writes and one clock more.
greatest-fold : (m : ℕ) (g : List Write) → fold max m (map (λ w. w.clock) g) ≡ max m (greatest_clock g)
unfolding greatest_clock
greatest-fold m [] = omega arith
greatest-fold m (w ∷ g) = omega (arith, greatest-fold (max m w.clock) g)

-- The greatest clock, or 0.
greatest-most : (g : List Write) → unwrap_or (reduce max (map (λ w. w.clock) g)) 0 ≡ greatest_clock g
unfolding greatest_clock
greatest-most [] = refl
greatest-most (w ∷ g) = greatest-fold w.clock g

pub greatest-chain : (j : ℕ) (g : List Write) → unwrap_or (reduce max (map (λ w. w.clock) (filter (λ w. eqb w.origin j) g))) 0 ≡ greatest_of j g
unfolding greatest_of
greatest-chain j g = greatest-most (filter (λ w. eqb w.origin j) g) ∙ ap greatest_clock (filter-origin j g)

-- ---- rule c

-- Clocks of which the second is not less: they are the same, or one apart.
pub clocks-near : (a b : ℕ) → a ≤ b → leb (b - a) 1 ≡ (eqb b a || eqb b (suc a))
clocks-near a b h =
    same_test (leb (b - a) 1) (eqb b a || eqb b (suc a)) (λ t. ⊎_elim (λ e. or_left (eqb b a) _ e)
    (λ e. or_right (eqb b a) _ (eq-eqb b (suc a) (omega (arith, leb-true (b - a) 1 t, eqb-false b a e)))) (either (eqb b a)))
    (λ t. le-leb (b - a) 1 (⊎_elim (λ e. omega (arith, eqb-true b a e)) (λ e. omega (arith, eqb-true b (suc a) e)) (or_cases (eqb b a) (eqb b (suc a)) t)))

module _ (n items : ℕ) where
  -- One write by itself.
  pub goes_one : (w x : Write) → (in_range n items x && (before w x && (eqb x.clock w.clock || eqb x.clock (suc w.clock)))) ≡ goes_on n items w (x ∷ [])
  unfolding goes_on
  goes_one w x = ap (λ t. in_range n items x && (before w x && t)) (and-end (eqb x.clock w.clock || eqb x.clock (suc w.clock)))
    where
      and-end : (t : Bool) → t ≡ (t && true)
      and-end true = refl
      and-end false = refl

  -- A walk that has come from the write w to place e.
  module _ (w : Write) (ps : List (List ℕ)) (e : ℕ) {all : Bool} (so : all ≡ goes_on n items w (map write_in (drop e ps))) where
    -- The next write is x.
    module _ {x : Write} (d : List ℕ) (some_left : e < length ps) (read : x ≡ write_in (get_or ps e d)) where
      goes-turn : all ≡ (goes_on n items w (x ∷ []) && goes_on n items x (map write_in (drop (e + 1) ps)))
      goes-turn =
          so ∙ (ap (goes_on n items w) (said-from write_in ps e d some_left ∙ ap {B = List Write} (λ y. y ∷ map write_in (drop (e + 1) ps)) (sym read))
          ∙ goes-cons n items w x _)

      -- It goes on.
      pub goes-next : goes_on n items w (x ∷ []) ≡ true → all ≡ goes_on n items x (map write_in (drop (e + 1) ps))
      goes-next t = rw t at goes-turn

      -- It does not.
      pub goes-fails : goes_on n items w (x ∷ []) ≡ false → all ≡ false
      goes-fails t = rw t at goes-turn

    -- There is none.
    pub goes_end : length ps ≤ e → all ≡ true
    unfolding goes_on
    goes_end h = so ∙ ap (goes_on n items w) (said-past write_in ps e h)

  -- A log with no write.
  pub ordered-none : (ps : List (List ℕ)) → length ps < 1 → true ≡ ordered n items (map write_in ps)
  unfolding ordered
  ordered-none ps h = sym (ap (ordered n items) (said-none write_in ps (omega arith)))

  -- A log with a first write w, by what is found of it and of the others.
  pub ordered-some : (w : Write) (ps : List (List ℕ)) (d : List ℕ) → 0 < length ps → w ≡ write_in (get_or ps 0 d)
      → ((in_range n items w && eqb w.clock 1) && goes_on n items w (map write_in (take (length ps - 1) (drop 1 ps)))) ≡ ordered n items (map write_in ps)
  unfolding ordered
  ordered-some w ps d h read =
      and_assoc (in_range n items w) (eqb w.clock 1) _
      ∙ (ap (λ r. in_range n items w && (eqb w.clock 1 && goes_on n items w (map write_in r)))
      (take_all (length ps - 1) (drop 1 ps) (omega (arith, length-drop 1 ps)))
      ∙ sym (ap (ordered n items) (said-from write_in ps 0 d h ∙ ap {B = List Write} (λ y. y ∷ map write_in (drop 1 ps)) (sym read))))

-- ---- rule e

-- Two iterators that yield writes, compared item by item by a test that says whether all four words are the same.
module _ {S T A : Type 0} (steps : S → Prelude.Option A → S → Type 0) (others : T → Prelude.Option A → T → Type 0) (v : A → Write)
    (eq : A → A → Bool) (agree : (x y : A) → eq x y ≡ same (v x) (v y)) (r : Bool) where
  abbrev Last : Prelude.Option A → Prelude.Option A → Type 0
  Last o p = MatchOption o (MatchOption p (r ≡ true) (λ _. r ≡ false)) (λ x. (r ≡ false) × IfSome p (λ y. eq x y ≡ false))

  at-last : (o p : Prelude.Option A) (xs ys : List Write) (s u : S) (t w : T) → AlwaysYields steps v s xs → AlwaysYields others v t ys → steps s o u
      → others t p w
      → Last o p
      → r ≡ same_all xs ys
  unfolding same_all
  at-last None None [] [] s u t w e f a b h = h
  at-last None None [] (y ∷ ys) s u t w e f a b h = absurd (f.0 w b)
  at-last None None (x ∷ xs) ys s u t w e f a b h = absurd (e.0 u a)
  at-last None (Some y) [] [] s u t w e f a b h = absurd (f y w b)
  at-last None (Some y) [] (z ∷ ys) s u t w e f a b h = h
  at-last None (Some y) (x ∷ xs) ys s u t w e f a b h = absurd (e.0 u a)
  at-last (Some x) None [] ys s u t w e f a b h = absurd (e x u a)
  at-last (Some x) None (z ∷ xs) [] s u t w e f a b h = h.0
  at-last (Some x) None (z ∷ xs) (y ∷ ys) s u t w e f a b h = absurd (f.0 w b)
  at-last (Some x) (Some y) [] ys s u t w e f a b h = absurd (e x u a)
  at-last (Some x) (Some y) (z ∷ xs) [] s u t w e f a b h = absurd (f y w b)
  at-last (Some x) (Some y) (x' ∷ xs) (y' ∷ ys) s u t w e f a b h =
      let differ : false ≡ same x' y' = sym h.1 ∙ (agree x y ∙ ap₂ same (e.1 x u a).0 (f.1 y w b).0) in
      h.0 ∙ ap (λ c. c && same_all xs ys) differ

  along : (cs bs : List A) (o p : Prelude.Option A) (xs ys : List Write) (s u : S) (t w : T) → AlwaysYields steps v s xs → AlwaysYields others v t ys
      → YieldsThen steps s cs o u
      → YieldsThen others t bs p w
      → AllZip (λ x y. eq x y ≡ true) cs bs
      → Last o p
      → r ≡ same_all xs ys
  unfolding same_all
  along [] [] o p xs ys s u t w e f a b z h = at-last o p xs ys s u t w e f (subst (λ j. steps j o u) (sym a.1) a.2) (subst (λ j. others j p w) (sym b.1) b.2) h
  along [] (y ∷ bs) o p xs ys s u t w e f a b z h = absurd z
  along (x ∷ cs) [] o p xs ys s u t w e f a b z h = absurd z
  along (x ∷ cs) (y ∷ bs) o p [] ys s u t w e f a b z h = absurd (e x a.1.0 a.1.1)
  along (x ∷ cs) (y ∷ bs) o p (x' ∷ xs) [] s u t w e f a b z h = absurd (f y b.1.0 b.1.1)
  along (x ∷ cs) (y ∷ bs) o p (x' ∷ xs) (y' ∷ ys) s u t w e f a b z h =
      let m = e.1 x a.1.0 a.1.1 in
      let k = f.1 y b.1.0 b.1.1 in
      let alike : true ≡ same x' y' = sym z.0 ∙ (agree x y ∙ ap₂ same m.0 k.0) in
      along cs bs o p xs ys a.1.0 u b.1.0 w m.1 k.1 (a.0, a.1.2, a.2) (b.0, b.1.2, b.2) z.1 h ∙ ap (λ c. c && same_all xs ys) alike

-- `eq` of two iterators that yield writes.
pub same_from_eq : {S T A : Type 0} {steps : S → Prelude.Option A → S → Type 0} {others : T → Prelude.Option A → T → Type 0} {v : A → Write} {s : S} {t : T}
    {eq : A → A → Bool} {xs ys : List Write} (r : Bool)
    → ComparesItemsByEq steps (λ x y. y ≡ x) others s t eq r
    → YieldsList steps v s xs
    → YieldsList others v t ys
    → ((x y : A) → eq x y ≡ same (v x) (v y))
    → r ≡ same_all xs ys
same_from_eq {steps = steps} {others = others} {v = v} {s = s} {eq = eq} {xs = xs} {ys = ys} r d e f agree =
    along steps others v eq agree r d.1 d.2 d.3 d.4 xs ys s d.5 d.0 d.6 e.runs (subst (λ j. AlwaysYields others v j ys) (sym d.7) f.runs) d.8 d.9 d.10 d.11

pub agrees-chains : (j c : ℕ) (log home : List Write) → same_all (filter (λ w. eqb w.origin j) log) (filter (λ w. eqb w.origin j && leb w.clock c) home) ≡ agrees j c log home
unfolding agrees
agrees-chains j c log home = ap₂ same_all (filter-origin j log) (filter-up_to j c home)
